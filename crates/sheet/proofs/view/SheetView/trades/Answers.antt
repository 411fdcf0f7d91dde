use Rattle.sheet.proofs.ReadLaws.{few-trades}
use Rattle.sheet.proofs.view.SheetView.trades.Goals as goal

pub returns-clause-few : goal.returns-clause-few
returns-clause-few c = few-trades c.args.self.now
