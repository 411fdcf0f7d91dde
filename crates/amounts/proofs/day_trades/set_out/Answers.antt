use Rattle.std.proofs.Common.{rules}
use Rattle.amounts.proofs.Taking.{start-all}
use Rattle.amounts.proofs.day_trades.set_out.Goals as goal

pub returns : goal.returns
returns c = search (rules, start-all)
