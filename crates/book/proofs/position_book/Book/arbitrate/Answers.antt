use Rattle.std.proofs.Common.{Ok, refl}
use Rattle.model.specs.History.{Arbitrated}
use Rattle.rates.specs.Publishing.{arbitrate_rows}
use Rattle.book.proofs.Rating.{source-call, arbitrated-tells}
use Rattle.book.proofs.position_book.Book.arbitrate.Goals as goal

pub returns : goal.returns
returns g c =
    let done = c.in_ok-arbitrate.ensures in
    source-call _ _ (λ m. arbitrate_rows m c.args.entry) (Arbitrated c.args.entry) (arbitrated-tells c.args.entry)
    (λ w h allowed. allowed) c.args.self.now c.arbitrate.new.self (Ok tt) done.answers (λ no. absurd cc) (λ yes. done.accepted refl)
