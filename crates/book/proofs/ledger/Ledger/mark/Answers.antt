use Rattle.std.proofs.Common.{refl, None}
use Rattle.std.proofs.lemmas.List.{length-set}
use Rattle.book.specs.declared.ledger.MonthRow.{MonthRow}
use Rattle.book.specs.Changes.{with_mark}
use Rattle.book.proofs.Changing.{set-in, refill-whole}
use Rattle.book.proofs.ledger.Ledger.mark.Goals as goal

pub returns : goal.returns
returns c =
    let rows = c.self.inside.months.items in
    let none : MonthRow = record { number = 0; expiry = 0; days = 0; mark = None; latest = 0 } in
    rw (
      c.deref_mut.ensures.value,
      refill-whole rows _ (length-set rows c.args.month _),
      set-in (with_mark c.args.price) none rows c.args.month _ (rw (← c.self.view_is) at c.requires) refl,
      ← c.self.view_is,
    )
    refl
