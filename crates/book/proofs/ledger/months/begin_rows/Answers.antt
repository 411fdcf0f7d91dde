use Rattle.std.proofs.Common.{None, add-one}
use Rattle.book.specs.Changes.{at_opening}
use Rattle.book.proofs.Changing.{part-step}
use Rattle.book.proofs.ledger.months.begin_rows.Goals as goal

pub loop-row-preserved : goal.loop-row-preserved
loop-row-preserved g c =
    rw (c.count_reserve_days-row.ensures.value, c.loop-row.invariant, add-one)
    (part-step (at_opening (g.C.Calendar.kinds c.args.calendar.now) c.args.day) (record { number = 0; expiry = 0; days = 0; mark = None; latest = 0 }) _ c.loop-row.row-index
    (rw (← c.deref_mut-row-items.ensures.value) c.loop-row-test.true))
