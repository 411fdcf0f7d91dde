use Rattle.std.proofs.Common.{◌≡◌, ◌++◌, map, take, drop}
use Rattle.book.specs.Changes.{at_opening}
use Rattle.book.proofs.ledger.months.begin_rows.Given as goal

abbrev pub invariant-loop-row : goal.invariant-loop-row
invariant-loop-row g l = l.row-items ≡ map (at_opening (g.C.Calendar.kinds l.fn.calendar) l.fn.day) (take l.row-index l.fn.rows.items) ++ drop l.row-index l.fn.rows.items
