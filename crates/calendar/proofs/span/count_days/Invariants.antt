use Rattle.std.proofs.Common.{◌≡◌, ◌-◌, ◌≤◌, length}
use Rattle.calendar.specs.Spans.{reserve_days}
use Rattle.calendar.proofs.span.count_days.Given as goal

abbrev pub invariant-loop-day : goal.invariant-loop-day
invariant-loop-day g l =
    (l.count ≡ length (reserve_days (g.C.Calendar.kinds l.calendar) l.from l.day)) × (l.count ≤ l.day - l.from)
