-- The meaning of an office's calendar.
use Rattle.std.specs.Prelude.{ℕ}
use Rattle.calendar.specs.declared.kind.DayKind.{DayKind}
use Rattle.calendar.specs.MarkedCalendars.{marked_kinds}
use Rattle.calendar.specs.RuleDays.{rule_kinds}
use Rattle.settle.specs.declared.office.OfficeCalendar.{OfficeCalendar}
use Rattle.settle.specs.declared.office.OfficeCalendar.TheVariants.{Marked, Rule}

-- that of the calendar of either make
abbrev pub office_kinds : OfficeCalendar → ℕ → DayKind
office_kinds (Marked c) = marked_kinds c
office_kinds (Rule c) = rule_kinds c
