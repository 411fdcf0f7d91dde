-- What a marked calendar means.
use Rattle.std.specs.Prelude.{ℕ, List, slice_index, vec_items}
use Rattle.calendar.specs.declared.kind.DayKind.{DayKind}
use Rattle.calendar.specs.declared.marked.MarkedCalendar.{MarkedCalendar}
use Rattle.calendar.specs.Kinds.{kind_of_mark, kind_to_last}

-- one mark a day from day 0, and closed past the end of the marks
abbrev pub kinds_of_marks : List ℕ → ℕ → DayKind
kinds_of_marks marks d = kind_to_last d (kind_of_mark (slice_index marks d))

-- its marks decide
abbrev pub marked_kinds : MarkedCalendar → ℕ → DayKind
marked_kinds c = kinds_of_marks (vec_items c.marks)
