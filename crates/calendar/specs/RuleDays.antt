-- What a rule calendar means.
use Rattle.std.specs.Prelude.{ℕ, vec_items, slice_index_or}
use Rattle.calendar.specs.declared.kind.DayKind.{DayKind}
use Rattle.calendar.specs.declared.kind.DayKind.TheVariants.{ClosedDay}
use Rattle.calendar.specs.declared.rule.RuleCalendar.{RuleCalendar}
use Rattle.calendar.specs.Kinds.{kind_to_last}

-- the kind that it holds for the day
abbrev pub rule_kinds : RuleCalendar → ℕ → DayKind
rule_kinds c d = kind_to_last d (slice_index_or (vec_items c.days) d ClosedDay)
