-- What the week and a list of exceptions say of a day.
use Rattle.std.specs.Prelude.{◌≡◌, ℕ, ◌%◌, ◌<◌, cond, List, [], ◌∷◌, length, ◌==◌, nat_lt, slice_index_or}
use Rattle.calendar.specs.declared.kind.DayKind.{DayKind}
use Rattle.calendar.specs.declared.kind.DayKind.TheVariants.{ClosedDay, SessionDay}
use Rattle.calendar.specs.declared.rule.Exception.{Exception}
use Rattle.calendar.specs.Kinds.{kind_to_last}

-- day 0 is a Saturday; Monday to Friday are sessions
abbrev pub week_kind : ℕ → DayKind
week_kind d = cond (nat_lt (d % 7) 2) ClosedDay SessionDay

-- the first exception of a day decides; without one the week does
abbrev pub kind_with_exceptions : List Exception → ℕ → DayKind
kind_with_exceptions [] d = week_kind d
kind_with_exceptions (e ∷ es) d = cond (e.day == d) e.kind (kind_with_exceptions es d)

-- what a rule calendar of these exceptions means
abbrev pub kinds_of_exceptions : List Exception → ℕ → DayKind
kinds_of_exceptions es d = kind_to_last d (kind_with_exceptions es d)

-- a list has the kind of each day below n
abbrev pub ListsKinds : (ℕ → DayKind) → List DayKind → ℕ → Type 0
ListsKinds kinds ks n = (length ks ≡ n) × ((d : ℕ) → d < n → slice_index_or ks d ClosedDay ≡ kinds d)
