-- The days of a range by their kind, the first session of a range, the expiry of a month.
use Rattle.std.specs.Prelude.{◌≡◌, ℕ, ◌+◌, ◌-◌, ◌<◌, ◌≤◌, Bool, true, false, cond, List, [], ◌∷◌, Some, None, filter, Option, MatchOption, nat_le}
use Rattle.std.specs.List.{range_with_len}
use Rattle.dates.specs.declared.TheConstants.{LAST_MONTH}
use Rattle.dates.specs.Months.{first_day}
use Rattle.calendar.specs.declared.kind.DayKind.{DayKind}
use Rattle.calendar.specs.Kinds.{is_reserve, is_session}

-- the days from `from`, included, to `to`, excluded, whose kind passes a test, in order
unfoldable pub days_by : (DayKind → Bool) → (ℕ → DayKind) → ℕ → ℕ → List ℕ
days_by test kinds from to = filter (λ d. test (kinds d)) (range_with_len from (to - from))

-- the reserve days of a range, in order
abbrev pub reserve_days : (ℕ → DayKind) → ℕ → ℕ → List ℕ
reserve_days = days_by is_reserve

-- the session days of a range, in order
abbrev pub session_days : (ℕ → DayKind) → ℕ → ℕ → List ℕ
session_days = days_by is_session

-- the first of a list
abbrev pub first_in : List ℕ → Option ℕ
first_in [] = None
first_in (d ∷ ds) = Some d

-- the first session day of a range
abbrev pub first_session : (ℕ → DayKind) → ℕ → ℕ → Option ℕ
first_session kinds from to = first_in (session_days kinds from to)

-- a month expires on its first session day
abbrev pub expiry_of : (ℕ → DayKind) → ℕ → Option ℕ
expiry_of kinds m = cond (nat_le m LAST_MONTH) (first_session kinds (first_day m) (first_day (m + 1))) None

-- the first session day of a range, as a relation: a session of the range with none before it in the range, or no session at all
abbrev pub IsFirstSession : (ℕ → DayKind) → ℕ → ℕ → Option ℕ → Type 0
IsFirstSession kinds from to r =
    MatchOption r ((d : ℕ) → from ≤ d → d < to → is_session (kinds d) ≡ false)
    (λ s. (from ≤ s) × (s < to) × (is_session (kinds s) ≡ true) × ((d : ℕ) → from ≤ d → d < s → is_session (kinds d) ≡ false))
