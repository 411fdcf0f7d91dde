-- A price carried over the reserve days of a gap, by the rates of a source.
use Rattle.std.specs.Prelude.{ℕ, Bool, not, List, map, is_some, filter, Option}
use Rattle.std.specs.Option.{unwrap_or}
use Rattle.calendar.specs.declared.kind.DayKind.{DayKind}
use Rattle.calendar.specs.Spans.{reserve_days, first_in}
use Rattle.interest.specs.Correction.{corrected}
use Rattle.interest.specs.Price.{day_factor}

-- the factor of a day that has a rate
abbrev pub factor_on : (ℕ → Option ℕ) → ℕ → ℕ
factor_on rates d = day_factor (unwrap_or (rates d) 0)

-- the factors of days, in order
abbrev pub factors : (ℕ → Option ℕ) → List ℕ → List ℕ
factors rates days = map (factor_on rates) days

-- a day without a rate
abbrev pub is_unrated : (ℕ → Option ℕ) → ℕ → Bool
is_unrated rates d = not (is_some (rates d))

-- the first of the days that has no rate
abbrev pub first_unrated : (ℕ → Option ℕ) → List ℕ → Option ℕ
first_unrated rates days = first_in (filter (is_unrated rates) days)

-- a price of a day, corrected over the reserve days from it, included, to another, excluded
abbrev pub corrected_price : (ℕ → DayKind) → (ℕ → Option ℕ) → ℕ → ℕ → ℕ → ℕ
corrected_price kinds rates from to price = corrected price (factors rates (reserve_days kinds from to))

-- prices of that day, each corrected likewise
abbrev pub corrected_prices : (ℕ → DayKind) → (ℕ → Option ℕ) → ℕ → ℕ → List ℕ → List ℕ
corrected_prices kinds rates from to prices = map (corrected_price kinds rates from to) prices
