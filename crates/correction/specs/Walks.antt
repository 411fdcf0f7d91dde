-- Prices on their way over the days of a gap.
use Rattle.std.specs.Prelude.{◌≡◌, ℕ, ◌+◌, ◌*◌, ◌<◌, ◌≤◌, List, [], length, filter, Some, Option, Result, MatchResult, slice_index}
use Rattle.calendar.specs.declared.kind.DayKind.{DayKind}
use Rattle.calendar.specs.Spans.{reserve_days}
use Rattle.correction.specs.declared.error.Uncorrected.{Uncorrected}
use Rattle.correction.specs.declared.error.Uncorrected.TheVariants.{MissingRate}
use Rattle.correction.specs.Gaps.{is_unrated, first_unrated, corrected_prices}

-- corrected from a day to another: the prices so far, each reserve day so far has a rate, and how great they can be
pub record CorrectedTo (kinds : ℕ → DayKind) (rates : ℕ → Option ℕ) (from day : ℕ) (prices now : List ℕ) : Type 0 where
  pub value : now ≡ corrected_prices kinds rates from day prices
  pub rated : filter (is_unrated rates) (reserve_days kinds from day) ≡ []
  pub most : (i : ℕ) → slice_index now i ≤ 4294967296 + 280000000 * length (reserve_days kinds from day)

-- one day on: corrected over that day too; else that day is the first without a rate, in every gap from there that holds it
abbrev pub NextDay : (ℕ → DayKind) → (ℕ → Option ℕ) → ℕ → ℕ → List ℕ → Result (List ℕ) Uncorrected → Type 0
NextDay kinds rates from day prices r =
    MatchResult r (λ next. CorrectedTo kinds rates from (day + 1) prices next)
    (λ e. (e ≡ MissingRate day) × ((to : ℕ) → day < to → first_unrated rates (reserve_days kinds from to) ≡ Some day))
