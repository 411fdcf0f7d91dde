-- What a publication and an arbitration do to what a source means.
use Rattle.std.specs.Prelude.{◌≡◌, ℕ, true, false, not, List, [], ◌∷◌, ◌++◌, length, is_some, is_ok, None, Option, Result, ◌==◌, nat_le, nat_lt}
use Rattle.interest.specs.declared.di_rates.TheConstants.{MAX_DI_RATE}
use Rattle.rows.specs.Rows.{Row, first_row, reason_by, numbered}
use Rattle.rates.specs.declared.entry.DayRate.{DayRate}
use Rattle.rates.specs.declared.error.Error.{Error}
use Rattle.rates.specs.declared.layer.TheConstants.{MAX_ARBITRATED_DAYS}
use Rattle.rates.specs.Errors.{reason_of}
use Rattle.rates.specs.Horizons.{inside}
use Rattle.rates.specs.Meanings.{Meaning, rates_of, with_rate, topmost, published_in, arbitrated_in}

-- 21, 22: a day is given a rate inside the horizon, where it has none
abbrev pub day_rows : Meaning → ℕ → List Row
day_rows m day = (not (inside m.horizon day), numbered 21) ∷ (is_some (rates_of m day), numbered 22) ∷ []

-- 23: a rate over the highest is refused
abbrev pub rate_row : ℕ → Row
rate_row rate = (nat_lt MAX_DI_RATE rate, numbered 23)

-- 23, 24: a rate is published for a period of one day
abbrev pub term_rows : ℕ → ℕ → List Row
term_rows rate period = rate_row rate ∷ (not (period == 1), numbered 24) ∷ []

-- 23, 25: the topmost layer keeps sixteen days at most
abbrev pub keep_rows : Meaning → ℕ → List Row
keep_rows m rate = rate_row rate ∷ (nat_le MAX_ARBITRATED_DAYS (length (topmost m.layers)), numbered 25) ∷ []

-- the refusals of a publication, in their order
abbrev pub publish_rows : Meaning → DayRate → ℕ → List Row
publish_rows m entry period = day_rows m entry.day ++ term_rows entry.rate period

-- the refusals of an arbitration, in their order
abbrev pub arbitrate_rows : Meaning → DayRate → List Row
arbitrate_rows m entry = day_rows m entry.day ++ keep_rows m entry.rate

-- a day may be given a rate
abbrev pub DayFree : Meaning → ℕ → Type 0
DayFree m day = None ≡ first_row (day_rows m day)

-- afterwards the day has that rate, and every other day what it had before
abbrev pub Sets : (ℕ → Option ℕ) → DayRate → (ℕ → Option ℕ) → Type 0
Sets before entry after = (d : ℕ) → after d ≡ with_rate before entry d

-- what a publication does to a source: one day under all of its layers is given its rate, and nothing else that the source means changes
pub record Publication {X : Type 0} (meaning : X → Meaning) (before after : X) (entry : DayRate) (period : ℕ) (r : Result (Unit {0}) Error) : Type 0 where
  pub answers : reason_by reason_of r ≡ first_row (publish_rows (meaning before) entry period)
  pub refused : is_ok r ≡ false → after ≡ before
  pub accepted : is_ok r ≡ true → meaning after ≡ published_in (meaning before) entry
  pub rates : is_ok r ≡ true → Sets (rates_of (meaning before)) entry (rates_of (meaning after))

-- what an arbitration does: the topmost layer is given its day, and nothing else that the source means changes
pub record Arbitration {X : Type 0} (meaning : X → Meaning) (before after : X) (entry : DayRate) (r : Result (Unit {0}) Error) : Type 0 where
  pub answers : reason_by reason_of r ≡ first_row (arbitrate_rows (meaning before) entry)
  pub refused : is_ok r ≡ false → after ≡ before
  pub accepted : is_ok r ≡ true → meaning after ≡ arbitrated_in (meaning before) entry
  pub rates : is_ok r ≡ true → Sets (rates_of (meaning before)) entry (rates_of (meaning after))
