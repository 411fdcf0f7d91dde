-- The rates of a layer are at most the highest.
use Rattle.std.specs.Prelude.{◌≡◌, ℕ, ◌≤◌, true, List, [], ◌∷◌, ◌++◌, Some}
use Rattle.std.proofs.Common.{arith}
use Rattle.std.proofs.lemmas.Bool.Decides.{nat_tests}
use Rattle.interest.specs.declared.di_rates.TheConstants.{MAX_DI_RATE}
use Rattle.rates.specs.declared.entry.DayRate.{DayRate}
use Rattle.rates.specs.ArbitratedDays.{within_limit, arbitrated_rate}
use Rattle.rates.specs.Meanings.{Meaning, rates_of, under}

-- a list stays within the limit with one entry more that is
pub limit-more : (ds : List DayRate) (x : DayRate) → within_limit ds ≡ true → x.rate ≤ MAX_DI_RATE → within_limit (ds ++ (x ∷ [])) ≡ true
limit-more [] x all small = grind (arith, nat_tests)
limit-more (y ∷ ys) x all small = let rest = limit-more ys x in grind (arith, nat_tests, rest)

-- a rate that was set is within the limit of its list
pub arbitrated-bounded : (ds : List DayRate) (d r : ℕ) → within_limit ds ≡ true → arbitrated_rate ds d ≡ Some r → r ≤ MAX_DI_RATE
arbitrated-bounded [] d r all h = grind arith
arbitrated-bounded (x ∷ xs) d r all h = let rest = arbitrated-bounded xs d r in grind (arith, nat_tests, rest)

-- a rate of the layer is at most the highest, where those from below are
pub layer-bounded : (m : Meaning) (days : List DayRate) (d r : ℕ) → (rates_of m d ≡ Some r → r ≤ MAX_DI_RATE)
    → within_limit days ≡ true → rates_of (under days m) d ≡ Some r → r ≤ MAX_DI_RATE
layer-bounded m days d r below all e = let rest = arbitrated-bounded days d r all in grind (arith, nat_tests, below, rest)
