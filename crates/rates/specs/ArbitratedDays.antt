-- What a list of arbitrated days says.
use Rattle.std.specs.Prelude.{ℕ, Bool, true, cond, ◌&&◌, List, [], ◌∷◌, Some, None, Option, ◌==◌, nat_le}
use Rattle.interest.specs.declared.di_rates.TheConstants.{MAX_DI_RATE}
use Rattle.rates.specs.declared.entry.DayRate.{DayRate}

-- no rate of the list is over the highest
abbrev pub within_limit : List DayRate → Bool
within_limit [] = true
within_limit (x ∷ xs) = nat_le x.rate MAX_DI_RATE && within_limit xs

-- the rate that was set for a day
abbrev pub arbitrated_rate : List DayRate → ℕ → Option ℕ
arbitrated_rate [] d = None
arbitrated_rate (x ∷ xs) d = cond (x.day == d) (Some x.rate) (arbitrated_rate xs d)
