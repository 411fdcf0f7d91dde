-- What a source of rates means: a table under layers of arbitrated days.
use Rattle.std.specs.Prelude.{ℕ, cond, List, [], ◌∷◌, ◌++◌, Some, None, Option, ◌==◌}
use Rattle.rates.specs.declared.entry.DayRate.{DayRate}
use Rattle.rates.specs.declared.horizon.Horizon.{Horizon}
use Rattle.rates.specs.Horizons.{inside}
use Rattle.rates.specs.ArbitratedDays.{arbitrated_rate}

-- a source means the days that it knows of, the rates that lie under all of its layers, and the days of each layer, topmost first
pub record Meaning : Type 0 where
  pub horizon : Horizon
  pub published : ℕ → Option ℕ
  pub layers : List (List DayRate)

-- the first where there is one, else the second
abbrev pub or_else : {X : Type 0} → Option X → Option X → Option X
or_else (Some x) other = Some x
or_else None other = other

-- the published rate, else that of the innermost layer that has one
abbrev pub layered_rate : (ℕ → Option ℕ) → List (List DayRate) → ℕ → Option ℕ
layered_rate published [] d = published d
layered_rate published (days ∷ below) d = or_else (layered_rate published below d) (arbitrated_rate days d)

-- the rate of a day: inside the horizon the published or arbitrated one, else none
abbrev pub rates_of : Meaning → ℕ → Option ℕ
rates_of m d = cond (inside m.horizon d) (layered_rate m.published m.layers d) None

-- a source without layers
abbrev pub plain_meaning : Horizon → (ℕ → Option ℕ) → Meaning
plain_meaning h published = record { horizon = h; published = published; layers = [] }

-- a source under one more layer
abbrev pub under : List DayRate → Meaning → Meaning
under days m = record m { layers = days ∷ m.layers }

-- one day is given a rate
abbrev pub with_rate : (ℕ → Option ℕ) → DayRate → ℕ → Option ℕ
with_rate rates entry d = cond (d == entry.day) (Some entry.rate) (rates d)

-- the days of the topmost layer
abbrev pub topmost : List (List DayRate) → List DayRate
topmost [] = []
topmost (days ∷ below) = days

-- the topmost layer is given a day; where there is none, it is the first day of one
abbrev pub topmost_with : List (List DayRate) → DayRate → List (List DayRate)
topmost_with [] entry = (entry ∷ []) ∷ []
topmost_with (days ∷ below) entry = (days ++ (entry ∷ [])) ∷ below

-- a source after a publication: under all layers one day is given its rate
abbrev pub published_in : Meaning → DayRate → Meaning
published_in m entry = record m { published = with_rate m.published entry }

-- a source after an arbitration: the topmost layer is given the day
abbrev pub arbitrated_in : Meaning → DayRate → Meaning
arbitrated_in m entry = record m { layers = topmost_with m.layers entry }
