-- What callers conclude from a publication or an arbitration.
use Rattle.std.proofs.Common.{◌≡◌, ℕ, true, false, cond, List, [], ◌++◌, Some, None, Ok, Err, Option, Result, refl, ap, ◌∙◌, arith}
use Rattle.std.proofs.lemmas.Bool.Decides.{nat_tests}
use Rattle.rows.specs.Rows.{Row, first_row}
use Rattle.rates.specs.declared.entry.DayRate.{DayRate}
use Rattle.rates.specs.declared.error.Error.{Error}
use Rattle.rates.specs.Horizons.{inside}
use Rattle.rates.specs.ArbitratedDays.{arbitrated_rate}
use Rattle.rates.specs.Meanings.{Meaning, rates_of, under, or_else}
use Rattle.rates.specs.Publishing.{day_rows, term_rows, keep_rows, Sets, Publication, Arbitration}

-- a source under a layer: inside the horizon the rate from below, else the arbitrated one, else none
pub rates-under : (m : Meaning) (days : List DayRate) (d : ℕ)
    → rates_of (under days m) d ≡ cond (inside m.horizon d) (or_else (rates_of m d) (arbitrated_rate days d)) None
rates-under m days d = grind arith

-- without arbitrated days the source below decides
pub layer_none : (m : Meaning) (days : List DayRate) (d : ℕ) → days ≡ [] → rates_of (under days m) d ≡ rates_of m d
layer_none m days d none = grind (arith, nat_tests)

-- no day outside the horizon has a rate
pub rates-outside : (m : Meaning) (d : ℕ) → inside m.horizon d ≡ false → rates_of m d ≡ None
rates-outside m d out = grind arith

-- the day has the rate
pub sets-here : (t u : ℕ → Option ℕ) (entry : DayRate) → Sets t entry u → u entry.day ≡ Some entry.rate
sets-here t u entry sets = let here = sets entry.day in grind (arith, nat_tests, here)

-- every other day is as before
pub sets-apart : (t u : ℕ → Option ℕ) (entry : DayRate) (d : ℕ) → Sets t entry u → (d ≡ entry.day → ⊥) → u d ≡ t d
sets-apart t u entry d sets apart = let there = sets d in grind (arith, nat_tests, there)

-- where the day had none, each rate that was there stays
pub sets-keeps : (t u : ℕ → Option ℕ) (entry : DayRate) (d v : ℕ) → Sets t entry u → t entry.day ≡ None → t d ≡ Some v → u d ≡ Some v
sets-keeps t u entry d v sets none had = let there = sets d in grind (arith, nat_tests, there)

-- a day that no row refuses is inside the horizon and has no rate
pub day-free : (m : Meaning) (day : ℕ) (more : List Row) → None ≡ first_row (day_rows m day ++ more)
    → (inside m.horizon day ≡ true) × (rates_of m day ≡ None)
day-free m day more free = (grind (arith, nat_tests), grind (arith, nat_tests))

-- a day that has a rate keeps it through a publication
pub published-keeps : {X : Type 0} (meaning : X → Meaning) (before after : X) (entry : DayRate) (period : ℕ) (r : Result (Unit {0}) Error)
    → Publication meaning before after entry period r → (d v : ℕ) → rates_of (meaning before) d ≡ Some v → rates_of (meaning after) d ≡ Some v
published-keeps meaning before after entry period (Ok done) p d v had =
    sets-keeps (rates_of (meaning before)) (rates_of (meaning after)) entry d v (p.rates refl)
    (day-free (meaning before) entry.day (term_rows entry.rate period) p.answers).1 had
published-keeps {X = X} meaning before after entry period (Err e) p d v had = ap (λ (x : X). rates_of (meaning x) d) (p.refused refl) ∙ had

-- and through an arbitration
pub arbitration-keeps : {X : Type 0} (meaning : X → Meaning) (before after : X) (entry : DayRate) (r : Result (Unit {0}) Error)
    → Arbitration meaning before after entry r → (d v : ℕ) → rates_of (meaning before) d ≡ Some v → rates_of (meaning after) d ≡ Some v
arbitration-keeps meaning before after entry (Ok done) p d v had =
    sets-keeps (rates_of (meaning before)) (rates_of (meaning after)) entry d v (p.rates refl)
    (day-free (meaning before) entry.day (keep_rows (meaning before) entry.rate) p.answers).1 had
arbitration-keeps {X = X} meaning before after entry (Err e) p d v had = ap (λ (x : X). rates_of (meaning x) d) (p.refused refl) ∙ had
