-- Laws of layers.
use Rattle.std.proofs.Common.{◌≡◌, ℕ, true, cond, List, [], ◌∷◌, ◌++◌, Some, None, Option, ◌==◌, refl, arith}
use Rattle.std.proofs.Math.Bool.{Bool-set}
use Rattle.std.proofs.lemmas.Bool.Decides.{nat_tests}
use Rattle.rows.specs.Rows.{first_row}
use Rattle.rates.specs.declared.layer.ArbitrationLayer.{ArbitrationLayer}
use Rattle.rates.specs.declared.entry.DayRate.{DayRate}
use Rattle.rates.specs.ArbitratedDays.{within_limit, arbitrated_rate}
use Rattle.rates.specs.Meanings.{Meaning, layered_rate, rates_of, under, or_else, with_rate, topmost_with, published_in, arbitrated_in}
use Rattle.rates.specs.Publishing.{DayFree, publish_rows, Sets}

-- a day that was set before keeps its rate
arbitrated_more : (ds : List DayRate) (x : DayRate) (d : ℕ)
    → arbitrated_rate (ds ++ (x ∷ [])) d ≡ or_else (arbitrated_rate ds d) (cond (x.day == d) (Some x.rate) None)
arbitrated_more [] x d = refl
arbitrated_more (y ∷ ys) x d = let rest = arbitrated_more ys x d in grind (arith, nat_tests, rest)

-- under any layers one published day more is one day more, where the layers have none there
layered-published : (t : ℕ → Option ℕ) (layers : List (List DayRate)) (entry : DayRate) (d : ℕ) → layered_rate t layers entry.day ≡ None
    → layered_rate (with_rate t entry) layers d ≡ with_rate (layered_rate t layers) entry d
layered-published t [] entry d none = refl
layered-published t (days ∷ below) entry d none = let rest = layered-published t below entry d in grind (arith, nat_tests, rest)

-- one arbitrated day more is one day more, where no rate is there
layered-arbitrated : (t : ℕ → Option ℕ) (layers : List (List DayRate)) (entry : DayRate) (d : ℕ) → layered_rate t layers entry.day ≡ None
    → layered_rate t (topmost_with layers entry) d ≡ with_rate (layered_rate t layers) entry d
layered-arbitrated t [] entry d none = grind (arith, nat_tests)
layered-arbitrated t (days ∷ below) entry d none = let more = arbitrated_more days entry d in grind (arith, nat_tests, more)

-- a day that may be given a rate has it once it is published, and every other day what it had
pub published_sets : (m : Meaning) (entry : DayRate) → DayFree m entry.day → Sets (rates_of m) entry (rates_of (published_in m entry))
published_sets m entry free d = let more = layered-published m.published m.layers entry d in grind (arith, nat_tests, more)

-- and once it is arbitrated
pub arbitrated_sets : (m : Meaning) (entry : DayRate) → DayFree m entry.day → Sets (rates_of m) entry (rates_of (arbitrated_in m entry))
arbitrated_sets m entry free d = let more = layered-arbitrated m.published m.layers entry d in grind (arith, nat_tests, more)

-- for a day that may be given a rate the source below answers as the layer does
pub layer-answers : (m : Meaning) (days : List DayRate) (entry : DayRate) (period : ℕ) → DayFree (under days m) entry.day
    → first_row (publish_rows m entry period) ≡ first_row (publish_rows (under days m) entry period)
layer-answers m days entry period free = grind (arith, nat_tests)

-- a layer is the same where what is below is the same
pub same-layer : {X : Type 0} (x : ArbitrationLayer X) (b : X) (limited : within_limit x.days.items ≡ true) → b ≡ x.below
    → ◌≡◌ {A = ArbitrationLayer X} (record { below = b; days = x.days; limited = limited }) x
same-layer x b limited e = λ i. record { below = e i; days = x.days; limited = Bool-set _ _ limited x.limited i }
