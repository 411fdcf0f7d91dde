-- What a layer of arbitrated days means, over the meaning of the source below.
use Rattle.std.specs.Prelude.{ℕ, Bool, not, ◌&&◌, is_some}
use Rattle.rates.specs.declared.layer.ArbitrationLayer.{ArbitrationLayer}
use Rattle.rates.specs.Horizons.{inside}
use Rattle.rates.specs.ArbitratedDays.{arbitrated_rate}
use Rattle.rates.specs.Meanings.{Meaning, rates_of, under}

-- a layer means what the source below means, under its days
abbrev pub layer_meaning : {X : Type 0} → (X → Meaning) → ArbitrationLayer X → Meaning
layer_meaning meaning x = under x.days.items (meaning x.below)

-- the rate of the day is the arbitrated one of this layer
abbrev pub is_arbitrated : {X : Type 0} → (X → Meaning) → ArbitrationLayer X → ℕ → Bool
is_arbitrated meaning x d =
    inside (meaning x.below).horizon d && (not (is_some (rates_of (meaning x.below) d)) && is_some (arbitrated_rate x.days.items d))
