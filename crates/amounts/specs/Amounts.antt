-- What a close writes for an account in a month, in centavos.
use Rattle.std.specs.Prelude.{ℕ, List, ℤ, pos, ◌+ℤ◌, ◌-ℤ◌, ◌*ℤ◌}
use Rattle.amounts.specs.declared.trades.Trade.{Trade}
use Rattle.amounts.specs.Sums.{total}
use Rattle.amounts.specs.Trades.{contracts_of, position_change}

-- what contracts gain from the price before to the price
unfoldable pub gain_of : ℤ → ℕ → ℕ → ℤ
gain_of contracts price before = contracts *ℤ (pos price -ℤ pos before)

-- the trades of the session, each from its own price to the settlement price
unfoldable pub on_trades : ℕ → ℕ → ℕ → List Trade → ℤ
on_trades account month price ts = total (λ t. gain_of (contracts_of account month t) price t.price) ts

-- the carried position, from the corrected price to the settlement price
abbrev pub on_carried : ℤ → ℕ → ℕ → ℤ
on_carried carried price corrected = gain_of carried price corrected

-- the adjustment of the account in the month
abbrev pub adjustment_of : ℕ → ℕ → ℕ → List Trade → ℤ → ℕ → ℤ
adjustment_of account month price ts carried corrected = on_trades account month price ts +ℤ on_carried carried price corrected

-- the position that the session began with: that at its close less what its trades changed
abbrev pub carried_in : ℕ → ℕ → List Trade → ℤ → ℤ
carried_in account month ts position = position -ℤ position_change account month ts
