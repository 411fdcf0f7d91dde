-- The day trade of an account in a month: contracts both bought and sold in the session, in order of acceptance.
use Rattle.std.specs.Prelude.{ℕ, min, List, [], ◌∷◌, ◌++◌, length, take, replicate, ℤ, pos, ◌-ℤ◌, sum}
use Rattle.amounts.specs.declared.trades.Side.{Side}
use Rattle.amounts.specs.declared.trades.Side.TheVariants.{Bought, Sold}
use Rattle.amounts.specs.declared.trades.Trade.{Trade}
use Rattle.amounts.specs.Trades.{contracts_on}

-- the prices of the contracts on a side, one by one: q contracts at p are p, q times
unfoldable pub contract_prices : Side → ℕ → ℕ → List Trade → List ℕ
contract_prices side account month [] = []
contract_prices side account month (t ∷ ts) = replicate (contracts_on side account month t) t.price ++ contract_prices side account month ts

-- as many contracts as were both bought and sold
abbrev pub matched : ℕ → ℕ → List Trade → ℕ
matched account month ts = min (length (contract_prices Bought account month ts)) (length (contract_prices Sold account month ts))

-- the first j contracts of a side at their prices
unfoldable pub firsts : Side → ℕ → ℕ → ℕ → List Trade → ℕ
firsts side account month j ts = sum (take j (contract_prices side account month ts))

-- the first contracts sold less the first bought, as many as were both
abbrev pub day_trade : ℕ → ℕ → List Trade → ℤ
day_trade account month ts = pos (firsts Sold account month (matched account month ts) ts) -ℤ pos (firsts Bought account month (matched account month ts) ts)
