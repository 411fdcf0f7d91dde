-- The trades of a session and their sums, as they are held.
use Rattle.std.specs.Prelude.{◌≡◌, List, length, take}
use Rattle.amounts.specs.declared.session.SessionTrades.TheInside.{Inside}
use Rattle.amounts.specs.declared.trades.Trade.{Trade}
use Rattle.amounts.specs.SideSums.{AreSums}

-- the trades, in order of acceptance
abbrev pub trades_in : Inside → List Trade
trades_in s = take s.count s.trades

-- the sums are those of the trades
pub record HoldsSums (s : Inside) : Type 0 where
  pub counted : length (take s.count s.trades) ≡ s.count
  pub sums : AreSums (take s.count s.trades) s.sums
