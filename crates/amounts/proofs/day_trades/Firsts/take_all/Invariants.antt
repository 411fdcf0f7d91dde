use Rattle.amounts.specs.declared.trades.Side.TheVariants.{Bought, Sold}
use Rattle.amounts.specs.FirstContracts.{IsUnderway}
use Rattle.amounts.specs.Tables.{EachCell}
use Rattle.amounts.proofs.day_trades.Firsts.take_all.Given as goal

abbrev pub invariant-loop-trade : goal.invariant-loop-trade
invariant-loop-trade l = EachCell (IsUnderway Bought l.trades l.trade-index) l.self.bought × EachCell (IsUnderway Sold l.trades l.trade-index) l.self.sold
