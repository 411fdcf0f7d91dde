-- The trades that an iterator over a sheet has still to give. Assumes nothing.
use Rattle.std.specs.Prelude.{List, drop}
use Rattle.sheet.specs.declared.trade_line.TradeLine.{TradeLine}
use Rattle.sheet.specs.declared.view.trades.Trades.{Trades}
use Rattle.sheet.specs.Views.{view_trades}

-- the trades from its line on
abbrev pub trades_left : Trades → List TradeLine
trades_left t = drop t.line (view_trades t.view)
