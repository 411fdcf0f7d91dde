-- The first contracts of both sides that make up the day trades, for all accounts and months in one pass over the trades.
use Rattle.std.specs.Prelude.{◌≡◌, ℕ, ◌+◌, ◌-◌, ◌*◌, ◌^◌, ◌≤◌, min, List, drop}
use Rattle.std.specs.List.{slice_index_or, slice_set}
use Rattle.amounts.specs.declared.day_trades.FirstContracts.{FirstContracts}
use Rattle.amounts.specs.declared.day_trades.Firsts.{Firsts}
use Rattle.amounts.specs.declared.trades.Side.{Side}
use Rattle.amounts.specs.declared.trades.Side.TheVariants.{Bought, Sold}
use Rattle.amounts.specs.declared.trades.TheConstants.{MAX_TRADES, MAX_CONTRACTS}
use Rattle.amounts.specs.declared.trades.Trade.{Trade}
use Rattle.amounts.specs.DayTrades.{firsts, matched}
use Rattle.amounts.specs.SideSums.{cell_of}
use Rattle.amounts.specs.Tables.{EachCell}

-- before the first trade all matched contracts are left
pub record IsStart (ts : List Trade) (account month : ℕ) (x : FirstContracts) : Type 0 where
  pub left : x.left ≡ matched account month ts
  pub value : x.value ≡ 0
  pub few : x.left ≤ MAX_TRADES * MAX_CONTRACTS

-- after the first n trades: what was taken and the first of what is left come to the first of all
pub record IsUnderway (side : Side) (ts : List Trade) (n : ℕ) (account month : ℕ) (x : FirstContracts) : Type 0 where
  pub all : x.value + firsts side account month x.left (drop n ts) ≡ firsts side account month (matched account month ts) ts
  pub most : x.value + 2 ^ 32 * x.left ≤ 2 ^ 32 * (MAX_TRADES * MAX_CONTRACTS)

-- after the last trade: the first contracts of the side, as many as were both bought and sold
pub record IsComplete (side : Side) (ts : List Trade) (account month : ℕ) (x : FirstContracts) : Type 0 where
  pub value : x.value ≡ firsts side account month (matched account month ts) ts
  pub most : x.value ≤ 2 ^ 32 * (MAX_TRADES * MAX_CONTRACTS)

-- the tables of both sides hold the first contracts of these trades
pub record AreFirsts (ts : List Trade) (tables : Firsts) : Type 0 where
  pub bought : EachCell (IsComplete Bought ts) tables.bought
  pub sold : EachCell (IsComplete Sold ts) tables.sold

-- nothing to take
abbrev pub no_contracts : FirstContracts
no_contracts = record { left = 0; value = 0 }

-- the cell of a trade on a side, once it took of it
abbrev pub taken_from : Side → Trade → List FirstContracts → FirstContracts
taken_from side t cells =
    let x = slice_index_or cells (cell_of side t) no_contracts in
    record { left = x.left - min t.contracts x.left; value = x.value + min t.contracts x.left * t.price }

-- the table after the trade
abbrev pub table_after : Side → Trade → List FirstContracts → List FirstContracts
table_after side t cells = slice_set cells (cell_of side t) (taken_from side t cells)
