-- The running sums of a session on each side, for each account and month.
use Rattle.std.specs.Prelude.{◌≡◌, ◌<◌, ◌^◌, ℕ, ◌+◌, ◌*◌, List, length, sum}
use Rattle.std.specs.List.{AllByRecursion, slice_index_or, slice_set}
use Rattle.amounts.specs.declared.sums.SideSum.{SideSum}
use Rattle.amounts.specs.declared.sums.Sums.{Sums}
use Rattle.amounts.specs.declared.trades.Side.{Side}
use Rattle.amounts.specs.declared.trades.Side.TheVariants.{Bought, Sold}
use Rattle.amounts.specs.declared.trades.Trade.{Trade}
use Rattle.amounts.specs.DayTrades.{contract_prices}
use Rattle.amounts.specs.Tables.{place_of, EachCell}
use Rattle.amounts.specs.Trades.{party_of, Limited, FitsTables}

-- the contracts of the account on the side, and what they come to at their prices
pub record IsSideSum (side : Side) (ts : List Trade) (account month : ℕ) (x : SideSum) : Type 0 where
  pub contracts : x.contracts ≡ length (contract_prices side account month ts)
  pub value : x.value ≡ sum (contract_prices side account month ts)

-- the sums of few trades of a book, at prices of 32 bits
pub record AreSums (ts : List Trade) (sums : Sums) : Type 0 where
  pub limited : Limited ts
  pub fitting : AllByRecursion FitsTables ts
  pub priced : AllByRecursion (λ t. t.price < 2 ^ 32) ts
  pub bought : EachCell (IsSideSum Bought ts) sums.bought
  pub sold : EachCell (IsSideSum Sold ts) sums.sold

-- no contracts
abbrev pub no_sum : SideSum
no_sum = record { contracts = 0; value = 0 }

-- the cell of a trade on a side
abbrev pub cell_of : Side → Trade → ℕ
cell_of side t = place_of (party_of side t) t.month

-- what is in it once the trade is added
abbrev pub sum_with : Side → Trade → List SideSum → SideSum
sum_with side t cells =
    let x = slice_index_or cells (cell_of side t) no_sum in
    record { contracts = x.contracts + t.contracts; value = x.value + t.contracts * t.price }

-- the table with the trade added
abbrev pub table_with : Side → Trade → List SideSum → List SideSum
table_with side t cells = slice_set cells (cell_of side t) (sum_with side t cells)

-- the cell of a trade has room for it
pub record HasRoomFor (side : Side) (t : Trade) (cells : List SideSum) : Type 0 where
  pub contracts : (sum_with side t cells).contracts < 2 ^ 32
  pub value : (sum_with side t cells).value < 2 ^ 64
