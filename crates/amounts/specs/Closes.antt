-- The adjustments of a close, on the prices of the months and the positions that it is given.
use Rattle.std.specs.Prelude.{◌≡◌, ◌≤◌, ◌*◌, ◌^◌, ℕ, cond, nat_le, List, ℤ, pos, ◌+ℤ◌, ◌-ℤ◌, ◌*ℤ◌, unsigned_abs}
use Rattle.std.specs.List.{slice_index_or}
use Rattle.amounts.specs.declared.adjustments.MonthPrices.{MonthPrices}
use Rattle.amounts.specs.declared.sums.SideSum.{SideSum}
use Rattle.amounts.specs.declared.trades.TheConstants.{MAX_TRADES, MAX_CONTRACTS, MAX_POSITION, MAX_POSITION_AT_CLOSE}
use Rattle.amounts.specs.declared.trades.Trade.{Trade}
use Rattle.amounts.specs.Amounts.{gain_of, adjustment_of, carried_in}
use Rattle.amounts.specs.Tables.{place_of}

-- past the last month
abbrev pub no_prices : MonthPrices
no_prices = record { settlement = 0; corrected = 0 }

-- the prices of a month
abbrev pub prices_of : List MonthPrices → ℕ → MonthPrices
prices_of prices month = slice_index_or prices month no_prices

-- a position at the close of at most 5,620,000 contracts, bought or sold, to which a session can bring one of 500,000; 0 for a greater one
abbrev pub within_limit : ℤ → ℤ
within_limit position = cond (nat_le (unsigned_abs position) MAX_POSITION_AT_CLOSE) position (pos 0)

-- so where at most 500,000 contracts are carried into a session of these trades, bought or sold, the position at its close counts as it is
abbrev pub CarriedCounts : List Trade → Type 0
CarriedCounts ts = (account month : ℕ) (position : ℤ) → unsigned_abs (carried_in account month ts position) ≤ MAX_POSITION → within_limit position ≡ position

-- the position of an account in a month
abbrev pub position_in : List ℤ → ℕ → ℕ → ℤ
position_in positions account month = within_limit (slice_index_or positions (place_of account month) (pos 0))

-- the adjustment of an account in a month
abbrev pub adjustment_in : List Trade → List MonthPrices → List ℤ → ℕ → ℕ → ℤ
adjustment_in ts prices positions account month =
    adjustment_of account month (prices_of prices month).settlement ts (carried_in account month ts (position_in positions account month)) (prices_of prices month).corrected

-- sums of a session's trades, at prices of 32 bits
pub record IsBounded (x : SideSum) : Type 0 where
  pub contracts : x.contracts ≤ MAX_TRADES * MAX_CONTRACTS
  pub value : x.value ≤ MAX_TRADES * MAX_CONTRACTS * 2 ^ 32

-- contracts bought less contracts sold
abbrev pub change_on : SideSum → SideSum → ℤ
change_on bought sold = pos bought.contracts -ℤ pos sold.contracts

-- what the trades gain to the settlement price: the contracts at that price, less what they came to
abbrev pub on_sums : SideSum → SideSum → ℕ → ℤ
on_sums bought sold settlement = change_on bought sold *ℤ pos settlement -ℤ (pos bought.value -ℤ pos sold.value)

-- the adjustment on the sums of both sides
abbrev pub adjustment_on : SideSum → SideSum → ℤ → MonthPrices → ℤ
adjustment_on bought sold position prices = on_sums bought sold prices.settlement +ℤ gain_of (position -ℤ change_on bought sold) prices.settlement prices.corrected
