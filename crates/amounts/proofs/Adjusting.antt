-- The adjustment of an account in a month, from the sums of both sides.
use Rattle.std.proofs.Common.{◌≡◌, ℕ, ◌≤◌, List, [], ◌∷◌, length, sum, ℤ, pos, ◌+ℤ◌, ◌-ℤ◌, ◌*ℤ◌, neg_ℤ, nat_abs, ap, ◌∙◌, arith}
use Rattle.std.proofs.lemmas.Bool.Decides.{nat_tests}
use Rattle.std.proofs.lemmas.Int.{ints}
use Rattle.interest.proofs.Ring.{expands, sums}
use Rattle.amounts.specs.Amounts.{gain_of, on_trades, adjustment_of, carried_in}
use Rattle.amounts.specs.Closes.{IsBounded, within_limit, adjustment_on}
use Rattle.amounts.specs.DayTrades.{contract_prices}
use Rattle.amounts.specs.SideSums.{IsSideSum, AreSums}
use Rattle.amounts.specs.Trades.{contracts_on, contracts_of, Limited}
use Rattle.amounts.specs.declared.adjustments.MonthPrices.{MonthPrices}
use Rattle.amounts.specs.declared.sums.SideSum.{SideSum}
use Rattle.amounts.specs.declared.sums.Sums.{Sums}
use Rattle.amounts.specs.declared.trades.Side.{Side}
use Rattle.amounts.specs.declared.trades.Side.TheVariants.{Bought, Sold}
use Rattle.amounts.specs.declared.trades.TheConstants.{MAX_POSITION_AT_CLOSE}
use Rattle.amounts.specs.declared.trades.Trade.{Trade}
use Rattle.amounts.proofs.ContractPrices.{length-first, sum-first, change-is, few-contracts, value-size}

-- a trade of q contracts bought and r sold at t, and what the others come to
one-more : (q r p t l m w v : ℤ)
    → (q +ℤ neg_ℤ r) *ℤ (p +ℤ neg_ℤ t) +ℤ ((l +ℤ neg_ℤ m) *ℤ p +ℤ neg_ℤ (w +ℤ neg_ℤ v))
    ≡ ((q +ℤ l) +ℤ neg_ℤ (r +ℤ m)) *ℤ p +ℤ neg_ℤ ((q *ℤ t +ℤ w) +ℤ neg_ℤ (r *ℤ t +ℤ v))
one-more q r p t l m w v = simp expands (omega (arith, sums))

module _ (a m price : ℕ) where
  -- contracts bought and sold at the settlement price, less what they came to
  trades-sums : (ts : List Trade) → on_trades a m price ts
      ≡ (pos (length (contract_prices Bought a m ts)) -ℤ pos (length (contract_prices Sold a m ts))) *ℤ pos price
      -ℤ (pos (sum (contract_prices Bought a m ts)) -ℤ pos (sum (contract_prices Sold a m ts)))
  unfolding contract_prices on_trades gain_of
  trades-sums [] = omega (arith, ints)
  trades-sums (t ∷ ts) =
      rw (length-first Bought a m t ts, length-first Sold a m t ts, sum-first Bought a m t ts, sum-first Sold a m t ts)
      (ap (λ x. gain_of (contracts_of a m t) price t.price +ℤ x) (trades-sums ts)
      ∙ one-more (pos (contracts_on Bought a m t)) (pos (contracts_on Sold a m t)) (pos price) (pos t.price) (pos (length (contract_prices Bought a m ts))) (pos (length (contract_prices Sold a m ts))) (pos (sum (contract_prices Bought a m ts))) (pos (sum (contract_prices Sold a m ts))))

-- on the sums of the session
pub adjustment-is : (a m : ℕ) (ts : List Trade) (bought sold : SideSum) (position : ℤ) (p : MonthPrices) → IsSideSum Bought ts a m bought → IsSideSum Sold ts a m sold
    → adjustment_on bought sold position p ≡ adjustment_of a m p.settlement ts (carried_in a m ts position) p.corrected
adjustment-is a m ts bought sold position p b s =
    let d = change-is a m ts in
    rw (b.contracts, s.contracts, b.value, s.value, d, trades-sums a m p.settlement ts)

-- ---- a position at the close

-- at most 500,000 contracts carried, and what the trades change
pub most_at_close : (ts : List Trade) → Limited ts → (a m : ℕ) (position : ℤ) → nat_abs (carried_in a m ts position) ≤ 500000 → nat_abs position ≤ 5620000
most_at_close ts l a m position few =
    omega (arith, ints, few-contracts Bought a m ts l, few-contracts Sold a m ts l, change-is a m ts)

pub counts_within : (position : ℤ) → nat_abs position ≤ MAX_POSITION_AT_CLOSE → within_limit position ≡ position
counts_within position few = grind (arith, nat_tests)

-- ---- in 64 bits

-- the sums of limited trades are bounded
pub sum-bounded : (s : Side) (a m : ℕ) (ts : List Trade) (sums : Sums) (x : SideSum) → AreSums ts sums → IsSideSum s ts a m x → IsBounded x
sum-bounded s a m ts sums x h e =
    let few = few-contracts s a m ts h.limited in
    let size = value-size s a m ts h.priced in
    let c = e.contracts in
    let v = e.value in
    record { contracts = omega arith; value = omega arith }
