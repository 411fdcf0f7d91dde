-- A pass over the trades takes the first contracts of each account and month.
use Rattle.std.proofs.Common.{◌≡◌, ◌^◌, ℕ, ◌+◌, ◌*◌, ◌<◌, ◌≤◌, min, List, length, get_or, sym, ap, ◌∙◌, arith, mul-le-mul_left, zero-mul, zero-add}
use native.Mathlib.Nat.{sub-zero}
use Rattle.amounts.specs.declared.day_trades.FirstContracts.{FirstContracts}
use Rattle.amounts.specs.declared.sums.Sums.{Sums}
use Rattle.amounts.specs.declared.trades.Side.{Side}
use Rattle.amounts.specs.declared.trades.Side.TheVariants.{Bought}
use Rattle.amounts.specs.declared.trades.Trade.{Trade}
use Rattle.amounts.specs.DayTrades.{matched}
use Rattle.amounts.specs.FirstContracts.{no_contracts, taken_from, table_after, IsStart, IsUnderway, IsComplete}
use Rattle.amounts.specs.SideSums.{AreSums, no_sum, cell_of}
use Rattle.amounts.specs.Tables.{place_of, EachCell}
use Rattle.amounts.specs.Trades.{party_of, FitsTables}
use Rattle.amounts.proofs.Cells.{each-set}
use Rattle.amounts.proofs.ContractPrices.{contracts-own, contracts-other, few-contracts, firsts_more, firsts-end}
use Rattle.amounts.proofs.Summing.{party-within}

-- the next trade
module _ (s : Side) (ts : List Trade) (i : ℕ) (d : Trade) (inside : i < length ts) (w : FitsTables (get_or ts i d)) (price : (get_or ts i d).price < 2 ^ 32)
    (cells : List FirstContracts) (e : EachCell (IsUnderway s ts i) cells) where
  abbrev t : Trade
  t = get_or ts i d

  before : IsUnderway s ts i (party_of s t) t.month (get_or cells (cell_of s t) no_contracts)
  before = e.each (party_of s t) t.month no_contracts (party-within s t w) w.month

  most : (taken_from s t cells).value + 4294967296 * (taken_from s t cells).left ≤ 4294967296 * 5120000
  most =
      let x = get_or cells (cell_of s t) no_contracts in
      let k : t.price ≤ 4294967296 = omega arith in
      let m = before.most in
      omega (arith, mul-le-mul_left (min t.contracts x.left) k)

  after : IsUnderway s ts (i + 1) (party_of s t) t.month (taken_from s t cells)
  after =
      let x = get_or cells (cell_of s t) no_contracts in
      let m = rw (contracts-own s t) at (firsts_more s (party_of s t) t.month ts i d x.left inside) in
      let b = before.all in
      record { all = omega (arith, m); most = most }

  -- another cell takes nothing
  same : (a m : ℕ) (x : FirstContracts) → ((a ≡ party_of s t) × (m ≡ t.month) → ⊥) → IsUnderway s ts i a m x → IsUnderway s ts (i + 1) a m x
  same a m x other h =
      let none = contracts-other s a m t other in
      let z : min 0 x.left ≡ 0 = omega arith in
      let f = rw (none, z, zero-mul, zero-add, sub-zero) at (firsts_more s a m ts i d x.left inside) in
      record { all = ap (λ n. x.value + n) (sym f) ∙ h.all; most = h.most }

  pub taking-more : EachCell (IsUnderway s ts (i + 1)) (table_after s t cells)
  taking-more = each-set (IsUnderway s ts i) (IsUnderway s ts (i + 1)) cells (party_of s t) t.month (taken_from s t cells) e (party-within s t w) w.month after same

-- after the last trade all are taken
pub taking-end : (s : Side) (ts : List Trade) (i : ℕ) (cells : List FirstContracts) → length ts ≤ i → EachCell (IsUnderway s ts i) cells → EachCell (IsComplete s ts) cells
taking-end s ts i cells h e = record {
  size = e.size;
  each = λ a m d ha hm.
      let x = e.each a m d ha hm in
      let z = firsts-end s a m ts i (get_or cells (place_of a m) d).left h in
      let all = x.all in
      let most = x.most in
      record { value = omega arith; most = omega arith };
}

-- before the first trade each cell has the matched contracts left
module _ (ts : List Trade) (sums : Sums) (cells : List FirstContracts) (h : AreSums ts sums) (i : ℕ) (whole : 512 ≤ i) (size : length cells ≡ 512)
    (set_out : (k : ℕ) (d : FirstContracts) → k < i → get_or cells k d ≡ record { left = min (get_or sums.bought k no_sum).contracts (get_or sums.sold k no_sum).contracts; value = 0 }) where
  pub start-all : EachCell (IsStart ts) cells
  start-all = record {
    size = size;
    each = λ a m d ha hm.
        let b = h.bought.each a m no_sum ha hm in
        let s = h.sold.each a m no_sum ha hm in
        let few = few-contracts Bought a m ts h.limited in
        let e = set_out (place_of a m) d (omega arith) in
        let l : (get_or cells (place_of a m) d).left ≡ matched a m ts = ap (λ x. x.left) e ∙ rw (b.contracts, s.contracts) in
        record { left = l; value = ap (λ x. x.value) e; few = rw l (omega arith) };
  }
