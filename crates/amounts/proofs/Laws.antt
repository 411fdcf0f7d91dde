-- What one side of a trade gains the other loses.
use Rattle.std.proofs.Common.{◌≡◌, ℕ, ◌*◌, Bool, true, false, cond, ◌&&◌, eqb, List, [], ◌∷◌, pos, ◌-ℤ◌, ◌*ℤ◌, count_by, ap, ◌∙◌, arith}
use borrow.Author.Differences.{ints}
use Rattle.std.proofs.lemmas.List.Sums.{sum_by-cons}
use Rattle.amounts.specs.declared.trades.Side.{Side}
use Rattle.amounts.specs.declared.trades.Side.TheVariants.{Bought, Sold}
use Rattle.amounts.specs.declared.trades.Trade.{Trade}
use Rattle.amounts.proofs.Accounts.{Once, Among}
use Rattle.amounts.specs.Sums.{total}
use Rattle.amounts.specs.Trades.{party_of, contracts_on, contracts_of}
use Rattle.amounts.specs.Amounts.{gain_of, on_trades}
use Rattle.amounts.proofs.Totals.{total-zero, total-sum, total-less, total-times}

-- the contracts of a trade of the month, whoever has them
abbrev contracts_in : ℕ → Trade → ℕ
contracts_in month t = cond (eqb t.month month) t.contracts 0

-- the account on a side has all contracts of a trade, any other has none
contracts-by : (s : Side) (account month : ℕ) (t : Trade) → contracts_on s account month t ≡ contracts_in month t * cond (eqb (party_of s t) account) 1 0
contracts-by s account month t = by (eqb t.month month) (eqb (party_of s t) account)
  where
    by : (m p : Bool) → cond (m && p) t.contracts 0 ≡ cond m t.contracts 0 * cond p 1 0
    by true true = omega arith
    by true false = omega arith
    by false true = omega arith
    by false false = omega arith

side-total : (s : Side) (month : ℕ) (t : Trade) (accounts : List ℕ)
    → total (λ a. pos (contracts_on s a month t)) accounts ≡ pos (contracts_in month t * count_by (eqb (party_of s t)) accounts)
side-total s month t [] = omega (arith, ints)
side-total s month t (a ∷ others) =
    let c = sum_by-cons (λ x. cond (eqb (party_of s t) x) 1 0) a others in
    rw (contracts-by s a month t, c, side-total s month t others) (omega (arith, ints))

-- a side that stands once among the accounts
side-once : (s : Side) (month : ℕ) (t : Trade) (accounts : List ℕ) → Once accounts (party_of s t)
    → total (λ a. pos (contracts_on s a month t)) accounts ≡ pos (contracts_in month t)
side-once s month t accounts once =
    side-total s month t accounts ∙ ap pos (ap (λ n. contracts_in month t * n) once ∙ omega arith)

-- the contracts of all accounts in a trade are opposite: they come to 0
pub contracts-opposite : (month : ℕ) (t : Trade) (accounts : List ℕ) → Once accounts t.buyer → Once accounts t.seller
    → total (λ a. contracts_of a month t) accounts ≡ pos 0
contracts-opposite month t accounts buys sells =
    total-less (λ a. pos (contracts_on Bought a month t)) (λ a. pos (contracts_on Sold a month t)) accounts
    ∙ omega (arith, ints, side-once Bought month t accounts sells, side-once Sold month t accounts buys)

-- so do the amounts of all accounts on the trades of a session
pub trades-opposite : (month price : ℕ) (accounts : List ℕ) (ts : List Trade) → Among accounts ts
    → total (λ a. on_trades a month price ts) accounts ≡ pos 0
unfolding gain_of on_trades
trades-opposite month price accounts [] among = total-zero accounts
trades-opposite month price accounts (t ∷ ts) among =
    total-sum (λ a. gain_of (contracts_of a month t) price t.price) (λ a. on_trades a month price ts) accounts
    ∙ (let z = contracts-opposite month t accounts among.0.0 among.0.1 in
    let g = total-times (λ a. contracts_of a month t) (pos price -ℤ pos t.price) accounts in
    let n = ap (λ x. x *ℤ (pos price -ℤ pos t.price)) z in
    omega (arith, ints, g, n, trades-opposite month price accounts ts among.1))
