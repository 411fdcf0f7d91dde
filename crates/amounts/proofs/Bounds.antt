-- How great positions and amounts can be.
use Rattle.std.proofs.Common.{ℕ, ◌≤◌, Bool, true, false, cond, ◌&&◌, eqb, nat_abs, arith}
use borrow.Author.Differences.{ints}
use Rattle.amounts.specs.declared.trades.Side.{Side}
use Rattle.amounts.specs.declared.trades.Side.TheVariants.{Bought, Sold}
use Rattle.amounts.specs.declared.trades.Trade.{Trade}
use Rattle.amounts.specs.Trades.{party_of, contracts_on, contracts_of}

pub contracts-most : (s : Side) (account month : ℕ) (t : Trade) → contracts_on s account month t ≤ t.contracts
contracts-most s account month t = by (eqb t.month month && eqb (party_of s t) account)
  where
    by : (b : Bool) → cond b t.contracts 0 ≤ t.contracts
    by true = omega arith
    by false = omega arith

pub contracts-size : (account month : ℕ) (t : Trade) → nat_abs (contracts_of account month t) ≤ t.contracts
contracts-size account month t = omega (arith, ints, contracts-most Bought account month t, contracts-most Sold account month t)
