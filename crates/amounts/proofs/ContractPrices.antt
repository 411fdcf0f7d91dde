-- The prices of the contracts of trades: how many they are, what they come to, and the first of them.
use Rattle.std.proofs.Common.{◌≡◌, ℕ, zero, suc, ◌+◌, ◌-◌, ◌*◌, ◌<◌, ◌≤◌, ◌^◌, min, List, [], ◌∷◌, ◌++◌, length, get_or, take, drop, replicate, pos, ◌-ℤ◌, sum, refl, sym, ap, ◌∙◌, suc-mul, zero-add, zero-mul, mul-le-mul_left, append_assoc, append-nil, length-append, eq-eqb, arith}
use native.Mathlib.Nat.{sub-zero}
use lib.ListN.{length-replicate}
use borrow.Author.Differences.{ints}
use Rattle.std.specs.List.{AllByRecursion}
use Rattle.std.proofs.lemmas.Bool.Decides.{nat_tests}
use Rattle.std.proofs.lemmas.List.{at_drop_more, at_drop_all}
use Rattle.std.proofs.lemmas.List.Sums.{sum_by-append, sum_by-cons}
use Rattle.amounts.specs.Trades.{party_of, contracts_on, position_change, Limited}
use Rattle.amounts.specs.DayTrades.{contract_prices, firsts}
use Rattle.amounts.specs.declared.trades.Side.{Side}
use Rattle.amounts.specs.declared.trades.Side.TheVariants.{Bought, Sold}
use Rattle.amounts.specs.declared.trades.Trade.{Trade}
use Rattle.amounts.proofs.Bounds.{contracts-most}

-- what stands past the end of a list
abbrev pub no_trade : Trade
no_trade = record { buyer = 0; seller = 0; month = 0; rate = 0; contracts = 0; price = 0 }

-- the sum of q numbers p
sum-replicate : (q p : ℕ) → sum (replicate q p) ≡ q * p
sum-replicate zero p = sym (zero-mul p)
sum-replicate (suc q) p = omega (arith, sum_by-cons (λ x. x) p (replicate q p), sum-replicate q p, suc-mul q p)

-- of q numbers p and more: at most q of the first l are those
sum-front : (q l p : ℕ) (us : List ℕ) → sum (take l (replicate q p ++ us)) ≡ min q l * p + sum (take (l - min q l) us)
sum-front zero l p us = let e : min 0 l ≡ 0 = omega arith in rw (e, zero-mul, zero-add, sub-zero)
sum-front (suc q) zero p us = let e : min (suc q) 0 ≡ 0 = omega arith in rw (e, zero-mul)
sum-front (suc q) (suc l) p us =
    let m : min (suc q) (suc l) ≡ suc (min q l) = omega arith in
    let s : suc l - suc (min q l) ≡ l - min q l = omega arith in
    let c = sum_by-cons (λ x. x) p (take l (replicate q p ++ us)) in
    rw (m, s) (omega (arith, c, sum-front q l p us, suc-mul (min q l) p))

-- the account on a side has all contracts of a trade
pub contracts-own : (s : Side) (t : Trade) → contracts_on s (party_of s t) t.month t ≡ t.contracts
contracts-own s t = rw (eq-eqb t.month t.month refl, eq-eqb (party_of s t) (party_of s t) refl)

-- another account, or in another month, has none
pub contracts-other : (s : Side) (a m : ℕ) (t : Trade) → ((a ≡ party_of s t) × (m ≡ t.month) → ⊥) → contracts_on s a m t ≡ 0
contracts-other s a m t other = grind (arith, nat_tests)

module _ (s : Side) (account month : ℕ) where
  pub length-first : (t : Trade) (ts : List Trade)
      → length (contract_prices s account month (t ∷ ts)) ≡ contracts_on s account month t + length (contract_prices s account month ts)
  unfolding contract_prices
  length-first t ts = rw (length-append, length-replicate)

  pub sum-first : (t : Trade) (ts : List Trade)
      → sum (contract_prices s account month (t ∷ ts)) ≡ contracts_on s account month t * t.price + sum (contract_prices s account month ts)
  unfolding contract_prices
  sum-first t ts =
      sum_by-append (λ x. x) (replicate (contracts_on s account month t) t.price) (contract_prices s account month ts)
      ∙ ap (λ x. x + sum (contract_prices s account month ts)) (sum-replicate (contracts_on s account month t) t.price)

  -- one more trade adds its contracts, at its price
  prices-more : (ts : List Trade) (t : Trade)
      → contract_prices s account month (ts ++ t ∷ []) ≡ contract_prices s account month ts ++ replicate (contracts_on s account month t) t.price
  unfolding contract_prices
  prices-more [] t = append-nil (replicate (contracts_on s account month t) t.price)
  prices-more (u ∷ ts) t =
      ap (λ x. replicate (contracts_on s account month u) u.price ++ x) (prices-more ts t)
      ∙ sym (append_assoc (replicate (contracts_on s account month u) u.price) (contract_prices s account month ts) (replicate (contracts_on s account month t) t.price))

  pub length-more : (ts : List Trade) (t : Trade)
      → length (contract_prices s account month (ts ++ t ∷ [])) ≡ length (contract_prices s account month ts) + contracts_on s account month t
  length-more ts t = ap length (prices-more ts t) ∙ rw (length-append, length-replicate)

  pub sum-more : (ts : List Trade) (t : Trade)
      → sum (contract_prices s account month (ts ++ t ∷ [])) ≡ sum (contract_prices s account month ts) + contracts_on s account month t * t.price
  sum-more ts t =
      ap sum (prices-more ts t) ∙ sum_by-append (λ x. x) (contract_prices s account month ts) (replicate (contracts_on s account month t) t.price)
      ∙ ap (λ x. sum (contract_prices s account month ts) + x) (sum-replicate (contracts_on s account month t) t.price)

  count-size : (ts : List Trade) → AllByRecursion (λ t. t.contracts ≤ 20000) ts → length (contract_prices s account month ts) ≤ length ts * 20000
  unfolding contract_prices
  count-size [] small = omega arith
  count-size (t ∷ ts) small = omega (arith, length-first t ts, contracts-most s account month t, small.0, count-size ts small.1)

  -- limited trades have few contracts
  pub few-contracts : (ts : List Trade) → Limited ts → length (contract_prices s account month ts) ≤ 5120000
  few-contracts ts l = omega (arith, l.few, count-size ts l.small)

  -- which come to less than 2 ^ 32 each
  pub value-size : (ts : List Trade) → AllByRecursion (λ t. t.price < 2 ^ 32) ts
      → sum (contract_prices s account month ts) ≤ length (contract_prices s account month ts) * 4294967296
  unfolding contract_prices
  value-size [] priced = omega arith
  value-size (t ∷ ts) priced =
      let k : t.price ≤ 4294967296 = let p = priced.0 in omega arith in
      omega (arith, length-first t ts, sum-first t ts, mul-le-mul_left (contracts_on s account month t) k, value-size ts priced.1)

module _ (s : Side) (account month : ℕ) (ts : List Trade) (i : ℕ) (d : Trade) where
  pub firsts_more : (l : ℕ) → i < length ts
      → firsts s account month l (drop i ts)
      ≡ min (contracts_on s account month (get_or ts i d)) l * (get_or ts i d).price
      + firsts s account month (l - min (contracts_on s account month (get_or ts i d)) l) (drop (i + 1) ts)
  unfolding contract_prices firsts
  firsts_more l h =
      at_drop_more (firsts s account month l) ts i d h
      ∙ sum-front (contracts_on s account month (get_or ts i d)) l (get_or ts i d).price (contract_prices s account month (drop (i + 1) ts))

module _ (s : Side) (account month : ℕ) (ts : List Trade) (i : ℕ) where
  none : (l : ℕ) → firsts s account month l [] ≡ 0
  unfolding contract_prices firsts
  none zero = refl
  none (suc l) = refl

  pub firsts-end : (l : ℕ) → length ts ≤ i → firsts s account month l (drop i ts) ≡ 0
  firsts-end l h = at_drop_all (firsts s account month l) ts i h ∙ none l

-- the position changes by the contracts bought less the contracts sold
pub change-is : (account month : ℕ) (ts : List Trade)
    → position_change account month ts ≡ pos (length (contract_prices Bought account month ts)) -ℤ pos (length (contract_prices Sold account month ts))
unfolding contract_prices
change-is account month [] = refl
change-is account month (t ∷ ts) =
    let b = length-first Bought account month t ts in
    let s = length-first Sold account month t ts in
    rw (b, s) (omega (arith, ints, change-is account month ts))
