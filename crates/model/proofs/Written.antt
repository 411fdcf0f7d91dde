-- What closes wrote: the day trades of their sessions, and nothing outside the book.
use Rattle.std.proofs.Common.{◌≡◌, ℕ, ◌<◌, true, false, ◌&&◌, eqb, List, [], ◌∷◌, length, ℤ, pos, sym, refl, ap, ◌∙◌, inl, inr, arith}
use Rattle.std.specs.List.{AllByRecursion, list_any}
use Rattle.std.proofs.ByRecursion.{All-push}
use Rattle.std.proofs.lemmas.Bool.{true≢false, and_from, agree_below, agree_below_at}
use Rattle.amounts.specs.declared.trades.Side.{Side}
use Rattle.amounts.specs.declared.trades.Side.TheVariants.{Bought, Sold}
use Rattle.amounts.specs.declared.trades.Trade.{Trade}
use Rattle.amounts.specs.DayTrades.{contract_prices, firsts, day_trade}
use Rattle.amounts.specs.Trades.{party_of}
use Rattle.model.specs.Accounts.{account_indices, month_indices}
use Rattle.model.specs.World.{World}
use Rattle.model.specs.History.{History, Amounts, Closed, amounts_written, gather}
use Rattle.model.specs.Lawful.{Lawful}
use Rattle.model.specs.Limits.{NothingOutside}
use Rattle.model.specs.Moves.{DayTradesWritten}
use Rattle.model.specs.Observed.{accounts_of, months_of, trades_of}
use Rattle.model.specs.Positions.{adjustment_at}
use Rattle.model.proofs.Cells.{InBook, in_or_out, in-book, outside-book, side-outside}
use Rattle.model.proofs.Dealt.{Fits, accounts-few, session-fits}
use Rattle.model.proofs.Sizes.{months-few}

module _ (n k a m : ℕ) (out : (a < n) × (m < k) → ⊥) where
  party-fits : (side : Side) (t : Trade) → Fits n k t → party_of side t < n
  party-fits Bought t f = f.seller
  party-fits Sold t f = f.buyer

  -- an account or month outside has no contracts on a side
  prices-outside : (side : Side) (ts : List Trade) → AllByRecursion (Fits n k) ts → contract_prices side a m ts ≡ []
  unfolding contract_prices
  prices-outside side [] f = refl
  prices-outside side (t ∷ ts) f =
      rw (side-outside side n k a m t (party-fits side t f.0) f.0.month out, prices-outside side ts f.1) refl

  day-trade-outside : (ts : List Trade) → AllByRecursion (Fits n k) ts → day_trade a m ts ≡ pos 0
  unfolding firsts
  day-trade-outside ts f = rw (prices-outside Bought ts f, prices-outside Sold ts f) refl

new-day-trades : (w : World) (h : History) (c : Amounts) → Lawful w (Closed c ∷ h) → (a m : ℕ) → c.day_trades a m ≡ day_trade a m (trades_of h)
new-day-trades w h c l a m =
    let day_trades : ℕ → ℕ → ℤ = λ x y. day_trade x y (trades_of h) in
    ap (λ x. x.day_trades a m) l.0.amounts
    ∙ elim (in_or_out h a m) [
      | inl i ↦ in-book h day_trades a m i
      | inr o ↦ outside-book h day_trades a m o ∙ sym (day-trade-outside (length (accounts_of h)) (length (months_of h)) a m o (trades_of h) (session-fits w h l.1))
    ]

pub day-trades-written : DayTradesWritten
day-trades-written w [] l = tt
day-trades-written w (Closed c ∷ h) l = (new-day-trades w h c l, day-trades-written w h l.1)
day-trades-written w (e ∷ h) l = day-trades-written w h l.1

-- a number below n is among a list, by a test of each
among-below : (xs : List ℕ) (n : ℕ) → agree_below (λ k. list_any (eqb k) xs) (λ _. true) n ≡ true → (a : ℕ) → a < n → list_any (eqb a) xs ≡ true
among-below xs n test a h = agree_below_at (λ k. list_any (eqb k) xs) (λ _. true) n a test h

-- what is not among the indices is not in the book
not-in-book : (w : World) (h : History) (a m : ℕ) → Lawful w h → (list_any (eqb a) account_indices && list_any (eqb m) month_indices) ≡ false → InBook h a m → ⊥
not-in-book w h a m l e b =
    let i = among-below account_indices 32 refl a (omega (arith, b.0, accounts-few w h l)) in
    let j = among-below month_indices 16 refl m (omega (arith, b.1, months-few w h l)) in
    true≢false (sym (and_from (list_any (eqb a) account_indices) (list_any (eqb m) month_indices) i j) ∙ e)

-- for no account or month outside the indices
abbrev Inside : Amounts → Type 0
Inside c = (a m : ℕ) → (list_any (eqb a) account_indices && list_any (eqb m) month_indices) ≡ false → (c.adjustments a m ≡ pos 0) × (c.day_trades a m ≡ pos 0)

new-inside : (w : World) (h : History) (c : Amounts) → Lawful w (Closed c ∷ h) → Inside c
new-inside w h c l a m e =
    let o = not-in-book w h a m l.1 e in
    (ap (λ x. x.adjustments a m) l.0.amounts ∙ outside-book h (adjustment_at w h) a m o, ap (λ x. x.day_trades a m) l.0.amounts ∙ outside-book h (λ x y. day_trade x y (trades_of h)) a m o)

pub nothing-outside : NothingOutside
nothing-outside w [] l = tt
nothing-outside w (Closed c ∷ h) l = All-push Inside (gather amounts_written h) c (nothing-outside w h l.1) (new-inside w h c l)
nothing-outside w (e ∷ h) l = nothing-outside w h l.1
