-- What a close writes is what the rules give, for every account and month, in the book or not.
use Rattle.std.proofs.Common.{◌≡◌, ℕ, zero, suc, ◌+◌, ◌<◌, ◌≤◌, ◌+ℤ◌, ◌⊎◌, Bool, true, false, cond, ◌&&◌, List, [], ◌∷◌, length, ℤ, pos, ◌-ℤ◌, sym, refl, ap, ◌∙◌, inl, inr, arith}
use lib.IntN.{zero-*ℤ}
use borrow.Author.Differences.{ints}
use Rattle.std.specs.List.{AllByRecursion, range_with_len}
use Rattle.std.proofs.ByRecursion.{All-weaker}
use Rattle.std.proofs.lemmas.Bool.{cond_both, cases_lt, lt-ltb, ltb-true}
use Rattle.std.proofs.lemmas.Bool.Decides.{nat_tests}
use Rattle.amounts.specs.declared.trades.Side.{Side}
use Rattle.amounts.specs.declared.trades.Side.TheVariants.{Bought, Sold}
use Rattle.amounts.specs.declared.trades.Trade.{Trade}
use Rattle.amounts.specs.Sums.{total}
use Rattle.amounts.specs.Trades.{party_of, contracts_on, contracts_of, position_change}
use Rattle.amounts.specs.Amounts.{gain_of, on_trades}
use Rattle.model.specs.World.{World}
use Rattle.model.specs.History.{History, Amounts, Closed}
use Rattle.model.specs.Observed.{accounts_of, months_of, is_account, is_listed, rate_on, session_day, trades_of, settlement_price}
use Rattle.model.specs.Sessions.{Session, sessions_of}
use Rattle.model.specs.Positions.{has_ended, contracts_in, carried_of, corrected_to, adjustment_at, written_for}
use Rattle.model.specs.Lawful.{Lawful}
use Rattle.model.specs.Closes.{in_book, amounts_at_close}
use Rattle.model.proofs.Dealt.{Fits, session-fits, closed-fit}

pub side-outside : (side : Side) (n k a m : ℕ) (t : Trade) → party_of side t < n → t.month < k → ((a < n) × (m < k) → ⊥) → contracts_on side a m t ≡ 0
side-outside side n k a m t p q out = grind (arith, nat_tests)

-- an account or month outside has no contracts in a trade that fits
pub outside : (n k a m : ℕ) (t : Trade) → Fits n k t → ((a < n) × (m < k) → ⊥) → contracts_of a m t ≡ pos 0
outside n k a m t f out = rw (side-outside Bought n k a m t f.seller f.month out, side-outside Sold n k a m t f.buyer f.month out)

-- a sum of nothing but zeros
pub total-none : {X : Type 0} (f : X → ℤ) (xs : List X) → AllByRecursion (λ x. f x ≡ pos 0) xs → total f xs ≡ pos 0
total-none f [] z = refl
total-none f (x ∷ xs) z = omega (arith, ints, z.0, total-none f xs z.1)

-- no contracts gain nothing
pub gain-none : (price before : ℕ) → gain_of (pos 0) price before ≡ pos 0
unfolding gain_of
gain-none price before = zero-*ℤ (pos price -ℤ pos before)

-- trades of which an account has no contracts come to nothing
pub trades-none : (a m price : ℕ) (ts : List Trade) → AllByRecursion (λ t. contracts_of a m t ≡ pos 0) ts → on_trades a m price ts ≡ pos 0
unfolding on_trades
trades-none a m price ts z =
    total-none (λ t. gain_of (contracts_of a m t) price t.price) ts
    (All-weaker (λ t. contracts_of a m t ≡ pos 0) (λ t. gain_of (contracts_of a m t) price t.price ≡ pos 0) (λ t e. rw e (gain-none price t.price)) ts z)

module _ (n k a m : ℕ) (out : (a < n) × (m < k) → ⊥) where
  all-outside : (ts : List Trade) → AllByRecursion (Fits n k) ts → AllByRecursion (λ t. contracts_of a m t ≡ pos 0) ts
  all-outside ts f = All-weaker (Fits n k) (λ t. contracts_of a m t ≡ pos 0) (λ t g. outside n k a m t g out) ts f

  pub contracts-outside : (ss : List Session) → AllByRecursion (λ s. AllByRecursion (Fits n k) s.trades) ss → contracts_in a m ss ≡ pos 0
  contracts-outside ss f =
      total-none (λ s. position_change a m s.trades) ss
      (All-weaker (λ s. AllByRecursion (Fits n k) s.trades) (λ s. position_change a m s.trades ≡ pos 0)
      (λ s g. total-none (contracts_of a m) s.trades (all-outside s.trades g)) ss f)

-- the account and the month are in the book
abbrev pub InBook : History → ℕ → ℕ → Type 0
InBook h a m = (a < length (accounts_of h)) × (m < length (months_of h))

-- outside the book nothing is carried, and the rules give nothing
pub carried-outside : (w : World) (h : History) → Lawful w h → (a m : ℕ) → (InBook h a m → ⊥) → carried_of w h a m ≡ pos 0
carried-outside w h l a m out =
    cond_both (has_ended w h m) (pos 0) (contracts_in a m (sessions_of w h)) (λ z. z ≡ pos 0) (λ _. refl)
    (λ _. contracts-outside (length (accounts_of h)) (length (months_of h)) a m out (sessions_of w h) (closed-fit w h l))

pub adjustment-outside : (w : World) (h : History) → Lawful w h → (a m : ℕ) → (InBook h a m → ⊥) → adjustment_at w h a m ≡ pos 0
adjustment-outside w h l a m out =
    let corrected = corrected_to w (rate_on w h) (session_day h) (sessions_of w h) m in
    rw (
      carried-outside w h l a m out,
      trades-none a m (settlement_price w h m) (trades_of h) (all-outside (length (accounts_of h)) (length (months_of h)) a m out (trades_of h) (session-fits w h l)),
      gain-none (settlement_price w h m) corrected,
    )

-- an account and a month are in the book, or one of them is not
pub in_or_out : (h : History) (a m : ℕ) → InBook h a m ⊎ (InBook h a m → ⊥)
in_or_out h a m =
    elim (cases_lt a (length (accounts_of h))) [
      | inl i ↦ elim (cases_lt m (length (months_of h))) [ inl j ↦ inl (i, j) | inr j ↦ inr (λ b. omega (arith, b.1)) ]
      | inr i ↦ inr (λ b. omega (arith, b.0))
    ]

-- an amount in the book, and outside of it
pub in-book : (h : History) (amount : ℕ → ℕ → ℤ) (a m : ℕ) → InBook h a m → in_book h amount a m ≡ amount a m
in-book h amount a m b = rw (lt-ltb a (length (accounts_of h)) b.0, lt-ltb m (length (months_of h)) b.1) refl

pub outside-book : (h : History) (amount : ℕ → ℕ → ℤ) (a m : ℕ) → (InBook h a m → ⊥) → in_book h amount a m ≡ pos 0
outside-book h amount a m out = by (is_account h a) (is_listed h m) refl refl
  where
    by : (x y : Bool) → is_account h a ≡ x → is_listed h m ≡ y → cond (x && y) (amount a m) (pos 0) ≡ pos 0
    by true true e f = absurd (out (ltb-true a (length (accounts_of h)) e, ltb-true m (length (months_of h)) f))
    by true false e f = refl
    by false y e f = refl

pub cells : (w : World) (h : History) (c : Amounts) → Lawful w (Closed c ∷ h) → (a m : ℕ) → c.adjustments a m ≡ adjustment_at w h a m
cells w h c l a m =
    ap (λ x. x.adjustments a m) l.0.amounts
    ∙ elim (in_or_out h a m) [
      | inl b ↦ in-book h (adjustment_at w h) a m b
      | inr out ↦ outside-book h (adjustment_at w h) a m out ∙ sym (adjustment-outside w h l.1 a m out)
    ]

-- ---- the listed months

total-none-from : (f : ℕ → ℤ) (n i : ℕ) → ((m : ℕ) → i ≤ m → f m ≡ pos 0) → total f (range_with_len i n) ≡ pos 0
total-none-from f zero i none = refl
total-none-from f (suc n) i none = let here = none i (omega arith) in let rest = total-none-from f n (i + 1) (λ m later. none m (omega arith)) in omega (arith, ints, here, rest)

-- indices past the last add nothing
total-first : (f : ℕ → ℤ) (k n i : ℕ) → k ≤ n → ((m : ℕ) → i + k ≤ m → f m ≡ pos 0) → total f (range_with_len i n) ≡ total f (range_with_len i k)
total-first f zero n i few none = total-none-from f n i (λ m later. none m (omega arith))
total-first f (suc k) zero i few none = absurd (omega arith)
total-first f (suc k) (suc n) i few none = ap (λ z. f i +ℤ z) (total-first f k n (i + 1) (omega arith) (λ m later. none m (omega arith)))

pub listed-written : (w : World) (h : History) (a : ℕ) → length (months_of h) ≤ 16
    → written_for a (amounts_at_close w h) ≡ total ((amounts_at_close w h).adjustments a) (range_with_len 0 (length (months_of h)))
listed-written w h a few =
    total-first ((amounts_at_close w h).adjustments a) (length (months_of h)) 16 0 few (λ m past. outside-book h (adjustment_at w h) a m (λ b. omega (arith, b.1)))
