-- Positions and adjustments add to zero over the accounts.
use Rattle.std.proofs.Common.{◌≡◌, ℕ, ◌<◌, Bool, true, false, cond, eqb, List, [], ◌∷◌, ℤ, pos, ◌+ℤ◌, ◌-ℤ◌, None, count_by, sym, refl, ap, ◌∙◌, arith}
use mathlib.Core.Path.{fun_ext}
use lib.IntN.{zero-*ℤ}
use Rattle.std.specs.List.{AllByRecursion}
use Rattle.std.proofs.ByRecursion.{All-push, All-weaker}
use Rattle.std.proofs.lemmas.Bool.{true≢false, eqb-true, agree_below, agree_below_at}
use Rattle.amounts.specs.declared.trades.Trade.{Trade}
use Rattle.amounts.proofs.Accounts.{Once, Among}
use Rattle.amounts.specs.Amounts.{gain_of, on_trades}
use Rattle.amounts.specs.Sums.{total}
use Rattle.amounts.specs.Trades.{contracts_of, position_change}
use Rattle.amounts.proofs.Laws.{contracts-opposite, trades-opposite}
use Rattle.amounts.proofs.Totals.{total-append, total-sum, total-times, total-zero}
use Rattle.model.specs.Accounts.{account_indices}
use Rattle.model.specs.World.{World}
use Rattle.model.specs.History.{History, Event, Amounts, Closed, trade_made, amounts_written, is_payment, gather, since, before}
use Rattle.model.specs.Observed.{rate_on, session_day, trades_of, settlement_price}
use Rattle.model.specs.Sessions.{Session, sessions_of}
use Rattle.model.specs.Positions.{has_ended, contracts_in, carried_of, corrected_to, adjustment_at, written_for, due_of, paid_of}
use Rattle.model.specs.Lawful.{Lawful}
use Rattle.model.specs.Laws.{PositionsBalance}
use Rattle.model.specs.Balance.{AlwaysBalanced}
use Rattle.model.proofs.Cells.{cells}
use Rattle.model.proofs.Dealt.{FitsIn, accounts-few, trades-fit, session-fits, closed-fit, gather-split}

-- a number below n stands once in a list, by a test of each
pub once-below : (xs : List ℕ) (n : ℕ) → agree_below (λ k. eqb (count_by (eqb k) xs) 1) (λ _. true) n ≡ true → (a : ℕ) → a < n → Once xs a
once-below xs n test a h = eqb-true (count_by (eqb a) xs) 1 (agree_below_at (λ k. eqb (count_by (eqb k) xs) 1) (λ _. true) n a test h)

-- both sides of each trade stand once among the indices
pub among : (w : World) (h : History) → Lawful w h → (ts : List Trade) → AllByRecursion (FitsIn h) ts → Among account_indices ts
among w h l ts f =
    let few = accounts-few w h l in
    All-weaker (FitsIn h) (λ t. Once account_indices t.buyer × Once account_indices t.seller)
    (λ t g. let b = g.buyer in let s = g.seller in (once-below account_indices 32 refl t.buyer (omega arith), once-below account_indices 32 refl t.seller (omega arith))) ts f

-- the contracts of all accounts come to 0, over trades and over sessions
pub changes-opposite : (m : ℕ) (accounts : List ℕ) (ts : List Trade) → Among accounts ts → total (λ a. position_change a m ts) accounts ≡ pos 0
changes-opposite m accounts [] g = total-zero accounts
changes-opposite m accounts (t ∷ ts) g =
    total-sum (λ a. contracts_of a m t) (λ a. position_change a m ts) accounts
    ∙ rw (contracts-opposite m t accounts g.0.0 g.0.1, changes-opposite m accounts ts g.1)

pub sessions-opposite : (m : ℕ) (accounts : List ℕ) (ss : List Session) → AllByRecursion (λ s. Among accounts s.trades) ss
    → total (λ a. contracts_in a m ss) accounts ≡ pos 0
sessions-opposite m accounts [] g = total-zero accounts
sessions-opposite m accounts (s ∷ ss) g =
    total-sum (λ a. position_change a m s.trades) (λ a. contracts_in a m ss) accounts
    ∙ rw (changes-opposite m accounts s.trades g.0, sessions-opposite m accounts ss g.1)

-- 0 or what comes to 0
cond-opposite : (b : Bool) (f : ℕ → ℤ) (accounts : List ℕ) → total f accounts ≡ pos 0 → total (λ a. cond b (pos 0) (f a)) accounts ≡ pos 0
cond-opposite true f accounts z = total-zero accounts
cond-opposite false f accounts z = z

pub positions-balance : PositionsBalance
positions-balance w h m l =
    cond-opposite (has_ended w h m) (λ a. position_change a m (gather trade_made h)) account_indices
    (changes-opposite m account_indices (gather trade_made h) (among w h l (gather trade_made h) (trades-fit w h l)))

-- so do the positions that the session began with, and the adjustments of its close
pub carried-balance : (w : World) (h : History) (m : ℕ) → Lawful w h → total (λ a. carried_of w h a m) account_indices ≡ pos 0
carried-balance w h m l =
    cond-opposite (has_ended w h m) (λ a. contracts_in a m (sessions_of w h)) account_indices
    (sessions-opposite m account_indices (sessions_of w h)
    (All-weaker (λ s. AllByRecursion (FitsIn h) s.trades) (λ s. Among account_indices s.trades) (λ s. among w h l s.trades) (sessions_of w h) (closed-fit w h l)))

gains-opposite : (f : ℕ → ℤ) (price before : ℕ) (accounts : List ℕ) → total f accounts ≡ pos 0
    → total (λ a. gain_of (f a) price before) accounts ≡ pos 0
unfolding gain_of
gains-opposite f price before accounts z =
    rw (total-times f (pos price -ℤ pos before) accounts, z) (zero-*ℤ (pos price -ℤ pos before))

pub adjustments-balance : (w : World) (h : History) (m : ℕ) → Lawful w h → total (λ a. adjustment_at w h a m) account_indices ≡ pos 0
adjustments-balance w h m l =
    let price = settlement_price w h m in
    let corrected = corrected_to w (rate_on w h) (session_day h) (sessions_of w h) m in
    total-sum (λ a. on_trades a m price (trades_of h)) (λ a. gain_of (carried_of w h a m) price corrected) account_indices
    ∙ rw (
      trades-opposite m price account_indices (trades_of h) (among w h l (trades_of h) (session-fits w h l)),
      gains-opposite (λ a. carried_of w h a m) price corrected account_indices (carried-balance w h m l),
    )

-- the amounts of a close add to zero over the accounts
abbrev Even : Amounts → Type 0
Even c = (m : ℕ) → total (λ a. c.adjustments a m) account_indices ≡ pos 0

all-even : (w : World) (h : History) → Lawful w h → AllByRecursion Even (gather amounts_written h)
all-even w [] l = tt
all-even w (Closed c ∷ h) l =
    All-push Even (gather amounts_written h) c (all-even w h l.1)
    (λ m. ap (λ f. total f account_indices) (fun_ext (λ a. cells w h c l a m)) ∙ adjustments-balance w h m l.1)
all-even w (e ∷ h) l = all-even w h l.1

-- a payment writes nothing
payment-silent : (e : Event) → is_payment e ≡ true → amounts_written e ≡ None
payment-silent (Closed c) k = absurd (true≢false (sym k))
payment-silent e k = refl

-- paid and due are all that was written
pub all-written : (h : History) (a : ℕ) → paid_of h a +ℤ due_of h a ≡ total (written_for a) (gather amounts_written h)
all-written h a =
    sym (total-append (written_for a) (gather amounts_written (before is_payment h)) (gather amounts_written (since is_payment h)))
    ∙ ap (total (written_for a)) (sym (gather-split amounts_written is_payment payment-silent h))

pub always-balanced : AlwaysBalanced
always-balanced w h l = record { closes = all-even w h l; accounts = all-written h }
