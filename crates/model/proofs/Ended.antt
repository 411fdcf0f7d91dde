-- After the last session of a month its adjustments are 0.
use Rattle.std.proofs.Common.{◌≡◌, ℕ, ◌<◌, ◌≤◌, true, ◌⊎◌, List, [], ◌∷◌, ◌++◌, length, get_or, pos, Some, ap, ◌∙◌, inl, inr, arith}
use Rattle.std.specs.List.{AllByRecursion}
use Rattle.std.proofs.ByRecursion.{All-weaker}
use Rattle.std.proofs.lemmas.List.{length_push, get_or_push, get_or_append_left}
use Rattle.std.proofs.lemmas.Bool.{cases_lt, lt-ltb, ne_eqb, and_from}
use Rattle.pricing.specs.Pricing.{expiry_day}
use Rattle.amounts.specs.declared.trades.Trade.{Trade}
use Rattle.amounts.specs.Trades.{contracts_of}
use Rattle.model.specs.History.{History, Event, Amounts, Listed, Traded, Closed}
use Rattle.model.specs.Lawful.{Lawful}
use Rattle.model.specs.Moves.{InTime, TradesInTime}
use Rattle.model.specs.Observed.{months_of, is_listed, expiry_at, rate_on, opened_days, latest_opened, open_session, next_from, session_day, trades_of, settlement_price}
use Rattle.model.specs.Positions.{has_ended, corrected_to, adjustment_at}
use Rattle.model.specs.Sessions.{Session, sessions_of, has_reached}
use Rattle.model.specs.World.{World}
use Rattle.model.proofs.Allowing.{open-on, trading, closing}
use Rattle.model.proofs.Cells.{gain-none, trades-none, cells}
use Rattle.model.proofs.EachTrade.{of-trades}
use Rattle.model.proofs.SessionOrder.{all_among, in_order}
use Rattle.model.proofs.Expiring.{listed-stays, months-stay, listed-later, expiry-opened}

pub in-time-stays : (w : World) (h : History) (e : Event) (day : ℕ) (t : Trade) → InTime w h day t → InTime w (e ∷ h) day t
in-time-stays w h e day t i = (listed-stays h e t.month i.0, rw (months-stay w h e t.month i.0) i.1)

-- a trade that is accepted is in a month that expires after the session
pub in-time : (w : World) (h : History) (t : Trade) → Lawful w (Traded t ∷ h) → InTime w h (session_day h) t
in-time w h t l = let x = trading w h t l.0 in (x.month, rw x.session.day x.before-expiry)

pub trades-in-time : TradesInTime
trades-in-time w h l = of-trades w (InTime w) (in-time w) (in-time-stays w) h l

pub no-contracts : (a m : ℕ) (t : Trade) → (t.month ≡ m → ⊥) → contracts_of a m t ≡ pos 0
no-contracts a m t n = rw (ne_eqb t.month m n)

-- none is in a month that expires before it or on it
pub other-months : (w : World) (h : History) (a m : ℕ) → Lawful w h → expiry_at w h m ≤ session_day h → AllByRecursion (λ t. contracts_of a m t ≡ pos 0) (trades_of h)
other-months w h a m l b =
    All-weaker (InTime w h (session_day h)) (λ t. contracts_of a m t ≡ pos 0)
    (λ t x. no-contracts a m t (λ e. let y = ap (expiry_at w h) e in omega (arith, x.1))) (trades_of h) (trades-in-time w h l).1

-- a month whose expiry is before the open session has expired
pub expired-before : (w : World) (h : History) (m d : ℕ) → Lawful w h → open_session h ≡ Some d → m < length (months_of h) → expiry_at w h m < d
    → has_ended w h m ≡ true
expired-before w h m d l o i b =
    let n : expiry_at w h m < next_from w.start (latest_opened h) = rw (open-on h d o).latest (omega arith) in
    let r = all_among (λ x. (has_reached x (sessions_of w h) ≡ true) ⊎ (open_session h ≡ Some x)) (expiry_at w h m) (opened_days h)
    (in_order w h l).reached (expiry-opened w h m l i n) in
    and_from (is_listed h m) (has_reached (expiry_at w h m) (sessions_of w h)) (lt-ltb m (length (months_of h)) i)
    (elim r [ inl t ↦ t | inr e ↦ absurd (let q : d ≡ expiry_at w h m = cc in omega arith) ])

-- a close after the expiry adjusts nothing
after : (w : World) (h : History) (c : Amounts) → Lawful w (Closed c ∷ h) → (a m : ℕ) → m < length (months_of h) → expiry_at w h m < session_day h
    → c.adjustments a m ≡ pos 0
after w h c l a m i b =
    let s = closing w h c l.0 in
    let x = expired-before w h m s.day l.1 s.session.is_open i (omega (arith, s.session.day)) in
    cells w h c l a m ∙ nothing x
  where
    nothing : has_ended w h m ≡ true → adjustment_at w h a m ≡ pos 0
    nothing x =
        let price = settlement_price w h m in
        rw (trades-none a m price (trades_of h) (other-months w h a m l.1 (omega arith)), x, gain-none price (corrected_to w (rate_on w h) (session_day h) (sessions_of w h) m))

abbrev Ended : World → List ℕ → List Session → Type 0
Ended w ms ss = (a m : ℕ) → m < length ms → AllByRecursion (λ s. expiry_day w.kinds (get_or ms m 0) < s.day → s.amounts.adjustments a m ≡ pos 0) ss

-- the sessions before a month was listed are before its expiry
lists : (w : World) (h : History) (n : ℕ) → Lawful w (Listed n ∷ h) → Ended w (months_of h) (sessions_of w h) → Ended w (months_of h ++ n ∷ []) (sessions_of w h)
lists w h n l e a m i =
    elim (cases_lt m (length (months_of h))) [
      | inl j ↦ rw (get_or_append_left (months_of h) (n ∷ []) 0 m j) (e a m j)
      | inr j ↦
          let q : length (months_of h) ≡ m = omega (arith, length_push (months_of h) n) in
          rw (get_or_push (months_of h) n 0 m q)
          (All-weaker (λ s. s.day < next_from w.start (latest_opened h)) (λ s. expiry_day w.kinds n < s.day → s.amounts.adjustments a m ≡ pos 0)
          (λ s x y. absurd (omega (arith, (listed-later w h n l).1))) (sessions_of w h) (in_order w h l.1).closed-below)
    ]

-- after the expiry of a listed month every close wrote 0 for it
pub ended : (w : World) (h : History) → Lawful w h → (a m : ℕ) → m < length (months_of h)
    → AllByRecursion (λ s. expiry_at w h m < s.day → s.amounts.adjustments a m ≡ pos 0) (sessions_of w h)
ended w [] l = λ a m i. tt
ended w (Listed n ∷ h) l = lists w h n l (ended w h l.1)
ended w (Closed c ∷ h) l = λ a m i. (after w h c l a m i, ended w h l.1 a m i)
ended w (e ∷ h) l = ended w h l.1
