-- What moves a position.
use Rattle.std.proofs.Common.{◌≡◌, ℕ, ◌≤◌, Bool, true, false, cond, ◌&&◌, leb, List, [], ◌∷◌, ◌++◌, length, pos, ◌+ℤ◌, None, sym, refl, ap, ◌∙◌, inl, inr, arith}
use Rattle.std.proofs.lemmas.List.{length_push, get_or_push, get_or_append_left}
use Rattle.std.proofs.lemmas.Bool.{true≢false, cases_lt, ltb-true, leb-false, lt-ltb, le-ltb}
use Rattle.amounts.specs.declared.trades.Trade.{Trade}
use Rattle.amounts.specs.Trades.{contracts_of, position_change}
use Rattle.amounts.proofs.Totals.{total-append}
use borrow.Author.Differences.{ints}
use Rattle.pricing.specs.Pricing.{expiry_day}
use Rattle.model.specs.World.{World}
use Rattle.model.specs.History.{History, Event, Amounts, Listed, Traded, Closed, trade_made, amounts_written, gather}
use Rattle.model.specs.Lawful.{Lawful}
use Rattle.model.specs.Moves.{is_expired, PositionsMove}
use Rattle.model.specs.Observed.{months_of, is_listed, expiry_at, latest_opened, next_from, session_day}
use Rattle.model.specs.Positions.{has_ended, position_of}
use Rattle.model.specs.Sessions.{sessions_of, has_reached}
use Rattle.model.proofs.Allowing.{trading, closing}
use Rattle.model.proofs.Ended.{no-contracts}
use Rattle.model.proofs.Expiring.{listed-later}
use Rattle.model.proofs.Falling.{unreached}
use Rattle.model.proofs.SessionOrder.{in_order, open-later}

-- the month that is listed has its expiry still to come, and nothing changes for the others
listing-ends : (w : World) (h : History) (n m : ℕ) → Lawful w (Listed n ∷ h) → has_ended w (Listed n ∷ h) m ≡ has_ended w h m
listing-ends w h n m l =
    elim (cases_lt m (length (months_of h))) [
      | inl j ↦
          rw (lt-ltb m (length (months_of h ++ n ∷ [])) (rw (length_push (months_of h) n) (omega arith)), get_or_append_left (months_of h) (n ∷ []) 0 m j, lt-ltb m (length (months_of h)) j)
          refl
      | inr j ↦ rw (le-ltb m (length (months_of h)) j) (by (is_listed (Listed n ∷ h) m) refl j)
    ]
  where
    by : (b : Bool) → is_listed (Listed n ∷ h) m ≡ b → length (months_of h) ≤ m → (b && has_reached (expiry_at w (Listed n ∷ h) m) (sessions_of w h)) ≡ false
    by true e j =
        let q : length (months_of h) ≡ m = let k = ltb-true m (length (months_of h ++ n ∷ [])) e in omega (arith, length_push (months_of h) n) in
        rw (get_or_push (months_of h) n 0 m q)
        (unreached (next_from w.start (latest_opened h)) (expiry_day w.kinds n) (sessions_of w h) (in_order w h l.1).closed-below (listed-later w h n l).1)
    by false e j = refl

-- only a close ends a month
pub ended-stays : (w : World) (e : Event) (h : History) (m : ℕ) → Lawful w (e ∷ h) → amounts_written e ≡ None → has_ended w (e ∷ h) m ≡ has_ended w h m
ended-stays w (Listed n) h m l q = listing-ends w h n m l
ended-stays w (Closed c) h m l q = absurd cc
ended-stays w e h m l q = refl

-- a month that can be traded has not ended
traded-goes-on : (w : World) (h : History) (t : Trade) → Lawful w (Traded t ∷ h) → has_ended w h t.month ≡ false
traded-goes-on w h t l =
    let x = trading w h t l.0 in
    rw (lt-ltb t.month (length (months_of h)) x.month)
    (unreached x.day (expiry_at w h t.month) (sessions_of w h) (open-later w h x.day l.1 x.session.is_open) (omega (arith, x.before-expiry)))

-- a trade more
pub one_more : (a m : ℕ) (ts : List Trade) (t : Trade) → position_change a m ts +ℤ contracts_of a m t ≡ position_change a m (ts ++ t ∷ [])
one_more a m ts t = let e = total-append (contracts_of a m) ts (t ∷ []) in omega (arith, ints)

pub trade-moves : (w : World) (h : History) (t : Trade) (a m : ℕ) → Lawful w (Traded t ∷ h)
    → position_of w (Traded t ∷ h) a m ≡ position_of w h a m +ℤ contracts_of a m t
trade-moves w h t a m l =
    rw (ended-stays w (Traded t) h m l refl, sym (one_more a m (gather trade_made h) t)) (by (has_ended w h m) refl)
  where
    by : (b : Bool) → has_ended w h m ≡ b
        → cond b (pos 0) (position_change a m (gather trade_made h) +ℤ contracts_of a m t) ≡ cond b (pos 0) (position_change a m (gather trade_made h)) +ℤ contracts_of a m t
    by true e = rw (no-contracts a m t (λ q. true≢false (sym e ∙ ap (has_ended w h) (sym q) ∙ traded-goes-on w h t l))) refl
    by false e = refl

-- a month that ends in no session up to this one has not ended before
pub close-moves : (w : World) (h : History) (c : Amounts) (a m : ℕ) → Lawful w (Closed c ∷ h)
    → position_of w (Closed c ∷ h) a m ≡ cond (is_expired w h m) (pos 0) (position_of w h a m)
close-moves w h c a m l = by (is_expired w h m) refl
  where
    earlier : (x : Bool) → (x && leb (expiry_at w h m) (session_day h)) ≡ false → (x && has_reached (expiry_at w h m) (sessions_of w h)) ≡ false
    earlier true e =
        let o = (closing w h c l.0).session in
        let b = leb-false (expiry_at w h m) (session_day h) e in
        unreached (session_day h) (expiry_at w h m) (sessions_of w h) (rw (sym o.day) at (open-later w h (closing w h c l.0).day l.1 o.is_open)) (omega arith)
    earlier false e = refl

    by : (b : Bool) → is_expired w h m ≡ b → cond b (pos 0) (position_change a m (gather trade_made h)) ≡ cond b (pos 0) (position_of w h a m)
    by true e = refl
    by false e = rw (earlier (is_listed h m) e) refl

pub still-held : (w : World) (e : Event) (h : History) (a m : ℕ) → Lawful w (e ∷ h) → trade_made e ≡ None → amounts_written e ≡ None → position_of w (e ∷ h) a m ≡ position_of w h a m
still-held w e h a m l t q = rw (ended-stays w e h m l q, t) refl

pub positions-move : PositionsMove
positions-move = record { trade = trade-moves; close = close-moves; still = still-held }
