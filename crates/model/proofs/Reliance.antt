-- What the close of a session can rely on: positions, prices and the gap are small.
use Rattle.std.proofs.Common.{◌≡◌, ℕ, ◌+◌, ◌-◌, ◌*◌, ◌<◌, ◌≤◌, Bool, true, false, cond, ◌&&◌, eqb, List, [], ◌∷◌, map, length, pos, ◌+ℤ◌, ◌-ℤ◌, Some, None, Option, unwrap_or, sym, refl, ap, ◌∙◌, inl, inr, mul-le-mul_left, arith}
use borrow.Author.Differences.{ints}
use Rattle.std.specs.List.{range_with_len, AllByRecursion}
use Rattle.std.proofs.lemmas.List.FromFn.{length-range_with_len}
use Rattle.std.proofs.lemmas.List.{length-map}
use Rattle.std.proofs.lemmas.List.Sums.{length-filter, count_by-le-length}
use Rattle.std.proofs.lemmas.Bool.{both_ways, cases_lt, and_parts, cond_both}
use Rattle.calendar.specs.declared.kind.DayKind.{DayKind}
use Rattle.calendar.specs.Kinds.{is_reserve}
use Rattle.calendar.proofs.Spans.{days-none}
use Rattle.calendar.specs.Spans.{IsFirstSession, days_by, reserve_days, first_in}
use Rattle.correction.specs.Gaps.{factor_on, factors, corrected_price}
use Rattle.interest.specs.Correction.{corrected_day, corrected}
use Rattle.interest.specs.Price.{day_factor}
use Rattle.interest.proofs.Bounds.{day-factor-most}
use Rattle.interest.proofs.Corrections.{corrected-none, corrected-first}
use Rattle.amounts.specs.Amounts.{adjustment_of}
use Rattle.amounts.specs.Trades.{contracts_of, position_change}
use Rattle.rates.specs.Meanings.{or_else}
use Rattle.model.specs.World.{World}
use Rattle.model.specs.History.{History, Opened, Marked, Closed, trade_made, gather}
use Rattle.model.specs.Observed.{is_listed, expiry_at, rate_on, latest_opened, session_day, open_session, next_from, trades_of, mark_of, settlement_price}
use Rattle.model.specs.Sessions.{Session, sessions_of, latest_closed, has_reached, gap_since, gap_to}
use Rattle.model.specs.Positions.{has_ended, contracts_in, position_of, carried_of, corrected_to}
use Rattle.model.specs.Lawful.{Lawful}
use Rattle.model.specs.Closing.{CarriedBefore, CarriedLimited, GapShort, CorrectedLimited, AdjustmentSeen}
use Rattle.model.specs.Limits.{RatesLimited}
use Rattle.model.proofs.Allowing.{open-on, marking, opening, closing}
use Rattle.model.proofs.Dealt.{dealt-split}
use Rattle.model.proofs.Cells.{total-none}
use Rattle.model.proofs.Ended.{other-months}
use Rattle.model.proofs.Falling.{unreached}
use Rattle.model.proofs.Limits.{cond-within, positions-limited}
use Rattle.model.proofs.Moving.{ended-stays}
use Rattle.model.proofs.SessionOrder.{next-first, open-later}

-- an expired month expired before the open session
expired-earlier : (w : World) (h : History) (d m : ℕ) → Lawful w h → open_session h ≡ Some d → has_ended w h m ≡ true → expiry_at w h m < d
expired-earlier w h d m l o x =
    let r = (and_parts (is_listed h m) (has_reached (expiry_at w h m) (sessions_of w h)) x).1 in
    elim (cases_lt (expiry_at w h m) d) [
      | inl lt ↦ lt
      | inr le ↦ absurd (both_ways (has_reached (expiry_at w h m) (sessions_of w h)) (unreached d (expiry_at w h m) (sessions_of w h) (open-later w h d l o) le) r)
    ]

-- the position that the session began with is the present one less what the session's trades changed
pub carried-before : CarriedBefore
carried-before w h d a m l o = by (has_ended w h m) refl
  where
    split : position_change a m (gather trade_made h) ≡ contracts_in a m (sessions_of w h) +ℤ position_change a m (trades_of h)
    split = rw o at (dealt-split w (contracts_of a m) h l)

    by : (b : Bool) → has_ended w h m ≡ b
        → cond b (pos 0) (contracts_in a m (sessions_of w h)) ≡ cond b (pos 0) (position_change a m (gather trade_made h)) -ℤ position_change a m (trades_of h)
    by true x =
        let e = expired-earlier w h d m l o x in
        let n = total-none (contracts_of a m) (trades_of h) (other-months w h a m l (omega (arith, (open-on h d o).day))) in
        omega (arith, ints)
    by false x = omega (arith, ints, split)

-- with no session open all trades are those of closed sessions
carried-closed : (w : World) (h : History) → Lawful w h → open_session h ≡ None → (a m : ℕ) → carried_of w h a m ≡ position_of w h a m
carried-closed w h l o a m =
    let e = rw o at (dealt-split w (contracts_of a m) h l) in
    let f : contracts_in a m (sessions_of w h) ≡ position_change a m (gather trade_made h) = omega (arith, ints, e) in
    ap (λ x. cond (has_ended w h m) (pos 0) x) f

-- no position that a session began with passes 500,000 contracts
pub carried-limited : CarriedLimited
carried-limited w [] a m l = cond-within (has_ended w [] m) (pos 0) (omega (arith, ints))
carried-limited w (Closed c ∷ h) a m l = rw (carried-closed w (Closed c ∷ h) l refl a m) (positions-limited w (Closed c ∷ h) a m l)
carried-limited w (e ∷ h) a m l = rw (ended-stays w e h m l refl) (carried-limited w h a m l.1)

-- a mark of a session is at most 10,000,000
mark-limited : (w : World) (h : History) → Lawful w h → (m : ℕ) → unwrap_or (mark_of h m) 0 ≤ 10000000
mark-limited w [] l m = omega arith
mark-limited w (Opened d ∷ h) l m = omega arith
mark-limited w (Marked x p ∷ h) l m =
    let k = mark-limited w h l.1 m in
    cond_both (eqb m x) (Some p) None (λ o. unwrap_or (or_else o (mark_of h m)) 0 ≤ 10000000) (λ e. marking w h x p l.0) (λ e. k)
mark-limited w (e ∷ h) l m = mark-limited w h l.1 m

-- a settlement price is at most 10,000,000
pub price-limited : (w : World) (h : History) → Lawful w h → (m : ℕ) → settlement_price w h m ≤ 10000000
price-limited w h l m =
    cond_both (is_listed h m && eqb (session_day h) (expiry_at w h m)) 10000000 (unwrap_or (mark_of h m) 0) (λ p. p ≤ 10000000) (λ e. omega arith) (λ e. mark-limited w h l m)

pub prices-limited : (w : World) (h : History) → Lawful w h → AllByRecursion (λ s. (m : ℕ) → s.prices m ≤ 10000000) (sessions_of w h)
prices-limited w [] l = tt
prices-limited w (Closed c ∷ h) l = (price-limited w h l.1, prices-limited w h l.1)
prices-limited w (e ∷ h) l = prices-limited w h l.1

-- with no session open the latest session is the latest that was closed
pub closed-latest : (w : World) (h : History) → Lawful w h → open_session h ≡ None → latest_opened h ≡ latest_closed w h
closed-latest w [] l o = refl
closed-latest w (Opened d ∷ h) l o = absurd cc
closed-latest w (Closed c ∷ h) l o = let s = (closing w h c l.0).session in s.latest ∙ ap Some (sym s.day)
closed-latest w (e ∷ h) l o = closed-latest w h l.1 o

-- a range has no more days of a kind than days
days-few : (t : DayKind → Bool) (k : ℕ → DayKind) (from to : ℕ) → length (days_by t k from to) ≤ to - from
unfolding days_by
days-few t k from to =
    let days = range_with_len from (to - from) in
    omega (arith, length-filter (λ d. t (k d)) days, count_by-le-length (λ d. t (k d)) days, length-range_with_len from (to - from))

-- a session that is the first of the 60 days after the latest closed one has a short gap
first_short : (w : World) (d : ℕ) (ss : List Session) (latest : Option ℕ) → latest ≡ first_in (map (λ s. s.day) ss)
    → IsFirstSession w.kinds (next_from w.start latest) (next_from w.start latest + 60) (Some d) → length (gap_to w d ss) ≤ 60
first_short w d [] latest e f = omega arith
first_short w d (s ∷ ss) latest e f =
    let b : d < s.day + 1 + 60 = rw e at f.1 in
    omega (arith, days-few is_reserve w.kinds s.day d)

-- the gap of an open session has at most 60 reserve days
open-gap : (w : World) (h : History) (d : ℕ) → Lawful w h → open_session h ≡ Some d → length (gap_to w d (sessions_of w h)) ≤ 60
open-gap w [] d l o = absurd cc
open-gap w (Opened x ∷ h) d l o =
    let q : x ≡ d = cc in
    rw (sym q)
    (first_short w x (sessions_of w h) (latest_opened h) (closed-latest w h l.1 (opening w h x l.0)) (next-first w h x l))
open-gap w (Closed c ∷ h) d l o = absurd cc
open-gap w (e ∷ h) d l o = open-gap w h d l.1 o

-- none of the latest session, if it is closed
shut-gap : (kinds : ℕ → DayKind) (latest closed : Option ℕ) → latest ≡ closed → length (gap_since kinds closed (unwrap_or latest 0)) ≤ 60
shut-gap kinds latest None e = omega arith
shut-gap kinds latest (Some d) e = rw (e, days-none is_reserve kinds d d (omega arith)) (omega arith)

pub gap-short : GapShort
gap-short w h l = by (open_session h) refl
  where
    by : (o : Option ℕ) → open_session h ≡ o → length (gap_since w.kinds (latest_closed w h) (session_day h)) ≤ 60
    by None e = shut-gap w.kinds (latest_opened h) (latest_closed w h) (closed-latest w h l e)
    by (Some d) e = rw (open-on h d e).day (open-gap w h d l e)

-- a day adds at most 55,089 to a price of at most 20,000,000
day-adds : (price g : ℕ) → price ≤ 20000000 → g ≤ 100275437 → corrected_day price g ≤ price + 55089
day-adds price g p b = let m = mul-le-mul_left price b in omega arith

days-add : (price : ℕ) (gs : List ℕ) → AllByRecursion (λ g. g ≤ 100275437) gs → price + 55089 * length gs ≤ 20000000
    → corrected price gs ≤ price + 55089 * length gs
days-add price [] b p = rw (corrected-none price) (omega arith)
days-add price (g ∷ gs) b p =
    let a = day-adds price g (omega arith) b.0 in
    let k = days-add (corrected_day price g) gs b.1 (omega arith) in
    rw (corrected-first price g gs) (omega arith)

pub corrected-small : (price : ℕ) (gs : List ℕ) → price ≤ 10000000 → AllByRecursion (λ g. g ≤ 100275437) gs → length gs ≤ 60 → corrected price gs ≤ 13305340
corrected-small price gs p b n = let k = days-add price gs b (omega arith) in omega arith

-- the factor of a day, and those of days
factor-small : (rates : ℕ → Option ℕ) → RatesLimited rates → (d : ℕ) → factor_on rates d ≤ 100275437
factor-small rates b d = by (rates d) refl
  where
    by : (o : Option ℕ) → rates d ≡ o → day_factor (unwrap_or o 0) ≤ 100275437
    by None e = day-factor-most 0 (omega arith)
    by (Some r) e = day-factor-most r (b d r e)

factors-small : (rates : ℕ → Option ℕ) → RatesLimited rates → (days : List ℕ) → AllByRecursion (λ g. g ≤ 100275437) (factors rates days)
factors-small rates b [] = tt
factors-small rates b (d ∷ days) = (factor-small rates b d, factors-small rates b days)

-- a price of at most 10,000,000, corrected over a short gap
pub corrected-most : (kinds : ℕ → DayKind) (rates : ℕ → Option ℕ) → RatesLimited rates → (from to price : ℕ) → length (reserve_days kinds from to) ≤ 60 → price ≤ 10000000
    → corrected_price kinds rates from to price ≤ 13305340
corrected-most kinds rates b from to price n p =
    let days = reserve_days kinds from to in
    corrected-small price (factors rates days) p (factors-small rates b days) (rw (length-map days (factor_on rates)) n)

-- the latest settlement price, corrected to the latest session
pub corrected-limited : CorrectedLimited
corrected-limited w h m l b = by (sessions_of w h) (prices-limited w h l) (gap-short w h l)
  where
    by : (ss : List Session) → AllByRecursion (λ s. (m : ℕ) → s.prices m ≤ 10000000) ss → length (gap_to w (session_day h) ss) ≤ 60 → corrected_to w (rate_on w h) (session_day h) ss m ≤ 13305340
    by [] p n = omega arith
    by (s ∷ ss) p n = corrected-most w.kinds (rate_on w h) b s.day (session_day h) (s.prices m) n (p.0 m)

-- the adjustment of the rules, on what is known at the close
pub adjustment-seen : AdjustmentSeen
adjustment-seen w h d a m l o =
    ap (λ z. adjustment_of a m (settlement_price w h m) (trades_of h) z (corrected_to w (rate_on w h) (session_day h) (sessions_of w h) m)) (carried-before w h d a m l o)
