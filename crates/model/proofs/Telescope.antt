-- The value of trades against the adjustments of their sessions: session after session, all but the rounding cancels.
use Rattle.std.proofs.Common.{◌≡◌, ℕ, ◌+◌, ◌*◌, ◌^◌, ◌<◌, ◌≤◌, List, [], ◌∷◌, length, ℤ, pos, ◌+ℤ◌, ◌-ℤ◌, ◌*ℤ◌, nat_abs, sum_by, Option, sym, refl, ap, ◌∙◌, mul_assoc, mul_comm, mul-le-mul_left, arith}
use mathlib.Core.Path.{fun_ext}
use lib.IntN.{+ℤ_idr, zero-*ℤ}
use borrow.Author.Differences.{ints}
use Rattle.std.specs.List.{AllByRecursion}
use Rattle.std.proofs.ByRecursion.{All-weaker}
use Rattle.std.proofs.lemmas.List.{length-map}
use Rattle.std.proofs.lemmas.List.Sums.{sum_by-append}
use Rattle.std.proofs.lemmas.Bool.{le-leb, lt-leb}
use Rattle.calendar.specs.Kinds.{is_reserve}
use Rattle.calendar.specs.Spans.{reserve_days}
use Rattle.calendar.proofs.Spans.{days-split}
use Rattle.correction.specs.Gaps.{factor_on, factors, corrected_price}
use Rattle.interest.specs.Rounding.{drift}
use Rattle.interest.proofs.Corrections.{combine, rounded}
use Rattle.interest.proofs.Ring.{expands, sums, abs-mul}
use Rattle.amounts.specs.declared.trades.Trade.{Trade}
use Rattle.amounts.specs.Sums.{total}
use Rattle.amounts.specs.Trades.{contracts_of, position_change}
use Rattle.amounts.specs.Amounts.{gain_of, on_trades, adjustment_of}
use Rattle.model.specs.World.{World}
use Rattle.model.specs.Sessions.{Session, up_to, oldest_day, newest_day, newest_price}
use Rattle.model.specs.Positions.{contracts_in, corrected_to}
use Rattle.model.specs.Value.{scale_of, scaled_adjustments, scaled_value, held_on, scaled_holdings}
use Rattle.model.proofs.Cells.{gain-none}
use Rattle.model.proofs.Falling.{Falling}
use Rattle.model.proofs.Scales.{sums_same, sums-times, days-within, growth, unit, unit-split, scale-on, scale-here, days-drift}

-- ---- the claim, over sessions that count for a month
-- the inequality, with the last price scaled and the reserve days given
abbrev pub WithinTolerance : (ℕ → ℕ) → ℕ → List ℕ → ℕ → ℕ → List Session → Type 0
WithinTolerance scale last_scaled days a m ss =
    nat_abs (pos 20 *ℤ scaled_adjustments scale a m ss -ℤ pos 20 *ℤ scaled_value scale last_scaled a m ss) ≤ 10 * scaled_holdings scale a m ss days

-- the newest of them is its last
abbrev pub WithinFrom : World → (ℕ → Option ℕ) → ℕ → ℕ → ℕ → List Session → Type 0
WithinFrom w rates first a m ss =
    WithinTolerance (scale_of w.kinds rates first (newest_day ss)) (newest_price m ss * scale_of w.kinds rates first (newest_day ss) (newest_day ss))
    (reserve_days w.kinds first (newest_day ss)) a m ss

-- ---- the trades of a session
module _ (a m : ℕ) where
  -- contracts at their prices
  abbrev pub cost_of : List Trade → ℤ
  cost_of ts = total (λ t. contracts_of a m t *ℤ pos t.price) ts

  more : (c w p k x y : ℤ) → c *ℤ (w -ℤ p *ℤ k) +ℤ (x *ℤ w -ℤ y *ℤ k) ≡ (c +ℤ x) *ℤ w -ℤ (c *ℤ p +ℤ y) *ℤ k
  more c w p k x y = simp expands (omega (arith, sums))

  -- each trade from its price times k to w
  trades-split : (w k : ℤ) (ts : List Trade)
      → total (λ t. contracts_of a m t *ℤ (w -ℤ pos t.price *ℤ k)) ts ≡ position_change a m ts *ℤ w -ℤ cost_of ts *ℤ k
  trades-split w k [] = omega (arith, ints)
  trades-split w k (t ∷ ts) =
      rw (trades-split w k ts) (more (contracts_of a m t) w (pos t.price) k (position_change a m ts) (cost_of ts))

  by_one : (p w : ℤ) → w -ℤ p ≡ w -ℤ p *ℤ pos 1
  by_one p w = omega (arith, ints)

  on-trades : (p : ℕ) (ts : List Trade) → on_trades a m p ts ≡ position_change a m ts *ℤ pos p -ℤ cost_of ts *ℤ pos 1
  unfolding on_trades gain_of
  on-trades p ts =
      ap (λ f. total (λ t. contracts_of a m t *ℤ f t) ts) (fun_ext (λ t. by_one (pos t.price) (pos p))) ∙ trades-split (pos p) (pos 1) ts

  -- ---- many sessions
  -- the cost of the trades, scaled
  abbrev pub cost_over : (ℕ → ℕ) → List Session → ℤ
  cost_over scale ss = total (λ s. cost_of s.trades *ℤ pos (scale s.day)) ss

  split-more : (q w c k x y : ℤ) → (q *ℤ w -ℤ c *ℤ k) +ℤ (x *ℤ w -ℤ y) ≡ (q +ℤ x) *ℤ w -ℤ (c *ℤ k +ℤ y)
  split-more q w c k x y = simp expands (omega (arith, sums))

  pub value-split : (scale : ℕ → ℕ) (end : ℕ) (ss : List Session)
      → scaled_value scale end a m ss ≡ contracts_in a m ss *ℤ pos end -ℤ cost_over scale ss
  value-split scale end [] = omega (arith, ints)
  value-split scale end (s ∷ ss) =
      rw (trades-split (pos end) (pos (scale s.day)) s.trades, value-split scale end ss)
      (split-more (position_change a m s.trades) (pos end) (cost_of s.trades) (pos (scale s.day)) (contracts_in a m ss) (cost_over scale ss))

-- a sum over sessions, scaled further
regroup : (f b g x : ℤ) → f *ℤ (b *ℤ g) +ℤ x *ℤ g ≡ (f *ℤ b +ℤ x) *ℤ g
regroup f b g x = simp expands (omega (arith, sums))

total-on : (f : Session → ℤ) (scale further : ℕ → ℕ) (g : ℕ) (ss : List Session) → AllByRecursion (λ s. further s.day ≡ scale s.day * g) ss
    → total (λ s. f s *ℤ pos (further s.day)) ss ≡ total (λ s. f s *ℤ pos (scale s.day)) ss *ℤ pos g
total-on f scale further g [] h = sym (zero-*ℤ (pos g))
total-on f scale further g (s ∷ ss) h =
    rw (h.0, total-on f scale further g ss h.1) (regroup (f s) (pos (scale s.day)) (pos g) (total (λ s. f s *ℤ pos (scale s.day)) ss))

-- ---- sessions up to a day
pub all-kept : (d : ℕ) (ss : List Session) → AllByRecursion (λ s. s.day ≤ d) ss → up_to d ss ≡ ss
all-kept d [] h = refl
all-kept d (s ∷ ss) h = rw (le-leb s.day d h.0, all-kept d ss h.1)

later-left : (d : ℕ) (s : Session) (ss : List Session) → d < s.day → up_to d (s ∷ ss) ≡ up_to d ss
later-left d s ss h = rw (lt-leb s.day d h)

pub oldest-first : (s : Session) (ss : List Session) → Falling (s ∷ ss) → oldest_day s.day ss ≤ s.day
oldest-first s [] f = omega arith
oldest-first s (r ∷ ss) f = let o = oldest-first r ss f.1 in let l = f.0.0 in omega arith

-- the sessions before are not later
up-to : (s : Session) (ss : List Session) → Falling (s ∷ ss) → AllByRecursion (λ r. r.day ≤ s.day) (s ∷ ss)
up-to s ss f = (omega arith, All-weaker (λ r. r.day < s.day) (λ r. r.day ≤ s.day) (λ r l. omega arith) ss f.0)

-- ---- one session more
step-eq : (x y q p p' s c g n t k : ℤ)
    → ((t *ℤ p' -ℤ k *ℤ pos 1 +ℤ q *ℤ (p' -ℤ c)) *ℤ (s *ℤ n) +ℤ x *ℤ g) -ℤ ((t +ℤ q) *ℤ (p' *ℤ (s *ℤ n)) -ℤ (k *ℤ (s *ℤ n) +ℤ y *ℤ g))
    ≡ (x -ℤ (q *ℤ (p *ℤ s) -ℤ y)) *ℤ g +ℤ (q *ℤ (p *ℤ g -ℤ c *ℤ n)) *ℤ s
step-eq x y q p p' s c g n t k =
    let one : k *ℤ pos 1 ≡ k = omega (arith, ints) in rw one (simp expands (omega (arith, sums)))

start-eq : (t p k x s : ℤ) → ((t *ℤ p -ℤ k *ℤ pos 1 +ℤ x) *ℤ s +ℤ pos 0) -ℤ ((t +ℤ pos 0) *ℤ (p *ℤ s) -ℤ (k *ℤ s +ℤ pos 0)) ≡ x *ℤ s
start-eq t p k x s =
    let one : k *ℤ pos 1 ≡ k = omega (arith, ints) in
    rw (one, +ℤ_idr ((t *ℤ p -ℤ k +ℤ x) *ℤ s), +ℤ_idr t, +ℤ_idr (k *ℤ s)) (simp expands (omega (arith, sums)))

-- what was apart grows with the factors, and the rounding of the corrected price is added
one_more : (x y q t k cell : ℤ) (p p' s c g n s' d h : ℕ) → s' ≡ s * n → cell ≡ t *ℤ pos p' -ℤ k *ℤ pos 1 +ℤ q *ℤ (pos p' -ℤ pos c)
    → 2 * nat_abs (x -ℤ (q *ℤ pos (p * s) -ℤ y)) ≤ h → 2 * nat_abs (pos (p * g) -ℤ pos (c * n)) ≤ d
    → 2 * nat_abs ((cell *ℤ pos s' +ℤ x *ℤ pos g) -ℤ ((t +ℤ q) *ℤ pos (p' * s') -ℤ (k *ℤ pos s' +ℤ y *ℤ pos g))) ≤ h * g + nat_abs q * d * s
one_more x y q t k cell p p' s c g n s' d h e is within round =
    let z = pos (p * g) -ℤ pos (c * n) in
    let r : 2 * nat_abs (q *ℤ z) ≤ nat_abs q * d = omega (arith, abs-mul q z, mul-le-mul_left (nat_abs q) round) in
    let both = combine (x -ℤ (q *ℤ pos (p * s) -ℤ y)) (q *ℤ z) g s h (nat_abs q * d) within r in
    rw (e, is, step-eq x y q (pos p) (pos p') (pos s) (pos c) (pos g) (pos n) t k) both

twenty : (x y : ℤ) (n : ℕ) → 2 * nat_abs (x -ℤ y) ≤ n → nat_abs (pos 20 *ℤ x -ℤ pos 20 *ℤ y) ≤ 10 * n
twenty x y n h = omega (arith, ints)

module _ (w : World) (rates : ℕ → Option ℕ) (a m : ℕ) where
  -- the adjustment of a session is that of the rules, after the sessions before it
  abbrev pub Adjusted : Session → List Session → Type 0
  Adjusted s ss =
      s.amounts.adjustments a m ≡ adjustment_of a m (s.prices m) s.trades (contracts_in a m ss) (corrected_to w rates s.day ss m)

  abbrev pub Ruled : List Session → Type 0
  Ruled [] = Unit {0}
  Ruled (s ∷ ss) = Adjusted s ss × Ruled ss

  module _ (first : ℕ) where
    abbrev scale : ℕ → ℕ → ℕ
    scale last d = scale_of w.kinds rates first last d

    -- twice the distance is at most what is held
    abbrev Close : Session → List Session → Type 0
    Close s ss =
        2 * nat_abs (scaled_adjustments (scale s.day) a m (s ∷ ss) -ℤ scaled_value (scale s.day) (s.prices m * scale s.day s.day) a m (s ∷ ss))
        ≤ scaled_holdings (scale s.day) a m (s ∷ ss) (reserve_days w.kinds first s.day)

    start : (s : Session) → Adjusted s [] → Close s []
    start s h =
        let k = scale s.day s.day in
        let t = position_change a m s.trades in
        let p = s.prices m in
        let c = cost_of a m s.trades in
        let cell : s.amounts.adjustments a m ≡ t *ℤ pos p -ℤ c *ℤ pos 1 +ℤ pos 0 =
        rw (on-trades a m p s.trades, gain-none p 0) at h in
        let v = value-split a m (scale s.day) (p * k) (s ∷ []) in
        rw (cell, v, start-eq t (pos p) c (pos 0) (pos k) ∙ zero-*ℤ (pos k)) (omega arith)

    on-carried : (q : ℤ) (p c : ℕ) → gain_of q p c ≡ q *ℤ (pos p -ℤ pos c)
    unfolding gain_of
    on-carried q p c = refl

    -- a day before the last session but one
    held-before : (r s : Session) (ss : List Session) (d : ℕ) → d < s.day → s.day < r.day
        → held_on a m (r ∷ s ∷ ss) d * scale r.day (d + 1) ≡ held_on a m (s ∷ ss) d * scale s.day (d + 1) * growth w.kinds rates s.day r.day
    held-before r s ss d h l =
        rw (later-left d r (s ∷ ss) (omega arith), scale-on w.kinds rates first s.day r.day (d + 1) (omega arith) (omega arith))
        (sym (mul_assoc (held_on a m (s ∷ ss) d) (scale s.day (d + 1)) (growth w.kinds rates s.day r.day)))

    -- a day of the gap
    held_after : (r s : Session) (ss : List Session) (d : ℕ) → s.day ≤ d → d < r.day → Falling (s ∷ ss)
        → held_on a m (r ∷ s ∷ ss) d * scale r.day (d + 1) ≡ scale r.day (d + 1) * nat_abs (contracts_in a m (s ∷ ss))
    held_after r s ss d h l f =
        let all = All-weaker (λ x. x.day ≤ s.day) (λ x. x.day ≤ d) (λ x b. omega arith) (s ∷ ss) (up-to s ss f) in
        rw (later-left d r (s ∷ ss) l, all-kept d (s ∷ ss) all) (mul_comm (nat_abs (contracts_in a m (s ∷ ss))) (scale r.day (d + 1)))

    -- what is held up to the new session: what was held, scaled, and the position over the gap
    held_more : (r s : Session) (ss : List Session) → Falling (r ∷ s ∷ ss) → first ≤ s.day
        → scaled_holdings (scale r.day) a m (r ∷ s ∷ ss) (reserve_days w.kinds first r.day)
        ≡ scaled_holdings (scale s.day) a m (s ∷ ss) (reserve_days w.kinds first s.day) * growth w.kinds rates s.day r.day
        + nat_abs (contracts_in a m (s ∷ ss)) * drift (factors rates (reserve_days w.kinds s.day r.day)) * unit w.kinds rates first s.day
    held_more r s ss f l =
        let later : s.day ≤ r.day = let lt = f.0.0 in omega arith in
        let g = growth w.kinds rates s.day r.day in
        let q = nat_abs (contracts_in a m (s ∷ ss)) in
        let now : ℕ → ℕ = λ d. held_on a m (r ∷ s ∷ ss) d * scale r.day (d + 1) in
        let old : ℕ → ℕ = λ d. held_on a m (s ∷ ss) d * scale s.day (d + 1) in
        let gap : ℕ → ℕ = λ d. scale r.day (d + 1) in
        let before = reserve_days w.kinds first s.day in
        let after = reserve_days w.kinds s.day r.day in
        let one = sums_same now (λ d. old d * g) before
        (All-weaker (λ d. (first ≤ d) × (d < s.day)) (λ d. now d ≡ old d * g) (λ d b. held-before r s ss d b.1 f.0.0) before (days-within w.kinds first s.day))
        ∙ sums-times old g before in
        let two = sums_same now (λ d. gap d * q) after
        (All-weaker (λ d. (s.day ≤ d) × (d < r.day)) (λ d. now d ≡ gap d * q) (λ d b. held_after r s ss d b.0 b.1 f.1) after (days-within w.kinds s.day r.day))
        ∙ sums-times gap q after
        ∙ ap (λ n. n * q) (days-drift w.kinds rates first s.day r.day l) in
        rw (days-split is_reserve w.kinds first s.day r.day l later, sum_by-append now before after, one, two)
        (shape (sum_by old before * g) (unit w.kinds rates first s.day) (drift (factors rates after)) q)
      where
        shape : (b u d q : ℕ) → b + u * d * q ≡ b + q * d * u
        shape b u d q = omega arith

    further : (r s : Session) (ss : List Session) → Falling (r ∷ s ∷ ss) → first ≤ s.day → Adjusted r (s ∷ ss) → Close s ss → Close r (s ∷ ss)
    further r s ss f l h within =
        let later : s.day ≤ r.day = let lt = f.0.0 in omega arith in
        let k = scale r.day r.day in
        let g = growth w.kinds rates s.day r.day in
        let n = 100000000 ^ length (reserve_days w.kinds s.day r.day) in
        let u = unit w.kinds rates first s.day in
        let t = position_change a m r.trades in
        let q = contracts_in a m (s ∷ ss) in
        let c = cost_of a m r.trades in
        let p = s.prices m in
        let p' = r.prices m in
        let corrected = corrected_price w.kinds rates s.day r.day p in
        let x = scaled_adjustments (scale s.day) a m (s ∷ ss) in
        let y = cost_over a m (scale s.day) (s ∷ ss) in
        let cell : r.amounts.adjustments a m ≡ t *ℤ pos p' -ℤ c *ℤ pos 1 +ℤ q *ℤ (pos p' -ℤ pos corrected) =
        rw (on-trades a m p' r.trades, on-carried q p' corrected) at h in
        let scaled : AllByRecursion (λ x. scale r.day x.day ≡ scale s.day x.day * g) (s ∷ ss) =
        All-weaker (λ x. x.day ≤ s.day) (λ x. scale r.day x.day ≡ scale s.day x.day * g)
        (λ x b. scale-on w.kinds rates first s.day r.day x.day b later) (s ∷ ss) (up-to s ss f.1) in
        let sum = total-on (λ x. x.amounts.adjustments a m) (scale s.day) (scale r.day) g (s ∷ ss) scaled in
        let cost = total-on (λ x. cost_of a m x.trades) (scale s.day) (scale r.day) g (s ∷ ss) scaled in
        let unit-r : k ≡ u * n = scale-here w.kinds rates first r.day ∙ unit-split w.kinds rates first s.day r.day l later in
        let v = value-split a m (scale s.day) (p * scale s.day s.day) (s ∷ ss) ∙ ap (λ z. q *ℤ pos (p * z) -ℤ y) (scale-here w.kinds rates first s.day) in
        let all = one_more x y q t c (r.amounts.adjustments a m) p p' u corrected g n k (drift (factors rates (reserve_days w.kinds s.day r.day)))
        (scaled_holdings (scale s.day) a m (s ∷ ss) (reserve_days w.kinds first s.day)) unit-r cell (rw v at within)
        (rw (length-map (reserve_days w.kinds s.day r.day) (factor_on rates)) at (rounded p (factors rates (reserve_days w.kinds s.day r.day)))) in
        rw (value-split a m (scale r.day) (p' * k) (r ∷ s ∷ ss), cost, sum, held_more r s ss f l) all

    pub close : (s : Session) (ss : List Session) → Falling (s ∷ ss) → Ruled (s ∷ ss) → first ≡ oldest_day s.day ss → Close s ss
    close s [] f h e = start s h.0
    close r (s ∷ ss) f h e =
        let o = oldest-first s ss f.1 in
        further r s ss f (rw e o) h.0 (close s ss f.1 h.1 e)

    pub within : (s : Session) (ss : List Session) → Falling (s ∷ ss) → Ruled (s ∷ ss) → first ≡ oldest_day s.day ss → WithinFrom w rates first a m (s ∷ ss)
    within s ss f h e = twenty
        (scaled_adjustments (scale s.day) a m (s ∷ ss))
        (scaled_value (scale s.day) (s.prices m * scale s.day s.day) a m (s ∷ ss))
        (scaled_holdings (scale s.day) a m (s ∷ ss) (reserve_days w.kinds first s.day))
        (close s ss f h e)
