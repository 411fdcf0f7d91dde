-- What is due and what is paid: what moves them, and what a payment pays.
use Rattle.std.proofs.Common.{◌≡◌, ℕ, ◌≤◌, Bool, true, false, cond, [], ◌∷◌, ◌++◌, length, ◌+ℤ◌, is_some, Some, None, Option, sym, refl, ap, ◌∙◌, arith}
use lib.IntN.{+ℤ_idr}
use Rattle.std.specs.List.{AllByRecursion}
use Rattle.std.proofs.lemmas.List.{length_push, nil_from_length}
use Rattle.std.proofs.lemmas.Bool.{true≢false}
use Rattle.amounts.specs.Sums.{total}
use Rattle.amounts.proofs.Totals.{total-append}
use Rattle.rates.specs.Meanings.{or_else}
use Rattle.model.specs.World.{World}
use Rattle.model.specs.History.{History, Event, Amounts, Closed, amounts_written, is_payment, with_last, gather, newest, since}
use Rattle.model.specs.Positions.{written_for, due_of}
use Rattle.model.specs.Sessions.{latest_closed}
use Rattle.model.specs.Lawful.{Lawful}
use Rattle.model.specs.Laws.{UnpaidStays, PaysLatest}
use Rattle.model.specs.Moves.{DuesMove}
use Rattle.model.proofs.Allowing.{paying}
use Rattle.model.proofs.Balancing.{all-written}
use Rattle.model.proofs.Unpaid.{one-unpaid, closes-paid}

closed-moves : (h : History) (c : Amounts) (a : ℕ) → due_of (Closed c ∷ h) a ≡ due_of h a +ℤ written_for a c
closed-moves h c a =
    total-append (written_for a) (gather amounts_written (since is_payment h)) (c ∷ [])
    ∙ ap (λ x. due_of h a +ℤ x) (+ℤ_idr (written_for a c))

still-due : (e : Event) (h : History) (a : ℕ) → amounts_written e ≡ None → is_payment e ≡ false → due_of (e ∷ h) a ≡ due_of h a
still-due e h a n p = rw (p, n) refl

pub dues-move : DuesMove
dues-move = record {
  closed = λ h c a. (closed-moves h c a, refl);
  paid = λ h a. (refl, sym (all-written h a));
  still = λ e h a n p. (still-due e h a n p, rw p);
}

-- while a close is unpaid, no event is a close
no-close : (w : World) (h : History) (e : Event) → Lawful w (e ∷ h) → is_some (newest amounts_written (since is_payment h)) ≡ true → amounts_written e ≡ None
no-close w h (Closed c) l u = absurd (some-told (since is_payment h) u (closes-paid w h c l))
  where
    some-told : (k : History) → is_some (newest amounts_written k) ≡ true → gather amounts_written k ≡ [] → ⊥
    some-told [] s g = true≢false (sym s)
    some-told (e ∷ k) s g = by (amounts_written e) s g (some-told k)
      where
        by : (o : Option Amounts) → is_some (or_else o (newest amounts_written k)) ≡ true → with_last (gather amounts_written k) o ≡ []
            → (is_some (newest amounts_written k) ≡ true → gather amounts_written k ≡ [] → ⊥) → ⊥
        by None s g ih = ih s g
        by (Some c) s g ih = omega (arith, length_push (gather amounts_written k) c, ap length g)
no-close w h e l u = refl

still-unpaid : (e : Event) (h : History) → amounts_written e ≡ None → is_payment e ≡ false → is_some (newest amounts_written (since is_payment h)) ≡ true
    → is_some (newest amounts_written (since is_payment (e ∷ h))) ≡ true
still-unpaid e h n p u = rw (p, n) u

-- what stays while nothing is paid
record Waits (k h : History) : Type 0 where
  unpaid : is_some (newest amounts_written (since is_payment (k ++ h))) ≡ true
  none : gather amounts_written k ≡ []
  due : (a : ℕ) → due_of (k ++ h) a ≡ due_of h a

waits : (w : World) (k h : History) → Lawful w (k ++ h) → is_some (newest amounts_written (since is_payment h)) ≡ true → AllByRecursion (λ e. is_payment e ≡ false) k → Waits k h
waits w [] h l u p = record { unpaid = u; none = refl; due = λ a. refl }
waits w (e ∷ k) h l u p =
    let r = waits w k h l.1 u p.1 in
    let n = no-close w (k ++ h) e l r.unpaid in
    record {
      unpaid = still-unpaid e (k ++ h) n p.0 r.unpaid;
      none = rw n r.none;
      due = λ a. still-due e (k ++ h) a n p.0 ∙ r.due a;
    }

pub unpaid-stays : UnpaidStays
unpaid-stays w k h l u p = let r = waits w k h l u p in (r.none, r.due)

-- the newest since an event of a kind is the newest of all
newest-since : {X : Type 0} (tells : Event → Option X) (kind : Event → Bool) (h : History) (x : X) → newest tells (since kind h) ≡ Some x → newest tells h ≡ Some x
newest-since tells kind [] x n = n
newest-since {X} tells kind (e ∷ h) x n = by (kind e) n (newest-since tells kind h x)
  where
    later : (o : Option X) → or_else o (newest tells (since kind h)) ≡ Some x → (newest tells (since kind h) ≡ Some x → newest tells h ≡ Some x)
        → or_else o (newest tells h) ≡ Some x
    later None n ih = ih n
    later (Some y) n ih = n

    by : (b : Bool) → newest tells (cond b [] (e ∷ since kind h)) ≡ Some x
        → (newest tells (since kind h) ≡ Some x → newest tells h ≡ Some x) → or_else (tells e) (newest tells h) ≡ Some x
    by true n ih = absurd cc
    by false n ih = later (tells e) n ih

-- a list of one at most, of which the newest is known
only : {X : Type 0} (tells : Event → Option X) (h : History) (x : X) → length (gather tells h) ≤ 1 → newest tells h ≡ Some x → gather tells h ≡ x ∷ []
only tells [] x f n = absurd cc
only {X} tells (e ∷ h) x f n = by (tells e) f n (only tells h x)
  where
    by : (o : Option X) → length (with_last (gather tells h) o) ≤ 1 → or_else o (newest tells h) ≡ Some x
        → (length (gather tells h) ≤ 1 → newest tells h ≡ Some x → gather tells h ≡ x ∷ []) → with_last (gather tells h) o ≡ x ∷ []
    by None f n ih = ih f n
    by (Some y) f n ih = rw (nil_from_length (gather tells h) (omega (arith, length_push (gather tells h) y))) cc

pub pays-latest : PaysLatest
pays-latest w h c l n a = by (newest amounts_written (since is_payment h)) refl (paying w h l.0).1
  where
    by : (o : Option Amounts) → newest amounts_written (since is_payment h) ≡ o → cond (is_some o) (latest_closed w h) None ≡ Some (paying w h l.0).0 → due_of h a ≡ written_for a c
    by None e u = absurd cc
    by (Some x) e u =
        let same : x ≡ c = let k = newest-since amounts_written is_payment h x e in cc in
        ap (total (written_for a)) (only amounts_written (since is_payment h) x (one-unpaid w h l.1) e) ∙ +ℤ_idr (written_for a x) ∙ ap (written_for a) same
