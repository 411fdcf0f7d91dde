-- At most one close is unpaid, and while one is unpaid nothing closes.
use Rattle.std.proofs.Common.{◌≡◌, true, [], ◌∷◌, is_some, Some, None, Option, sym, refl, ap, ◌∙◌, arith}
use Rattle.std.proofs.lemmas.Bool.{true≢false, cond-true, false_from_ne_true}
use Rattle.rates.specs.Meanings.{or_else}
use Rattle.model.specs.World.{World}
use Rattle.model.specs.History.{History, Event, Closed, Paid, amounts_written, is_payment, with_last, gather, newest, since}
use Rattle.model.specs.Sessions.{latest_closed, unpaid_day}
use Rattle.model.specs.Laws.{OneUnpaid, ClosesPaid}
use Rattle.model.proofs.Allowing.{closing, is_none}

-- where nothing is the newest, nothing was told
pub none_told : {X : Type 0} (tells : Event → Option X) (h : History) → newest tells h ≡ None → gather tells h ≡ []
none_told tells [] n = refl
none_told {X} tells (e ∷ h) n = by (tells e) n (none_told tells h)
  where
    by : (o : Option X) → or_else o (newest tells h) ≡ None → (newest tells h ≡ None → gather tells h ≡ []) → with_last (gather tells h) o ≡ []
    by None k ih = ih k
    by (Some x) k ih = absurd cc

-- a close since the latest payment is a closed session
closed_some : (w : World) (h : History) → is_some (newest amounts_written (since is_payment h)) ≡ true → is_some (latest_closed w h) ≡ true
closed_some w [] s = s
closed_some w (Closed c ∷ h) s = refl
closed_some w (Paid ∷ h) s = absurd (true≢false (sym s))
closed_some w (e ∷ h) s = closed_some w h s

-- where no slip is unpaid, no close came since the latest payment
pub none-unpaid : (w : World) (h : History) → unpaid_day w h ≡ None → gather amounts_written (since is_payment h) ≡ []
none-unpaid w h u =
    let last = newest amounts_written (since is_payment h) in
    none_told amounts_written (since is_payment h) (is_none last
    (false_from_ne_true (is_some last) (λ e. true≢false (sym (closed_some w h e) ∙ ap is_some (sym (cond-true (is_some last) (latest_closed w h) None e) ∙ u)))))

pub closes-paid : ClosesPaid
closes-paid w h c l = none-unpaid w h (closing w h c l.0).paid

pub one-unpaid : OneUnpaid
one-unpaid w [] l = omega arith
one-unpaid w (Closed c ∷ h) l = rw (closes-paid w h c l) (omega arith)
one-unpaid w (Paid ∷ h) l = omega arith
one-unpaid w (e ∷ h) l = one-unpaid w h l.1
