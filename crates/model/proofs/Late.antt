-- What comes late: a month listed since the latest close carries nothing into the session; what is not in the book has nothing.
use Rattle.std.proofs.Common.{◌≡◌, ℕ, ◌≤◌, false, not, [], ◌∷◌, length, nat_lt, pos, None, refl, ap, ◌∙◌, arith}
use mathlib.Core.Path.{fun_ext}
use Rattle.std.specs.Bool.{◌==◌}
use Rattle.std.proofs.lemmas.Bool.{cond_both}
use Rattle.std.proofs.lemmas.Bool.Decides.{nat_tests}
use Rattle.std.proofs.lemmas.List.{length_push}
use Rattle.amounts.specs.Sums.{total}
use Rattle.amounts.proofs.Totals.{total-zero}
use Rattle.model.specs.Accounts.{month_indices}
use Rattle.model.specs.History.{History, Amounts, Entered, Listed, Opened, Marked, Closed, Paid, is_close, before}
use Rattle.model.specs.Laws.{LateCarriesNothing, LateAccountEmpty, LateMonthUnpriced}
use Rattle.model.specs.Lawful.{Lawful}
use Rattle.model.specs.Observed.{accounts_of, months_of, mark_of}
use Rattle.model.specs.Positions.{has_ended, contracts_in, adjustment_at, written_for}
use Rattle.model.specs.Rows.{mark_rows}
use Rattle.model.specs.Sessions.{sessions_of, newest_price}
use Rattle.model.specs.World.{World}
use Rattle.model.proofs.Allowing.{none-hold}
use Rattle.model.proofs.Cells.{contracts-outside, outside-book}
use Rattle.model.proofs.Dealt.{session-fits, closed-fit}
use Rattle.model.proofs.Dues.{dues-move}

-- the trades of closed sessions are in months listed before the latest close
late-contracts : (w : World) (h : History) (a m : ℕ) → Lawful w h → length (months_of (before is_close h)) ≤ m → contracts_in a m (sessions_of w h) ≡ pos 0
late-contracts w [] a m l late = refl
late-contracts w (Closed c ∷ h) a m l late =
    contracts-outside (length (accounts_of h)) (length (months_of h)) a m (λ b. omega arith) (sessions_of w (Closed c ∷ h))
    (session-fits w h l.1, closed-fit w h l.1)
late-contracts w (e ∷ h) a m l late = late-contracts w h a m l.1 late

pub late-carries-nothing : LateCarriesNothing
late-carries-nothing w h a m l late =
    cond_both (has_ended w h m) (pos 0) (contracts_in a m (sessions_of w h)) (λ z. z ≡ pos 0) (λ _. refl) (λ _. late-contracts w h a m l late)

-- a close writes nothing for an account that is not in the book
none-written : (w : World) (h : History) (c : Amounts) (a : ℕ) → Lawful w (Closed c ∷ h) → length (accounts_of h) ≤ a → written_for a c ≡ pos 0
none-written w h c a l late =
    ap (λ f. total f month_indices) (fun_ext (λ m. ap (λ x. x.adjustments a m) l.0.amounts ∙ outside-book h (adjustment_at w h) a m (λ b. omega (arith, b.0))))
    ∙ total-zero month_indices

pub late-account : LateAccountEmpty
late-account w [] a l late = (refl, refl)
late-account w (Entered x ∷ h) a l late = late-account w h a l.1 (omega (arith, length_push (accounts_of h) x))
late-account w (Closed c ∷ h) a l late =
    let before = late-account w h a l.1 late in (before.0, (dues-move.closed h c a).0 ∙ rw (before.1, none-written w h c a l late) refl)
late-account w (Paid ∷ h) a l late = let before = late-account w h a l.1 late in ((dues-move.paid h a).1 ∙ rw (before.0, before.1) refl, refl)
late-account w (e ∷ h) a l late = late-account w h a l.1 late

other : (i m n : ℕ) → not (nat_lt i n) ≡ false → n ≤ m → (m == i) ≡ false
other i m n listed few = grind (arith, nat_tests)

unlisted : (m n : ℕ) → n ≤ m → nat_lt m n ≡ false
unlisted m n few = grind (arith, nat_tests)

late-mark : (w : World) (h : History) (m : ℕ) → Lawful w h → length (months_of h) ≤ m → mark_of h m ≡ None
late-mark w [] m l late = refl
late-mark w (Opened d ∷ h) m l late = refl
late-mark w (Listed n ∷ h) m l late = late-mark w h m l.1 (omega (arith, length_push (months_of h) n))
late-mark w (Marked i p ∷ h) m l late = rw (other i m (length (months_of h)) (none-hold (mark_rows w h l.0.0 i p) l.0.1).1.0 late) (late-mark w h m l.1 late)
late-mark w (e ∷ h) m l late = late-mark w h m l.1 late

late-price : (w : World) (h : History) (m : ℕ) → Lawful w h → length (months_of h) ≤ m → newest_price m (sessions_of w h) ≡ 0
late-price w [] m l late = refl
late-price w (Listed n ∷ h) m l late = late-price w h m l.1 (omega (arith, length_push (months_of h) n))
late-price w (Closed c ∷ h) m l late = rw (unlisted m (length (months_of h)) late, late-mark w h m l.1 late) refl
late-price w (e ∷ h) m l late = late-price w h m l.1 late

pub late-month : LateMonthUnpriced
late-month w h m l late = (late-mark w h m l late, late-price w h m l late)
