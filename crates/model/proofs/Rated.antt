-- A rate once known stays.
use Rattle.std.proofs.Common.{◌≡◌, ℕ, cond, not, List, [], ◌∷◌, ◌++◌, is_some, Some, None, filter, Option, refl}
use Rattle.calendar.specs.Spans.{first_in}
use Rattle.correction.specs.Gaps.{factors, is_unrated, first_unrated}
use Rattle.rates.specs.Meanings.{rates_of}
use Rattle.rates.proofs.Laws.{sets-keeps}
use Rattle.rates.proofs.Layering.{published_sets, arbitrated_sets}
use Rattle.model.specs.History.{History, Event, Published, Arbitrated}
use Rattle.model.specs.Lawful.{Lawful}
use Rattle.model.specs.Laws.{RatesStay}
use Rattle.model.specs.Observed.{source_of, rate_on}
use Rattle.model.specs.World.{World}
use Rattle.model.proofs.Allowing.{publishing, arbitrating}

-- a rate stays, whatever happens next
pub rate-stays : (w : World) (h : History) (e : Event) (d r : ℕ) → Lawful w (e ∷ h) → rate_on w h d ≡ Some r → rate_on w (e ∷ h) d ≡ Some r
rate-stays w h (Published entry) d r l known =
    let x = publishing w h entry l.0 in
    sets-keeps (rate_on w h) (rate_on w (Published entry ∷ h)) entry d r (published_sets (source_of w h) entry x.free) x.unrated known
rate-stays w h (Arbitrated entry) d r l known =
    let x = arbitrating w h entry l.0 in
    sets-keeps (rate_on w h) (rate_on w (Arbitrated entry ∷ h)) entry d r (arbitrated_sets (source_of w h) entry x.free) x.unrated known
rate-stays w h e d r l known = known

-- so one that was there when the book was made is there now
pub since-made : (w : World) (h : History) (d r : ℕ) → Lawful w h → rates_of w.source d ≡ Some r → rate_on w h d ≡ Some r
since-made w [] d r l known = known
since-made w (e ∷ h) d r l known = rate-stays w h e d r l (since-made w h d r l.1 known)

pub rates-stay : RatesStay
rates-stay w [] h d r l known = known
rates-stay w (e ∷ k) h d r l known = rate-stays w (k ++ h) e d r l (rates-stay w k h d r l.1 known)

-- each rate of the first source is in the second
abbrev pub Kept : (ℕ → Option ℕ) → (ℕ → Option ℕ) → Type 0
Kept rates rates' = (d r : ℕ) → rates d ≡ Some r → rates' d ≡ Some r

-- days that all have rates: the first has one, and so have the others
rated-head : (rates : ℕ → Option ℕ) (d : ℕ) (days : List ℕ) → first_unrated rates (d ∷ days) ≡ None
    → ((r : ℕ) × (rates d ≡ Some r)) × (first_unrated rates days ≡ None)
rated-head rates d days h = by (rates d) refl h
  where
    by : (o : Option ℕ) → rates d ≡ o → first_in (cond (not (is_some o)) (d ∷ filter (is_unrated rates) days) (filter (is_unrated rates) days)) ≡ None
        → ((r : ℕ) × (rates d ≡ Some r)) × (first_unrated rates days ≡ None)
    by None e f = absurd cc
    by (Some r) e f = ((r, e), f)

-- days that all have rates keep their factors where the rates stay, and they all have rates there
pub factors-stay : (rates rates' : ℕ → Option ℕ) (days : List ℕ) → Kept rates rates' → first_unrated rates days ≡ None → factors rates' days ≡ factors rates days
factors-stay rates rates' [] k h = refl
factors-stay rates rates' (d ∷ days) k h =
    let p = rated-head rates d days h in
    rw (k d p.0.0 p.0.1, p.0.1, factors-stay rates rates' days k p.1)

pub rated-stay : (rates rates' : ℕ → Option ℕ) (days : List ℕ) → Kept rates rates' → first_unrated rates days ≡ None → first_unrated rates' days ≡ None
rated-stay rates rates' [] k h = refl
rated-stay rates rates' (d ∷ days) k h =
    let p = rated-head rates d days h in
    rw (k d p.0.0 p.0.1) (rated-stay rates rates' days k p.1)
