-- Lawful closes settle by the rules, session after session; so the second claim holds of every lawful history.
use Rattle.std.proofs.Common.{◌≡◌, ℕ, ◌<◌, ◌≤◌, Bool, true, false, cond, ◌&&◌, leb, List, [], ◌∷◌, length, None, Option, sym, refl, ap, ◌∙◌, arith}
use borrow.Author.Differences.{ints}
use Rattle.std.specs.List.{AllByRecursion}
use Rattle.std.proofs.ByRecursion.{All-weaker}
use Rattle.std.proofs.lemmas.Bool.{ltb-true, leb-true}
use Rattle.calendar.specs.Spans.{reserve_days}
use Rattle.correction.specs.Gaps.{first_unrated}
use Rattle.interest.specs.Correction.{corrected}
use Rattle.model.specs.World.{World}
use Rattle.model.specs.History.{History, Event, Amounts, Closed, month_listed}
use Rattle.model.specs.Observed.{months_of, is_listed, expiry_at, rate_on, session_day, trades_of, settlement_price}
use Rattle.model.specs.Sessions.{Session, sessions_of, up_to, has_reached, gap_to, oldest_day}
use Rattle.model.specs.Positions.{has_ended, corrected_to}
use Rattle.model.specs.Lawful.{Lawful}
use Rattle.model.specs.Value.{AlwaysValued}
use Rattle.model.proofs.Allowing.{closing}
use Rattle.model.proofs.Cells.{cells}
use Rattle.model.proofs.Ended.{ended}
use Rattle.model.proofs.Expiring.{months-stay}
use Rattle.model.proofs.Falling.{Falling, unreached}
use Rattle.model.proofs.Gathering.{length-with_last}
use Rattle.model.proofs.SessionOrder.{falling, open-later}
use Rattle.model.proofs.Rated.{Kept, rate-stays, factors-stay, rated-stay}
use Rattle.model.proofs.Telescope.{WithinFrom, Adjusted, Ruled, all-kept, within}

module _ (w : World) (a m expiry : ℕ) where
  -- a session up to the expiry is adjusted by the rules, over a gap whose reserve days have rates
  pub record Rightly (rates : ℕ → Option ℕ) (s : Session) (ss : List Session) : Type 0 where
    pub rated : first_unrated rates (gap_to w s.day ss) ≡ None
    pub adjusted : s.day ≤ expiry → Adjusted w rates a m s ss

  abbrev pub AllRightly : (ℕ → Option ℕ) → List Session → Type 0
  AllRightly rates [] = Unit {0}
  AllRightly rates (s ∷ ss) = Rightly rates s ss × AllRightly rates ss

  -- rates that are added change nothing
  corrected-stays : (rates rates' : ℕ → Option ℕ) → Kept rates rates' → (day : ℕ) (ss : List Session) → first_unrated rates (gap_to w day ss) ≡ None
      → corrected_to w rates' day ss m ≡ corrected_to w rates day ss m
  corrected-stays rates rates' k day [] h = refl
  corrected-stays rates rates' k day (s ∷ ss) h =
      ap (corrected (s.prices m)) (factors-stay rates rates' (reserve_days w.kinds s.day day) k h)

  rightly-stays : (rates rates' : ℕ → Option ℕ) → Kept rates rates' → (ss : List Session) → AllRightly rates ss → AllRightly rates' ss
  rightly-stays rates rates' k [] h = tt
  rightly-stays rates rates' k (s ∷ ss) h = (
    record {
      rated = rated-stay rates rates' (gap_to w s.day ss) k h.0.rated;
      adjusted = λ b. rw (corrected-stays rates rates' k s.day ss h.0.rated) (h.0.adjusted b);
    },
    rightly-stays rates rates' k ss h.1,
  )

  -- all sessions up to the expiry
  ruled : (rates : ℕ → Option ℕ) (ss : List Session) → AllByRecursion (λ s. s.day ≤ expiry) ss → AllRightly rates ss → Ruled w rates a m ss
  ruled rates [] b h = tt
  ruled rates (s ∷ ss) b h = (h.0.adjusted b.0, ruled rates ss b.1 h.1)

  -- the claim of the sessions up to the expiry
  within-upto : (rates : ℕ → Option ℕ) (d : ℕ) (ss : List Session) → Falling ss → AllRightly rates ss → WithinFrom w rates (oldest_day d ss) a m (up_to expiry ss)
  within-upto rates d [] f h = omega (arith, ints)
  within-upto rates d (s ∷ ss) f h = by (leb s.day expiry) refl (within-upto rates s.day ss f.1 h.1)
    where
      by : (b : Bool) → leb s.day expiry ≡ b → WithinFrom w rates (oldest_day s.day ss) a m (up_to expiry ss)
          → WithinFrom w rates (oldest_day s.day ss) a m (cond b (s ∷ up_to expiry ss) (up_to expiry ss))
      by true e earlier =
          let l = leb-true s.day expiry e in
          let all = All-weaker (λ r. r.day < s.day) (λ r. r.day ≤ expiry) (λ r b. omega arith) ss f.0 in
          rw (all-kept expiry ss all) (within w rates a m (oldest_day s.day ss) s ss f (ruled rates (s ∷ ss) (l, all) h) refl)
      by false e earlier = earlier

-- the month has not expired before the close of a session up to its expiry
unexpired : (w : World) (h : History) (m expiry : ℕ) → (m < length (months_of h) → expiry_at w h m ≡ expiry)
    → AllByRecursion (λ r. r.day < session_day h) (sessions_of w h) → session_day h ≤ expiry → has_ended w h m ≡ false
unexpired w h m expiry is before b = by (is_listed h m) refl
  where
    by : (t : Bool) → is_listed h m ≡ t → (t && has_reached (expiry_at w h m) (sessions_of w h)) ≡ false
    by true e = let x = is (ltb-true m (length (months_of h)) e) in unreached (session_day h) (expiry_at w h m) (sessions_of w h) before (omega arith)
    by false e = refl

-- the close of a session is right
right-close : (w : World) (h : History) (c : Amounts) → Lawful w (Closed c ∷ h) → (a m expiry : ℕ) → (m < length (months_of h) → expiry_at w h m ≡ expiry)
    → Rightly w a m expiry (rate_on w h) (record { day = session_day h; trades = trades_of h; prices = settlement_price w h; amounts = c }) (sessions_of w h)
right-close w h c l a m expiry is =
    let facts = closing w h c l.0 in
    let before = rw (sym facts.session.day) at (open-later w h facts.day l.1 facts.session.is_open) in
    record {
      rated = facts.rated;
      adjusted = λ b. rw (cells w h c l a m, unexpired w h m expiry is before b);
    }

-- the month's expiry was the same before an event, if the month was listed
before-event : (w : World) (h : History) (e : Event) (m expiry : ℕ) → (m < length (months_of (e ∷ h)) → expiry_at w (e ∷ h) m ≡ expiry)
    → m < length (months_of h) → expiry_at w h m ≡ expiry
before-event w h e m expiry is b =
    sym (months-stay w h e m b) ∙ is (let n = length-with_last (months_of h) (month_listed e) in omega arith)

pub all_right : (w : World) (h : History) → Lawful w h → (a m expiry : ℕ) → (m < length (months_of h) → expiry_at w h m ≡ expiry)
    → AllRightly w a m expiry (rate_on w h) (sessions_of w h)
all_right w [] l a m expiry is = tt
all_right w (Closed c ∷ h) l a m expiry is =
    let known = before-event w h (Closed c) m expiry is in
    (right-close w h c l a m expiry known, all_right w h l.1 a m expiry known)
all_right w (e ∷ h) l a m expiry is =
    rightly-stays w a m expiry (rate_on w h) (rate_on w (e ∷ h)) (λ d r. rate-stays w h e d r l) (sessions_of w h)
    (all_right w h l.1 a m expiry (before-event w h e m expiry is))

value-within : (w : World) (h : History) → Lawful w h → (a m : ℕ)
    → WithinFrom w (rate_on w h) (oldest_day 0 (sessions_of w h)) a m (up_to (expiry_at w h m) (sessions_of w h))
value-within w h l a m =
    within-upto w a m (expiry_at w h m) (rate_on w h) 0 (sessions_of w h) (falling w h l) (all_right w h l a m (expiry_at w h m) (λ _. refl))

pub always-valued : AlwaysValued
always-valued w h l = record { within_tolerance = λ a m b. value-within w h l a m; nothing_after = ended w h l }
