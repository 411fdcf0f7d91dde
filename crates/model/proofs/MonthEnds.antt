-- When a listed month has ended, by the day of the latest session alone.
use Rattle.std.proofs.Common.{◌≡◌, ℕ, ◌<◌, ltb, leb, List, [], ◌∷◌, map, length, Some, None, unwrap_or, sym, refl, ap, ◌∙◌, inl, inr, arith}
use Rattle.std.specs.List.{AllByRecursion}
use Rattle.std.proofs.ByRecursion.{All-get_or, All-push}
use Rattle.std.proofs.lemmas.Bool.{cases_lt, lt-ltb, le-ltb, lt-leb}
use Rattle.calendar.specs.Spans.{first_in}
use Rattle.pricing.specs.Pricing.{expiry_day}
use Rattle.model.specs.History.{History, Listed}
use Rattle.model.specs.Lawful.{Lawful}
use Rattle.model.specs.Moves.{EndedBy}
use Rattle.model.specs.Observed.{months_of, expiry_at, latest_opened, session_day, open_session}
use Rattle.model.specs.Positions.{has_ended}
use Rattle.model.specs.Sessions.{Session, sessions_of, has_reached}
use Rattle.model.specs.World.{World}
use Rattle.model.proofs.Allowing.{listing}
use Rattle.model.proofs.Ended.{expired-before}
use Rattle.model.proofs.Falling.{unreached}
use Rattle.model.proofs.SessionOrder.{open-later}
use Rattle.model.proofs.Reliance.{closed-latest}

-- the listed months expire after the start day
after-start : (w : World) (h : History) → Lawful w h → AllByRecursion (λ n. w.start < expiry_day w.kinds n) (months_of h)
after-start w [] l = tt
after-start w (Listed n ∷ h) l =
    let x = listing w h n l.0 in
    All-push (λ n. w.start < expiry_day w.kinds n) (months_of h) n (after-start w h l.1) (let e = ap (λ o. unwrap_or o 0) x.1.first in omega (arith, e, x.1.after-start))
after-start w (e ∷ h) l = after-start w h l.1

pub expires-later : (w : World) (h : History) (m : ℕ) → Lawful w h → m < length (months_of h) → w.start < expiry_at w h m
expires-later w h m l i = All-get_or (λ n. w.start < expiry_day w.kinds n) (months_of h) m 0 i (after-start w h l)

-- an open session is later than all that were closed, and no expiry before it was left out
while-open : (w : World) (h : History) (d m : ℕ) → Lawful w h → open_session h ≡ Some d → m < length (months_of h)
    → has_ended w h m ≡ ltb (expiry_at w h m) d
while-open w h d m l o i =
    elim (cases_lt (expiry_at w h m) d) [
      | inl b ↦ expired-before w h m d l o i b ∙ sym (lt-ltb (expiry_at w h m) d b)
      | inr b ↦
          rw (lt-ltb m (length (months_of h)) i) (unreached d (expiry_at w h m) (sessions_of w h) (open-later w h d l o) b ∙ sym (le-ltb (expiry_at w h m) d b))
    ]

-- with none open the latest session is the latest closed; before the first its day is 0, and each expiry is later
between : (w : World) (h : History) (m : ℕ) → Lawful w h → open_session h ≡ None → m < length (months_of h)
    → has_ended w h m ≡ leb (expiry_at w h m) (session_day h)
between w h m l o i = rw (lt-ltb m (length (months_of h)) i) (by (sessions_of w h) (closed-latest w h l o))
  where
    by : (ss : List Session) → latest_opened h ≡ first_in (map (λ s. s.day) ss) → has_reached (expiry_at w h m) ss ≡ leb (expiry_at w h m) (session_day h)
    by [] e = rw e (sym (lt-leb (expiry_at w h m) 0 (let x = expires-later w h m l i in omega arith)))
    by (s ∷ ss) e = rw e refl

pub ended-by : EndedBy
ended-by = record { during = while-open; between = between }
