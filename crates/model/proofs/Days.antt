-- The days of sessions, opened and closed, and how many were closed.
use Rattle.std.proofs.Common.{◌≡◌, ℕ, ◌+◌, ◌<◌, ◌≤◌, true, List, [], ◌∷◌, length, Some, None, Option, sym, refl, ◌∙◌, inl, inr, unwrap_or, arith}
use Rattle.std.specs.List.{AllByRecursion}
use Rattle.std.proofs.ByRecursion.{All-push, All-weaker}
use Rattle.std.proofs.lemmas.Bool.{true≢false, cases_lt}
use Rattle.std.proofs.lemmas.List.{length_push}
use Rattle.calendar.specs.declared.kind.DayKind.TheVariants.{ClosedDay as closed_day}
use Rattle.calendar.specs.Kinds.{is_session}
use Rattle.calendar.proofs.Spans.{past-last}
use Rattle.model.specs.World.{World}
use Rattle.model.specs.History.{History, Opened, Closed, amounts_written, gather}
use Rattle.model.specs.Lawful.{Lawful}
use Rattle.model.specs.Limits.{OpenedSessions, ClosedDays, ClosesFew}
use Rattle.model.specs.Observed.{opened_days, latest_opened, session_day, next_from}
use Rattle.model.specs.Sessions.{Session, sessions_of}
use Rattle.model.proofs.Falling.{Falling}
use Rattle.model.proofs.SessionOrder.{falling, in_order, next-first, open-later}
use Rattle.model.proofs.Reliance.{closed-latest}

pub opened-sessions : OpenedSessions
opened-sessions w [] l = tt
opened-sessions w (Opened d ∷ h) l = All-push (λ x. is_session (w.kinds x) ≡ true) (opened_days h) d (opened-sessions w h l.1) (next-first w h d l).2
opened-sessions w (e ∷ h) l = opened-sessions w h l.1

pub closed-days : ClosedDays
closed-days w h l = (λ o. sym (closed-latest w h l o), λ d o. open-later w h d l o)

-- a closed session for each close
pub closes-sessions : (w : World) (h : History) → length (gather amounts_written h) ≡ length (sessions_of w h)
closes-sessions w [] = refl
closes-sessions w (Closed c ∷ h) = let k = closes-sessions w h in omega (arith, length_push (gather amounts_written h) c)
closes-sessions w (e ∷ h) = closes-sessions w h

-- none is after the latest session
closed-by : (w : World) (h : History) → Lawful w h → AllByRecursion (λ s. s.day < session_day h + 1) (sessions_of w h)
closed-by w [] l = tt
closed-by w (Opened d ∷ h) l =
    let f = (next-first w h d l).0 in
    All-weaker (λ s. s.day < next_from w.start (latest_opened h)) (λ s. s.day < d + 1) (λ s b. omega arith) (sessions_of w h) (in_order w h l.1).closed-below
closed-by w (Closed c ∷ h) l = (omega arith, closed-by w h l.1)
closed-by w (e ∷ h) l = closed-by w h l.1

-- sessions that fall are no more than the days before one that is after them all
falling-few : (d : ℕ) (ss : List Session) → Falling ss → AllByRecursion (λ s. s.day < d) ss → length ss ≤ d
falling-few d [] f b = omega arith
falling-few d (s ∷ ss) f b = let k = falling-few s.day ss f.1 f.0 in let n = b.0 in omega arith

pub closes-few : ClosesFew
closes-few w h l = rw (closes-sessions w h) (falling-few (session_day h + 1) (sessions_of w h) (falling w h l) (closed-by w h l))

-- on a calendar no session is after day 36,524
pub session-bound : (w : World) (h : History) → ((d : ℕ) → 36524 < d → w.kinds d ≡ closed_day) → Lawful w h → session_day h ≤ 36524
session-bound w h ends l = by (latest_opened h) (in_order w h l).on-session
  where
    by : (o : Option ℕ) → ((d : ℕ) → o ≡ Some d → is_session (w.kinds d) ≡ true) → unwrap_or o 0 ≤ 36524
    by None s = omega arith
    by (Some d) s =
        elim (cases_lt 36524 d) [
          | inl b ↦ absurd (true≢false (sym (s d refl) ∙ past-last w.kinds ends is_session refl d (omega arith)))
          | inr b ↦ b
        ]
