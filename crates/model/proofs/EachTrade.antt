-- What holds of the trades of every session: a trade keeps what it had when it was accepted.
use Rattle.std.proofs.Common.{ℕ, List, [], ◌∷◌}
use Rattle.std.specs.List.{AllByRecursion}
use Rattle.std.proofs.ByRecursion.{All-push, All-weaker}
use Rattle.amounts.specs.declared.trades.Trade.{Trade}
use Rattle.model.specs.History.{History, Event, Opened, Traded, Closed}
use Rattle.model.specs.Lawful.{Lawful}
use Rattle.model.specs.Moves.{OfTrades}
use Rattle.model.specs.Observed.{session_day, trades_of}
use Rattle.model.specs.Sessions.{Session, sessions_of}
use Rattle.model.specs.World.{World}

-- what holds of a trade when it is accepted and stays, whatever happens next
module _ (w : World) (P : History → ℕ → Trade → Type 0)
    (new : (h : History) (t : Trade) → Lawful w (Traded t ∷ h) → P h (session_day h) t)
    (stays : (h : History) (e : Event) (day : ℕ) (t : Trade) → P h day t → P (e ∷ h) day t) where
  all_stay : (h : History) (e : Event) (day : ℕ) (ts : List Trade) → AllByRecursion (P h day) ts → AllByRecursion (P (e ∷ h) day) ts
  all_stay h e day ts a = All-weaker (P h day) (P (e ∷ h) day) (stays h e day) ts a

  pub of-latest : (h : History) → Lawful w h → AllByRecursion (P h (session_day h)) (trades_of h)
  of-latest [] l = tt
  of-latest (Opened d ∷ h) l = tt
  of-latest (Traded t ∷ h) l =
      All-push (P (Traded t ∷ h) (session_day h)) (trades_of h) t
      (all_stay h (Traded t) (session_day h) (trades_of h) (of-latest h l.1)) (stays h (Traded t) (session_day h) t (new h t l))
  of-latest (e ∷ h) l = all_stay h e (session_day h) (trades_of h) (of-latest h l.1)

  sessions-stay : (h : History) (e : Event) (ss : List Session) → AllByRecursion (λ s. AllByRecursion (P h s.day) s.trades) ss
      → AllByRecursion (λ s. AllByRecursion (P (e ∷ h) s.day) s.trades) ss
  sessions-stay h e ss a =
      All-weaker (λ s. AllByRecursion (P h s.day) s.trades) (λ s. AllByRecursion (P (e ∷ h) s.day) s.trades) (λ s. all_stay h e s.day s.trades) ss a

  pub of-closed : (h : History) → Lawful w h → AllByRecursion (λ s. AllByRecursion (P h s.day) s.trades) (sessions_of w h)
  of-closed [] l = tt
  of-closed (Closed c ∷ h) l =
      (all_stay h (Closed c) (session_day h) (trades_of h) (of-latest h l.1), sessions-stay h (Closed c) (sessions_of w h) (of-closed h l.1))
  of-closed (e ∷ h) l = sessions-stay h e (sessions_of w h) (of-closed h l.1)

  pub of-trades : (h : History) → Lawful w h → OfTrades w h (P h)
  of-trades h l = (of-closed h l, of-latest h l)
