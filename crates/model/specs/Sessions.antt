-- The sessions that were closed.
use Rattle.std.specs.Prelude.{ℕ, Bool, false, cond, leb, List, [], ◌∷◌, map, is_some, Some, None, filter, Option, nat_le}
use Rattle.calendar.specs.declared.kind.DayKind.{DayKind}
use Rattle.calendar.specs.Spans.{reserve_days, first_in}
use Rattle.amounts.specs.declared.trades.Trade.{Trade}
use Rattle.model.specs.World.{World}
use Rattle.model.specs.History.{History, Amounts, amounts_written, is_payment, newest, since}
use Rattle.model.specs.Observed.{session_day, trades_of, settlement_price}

-- a closed session: its day, its trades, the settlement price of each month by its index, and what its close wrote
pub record Session : Type 0 where
  pub day : ℕ
  pub trades : List Trade
  pub prices : ℕ → ℕ
  pub amounts : Amounts

-- the session of a history that is closed with these amounts
abbrev pub closed_with : World → History → Amounts → Session
closed_with w h c = record { day = session_day h; trades = trades_of h; prices = settlement_price w h; amounts = c }

-- the sessions, with one more where there was a close
abbrev pub with_closed : World → History → Option Amounts → List Session → List Session
with_closed w h None ss = ss
with_closed w h (Some c) ss = closed_with w h c ∷ ss

-- the closed sessions, the newest first
abbrev pub sessions_of : World → History → List Session
sessions_of w [] = []
sessions_of w (e ∷ h) = with_closed w h (amounts_written e) (sessions_of w h)

-- the day of the newest of sessions
abbrev pub latest_day : List Session → Option ℕ
latest_day ss = first_in (map (λ s. s.day) ss)

-- the day of the latest closed session
abbrev pub latest_closed : World → History → Option ℕ
latest_closed w h = latest_day (sessions_of w h)

-- the closed session whose slip is not paid: the latest, unless a payment came after its close
abbrev pub unpaid_day : World → History → Option ℕ
unpaid_day w h = cond (is_some (newest amounts_written (since is_payment h))) (latest_closed w h) None

-- the day of the oldest of sessions, of which the newest comes first; d where there is none
abbrev pub oldest_day : ℕ → List Session → ℕ
oldest_day d [] = d
oldest_day d (s ∷ ss) = oldest_day s.day ss

-- the day of the newest of sessions; 0 where there is none
abbrev pub newest_day : List Session → ℕ
newest_day [] = 0
newest_day (s ∷ ss) = s.day

-- the price of a month in the newest of sessions; 0 where there is none
abbrev pub newest_price : ℕ → List Session → ℕ
newest_price m [] = 0
newest_price m (s ∷ ss) = s.prices m

-- the sessions up to a day
abbrev pub up_to : ℕ → List Session → List Session
up_to d ss = filter (λ s. leb s.day d) ss

-- the newest session is on the day or after it
abbrev pub has_reached : ℕ → List Session → Bool
has_reached d [] = false
has_reached d (s ∷ ss) = nat_le d s.day

-- the reserve days from the latest closed session, included, to a day, excluded; none before the first close
abbrev pub gap_since : (ℕ → DayKind) → Option ℕ → ℕ → List ℕ
gap_since kinds None day = []
gap_since kinds (Some closed) day = reserve_days kinds closed day

-- the gap from the newest of sessions to a day
abbrev pub gap_to : World → ℕ → List Session → List ℕ
gap_to w d ss = gap_since w.kinds (latest_day ss) d
