-- What a close can rely on: laws of the session that is open.
use Rattle.std.specs.Prelude.{◌≡◌, ℕ, ◌≤◌, ◌∷◌, length, pos, Some, unsigned_abs}
use Rattle.std.specs.List.{range_with_len}
use Rattle.calendar.specs.declared.span.TheConstants.{MAX_SESSION_SEARCH_DAYS}
use Rattle.amounts.specs.Amounts.{adjustment_of, carried_in}
use Rattle.amounts.specs.Sums.{total}
use Rattle.amounts.specs.declared.trades.TheConstants.{MAX_POSITION}
use Rattle.model.specs.Closes.{amounts_at_close}
use Rattle.model.specs.History.{History, Amounts, Closed}
use Rattle.model.specs.Lawful.{Lawful}
use Rattle.model.specs.Limits.{RatesLimited}
use Rattle.model.specs.Observed.{months_of, rate_on, session_day, open_session, trades_of, settlement_price}
use Rattle.model.specs.Positions.{position_of, carried_of, corrected_since, adjustment_at, written_for, due_of}
use Rattle.model.specs.Sessions.{sessions_of, latest_closed, newest_price, gap_since}
use Rattle.model.specs.World.{World}

-- the position that the session began with is the present one less what the session's trades changed
abbrev pub CarriedBefore : Type 0
CarriedBefore = (w : World) (h : History) (d a m : ℕ) → Lawful w h → open_session h ≡ Some d
    → carried_of w h a m ≡ carried_in a m (trades_of h) (position_of w h a m)

-- it is of at most 500,000 contracts, bought or sold
abbrev pub CarriedLimited : Type 0
CarriedLimited = (w : World) (h : History) (a m : ℕ) → Lawful w h → unsigned_abs (carried_of w h a m) ≤ MAX_POSITION

-- from the latest closed session to the latest session there are at most 60 reserve days
abbrev pub GapShort : Type 0
GapShort = (w : World) (h : History) → Lawful w h → length (gap_since w.kinds (latest_closed w h) (session_day h)) ≤ MAX_SESSION_SEARCH_DAYS

-- so a corrected price is at most 13,305,340, where no rate is over 99,999,999
abbrev pub CorrectedLimited : Type 0
CorrectedLimited = (w : World) (h : History) (m : ℕ) → Lawful w h → RatesLimited (rate_on w h)
    → corrected_since w.kinds (rate_on w h) (latest_closed w h) (newest_price m (sessions_of w h)) (session_day h) ≤ 13305340

-- the adjustment of the rules, on what is known of an account in a month at the close
abbrev pub AdjustmentSeen : Type 0
AdjustmentSeen = (w : World) (h : History) (d a m : ℕ) → Lawful w h → open_session h ≡ Some d
    → adjustment_at w h a m
    ≡ adjustment_of a m (settlement_price w h m) (trades_of h) (carried_in a m (trades_of h) (position_of w h a m))
    (corrected_since w.kinds (rate_on w h) (latest_closed w h) (newest_price m (sessions_of w h)) (session_day h))

-- the adjustments of an account are those of the listed months
abbrev pub ListedWritten : Type 0
ListedWritten = (w : World) (h : History) (a : ℕ) → Lawful w h
    → written_for a (amounts_at_close w h) ≡ total ((amounts_at_close w h).adjustments a) (range_with_len 0 (length (months_of h)))

-- before a close nothing is due
abbrev pub NothingDue : Type 0
NothingDue = (w : World) (h : History) (c : Amounts) (a : ℕ) → Lawful w (Closed c ∷ h) → due_of h a ≡ pos 0

-- all of them
pub record ClosingHolds : Type 0 where
  pub carried : CarriedBefore
  pub carried_limited : CarriedLimited
  pub gap : GapShort
  pub corrected : CorrectedLimited
  pub adjustment : AdjustmentSeen
  pub listed : ListedWritten
  pub due : NothingDue
