-- More laws: what moves positions, due and paid; what holds of the trades of every session; when a month has ended.
use Rattle.std.specs.Prelude.{◌≡◌, ℕ, ◌<◌, Bool, false, cond, ◌&&◌, ◌∷◌, length, pos, ◌+ℤ◌, Some, None, nat_le, nat_lt}
use Rattle.std.specs.List.{AllByRecursion}
use Rattle.amounts.specs.declared.trades.Trade.{Trade}
use Rattle.amounts.specs.Trades.{contracts_of}
use Rattle.amounts.specs.DayTrades.{day_trade}
use Rattle.model.specs.History.{History, Event, Amounts, Traded, Closed, Paid, trade_made, amounts_written, is_payment}
use Rattle.model.specs.Lawful.{Lawful}
use Rattle.model.specs.Observed.{months_of, is_listed, expiry_at, session_day, open_session, trades_of, price_on, order_of}
use Rattle.model.specs.Positions.{has_ended, position_of, written_for, due_of, paid_of}
use Rattle.model.specs.Sessions.{sessions_of}
use Rattle.model.specs.World.{World}

-- a listed month whose expiry is not after the latest session
abbrev pub is_expired : World → History → ℕ → Bool
is_expired w h m = is_listed h m && nat_le (expiry_at w h m) (session_day h)

-- what moves a position
pub record PositionsMove : Type 0 where
  -- a trade adds its contracts
  pub trade : (w : World) (h : History) (t : Trade) (a m : ℕ) → Lawful w (Traded t ∷ h) → position_of w (Traded t ∷ h) a m ≡ position_of w h a m +ℤ contracts_of a m t
  -- a close leaves 0 where the month's expiry is not after it, else what there was
  pub close : (w : World) (h : History) (c : Amounts) (a m : ℕ) → Lawful w (Closed c ∷ h)
      → position_of w (Closed c ∷ h) a m ≡ cond (is_expired w h m) (pos 0) (position_of w h a m)
  -- nothing else moves it
  pub still : (w : World) (e : Event) (h : History) (a m : ℕ) → Lawful w (e ∷ h) → trade_made e ≡ None → amounts_written e ≡ None → position_of w (e ∷ h) a m ≡ position_of w h a m

-- what moves due and paid, in every history
pub record DuesMove : Type 0 where
  -- a close adds what it wrote to what is due
  pub closed : (h : History) (c : Amounts) (a : ℕ) → (due_of (Closed c ∷ h) a ≡ due_of h a +ℤ written_for a c) × (paid_of (Closed c ∷ h) a ≡ paid_of h a)
  -- a payment moves all that is due to what is paid
  pub paid : (h : History) (a : ℕ) → (due_of (Paid ∷ h) a ≡ pos 0) × (paid_of (Paid ∷ h) a ≡ paid_of h a +ℤ due_of h a)
  -- nothing else moves either
  pub still : (e : Event) (h : History) (a : ℕ) → amounts_written e ≡ None → is_payment e ≡ false → (due_of (e ∷ h) a ≡ due_of h a) × (paid_of (e ∷ h) a ≡ paid_of h a)

-- of each trade of each closed session, and of the latest session, with the day of its session
abbrev pub OfTrades : World → History → (ℕ → Trade → Type 0) → Type 0
OfTrades w h P = AllByRecursion (λ s. AllByRecursion (P s.day) s.trades) (sessions_of w h) × AllByRecursion (P (session_day h)) (trades_of h)

-- a trade in a listed month, on a day before its expiry
abbrev pub InTime : World → History → ℕ → Trade → Type 0
InTime w h day t = (t.month < length (months_of h)) × (day < expiry_at w h t.month)

-- a trade at the price that the rules give on the day
abbrev pub AtPrice : World → History → ℕ → Trade → Type 0
AtPrice w h day t = t.price ≡ price_on w h day (order_of t)

-- trades are in listed months, and their sessions before the expiry
abbrev pub TradesInTime : Type 0
TradesInTime = (w : World) (h : History) → Lawful w h → OfTrades w h (InTime w h)

-- trades have the prices of their sessions' days
abbrev pub TradesPriced : Type 0
TradesPriced = (w : World) (h : History) → Lawful w h → OfTrades w h (AtPrice w h)

-- closes wrote the day trades of their sessions
abbrev pub DayTradesWritten : Type 0
DayTradesWritten = (w : World) (h : History) → Lawful w h → AllByRecursion (λ s. (a m : ℕ) → s.amounts.day_trades a m ≡ day_trade a m s.trades) (sessions_of w h)

-- when a listed month has ended
pub record EndedBy : Type 0 where
  -- while a session is open: if its expiry is before the session
  pub during : (w : World) (h : History) (d m : ℕ) → Lawful w h → open_session h ≡ Some d → m < length (months_of h)
      → has_ended w h m ≡ nat_lt (expiry_at w h m) d
  -- while none is: if its expiry is not after the latest session; before the first, whose day counts as 0, no month has
  pub between : (w : World) (h : History) (m : ℕ) → Lawful w h → open_session h ≡ None → m < length (months_of h)
      → has_ended w h m ≡ nat_le (expiry_at w h m) (session_day h)

-- all of them
pub record MovesHold : Type 0 where
  pub positions : PositionsMove
  pub dues : DuesMove
  pub in_time : TradesInTime
  pub priced : TradesPriced
  pub day_trades : DayTradesWritten
  pub ended : EndedBy
