-- What has happened to a book: the calls that it accepted, the newest first. No code stores it.
-- Questions, refusals and slips that are written off change nothing in the book, and leave no event.
use Rattle.std.specs.Prelude.{ℕ, Bool, true, false, cond, List, [], ◌∷◌, ◌++◌, ℤ, is_some, Some, None, Option, ◌==◌}
use Rattle.rates.specs.declared.entry.DayRate.{DayRate}
use Rattle.rates.specs.Meanings.{or_else}
use Rattle.amounts.specs.declared.trades.Trade.{Trade}
use Rattle.model.specs.declared.calls.Account.{Account}

-- what a close wrote for each account and month, by their indices, in centavos; 0 where it wrote nothing
pub record Amounts : Type 0 where
  pub adjustments : ℕ → ℕ → ℤ
  pub day_trades : ℕ → ℕ → ℤ

-- an accepted call, with what it was given and what it answered or wrote
pub data Event : Type 0 where
  Entered : Account → Event
  -- the number of a month
  Listed : ℕ → Event
  -- a day, and its rate in millionths of a percent
  Published : DayRate → Event
  Arbitrated : DayRate → Event
  -- a session day
  Opened : ℕ → Event
  Traded : Trade → Event
  -- the index of a month, and its price in centavos
  Marked : ℕ → ℕ → Event
  Closed : Amounts → Event
  Paid : Event

-- the newest first
abbrev pub History : Type 0
History = List Event

-- What an event tells, for each thing that is asked of a history.

-- the account that was added
abbrev pub account_entered : Event → Option Account
account_entered (Entered x) = Some x
account_entered e = None

-- the month that was added
abbrev pub month_listed : Event → Option ℕ
month_listed (Listed n) = Some n
month_listed e = None

-- the session that was opened
abbrev pub session_opened : Event → Option ℕ
session_opened (Opened d) = Some d
session_opened e = None

-- the trade that was accepted
abbrev pub trade_made : Event → Option Trade
trade_made (Traded t) = Some t
trade_made e = None

-- the price that a month was marked with
abbrev pub price_marked : ℕ → Event → Option ℕ
price_marked x (Marked m p) = cond (x == m) (Some p) None
price_marked x e = None

-- what a close wrote
abbrev pub amounts_written : Event → Option Amounts
amounts_written (Closed c) = Some c
amounts_written e = None

-- a payment
abbrev pub is_payment : Event → Bool
is_payment Paid = true
is_payment e = false

-- a session was opened
abbrev pub is_opening : Event → Bool
is_opening e = is_some (session_opened e)

-- a session was closed
abbrev pub is_close : Event → Bool
is_close e = is_some (amounts_written e)

-- How a history is looked through.

-- a list with one element more at the end, if there is one more
abbrev pub with_last : {X : Type 0} → List X → Option X → List X
with_last xs None = xs
with_last xs (Some x) = xs ++ x ∷ []

-- all that the events tell, in order of time
abbrev pub gather : {X : Type 0} → (Event → Option X) → History → List X
gather tells [] = []
gather tells (e ∷ h) = with_last (gather tells h) (tells e)

-- the newest that an event tells
abbrev pub newest : {X : Type 0} → (Event → Option X) → History → Option X
newest tells [] = None
newest tells (e ∷ h) = or_else (tells e) (newest tells h)

-- what happened since the newest event of a kind; all of it where there is none
abbrev pub since : (Event → Bool) → History → History
since kind [] = []
since kind (e ∷ h) = cond (kind e) [] (e ∷ since kind h)

-- what happened before the newest event of a kind; nothing where there is none
abbrev pub before : (Event → Bool) → History → History
before kind [] = []
before kind (e ∷ h) = cond (kind e) h (before kind h)
