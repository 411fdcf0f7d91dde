-- How large things get in lawful histories.
use Rattle.std.specs.Prelude.{◌≡◌, ℕ, ◌+◌, ◌*◌, ◌^◌, ◌<◌, ◌≤◌, true, false, ◌&&◌, length, pos, Some, None, Option, nat_eq, unsigned_abs}
use Rattle.std.specs.List.{AllByRecursion, list_any}
use Rattle.calendar.specs.declared.kind.DayKind.TheVariants.{ClosedDay}
use Rattle.calendar.specs.Kinds.{is_session}
use Rattle.dates.specs.declared.TheConstants.{LAST_DAY}
use Rattle.interest.specs.declared.di_rates.TheConstants.{MAX_DI_RATE}
use Rattle.rates.specs.Meanings.{rates_of}
use Rattle.amounts.specs.declared.trades.TheConstants.{MAX_ACCOUNTS, MAX_MONTHS, MAX_POSITION}
use Rattle.amounts.specs.Trades.{Limited}
use Rattle.model.specs.Accounts.{account_indices, month_indices}
use Rattle.model.specs.History.{History, Amounts, trade_made, amounts_written, gather}
use Rattle.model.specs.Lawful.{Lawful}
use Rattle.model.specs.Observed.{accounts_of, months_of, rate_on, opened_days, latest_opened, session_day, open_session, trades_of, settlement_price}
use Rattle.model.specs.Positions.{position_of, written_for, due_of, paid_of}
use Rattle.model.specs.Sessions.{sessions_of, latest_closed}
use Rattle.model.specs.World.{World}

-- at most 32 accounts and 16 months
abbrev pub TablesLimited : Type 0
TablesLimited = (w : World) (h : History) → Lawful w h → (length (accounts_of h) ≤ MAX_ACCOUNTS) × (length (months_of h) ≤ MAX_MONTHS)

-- no position passes 500,000 contracts, bought or sold
abbrev pub PositionsLimited : Type 0
PositionsLimited = (w : World) (h : History) (a m : ℕ) → Lawful w h → unsigned_abs (position_of w h a m) ≤ MAX_POSITION

-- every session has at most 256 trades, of at most 20,000 contracts each
abbrev pub TradesLimited : Type 0
TradesLimited = (w : World) (h : History) → Lawful w h → Limited (trades_of h) × AllByRecursion (λ s. Limited s.trades) (sessions_of w h)

-- settlement prices are at most 10,000,000, the prices of trades from 1 to 10,000,000
pub record PricesWithin (w : World) (h : History) : Type 0 where
  -- of the latest session, by month
  pub session : (m : ℕ) → settlement_price w h m ≤ 10000000
  -- of the closed sessions
  pub closed : AllByRecursion (λ s. (m : ℕ) → s.prices m ≤ 10000000) (sessions_of w h)
  -- of the trades of the latest session
  pub dealt_in_session : AllByRecursion (λ t. (1 ≤ t.price) × (t.price ≤ 10000000)) (trades_of h)
  -- of all trades so far
  pub dealt : AllByRecursion (λ t. (1 ≤ t.price) × (t.price ≤ 10000000)) (gather trade_made h)

-- in every lawful history
abbrev pub PricesLimited : Type 0
PricesLimited = (w : World) (h : History) → Lawful w h → PricesWithin w h

-- each opened day is a session day of the calendar
abbrev pub OpenedSessions : Type 0
OpenedSessions = (w : World) (h : History) → Lawful w h → AllByRecursion (λ d. is_session (w.kinds d) ≡ true) (opened_days h)

-- while none is open the latest closed session is the latest opened; while one is open each closed session is before it
abbrev pub ClosedDays : Type 0
ClosedDays = (w : World) (h : History) → Lawful w h
    → (open_session h ≡ None → latest_closed w h ≡ latest_opened h)
    × ((d : ℕ) → open_session h ≡ Some d → AllByRecursion (λ s. s.day < d) (sessions_of w h))

-- a close wrote nothing but for the indices of accounts and months
abbrev pub NothingOutside : Type 0
NothingOutside = (w : World) (h : History) → Lawful w h
    → AllByRecursion (λ c. (a m : ℕ) → (list_any (nat_eq a) account_indices && list_any (nat_eq m) month_indices) ≡ false
    → (c.adjustments a m ≡ pos 0) × (c.day_trades a m ≡ pos 0)) (gather amounts_written h)

-- no rate is over 99,999,999
abbrev pub RatesLimited : (ℕ → Option ℕ) → Type 0
RatesLimited rates = (d r : ℕ) → rates d ≡ Some r → r ≤ MAX_DI_RATE

-- where no rate of the source is over 99,999,999, none ever is
abbrev pub RatesStayLimited : Type 0
RatesStayLimited = (w : World) (h : History) → RatesLimited (rates_of w.source) → Lawful w h → RatesLimited (rate_on w h)

-- and where none is now, none was
abbrev pub RatesWereLimited : Type 0
RatesWereLimited = (w : World) (h : History) → Lawful w h → RatesLimited (rate_on w h) → RatesLimited (rates_of w.source)

-- the adjustments that a close wrote for an account, in each month and in all months together
pub record AmountsWithin (c : Amounts) : Type 0 where
  pub each : (a m : ℕ) → unsigned_abs (c.adjustments a m) ≤ 60000000000000
  pub together : (a : ℕ) → unsigned_abs (written_for a c) ≤ 160000000000000

-- every close, where no rate of the source is over 99,999,999
abbrev pub AmountsLimited : Type 0
AmountsLimited = (w : World) (h : History) → RatesLimited (rates_of w.source) → Lawful w h → AllByRecursion AmountsWithin (gather amounts_written h)

-- due and paid of an account
pub record DuesWithin (h : History) (a : ℕ) : Type 0 where
  -- what is due is of one close at most
  pub due : unsigned_abs (due_of h a) ≤ 160000000000000
  -- paid and due are of all closes together
  pub together : unsigned_abs (paid_of h a) + unsigned_abs (due_of h a) ≤ length (gather amounts_written h) * 160000000000000

-- every account, under the same condition
abbrev pub DuesLimited : Type 0
DuesLimited = (w : World) (h : History) (a : ℕ) → RatesLimited (rates_of w.source) → Lawful w h → DuesWithin h a

-- no more closes than days up to the latest session, included; its day is 0 before the first
abbrev pub ClosesFew : Type 0
ClosesFew = (w : World) (h : History) → Lawful w h → length (gather amounts_written h) ≤ session_day h + 1

-- on a calendar, which is closed from day 36,525 on, due and paid fit in 64 bits
abbrev pub DuesFit : Type 0
DuesFit = (w : World) (h : History) (a : ℕ) → RatesLimited (rates_of w.source) → ((d : ℕ) → LAST_DAY < d → w.kinds d ≡ ClosedDay) → Lawful w h
    → unsigned_abs (paid_of h a) + unsigned_abs (due_of h a) < 2 ^ 63

-- all of them
pub record LimitsHold : Type 0 where
  pub tables : TablesLimited
  pub positions : PositionsLimited
  pub trades : TradesLimited
  pub prices : PricesLimited
  pub opened : OpenedSessions
  pub closed : ClosedDays
  pub outside : NothingOutside
  pub rates : RatesStayLimited
  pub rates_before : RatesWereLimited
  pub amounts : AmountsLimited
  pub dues : DuesLimited
  pub closes : ClosesFew
  pub fit : DuesFit
