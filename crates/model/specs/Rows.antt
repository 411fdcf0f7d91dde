-- The refusals of each call, in their order: each row has its cause, over world and history, and what is told then.
use Rattle.std.specs.Prelude.{ℕ, Bool, true, not, ◌&&◌, ◌||◌, List, [], ◌∷◌, length, ℤ, pos, ◌+ℤ◌, ◌-ℤ◌, is_some, Some, None, filter, Option, ◌==◌, nat_le, nat_lt, unsigned_abs}
use Rattle.std.specs.List.{range_with_len, list_any}
use Rattle.std.specs.Option.{unwrap_or}
use Rattle.amounts.specs.declared.trades.TheConstants.{MAX_ACCOUNTS, MAX_MONTHS, MAX_TRADES, MAX_CONTRACTS, MAX_POSITION}
use Rattle.calendar.specs.Spans.{expiry_of, first_in}
use Rattle.correction.specs.Gaps.{first_unrated}
use Rattle.interest.specs.Tick.{on_tick}
use Rattle.interest.specs.declared.prices.TheConstants.{MAX_DEALT_RATE, MAX_RESERVE_DAYS}
use Rattle.pricing.specs.Pricing.{distance, days_to}
use Rattle.rates.specs.declared.entry.DayRate.{DayRate}
use Rattle.rates.specs.Publishing as sources
use Rattle.rows.specs.Rows.{Reason, Row, numbered, first_row}
use Rattle.model.specs.declared.calls.Account.{Account}
use Rattle.model.specs.declared.calls.Order.{Order}
use Rattle.model.specs.Accounts.{same_account}
use Rattle.model.specs.Closes.{cells_of}
use Rattle.model.specs.History.{History}
use Rattle.model.specs.Observed.{accounts_of, months_of, is_account, is_listed, month_at, expiry_at, source_of, rate_on, session_day, open_session, next_session, trades_of, mark_of}
use Rattle.model.specs.Positions.{position_of}
use Rattle.model.specs.References.{SessionReference, is_of}
use Rattle.model.specs.Sessions.{sessions_of, unpaid_day, gap_to}
use Rattle.model.specs.World.{World}

-- a row that names a value, where one is found
abbrev pub naming : ℕ → Option ℕ → Row
naming number found = (is_some found, record { number = number; values = unwrap_or found 0 ∷ [] })

-- 1: the ticket is not of the open session
abbrev pub ticket_row : World → History → SessionReference → Row
ticket_row w h ticket = (not (is_of w.number ticket (open_session h)), numbered 1)

-- 3: the month's expiry is not after the session
abbrev pub expired_row : World → History → ℕ → Row
expired_row w h m = (nat_le (expiry_at w h m) (session_day h), numbered 3)

-- 18, 19: to enter an account
abbrev pub enter_rows : History → Account → List Row
enter_rows h x =
    (nat_le MAX_ACCOUNTS (length (accounts_of h)), numbered 18)
    ∷ (list_any (same_account x) (accounts_of h), numbered 19)
    ∷ []

-- the month has no session, or its expiry is not after the start day, or not after the latest session
abbrev pub lacks_expiry : World → History → Option ℕ → Bool
lacks_expiry w h None = true
lacks_expiry w h (Some expiry) = nat_le expiry w.start || nat_le expiry (session_day h)

-- 18, 19, 20: to list a month, by its number
abbrev pub list_rows : World → History → ℕ → List Row
list_rows w h n =
    (nat_le MAX_MONTHS (length (months_of h)), numbered 18)
    ∷ (list_any (λ k. n == k) (months_of h), numbered 19)
    ∷ (lacks_expiry w h (expiry_of w.kinds n), numbered 20)
    ∷ []

-- 21, 22, 23, 24: to publish the rate of a day, for a period in reserve days
abbrev pub publish_rows : World → History → DayRate → ℕ → List Row
publish_rows w h entry period = sources.publish_rows (source_of w h) entry period

-- 21, 22, 23, 25: to arbitrate the rate of a day
abbrev pub arbitrate_rows : World → History → DayRate → List Row
arbitrate_rows w h entry = sources.arbitrate_rows (source_of w h) entry

-- 11, 12: to open the next session
abbrev pub open_rows : World → History → List Row
open_rows w h =
    (is_some (open_session h), numbered 11)
    ∷ (not (is_some (next_session w h)), numbered 12)
    ∷ []

-- more than 500,000 contracts, bought or sold
abbrev pub is_over : ℤ → Bool
is_over position = nat_lt MAX_POSITION (unsigned_abs position)

-- 1 to 9: to trade
abbrev pub trade_rows : World → History → SessionReference → Order → List Row
trade_rows w h ticket o =
    ticket_row w h ticket
    ∷ (not (is_account h o.buyer && (is_account h o.seller && is_listed h o.month)), numbered 2)
    ∷ expired_row w h o.month
    ∷ ((o.buyer == o.seller), numbered 4)
    ∷ (o.quantity == 0 || nat_lt MAX_CONTRACTS o.quantity, numbered 5)
    ∷ (nat_lt MAX_DEALT_RATE o.rate || not (on_tick o.rate (distance (session_day h) (month_at h o.month))), numbered 6)
    ∷ (nat_lt MAX_RESERVE_DAYS (days_to w.kinds (session_day h) (month_at h o.month)), numbered 7)
    ∷ (is_over (position_of w h o.buyer o.month -ℤ pos o.quantity) || is_over (position_of w h o.seller o.month +ℤ pos o.quantity), numbered 8)
    ∷ (nat_le MAX_TRADES (length (trades_of h)), numbered 9)
    ∷ []

-- 1, 2, 3, 10: to mark a month, by its index, with a price
abbrev pub mark_rows : World → History → SessionReference → ℕ → ℕ → List Row
mark_rows w h ticket m price =
    ticket_row w h ticket
    ∷ (not (is_listed h m), numbered 2)
    ∷ expired_row w h m
    ∷ (price == 0 || nat_lt 10000000 price, numbered 10)
    ∷ []

-- a month that expires after the session and has no mark
abbrev pub is_unmarked : World → History → ℕ → Bool
is_unmarked w h m = nat_lt (session_day h) (expiry_at w h m) && not (is_some (mark_of h m))

-- the lowest index of such a month
abbrev pub first_unmarked : World → History → Option ℕ
first_unmarked w h = first_in (filter (is_unmarked w h) (range_with_len 0 (length (months_of h))))

-- the first reserve day since the latest closed session that has no rate
abbrev pub missing_rate : World → History → Option ℕ
missing_rate w h = first_unrated (rate_on w h) (gap_to w (session_day h) (sessions_of w h))

-- 1, 13 to 16: to close into arrays of these lengths
abbrev pub close_rows : World → History → SessionReference → ℕ → ℕ → List Row
close_rows w h ticket adjustments day_trades =
    ticket_row w h ticket
    ∷ (is_some (unpaid_day w h), numbered 13)
    ∷ naming 14 (first_unmarked w h)
    ∷ naming 15 (missing_rate w h)
    ∷ (nat_lt adjustments (cells_of h) || nat_lt day_trades (cells_of h), numbered 16)
    ∷ []

-- 1, 17: to pay by a slip
abbrev pub pay_rows : World → History → SessionReference → List Row
pay_rows w h slip =
    (not (is_of w.number slip (unpaid_day w h)), numbered 1)
    ∷ (not (is_some (open_session h)), numbered 17)
    ∷ []

-- 2: to ask for the position of an account in a month
abbrev pub position_rows : History → ℕ → ℕ → List Row
position_rows h a m = (not (is_account h a && is_listed h m), numbered 2) ∷ []

-- 2: to ask what is paid and due of an account
abbrev pub balance_rows : History → ℕ → List Row
balance_rows h a = (not (is_account h a), numbered 2) ∷ []

-- a refused call hands the ticket or the slip back, beside the reason
abbrev pub handed_back : SessionReference → Option Reason → Option (Reason × SessionReference)
handed_back reference None = None
handed_back reference (Some reason) = Some (reason, reference)

-- what a refused close answers: the reason and the ticket
abbrev pub close_refused : World → History → SessionReference → ℕ → ℕ → Option (Reason × SessionReference)
close_refused w h ticket adjustments day_trades = handed_back ticket (first_row (close_rows w h ticket adjustments day_trades))

-- what a refused payment answers: the reason and the slip
abbrev pub pay_refused : World → History → SessionReference → Option (Reason × SessionReference)
pay_refused w h slip = handed_back slip (first_row (pay_rows w h slip))
