-- What is seen of a world and a history: accounts, months, rates, the session, its trades and its prices.
use Rattle.std.specs.Prelude.{ℕ, ◌+◌, Bool, cond, ◌&&◌, List, [], ◌∷◌, length, is_some, Some, None, Option, ◌==◌, nat_lt, slice_index}
use Rattle.std.specs.Option.{unwrap_or}
use Rattle.calendar.specs.Spans.{first_session}
use Rattle.calendar.specs.declared.span.TheConstants.{MAX_SESSION_SEARCH_DAYS}
use Rattle.interest.specs.Price.{trade_price}
use Rattle.pricing.specs.Pricing.{expiry_day, days_to}
use Rattle.rates.specs.Meanings.{Meaning, rates_of, published_in, arbitrated_in}
use Rattle.amounts.specs.declared.trades.Trade.{Trade}
use Rattle.model.specs.declared.calls.Account.{Account}
use Rattle.model.specs.declared.calls.Order.{Order}
use Rattle.model.specs.World.{World}
use Rattle.model.specs.History.{History, Event, Published, Arbitrated, account_entered, month_listed, session_opened, trade_made, price_marked, amounts_written, is_opening, gather, newest, since}

-- the accounts, by their indices
abbrev pub accounts_of : History → List Account
accounts_of h = gather account_entered h

-- the numbers of the months, by their indices
abbrev pub months_of : History → List ℕ
months_of h = gather month_listed h

-- the book has an account of this index
abbrev pub is_account : History → ℕ → Bool
is_account h a = nat_lt a (length (accounts_of h))

-- the book has a month of this index
abbrev pub is_listed : History → ℕ → Bool
is_listed h m = nat_lt m (length (months_of h))

-- the number of the month with an index; 0 for an index that is not listed, on which nothing rests
abbrev pub month_at : History → ℕ → ℕ
month_at h m = slice_index (months_of h) m

-- the expiry of the month with an index
abbrev pub expiry_at : World → History → ℕ → ℕ
expiry_at w h m = expiry_day w.kinds (month_at h m)

-- what a source means after an event: a publication and an arbitration change it, and nothing else does
abbrev pub source_after : Event → Meaning → Meaning
source_after (Published entry) source = published_in source entry
source_after (Arbitrated entry) source = arbitrated_in source entry
source_after e source = source

-- what the source means now
abbrev pub source_of : World → History → Meaning
source_of w [] = w.source
source_of w (e ∷ h) = source_after e (source_of w h)

-- the rate of a day as it is now
abbrev pub rate_on : World → History → ℕ → Option ℕ
rate_on w h d = rates_of (source_of w h) d

-- the sessions opened so far
abbrev pub opened_days : History → List ℕ
opened_days h = gather session_opened h

-- the latest session that was opened, open or closed
abbrev pub latest_opened : History → Option ℕ
latest_opened h = newest session_opened h

-- the day of the latest session, 0 before the first
abbrev pub session_day : History → ℕ
session_day h = unwrap_or (latest_opened h) 0

-- what happened since the latest session was opened, after its close too
abbrev pub since_opened : History → History
since_opened h = since is_opening h

-- the latest session, unless it was closed
abbrev pub open_session : History → Option ℕ
open_session h = cond (is_some (newest amounts_written (since_opened h))) None (latest_opened h)

-- the day from which the next session is looked for: the start day, later the day after the latest session
abbrev pub next_from : ℕ → Option ℕ → ℕ
next_from start None = start
next_from start (Some latest) = latest + 1

-- the next session, if there is one in 60 days
abbrev pub next_session : World → History → Option ℕ
next_session w h = first_session w.kinds (next_from w.start (latest_opened h)) (next_from w.start (latest_opened h) + MAX_SESSION_SEARCH_DAYS)

-- the trades of the latest session, in order of acceptance
abbrev pub trades_of : History → List Trade
trades_of h = gather trade_made (since_opened h)

-- the latest mark of a month in the session
abbrev pub mark_of : History → ℕ → Option ℕ
mark_of h m = newest (price_marked m) (since_opened h)

-- the settlement price of a month in the session, in centavos: 10,000,000 on the expiry of a listed month, else the latest mark, 0 without one
abbrev pub settlement_price : World → History → ℕ → ℕ
settlement_price w h m = cond (is_listed h m && session_day h == expiry_at w h m) 10000000 (unwrap_or (mark_of h m) 0)

-- the price of an order in a session of that day
abbrev pub price_on : World → History → ℕ → Order → ℕ
price_on w h day order = trade_price order.rate (days_to w.kinds day (month_at h order.month))

-- an order that is traded at a price
abbrev pub trade_at : Order → ℕ → Trade
trade_at order price = record { buyer = order.buyer; seller = order.seller; month = order.month; rate = order.rate; contracts = order.quantity; price = price }

-- the order of a trade
abbrev pub order_of : Trade → Order
order_of t = record { buyer = t.buyer; seller = t.seller; month = t.month; rate = t.rate; quantity = t.contracts }
