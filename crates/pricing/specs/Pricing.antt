-- The price of a trade on a calendar, and the causes for which it has none.
use Rattle.std.specs.Prelude.{ℕ, ◌-◌, Bool, not, List, [], ◌∷◌, codes, length, is_some, Some, None, Option, nat_le, nat_lt}
use Rattle.std.specs.Option.{unwrap_or}
use Rattle.dates.specs.Months.{month_of}
use Rattle.calendar.specs.declared.kind.DayKind.{DayKind}
use Rattle.calendar.specs.Spans.{expiry_of, reserve_days}
use Rattle.interest.specs.declared.prices.TheConstants.{MAX_DEALT_RATE, MAX_RESERVE_DAYS}
use Rattle.interest.specs.declared.prices.Unpriceable.{Unpriceable}
use Rattle.interest.specs.declared.prices.Unpriceable.TheVariants as prices
use Rattle.interest.specs.Price.{trade_price}
use Rattle.interest.specs.Tick.{on_tick}
use Rattle.rows.specs.Rows.{Reason, numbered, first_row}
use Rattle.sheet.specs.declared.trade_line.TradeLine.{TradeLine}
use Rattle.pricing.specs.declared.trades.Cause.{Cause}
use Rattle.pricing.specs.declared.trades.Cause.TheVariants.{NoSession, Expired, RateTooHigh, OffTick, TooFar}
use Rattle.pricing.specs.declared.trades.PricedTrade.{PricedTrade}
use Rattle.pricing.specs.declared.trades.Sides.{Sides}

-- the day on which a month expires, if it has a session
abbrev pub expiry_day : (ℕ → DayKind) → ℕ → ℕ
expiry_day kinds month = unwrap_or (expiry_of kinds month) 0

-- the months from a session to a month
abbrev pub distance : ℕ → ℕ → ℕ
distance session month = month - month_of session

-- the reserve days from a session, included, to a month's expiry, excluded
abbrev pub days_to : (ℕ → DayKind) → ℕ → ℕ → ℕ
days_to kinds session month = length (reserve_days kinds session (expiry_day kinds month))

-- the causes for which a trade is not priced, in order
abbrev pub pricing_rows : (ℕ → DayKind) → ℕ → TradeLine → List (Bool × Cause)
pricing_rows kinds session trade =
    (not (is_some (expiry_of kinds trade.month)), NoSession)
    ∷ (nat_le (expiry_day kinds trade.month) session, Expired)
    ∷ (nat_lt MAX_DEALT_RATE trade.rate, RateTooHigh)
    ∷ (not (on_tick trade.rate (distance session trade.month)), OffTick)
    ∷ (nat_lt MAX_RESERVE_DAYS (days_to kinds session trade.month), TooFar)
    ∷ []

-- the first cause for which a trade is not priced, if there is one
abbrev pub first_cause : (ℕ → DayKind) → ℕ → TradeLine → Option Cause
first_cause kinds session trade = first_row (pricing_rows kinds session trade)

-- no cause holds
abbrev pub is_priced : (ℕ → DayKind) → ℕ → TradeLine → Bool
is_priced kinds session trade = not (is_some (first_cause kinds session trade))

-- the sides in price: the buyer in rate sells, the seller in rate buys
abbrev pub in_price : TradeLine → Sides
in_price trade = record { buyer = trade.seller; seller = trade.buyer }

-- a trade in price, with the sides turned
abbrev pub priced_trade : (ℕ → DayKind) → ℕ → TradeLine → PricedTrade
priced_trade kinds session trade = record {
  buyer = (in_price trade).buyer;
  seller = (in_price trade).seller;
  expiry = expiry_day kinds trade.month;
  days = days_to kinds session trade.month;
  price = trade_price trade.rate (days_to kinds session trade.month);
}

-- the cause that a rate without a price is
abbrev pub unpriceable_cause : Unpriceable → Cause
unpriceable_cause prices.RateTooHigh = RateTooHigh
unpriceable_cause prices.TooFar = TooFar

-- the number of each cause; a month without any session has none
abbrev pub cause_reason : Cause → Option Reason
cause_reason NoSession = None
cause_reason Expired = Some (numbered 3)
cause_reason RateTooHigh = Some (numbered 6)
cause_reason OffTick = Some (numbered 6)
cause_reason TooFar = Some (numbered 7)

-- the words of each cause
abbrev pub message : Cause → List ℕ
message NoSession = codes "month has no session"
message Expired = codes "expired"
message RateTooHigh = codes "rate over 99.999 %"
message OffTick = codes "rate off the tick"
message TooFar = codes "over 2520 reserve days"
