-- The second claim: what the adjustments come to is the value of the trades, but for rounding. For an account and a month, with
-- `first` the book's first closed session and `last` the month's last, the latest not after its expiry, all in whole numbers:
--   scale d = 10^8 for each reserve day from first, included, to d, excluded × the factors of those from d, included, to last, excluded
--   | 20 × Σ adjustment × scale of its session − 20 × Σ contracts × (last price × scale last − trade price × scale of its session) |
--     ≤ 10 × Σ over the reserve days d from first, included, to last, excluded, of the contracts held on d × scale (d + 1)
-- Factors are by the rates as they are now: each of these days has one, and a rate once known stays (Laws).
use Rattle.std.specs.Prelude.{◌≡◌, ℕ, ◌+◌, ◌*◌, ◌^◌, ◌<◌, ◌≤◌, List, length, ℤ, pos, ◌-ℤ◌, ◌*ℤ◌, sum_by, Option, unsigned_abs}
use Rattle.std.specs.List.{AllByRecursion}
use Rattle.calendar.specs.declared.kind.DayKind.{DayKind}
use Rattle.calendar.specs.Spans.{reserve_days}
use Rattle.correction.specs.Gaps.{factors}
use Rattle.interest.specs.Rounding.{product}
use Rattle.amounts.specs.Sums.{total}
use Rattle.amounts.specs.Trades.{contracts_of}
use Rattle.model.specs.History.{History}
use Rattle.model.specs.Lawful.{Lawful}
use Rattle.model.specs.Observed.{months_of, expiry_at, rate_on}
use Rattle.model.specs.Positions.{contracts_in}
use Rattle.model.specs.Sessions.{Session, sessions_of, oldest_day, newest_day, newest_price, up_to}
use Rattle.model.specs.World.{World}

-- what an amount of day d is multiplied by
abbrev pub scale_of : (ℕ → DayKind) → (ℕ → Option ℕ) → ℕ → ℕ → ℕ → ℕ
scale_of kinds rates first last d =
    100000000 ^ length (reserve_days kinds first d) * product (factors rates (reserve_days kinds d last))

-- the adjustments of the account in a month, scaled
abbrev pub scaled_adjustments : (ℕ → ℕ) → ℕ → ℕ → List Session → ℤ
scaled_adjustments scale a m ss = total (λ s. s.amounts.adjustments a m *ℤ pos (scale s.day)) ss

-- the value of the account's trades in the month, each price scaled; contracts are + for the seller in rate and − for the buyer
abbrev pub scaled_value : (ℕ → ℕ) → ℕ → ℕ → ℕ → List Session → ℤ
scaled_value scale last_scaled a m ss =
    total (λ s. total (λ t. contracts_of a m t *ℤ (pos last_scaled -ℤ pos (t.price * scale s.day))) s.trades) ss

-- the contracts held on a day, bought or sold: over the trades of sessions up to it
abbrev pub held_on : ℕ → ℕ → List Session → ℕ → ℕ
held_on a m ss d = unsigned_abs (contracts_in a m (up_to d ss))

-- the contracts held on each of the days, scaled from the day after it
abbrev pub scaled_holdings : (ℕ → ℕ) → ℕ → ℕ → List Session → List ℕ → ℕ
scaled_holdings scale a m ss days = sum_by (λ d. held_on a m ss d * scale (d + 1)) days

-- ---- for an account and a month

-- the closed sessions that count for a month: up to its expiry
abbrev pub counted_of : World → History → ℕ → List Session
counted_of w h m = up_to (expiry_at w h m) (sessions_of w h)

-- the day of the book's first closed session
abbrev pub first_closed : World → History → ℕ
first_closed w h = oldest_day 0 (sessions_of w h)

-- the day of the month's last closed session
abbrev pub last_closed : World → History → ℕ → ℕ
last_closed w h m = newest_day (counted_of w h m)

-- the same, from the book's first closed session to the month's last
abbrev pub scale_in : World → History → ℕ → ℕ → ℕ
scale_in w h m = scale_of w.kinds (rate_on w h) (first_closed w h) (last_closed w h m)

-- how far the adjustments are from the value of the trades
abbrev pub apart_of : World → History → ℕ → ℕ → ℕ
apart_of w h a m =
    unsigned_abs (pos 20 *ℤ scaled_adjustments (scale_in w h m) a m (counted_of w h m)
    -ℤ pos 20 *ℤ scaled_value (scale_in w h m) (newest_price m (counted_of w h m) * scale_in w h m (last_closed w h m)) a m (counted_of w h m))

-- how far they may be
abbrev pub tolerance_of : World → History → ℕ → ℕ → ℕ
tolerance_of w h a m =
    10 * scaled_holdings (scale_in w h m) a m (counted_of w h m) (reserve_days w.kinds (first_closed w h) (last_closed w h m))

-- the claim
pub record Valued (w : World) (h : History) : Type 0 where
  -- of each account, in each listed month
  pub within_tolerance : (a m : ℕ) → m < length (months_of h) → apart_of w h a m ≤ tolerance_of w h a m
  -- after the expiry all adjustments are 0
  pub nothing_after : (a m : ℕ) → m < length (months_of h) → AllByRecursion (λ s. expiry_at w h m < s.day → s.amounts.adjustments a m ≡ pos 0) (sessions_of w h)

-- it holds of every lawful history
abbrev pub AlwaysValued : Type 0
AlwaysValued = (w : World) (h : History) → Lawful w h → Valued w h
