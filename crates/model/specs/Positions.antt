-- Positions, the adjustment of an account in a month, and what is due and paid.
use Rattle.std.specs.Prelude.{ℕ, Bool, cond, ◌&&◌, List, ℤ, pos, Some, None, Option}
use Rattle.calendar.specs.declared.kind.DayKind.{DayKind}
use Rattle.correction.specs.Gaps.{corrected_price}
use Rattle.amounts.specs.Sums.{total}
use Rattle.amounts.specs.Trades.{position_change}
use Rattle.amounts.specs.Amounts.{adjustment_of}
use Rattle.model.specs.declared.calls.Balance.{Balance}
use Rattle.model.specs.Accounts.{month_indices}
use Rattle.model.specs.World.{World}
use Rattle.model.specs.History.{History, Amounts, trade_made, amounts_written, is_payment, gather, since, before}
use Rattle.model.specs.Observed.{is_listed, expiry_at, rate_on, session_day, trades_of, settlement_price}
use Rattle.model.specs.Sessions.{Session, sessions_of, latest_day, newest_price, has_reached}

-- a listed month has ended: a session on its expiry, or after it, was closed
abbrev pub has_ended : World → History → ℕ → Bool
has_ended w h m = is_listed h m && has_reached (expiry_at w h m) (sessions_of w h)

-- the contracts of the account in a month, sold less bought in rate, over sessions
abbrev pub contracts_in : ℕ → ℕ → List Session → ℤ
contracts_in a m ss = total (λ s. position_change a m s.trades) ss

-- the position: over all trades so far, and 0 once the month has ended
abbrev pub position_of : World → History → ℕ → ℕ → ℤ
position_of w h a m = cond (has_ended w h m) (pos 0) (position_change a m (gather trade_made h))

-- the position that the session began with: over the trades of closed sessions, and 0 once the month has ended
abbrev pub carried_of : World → History → ℕ → ℕ → ℤ
carried_of w h a m = cond (has_ended w h m) (pos 0) (contracts_in a m (sessions_of w h))

-- a price of the latest closed session, corrected to a day; none before the first close
abbrev pub corrected_since : (ℕ → DayKind) → (ℕ → Option ℕ) → Option ℕ → ℕ → ℕ → ℕ
corrected_since kinds rates None price day = 0
corrected_since kinds rates (Some closed) price day = corrected_price kinds rates closed day price

-- the settlement price of a month in the newest of sessions, corrected to a day
abbrev pub corrected_to : World → (ℕ → Option ℕ) → ℕ → List Session → ℕ → ℕ
corrected_to w rates d ss m = corrected_since w.kinds rates (latest_day ss) (newest_price m ss) d

-- the adjustment of the account in a month at the close of the session
abbrev pub adjustment_at : World → History → ℕ → ℕ → ℤ
adjustment_at w h a m =
    adjustment_of a m (settlement_price w h m) (trades_of h) (carried_of w h a m) (corrected_to w (rate_on w h) (session_day h) (sessions_of w h) m)

-- the adjustments that a close wrote for the account
abbrev pub written_for : ℕ → Amounts → ℤ
written_for a c = total (c.adjustments a) month_indices

-- due: what closes wrote since the latest payment, in centavos
abbrev pub due_of : History → ℕ → ℤ
due_of h a = total (written_for a) (gather amounts_written (since is_payment h))

-- paid: what closes wrote before the latest payment, in centavos
abbrev pub paid_of : History → ℕ → ℤ
paid_of h a = total (written_for a) (gather amounts_written (before is_payment h))

-- both of them
abbrev pub balance_of : History → ℕ → Balance
balance_of h a = record { paid = paid_of h a; due = due_of h a }
