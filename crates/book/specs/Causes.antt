-- The refusals of each call in their order, as the tables tell their causes.
use Rattle.std.specs.Prelude.{◌≡◌, ℕ, ◌<◌, ◌≤◌, unsigned_abs, ℤ, pos, ◌+ℤ◌, ◌-ℤ◌, slice_index_or, Bool, true, not, ◌&&◌, ◌||◌, List, [], ◌∷◌, length, is_some, Some, None, Option, ◌==◌, nat_le, nat_lt, slice_get}
use Rattle.std.specs.List.{list_any}
use Rattle.std.specs.Option.{unwrap_or, option_map}
use Rattle.rows.specs.Rows.{Row, numbered}
use Rattle.model.specs.declared.calls.Account.{Account}
use Rattle.model.specs.declared.calls.Balance.{Balance}
use Rattle.model.specs.declared.calls.Order.{Order}
use Rattle.model.specs.Observed.{next_from}
use Rattle.model.specs.References.{SessionReference, is_of}
use Rattle.amounts.specs.Tables.{place_of}
use Rattle.model.specs.Accounts.{same_account}
use Rattle.interest.specs.Tick.{on_tick}
use Rattle.pricing.specs.Pricing.{distance}
use Rattle.model.specs.Rows.{is_over}
use Rattle.book.specs.declared.ledger.AccountRow.{AccountRow}
use Rattle.book.specs.Tables.{Tables}

-- the expiry of a month
abbrev pub expiry_in : Tables → ℕ → ℕ
expiry_in t m = unwrap_or (option_map (λ row. row.expiry) (slice_get t.months m)) 0

-- the reserve days from the open session to the expiry of a month
abbrev pub days_in : Tables → ℕ → ℕ
days_in t m = unwrap_or (option_map (λ row. row.days) (slice_get t.months m)) 0

-- the day of the latest session
abbrev pub day_in : Tables → ℕ
day_in t = unwrap_or t.session.latest 0

-- to enter an account
abbrev pub enter_rows_in : Tables → Account → List Row
enter_rows_in t x =
    (nat_le 32 (length t.accounts), numbered 18)
    ∷ (list_any (λ row. same_account x row.account) t.accounts, numbered 19)
    ∷ []

-- to mark a month
abbrev pub mark_rows_in : Tables → SessionReference → ℕ → ℕ → List Row
mark_rows_in t ticket m price =
    (not (is_of t.number ticket t.session.opens), numbered 1)
    ∷ (not (nat_lt m (length t.months)), numbered 2)
    ∷ (nat_le (expiry_in t m) (day_in t), numbered 3)
    ∷ (price == 0 || nat_lt 10000000 price, numbered 10)
    ∷ []

-- the day from which the next session is looked for
abbrev pub next_in : Tables → ℕ
next_in t = next_from t.start t.session.latest

-- to open a session, where this is the next one
abbrev pub open_rows_in : Tables → Option ℕ → List Row
open_rows_in t next =
    (is_some t.session.opens, numbered 11)
    ∷ (not (is_some next), numbered 12)
    ∷ []

-- to ask for a position
abbrev pub position_rows_in : Tables → ℕ → ℕ → List Row
position_rows_in t a m = (not (nat_lt a (length t.accounts) && nat_lt m (length t.months)), numbered 2) ∷ []

-- to ask for a balance
abbrev pub balance_rows_in : Tables → ℕ → List Row
balance_rows_in t a = (not (nat_lt a (length t.accounts)), numbered 2) ∷ []

-- what is paid and due of an account
abbrev pub balance_in : AccountRow → Balance
balance_in row = record { paid = row.paid; due = row.due }

-- the position of an account in a month
abbrev pub position_in : Tables → ℕ → ℕ → ℤ
position_in t a m = slice_index_or t.positions (place_of a m) (pos 0)

-- the month of a trade, less the month of the session
abbrev pub distance_in : Tables → ℕ → ℕ
distance_in t m = distance (day_in t) (unwrap_or (option_map (λ row. row.number) (slice_get t.months m)) 0)

-- to trade
abbrev pub trade_rows_in : Tables → SessionReference → Order → List Row
trade_rows_in t ticket o =
    (not (is_of t.number ticket t.session.opens), numbered 1)
    ∷ (not (nat_lt o.buyer (length t.accounts) && (nat_lt o.seller (length t.accounts) && nat_lt o.month (length t.months))), numbered 2)
    ∷ (nat_le (expiry_in t o.month) (day_in t), numbered 3)
    ∷ ((o.buyer == o.seller), numbered 4)
    ∷ (o.quantity == 0 || nat_lt 20000 o.quantity, numbered 5)
    ∷ (nat_lt 99999 o.rate || not (on_tick o.rate (distance_in t o.month)), numbered 6)
    ∷ (nat_lt 2520 (days_in t o.month), numbered 7)
    ∷ (is_over (position_in t o.buyer o.month -ℤ pos o.quantity) || is_over (position_in t o.seller o.month +ℤ pos o.quantity), numbered 8)
    ∷ (nat_le 256 (length t.session.trades), numbered 9)
    ∷ []

-- the indices of a trade are some that a book can have
pub record InTables (o : Order) : Type 0 where
  pub buyer : o.buyer < 32
  pub seller : o.seller < 32
  pub month : o.month < 16

-- the trade has a price, there is room for it, and no position passes the limit
pub record Tradable (t : Tables) (o : Order) : Type 0 where
  pub inside : InTables o
  pub listed : o.month < length t.months
  pub apart : o.buyer ≡ o.seller → ⊥
  pub rate : o.rate ≤ 99999
  pub days : days_in t o.month ≤ 2520
  pub quantity : o.quantity ≤ 20000
  pub bought : unsigned_abs (position_in t o.buyer o.month -ℤ pos o.quantity) ≤ 500000
  pub sold : unsigned_abs (position_in t o.seller o.month +ℤ pos o.quantity) ≤ 500000
  pub room : length t.session.trades < 256

-- the month has no expiry, or none after the start day and the latest session
abbrev pub lacks_in : Tables → Option ℕ → Bool
lacks_in t None = true
lacks_in t (Some expiry) = nat_le expiry t.start || nat_le expiry (day_in t)

-- to list a month, where the calendar gives this expiry
abbrev pub list_rows_in : Tables → ℕ → Option ℕ → List Row
list_rows_in t n expiry =
    (nat_le 16 (length t.months), numbered 18)
    ∷ (list_any (λ row. n == row.number) t.months, numbered 19)
    ∷ (lacks_in t expiry, numbered 20)
    ∷ []

-- to pay by a slip
abbrev pub pay_rows_in : Tables → SessionReference → List Row
pay_rows_in t slip =
    (not (is_of t.number slip t.session.unpaid), numbered 1)
    ∷ (not (is_some t.session.opens), numbered 17)
    ∷ []
