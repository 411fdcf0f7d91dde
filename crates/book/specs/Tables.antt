-- What the tables of a book hold of a world and a history.
use Rattle.std.specs.Prelude.{◌≡◌, ℕ, ◌<◌, List, [], length, map, replicate, ℤ, pos, Some, None, Option, slice_get, get_or}
use Rattle.amounts.specs.declared.trades.Trade.{Trade}
use Rattle.amounts.specs.Tables.{place_of}
use Rattle.pricing.specs.Pricing.{expiry_day, days_to}
use Rattle.model.specs.History.{History}
use Rattle.model.specs.Observed.{accounts_of, months_of, latest_opened, open_session, trades_of, mark_of}
use Rattle.model.specs.Positions.{position_of, due_of, paid_of}
use Rattle.model.specs.Sessions.{sessions_of, latest_closed, unpaid_day, newest_price}
use Rattle.model.specs.World.{World}
use Rattle.book.specs.declared.ledger.AccountRow.{AccountRow}
use Rattle.book.specs.declared.ledger.MonthRow.{MonthRow}

-- sessions: the latest that was opened, and whether it is open; the latest that was closed, and whether its slip is unpaid; the trades of the latest
pub record SessionTable : Type 0 where
  pub latest : Option ℕ
  pub opens : Option ℕ
  pub closed : Option ℕ
  pub unpaid : Option ℕ
  pub trades : List Trade

-- the tables of a book
pub record Tables : Type 0 where
  pub number : ℕ
  pub start : ℕ
  pub accounts : List AccountRow
  pub months : List MonthRow
  -- that of each account in each month stands in its place
  pub positions : List ℤ
  pub session : SessionTable

-- tables with nothing in them
abbrev pub no_tables : ℕ → ℕ → Tables
no_tables number start = record {
  number = number;
  start = start;
  accounts = [];
  months = [];
  positions = replicate 512 (pos 0);
  session = record { latest = None; opens = None; closed = None; unpaid = None; trades = [] };
}

-- the accounts with what is paid and due
pub record KeepsAccounts (h : History) (rows : List AccountRow) : Type 0 where
  pub accounts : map (λ row. row.account) rows ≡ accounts_of h
  pub amounts : (a : ℕ) (row : AccountRow) → slice_get rows a ≡ Some row → (row.paid ≡ paid_of h a) × (row.due ≡ due_of h a)

-- a month with its expiry, its mark, in an open session the reserve days to the expiry, and its latest price
pub record KeepsMonth (w : World) (h : History) (m : ℕ) (row : MonthRow) : Type 0 where
  pub expiry : row.expiry ≡ expiry_day w.kinds row.number
  pub days : (d : ℕ) → open_session h ≡ Some d → row.days ≡ days_to w.kinds d row.number
  pub mark : row.mark ≡ mark_of h m
  pub latest : row.latest ≡ newest_price m (sessions_of w h)

pub record KeepsMonths (w : World) (h : History) (rows : List MonthRow) : Type 0 where
  pub numbers : map (λ row. row.number) rows ≡ months_of h
  pub each : (m : ℕ) (row : MonthRow) → slice_get rows m ≡ Some row → KeepsMonth w h m row

-- the position of each account and month that a book can have
pub record KeepsPositions (w : World) (h : History) (cells : List ℤ) : Type 0 where
  pub whole : length cells ≡ 512
  pub each : (a m : ℕ) → a < 32 → m < 16 → get_or cells (place_of a m) (pos 0) ≡ position_of w h a m

-- the session
pub record KeepsSession (w : World) (h : History) (l : SessionTable) : Type 0 where
  pub latest : l.latest ≡ latest_opened h
  pub opens : l.opens ≡ open_session h
  pub closed : l.closed ≡ latest_closed w h
  pub unpaid : l.unpaid ≡ unpaid_day w h
  pub trades : l.trades ≡ trades_of h

-- the tables are what is seen of the world and the history
pub record KeepsTables (w : World) (h : History) (l : Tables) : Type 0 where
  pub number : l.number ≡ w.number
  pub start : l.start ≡ w.start
  pub accounts : KeepsAccounts h l.accounts
  pub months : KeepsMonths w h l.months
  pub positions : KeepsPositions w h l.positions
  pub session : KeepsSession w h l.session
