-- The tables that a ledger is seen as, and what holds of them as they lie in memory.
use Rattle.std.specs.Prelude.{◌≡◌, ◌≤◌, length}
use Rattle.std.specs.Option.{ForSome}
use Rattle.amounts.specs.declared.sums.TheConstants.{CELLS}
use Rattle.amounts.specs.declared.trades.TheConstants.{MAX_ACCOUNTS, MAX_MONTHS}
use Rattle.dates.specs.declared.TheConstants.{LAST_DAY}
use Rattle.book.specs.Tables.{Tables}
use Rattle.book.specs.declared.ledger.Ledger.TheInside.{Inside}

abbrev pub tables_in : Inside → Tables
tables_in l = record {
  number = l.number;
  start = l.start;
  accounts = l.accounts.items;
  months = l.months.items;
  positions = l.positions;
  session = record { latest = l.latest; opens = l.open; closed = l.closed; unpaid = l.unpaid; trades = l.trades };
}

pub record HasRoom (l : Inside) : Type 0 where
  pub few_accounts : length l.accounts.items ≤ MAX_ACCOUNTS
  pub few_months : length l.months.items ≤ MAX_MONTHS
  pub cells : length l.positions ≡ CELLS
  pub last_day : ForSome l.latest (λ d. d ≤ LAST_DAY)
