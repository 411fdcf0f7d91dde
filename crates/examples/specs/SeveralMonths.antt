-- A history with two months: day trades, an account and a month that come late, an arbitrated rate, and an expiry beside a month that goes on,
-- with a session after it.
use Rattle.std.specs.Prelude.{◌≡◌, List, [], ◌∷◌, map, ℤ, pos, neg_ℤ}
use Rattle.examples.specs.Books.{day_rate, client, order, table, rows_in}
use Rattle.examples.specs.MonthToItsEnd.{new_year}
use Rattle.model.specs.History.{History, Entered, Listed, Published, Arbitrated, Opened, Traded, Marked, Closed, Paid, amounts_written, gather}
use Rattle.model.specs.Lawful.{Lawful}
use Rattle.model.specs.Observed.{trade_at}
use Rattle.model.specs.Positions.{position_of, due_of, paid_of}
use Rattle.model.specs.Value.{last_closed}

-- 0 for each of three accounts in two months
abbrev pub no_rows : List (List ℤ)
no_rows = (pos 0 ∷ pos 0 ∷ []) ∷ (pos 0 ∷ pos 0 ∷ []) ∷ (pos 0 ∷ pos 0 ∷ []) ∷ []

-- The newest first, on the calendar of the one month, with the sessions 9860, 9861, 9865 and 9866. Month 0 is February 2027; account 2 comes between
-- two sessions, and month 1, January 2027, while the second session is open.
-- From 9860 to 9861 the price 9,879,300 becomes 9,884,747 by the published rate; from 9861 to 9865, which is the expiry of January, the prices
-- 9,884,800 and 9,994,500 become 9,890,164 and 9,999,924 by the arbitrated rate of the one reserve day between. From 9865 to 9866 the price of
-- February becomes 9,895,584; January is over.
abbrev pub two_months : History
two_months =
    Closed (record {
      adjustments = table ((neg_ℤ (pos 66) ∷ pos 0 ∷ []) ∷ (pos 396 ∷ pos 0 ∷ []) ∷ (neg_ℤ (pos 330) ∷ pos 0 ∷ []) ∷ []);
      day_trades = table no_rows;
    })
    ∷ Published (day_rate 9865 14700000)
    ∷ Marked 0 9895650
    ∷ Paid
    ∷ Opened 9866
    ∷ Closed (record {
      adjustments = table ((neg_ℤ (pos 36) ∷ pos 0 ∷ []) ∷ (pos 216 ∷ neg_ℤ (pos 228) ∷ []) ∷ (neg_ℤ (pos 180) ∷ pos 228 ∷ []) ∷ []);
      day_trades = table no_rows;
    })
    ∷ Paid
    ∷ Marked 0 9890200
    ∷ Opened 9865
    ∷ Closed (record {
      adjustments = table ((neg_ℤ (pos 1658) ∷ pos 0 ∷ []) ∷ (pos 318 ∷ pos 21 ∷ []) ∷ (pos 1340 ∷ neg_ℤ (pos 21) ∷ []) ∷ []);
      day_trades = table no_rows;
    })
    ∷ Arbitrated (day_rate 9861 14650000)
    ∷ Paid
    ∷ Marked 1 9994500
    ∷ Marked 0 9884800
    ∷ Traded (trade_at (order 1 2 1 14851 3) 9994507)
    ∷ Traded (trade_at (order 2 0 0 14880 5) 9885068)
    ∷ Listed 324
    ∷ Opened 9861
    ∷ Entered (client 12)
    ∷ Closed (record {
      adjustments = table ((pos 2342 ∷ []) ∷ (neg_ℤ (pos 2342) ∷ []) ∷ []);
      day_trades = table ((pos 1412 ∷ []) ∷ (neg_ℤ (pos 1412) ∷ []) ∷ []);
    })
    ∷ Published (day_rate 9860 14900000)
    ∷ Marked 0 9879300
    ∷ Traded (trade_at (order 1 0 0 14950 4) 9879102)
    ∷ Traded (trade_at (order 0 1 0 14903 10) 9879455)
    ∷ Opened 9860
    ∷ Listed 325
    ∷ Entered (client 11)
    ∷ Entered (client 10)
    ∷ []

-- a session in which the order of trades and of marks tells: of account 0, the first 4 of 12 contracts sold in price are those at 9,879,455
abbrev pub session_in_order : History
session_in_order =
    Closed (record {
      adjustments = table ((pos 1946 ∷ []) ∷ (neg_ℤ (pos 1946) ∷ []) ∷ []);
      day_trades = table ((pos 1412 ∷ []) ∷ (neg_ℤ (pos 1412) ∷ []) ∷ []);
    })
    ∷ Marked 0 9879300
    ∷ Marked 0 9879000
    ∷ Traded (trade_at (order 0 1 0 14950 2) 9879102)
    ∷ Traded (trade_at (order 1 0 0 14950 4) 9879102)
    ∷ Traded (trade_at (order 0 1 0 14903 10) 9879455)
    ∷ Opened 9860
    ∷ Listed 325
    ∷ Entered (client 11)
    ∷ Entered (client 10)
    ∷ []

-- all of it in rows of accounts with columns of months
pub record SeveralMonths : Type 0 where
  pub lawful : Lawful new_year two_months
  -- what the four closes wrote, in order of time; what came late has nothing in the first, and January nothing in the last
  pub adjustments : map (λ c. rows_in two_months c.adjustments) (gather amounts_written two_months)
      ≡ ((pos 2342 ∷ pos 0 ∷ []) ∷ (neg_ℤ (pos 2342) ∷ pos 0 ∷ []) ∷ (pos 0 ∷ pos 0 ∷ []) ∷ [])
      ∷ ((neg_ℤ (pos 1658) ∷ pos 0 ∷ []) ∷ (pos 318 ∷ pos 21 ∷ []) ∷ (pos 1340 ∷ neg_ℤ (pos 21) ∷ []) ∷ [])
      ∷ ((neg_ℤ (pos 36) ∷ pos 0 ∷ []) ∷ (pos 216 ∷ neg_ℤ (pos 228) ∷ []) ∷ (neg_ℤ (pos 180) ∷ pos 228 ∷ []) ∷ [])
      ∷ ((neg_ℤ (pos 66) ∷ pos 0 ∷ []) ∷ (pos 396 ∷ pos 0 ∷ []) ∷ (neg_ℤ (pos 330) ∷ pos 0 ∷ []) ∷ [])
      ∷ []
  -- only in the first session were contracts both bought and sold: 4 × (9,879,455 − 9,879,102) for account 0
  pub day_trades : map (λ c. rows_in two_months c.day_trades) (gather amounts_written two_months)
      ≡ ((pos 1412 ∷ pos 0 ∷ []) ∷ (neg_ℤ (pos 1412) ∷ pos 0 ∷ []) ∷ (pos 0 ∷ pos 0 ∷ []) ∷ [])
      ∷ no_rows
      ∷ no_rows
      ∷ no_rows
      ∷ []
  -- the positions at the end: those of January are 0
  pub positions : rows_in two_months (position_of new_year two_months)
      ≡ (neg_ℤ (pos 1) ∷ pos 0 ∷ []) ∷ (pos 6 ∷ pos 0 ∷ []) ∷ (neg_ℤ (pos 5) ∷ pos 0 ∷ []) ∷ []
  -- of account 0: 2,342 − 1,658 − 36, and what the last close wrote
  pub paid : paid_of two_months 0 ≡ pos 648
  pub due : due_of two_months 0 ≡ neg_ℤ (pos 66)
  -- the last closed sessions of February and of January
  pub last : last_closed new_year two_months 0 ≡ 9866
  pub expired : last_closed new_year two_months 1 ≡ 9865
  -- the session in which the order tells
  pub order : Lawful new_year session_in_order
