-- What accepted calls answer, and what a close leaves in the arrays that it is handed.
use Rattle.std.specs.Prelude.{◌≡◌, ℕ, List, [], ◌∷◌, ◌++◌, drop, replicate, ℤ, pos, neg_ℤ, Some, None, Option}
use Rattle.examples.specs.Books.{weekdays, only_session, clients, of_day, order, nothing, in_session, after_close, Same}
use Rattle.examples.specs.MonthToItsEnd.{new_year, one_month}
use Rattle.examples.specs.SeveralMonths.{two_months}
use Rattle.model.specs.declared.calls.Balance.{Balance}
use Rattle.model.specs.Answers.{next_account, next_month, next_ticket, price_now, next_slip, numbers_of}
use Rattle.model.specs.Closes.{amounts_at_close, written_to}
use Rattle.model.specs.History.{History, Opened, Closed}
use Rattle.model.specs.Positions.{position_of, balance_of}
use Rattle.model.specs.References.{SessionReference}
use Rattle.model.specs.World.{World}

-- indices of accounts and of months are counted from 0
abbrev pub index_answers : List (ℕ × ℕ)
index_answers =
    (next_account [], 0)
    ∷ (next_account in_session, 3)
    ∷ (next_account (clients 31), 31)
    ∷ (next_month (clients 3), 0)
    ∷ (next_month in_session, 2)
    ∷ []

-- tickets of sessions that are opened
abbrev pub ticket_answers : List (Option SessionReference × Option SessionReference)
ticket_answers =
    -- the start day is a session, or a later day is the first one
    (next_ticket weekdays [], Some (of_day 9860))
    ∷ (next_ticket (only_session 9919) [], Some (of_day 9919))
    ∷ (next_ticket (only_session 9920) [], None)
    -- the session after 9,860, and the one after 9,861, between which the new year and a weekend are closed
    ∷ (next_ticket weekdays after_close, Some (of_day 9861))
    ∷ (next_ticket new_year (Closed nothing ∷ Opened 9861 ∷ []), Some (of_day 9865))
    ∷ []

-- prices of trades in centavos
abbrev pub price_answers : List (ℕ × ℕ)
price_answers =
    -- two reserve days to January 2027
    (price_now new_year (drop 14 one_month) (order 0 1 0 10000 10), 9992439)
    -- 43 to March, whoever trades and how many
    ∷ (price_now weekdays in_session (order 2 1 1 10000 7), 9838683)
    ∷ (price_now weekdays in_session (order 0 1 1 10000 1), 9838683)
    ∷ (price_now weekdays in_session (order 0 1 1 0 1), 10000000)
    ∷ []

-- slips of sessions that are closed
abbrev pub slip_answers : List (SessionReference × SessionReference)
slip_answers =
    (next_slip weekdays in_session, of_day 9860)
    ∷ (next_slip new_year (drop 3 one_month), of_day 9865)
    ∷ []

-- positions in price: before the trade, after it, in a later session, and after the close on the expiry
abbrev pub position_answers : List (ℤ × ℤ)
position_answers =
    (position_of new_year (drop 14 one_month) 1 0, pos 0)
    ∷ (position_of new_year (drop 13 one_month) 1 0, pos 10)
    ∷ (position_of new_year (drop 13 one_month) 0 0, neg_ℤ (pos 10))
    ∷ (position_of new_year (drop 3 one_month) 1 0, pos 10)
    ∷ (position_of new_year (drop 2 one_month) 1 0, pos 0)
    ∷ []

-- paid and due
abbrev pub balance_answers : List (Balance × Balance)
balance_answers =
    -- after each close of the month and each payment
    (balance_of (drop 11 one_month) 1, record { paid = pos 0; due = pos 610 })
    ∷ (balance_of (drop 8 one_month) 1, record { paid = pos 610; due = pos 0 })
    ∷ (balance_of (drop 5 one_month) 1, record { paid = pos 610; due = neg_ℤ (pos 800) })
    ∷ (balance_of (drop 3 one_month) 1, record { paid = neg_ℤ (pos 190); due = pos 0 })
    ∷ (balance_of (drop 2 one_month) 1, record { paid = neg_ℤ (pos 190); due = pos 190 })
    ∷ (balance_of one_month 1, record { paid = pos 0; due = pos 0 })
    -- the other account
    ∷ (balance_of (drop 2 one_month) 0, record { paid = pos 190; due = neg_ℤ (pos 190) })
    ∷ []

-- an array of eight amounts before a close
abbrev pub old_array : List ℤ
old_array = pos 101 ∷ pos 102 ∷ pos 103 ∷ pos 104 ∷ pos 105 ∷ pos 106 ∷ pos 107 ∷ pos 108 ∷ []

-- what a close leaves in two such arrays
abbrev pub arrays_after : World → History → List ℤ × List ℤ
arrays_after w h = (written_to h (amounts_at_close w h).adjustments old_array, written_to h (amounts_at_close w h).day_trades old_array)

-- the arrays of adjustments and of day trades
abbrev pub array_answers : List ((List ℤ × List ℤ) × (List ℤ × List ℤ))
array_answers =
    -- two accounts in one month
    (arrays_after new_year (drop 20 two_months), (pos 2342 ∷ neg_ℤ (pos 2342) ∷ drop 2 old_array, pos 1412 ∷ neg_ℤ (pos 1412) ∷ drop 2 old_array))
    -- three accounts in two months: the row of account 1 from place 2 on, that of account 2 from place 4
    ∷ (arrays_after new_year (drop 10 two_months), (neg_ℤ (pos 1658) ∷ pos 0 ∷ pos 318 ∷ pos 21 ∷ pos 1340 ∷ neg_ℤ (pos 21) ∷ drop 6 old_array, replicate 6 (pos 0) ++ drop 6 old_array))
    -- no accounts
    ∷ (arrays_after weekdays (Opened 9860 ∷ []), (old_array, old_array))
    ∷ []

-- every answer is the one that stands beside it
pub record AnswersHold : Type 0 where
  pub indices : Same index_answers
  pub tickets : Same ticket_answers
  pub prices : Same price_answers
  pub slips : Same slip_answers
  pub positions : Same position_answers
  pub balances : Same balance_answers
  pub arrays : Same array_answers
  -- the two numbers of a slip that is written off
  pub written_off : numbers_of (of_day 9860) ≡ (1, 9860)
