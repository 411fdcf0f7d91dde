-- A month to its end: one trade, marked in two sessions, and the expiry.
use Rattle.std.specs.Prelude.{◌≡◌, ℕ, List, [], ◌∷◌, map, ℤ, pos, neg_ℤ}
use Rattle.calendar.specs.declared.kind.DayKind.TheVariants.{ClosedDay}
use Rattle.examples.specs.Books.{book_with, day_rate, client, deal, opposites}
use Rattle.model.specs.History.{History, Entered, Listed, Published, Opened, Traded, Marked, Closed, Paid, amounts_written, gather}
use Rattle.model.specs.Lawful.{Lawful}
use Rattle.model.specs.Value.{last_closed}
use Rattle.model.specs.World.{World}

-- 1 January 2027, day 9,862, is closed
abbrev pub new_year : World
new_year = book_with (record { day = 9862; kind = ClosedDay } ∷ [])

-- January 2027, which expires on 4 January, day 9,865; the newest first. The mark of 9,996,000 is replaced.
abbrev pub one_month : History
one_month =
    Paid
    ∷ Opened 9866
    ∷ Closed (opposites (pos 190))
    ∷ Paid
    ∷ Opened 9865
    ∷ Closed (opposites (neg_ℤ (pos 800)))
    ∷ Marked 0 9996200
    ∷ Marked 0 9996000
    ∷ Paid
    ∷ Published (day_rate 9861 10000000)
    ∷ Opened 9861
    ∷ Closed (opposites (pos 610))
    ∷ Marked 0 9992500
    ∷ Traded (deal 10000 10 9992439)
    ∷ Published (day_rate 9860 10000000)
    ∷ Opened 9860
    ∷ Listed 324
    ∷ Entered (client 11)
    ∷ Entered (client 10)
    ∷ []

-- what the closes wrote for an account in month 0, in order of time
abbrev pub amounts_for : ℕ → History → List ℤ
amounts_for a h = map (λ c. c.adjustments a 0) (gather amounts_written h)

-- the history and its figures
pub record MonthToItsEnd : Type 0 where
  pub lawful : Lawful new_year one_month
  pub seller : amounts_for 1 one_month ≡ pos 610 ∷ neg_ℤ (pos 800) ∷ pos 190 ∷ []
  pub buyer : amounts_for 0 one_month ≡ neg_ℤ (pos 610) ∷ pos 800 ∷ neg_ℤ (pos 190) ∷ []
  -- the month's last closed session is its expiry
  pub last : last_closed new_year one_month 0 ≡ 9865
