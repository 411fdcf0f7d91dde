-- Books that balance and are wrong: the second claim fails of each.
use Rattle.std.specs.Prelude.{◌<◌, List, [], ◌∷◌, ℤ, pos, neg_ℤ}
use Rattle.std.specs.List.{AllByRecursion}
use Rattle.calendar.specs.declared.kind.DayKind.TheVariants.{ReserveDay}
use Rattle.examples.specs.Books.{book_with, day_rate, client, deal, opposites}
use Rattle.model.specs.Balance.{Balanced}
use Rattle.model.specs.History.{History, Entered, Listed, Published, Opened, Traded, Marked, Closed, Paid}
use Rattle.model.specs.Lawful.{Lawful}
use Rattle.model.specs.Value.{apart_of, tolerance_of, Valued}
use Rattle.model.specs.World.{World}

-- 31 December 2026 is a reserve day without a session: two reserve days go by from the session of 30 December to that of 1 January 2027, day 9862
abbrev pub long_gap : World
long_gap = book_with (record { day = 9861; kind = ReserveDay } ∷ [])

-- February 2027, where the closes wrote x and then y for account 1. The rates of the three days are 10 %, 14 % and 21 %.
-- The price 9,873,300 becomes 9,877,034.97 and, rounded, 9,877,035; that becomes 9,882,171.95 and, rounded, 9,882,172.
abbrev pub gap_history : ℤ → ℤ → History
gap_history x y =
    Closed (opposites y)
    ∷ Marked 0 9885000
    ∷ Traded (deal 14500 40 9887797)
    ∷ Published (day_rate 9862 21000000)
    ∷ Published (day_rate 9861 14000000)
    ∷ Paid
    ∷ Opened 9862
    ∷ Closed (opposites x)
    ∷ Marked 0 9873300
    ∷ Traded (deal 15000 100 9873250)
    ∷ Published (day_rate 9860 10000000)
    ∷ Opened 9860
    ∷ Listed 325
    ∷ Entered (client 11)
    ∷ Entered (client 10)
    ∷ []

-- 100 × (9,873,300 − 9,873,250), and 40 × (9,885,000 − 9,887,797) + 100 × (9,885,000 − 9,882,172)
abbrev pub right_book : History
right_book = gap_history (pos 5000) (pos 170920)

-- what wrong closes wrote for account 1; in each pair but the first and the last the second amount begins with 40 × (9,885,000 − 9,887,797), as it should
abbrev pub wrong_amounts : List (ℤ × ℤ)
wrong_amounts =
    -- the sides are not turned: both amounts with the opposite sign
    (neg_ℤ (pos 5000), neg_ℤ (pos 170920))
    -- one reserve day where two went by: + 100 × (9,885,000 − 9,877,035), corrected over day 9860 only
    ∷ (pos 5000, pos 684620)
    -- the last rate of the gap alone: + 100 × (9,885,000 − 9,878,435), corrected over day 9861 only
    ∷ (pos 5000, pos 544620)
    -- that rate on each of its days: + 100 × (9,885,000 − 9,883,573), corrected over both days by the factor of day 9861
    ∷ (pos 5000, pos 30820)
    -- today's rate: + 100 × (9,885,000 − 9,885,910), corrected by the factors of days 9861 and 9862
    ∷ (pos 5000, neg_ℤ (pos 202880))
    -- each day's fraction dropped: + 100 × (9,885,000 − 9,882,170), corrected to 9,877,034 and then to 9,882,170
    ∷ (pos 5000, pos 171120)
    -- the position with the session's own trade in it: + 140 × (9,885,000 − 9,882,172)
    ∷ (pos 5000, pos 284040)
    -- no rates looked at: + 100 × (9,885,000 − 9,873,300), not corrected at all
    ∷ (pos 5000, pos 1058120)
    -- zeros written
    ∷ (pos 0, pos 0)
    ∷ []

-- the book with these amounts
abbrev pub book_by : ℤ × ℤ → History
book_by p = gap_history p.0 p.1

-- account 1 is further from the value of its trades than the second claim lets it be
abbrev pub OutsideTolerance : ℤ × ℤ → Type 0
OutsideTolerance p = tolerance_of long_gap (book_by p) 1 0 < apart_of long_gap (book_by p) 1 0

-- the claims hold of the right book, and the second of no wrong one
pub record WrongBooks : Type 0 where
  -- the right amounts are lawful, so that both claims hold of them
  pub right : Lawful long_gap right_book
  -- the first claim holds whatever the closes wrote
  pub balanced : (x y : ℤ) → Balanced (gap_history x y)
  -- all the wrong amounts are too far off
  pub caught : AllByRecursion OutsideTolerance wrong_amounts
  -- so the second claim fails of each
  pub broken : AllByRecursion (λ p. Valued long_gap (book_by p) → ⊥) wrong_amounts
