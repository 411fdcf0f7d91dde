-- What the histories of the examples share: what their figures are computed with, and what a lawful close wrote.
use Rattle.std.proofs.Common.{◌≡◌, ℕ, ◌<◌, ◌≤◌, List, [], map, length, get_or, ℤ, pos, inl, inr, refl, arith}
use lib.ListN.{get_or-eq_default}
use Rattle.std.specs.List.{range_with_len}
use Rattle.std.proofs.lemmas.List.FromFn.{length-map-range_with_len, get_or-map-range_with_len}
use Rattle.std.proofs.lemmas.Bool.{cases_lt, lt-ltb, le-ltb}
use Rattle.dates.specs.Months.{first_day, month_length}
use Rattle.calendar.specs.Spans.{days_by}
use Rattle.interest.specs.Power.{power_of, climb, root_of}
use Rattle.interest.specs.Price.{day_factor, after_years, after_days, trade_price}
use Rattle.interest.specs.Correction.{corrected}
use Rattle.amounts.specs.Amounts.{gain_of, on_trades}
use Rattle.amounts.specs.DayTrades.{contract_prices, firsts, day_trade}
use Rattle.model.specs.World.{World}
use Rattle.model.specs.History.{History}
use Rattle.model.specs.Observed.{accounts_of, months_of, trades_of}
use Rattle.model.specs.Positions.{adjustment_at}
use Rattle.model.specs.Closes.{in_book, cells_of}
use Rattle.model.specs.Rows.{close_rows}
use Rattle.model.specs.Lawful.{Allowed, Closes}
use Rattle.examples.specs.Books.{of_day, table, rows_in}

-- what the proofs compute with
unfoldable pub figures : Unit {0}
unfolding days_by first_day month_length power_of climb root_of day_factor after_years after_days trade_price corrected gain_of on_trades contract_prices firsts
figures = tt

past : {X : Type 0} (f : ℕ → X) (n i : ℕ) (d : X) → n ≤ i → get_or (map f (range_with_len 0 n)) i d ≡ d
past f n i d l = get_or-eq_default (map f (range_with_len 0 n)) d (omega (arith, length-map-range_with_len f 0 n))

-- a table of the rows has the amounts of the book, and 0 outside
module _ (h : History) (amount : ℕ → ℕ → ℤ) where
  abbrev row : ℕ → List ℤ
  row a = map (amount a) (range_with_len 0 (length (months_of h)))

  row_is : (a : ℕ) → a < length (accounts_of h) → get_or (rows_in h amount) a [] ≡ row a
  row_is a l = get_or-map-range_with_len row 0 (length (accounts_of h)) a a [] l (omega arith)

  tabled : (a m : ℕ) → table (rows_in h amount) a m ≡ in_book h amount a m
  tabled a m =
      elim (cases_lt a (length (accounts_of h))) [
        | inl l ↦
            elim (cases_lt m (length (months_of h))) [
              | inl j ↦
                  rw (row_is a l, lt-ltb a (length (accounts_of h)) l, lt-ltb m (length (months_of h)) j)
                  (get_or-map-range_with_len (amount a) 0 (length (months_of h)) m m (pos 0) j (omega arith))
              | inr j ↦
                  rw (row_is a l, lt-ltb a (length (accounts_of h)) l, le-ltb m (length (months_of h)) j)
                  (past (amount a) (length (months_of h)) m (pos 0) j)
            ]
        | inr l ↦ rw (past row (length (accounts_of h)) a [] l, le-ltb a (length (accounts_of h)) l) refl
      ]

-- a close by a ticket of that day, that wrote what the rules give
pub closes : (w : World) (h : History) (day : ℕ) → Allowed (close_rows w h (of_day day) (cells_of h) (cells_of h))
    → Closes w h (record { adjustments = table (rows_in h (adjustment_at w h)); day_trades = table (rows_in h (λ a m. day_trade a m (trades_of h))) })
closes w h day allowed = record {
  ticket = of_day day;
  room = cells_of h;
  day_room = cells_of h;
  allowed = allowed;
  amounts = λ i. record {
    adjustments = λ a m. tabled h (adjustment_at w h) a m i;
    day_trades = λ a m. tabled h (λ b n. day_trade b n (trades_of h)) a m i;
  };
}
