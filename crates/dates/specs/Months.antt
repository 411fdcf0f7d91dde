-- The months from January 2000 on, numbered from 0, and the days from 1 January 2000 on, numbered from 0.
use Rattle.std.specs.Prelude.{ℕ, zero, suc, ◌+◌, ◌/◌, ◌%◌, ◌<◌, ◌≤◌, Bool, cond, ◌||◌, ◌==◌, nat_le}
use Rattle.dates.specs.declared.TheConstants.{LAST_MONTH}

-- the years from 2000 to 2099 that divide by 4 are leap years
abbrev pub leap_year : ℕ → Bool
leap_year year = year % 4 == 0

-- the year of a month number
abbrev pub year_of : ℕ → ℕ
year_of m = 2000 + m / 12

-- April, June, September and November, with January as 0
abbrev pub thirty_days : ℕ → Bool
thirty_days k = k == 3 || (k == 5 || (k == 8 || k == 10))

-- the days of a month of the year, January being 0
abbrev pub days_in : Bool → ℕ → ℕ
days_in leap k = cond (k == 1) (cond leap 29 28) (cond (thirty_days k) 30 31)

-- the days of a month
unfoldable pub month_length : ℕ → ℕ
month_length m = days_in (leap_year (year_of m)) (m % 12)

-- the first day of a month: the days of all months before it
unfoldable pub first_day : ℕ → ℕ
first_day zero = 0
first_day (suc m) = first_day m + month_length m

-- the day d is one of the month m
abbrev pub Holds : ℕ → ℕ → Type 0
Holds m d = (first_day m ≤ d) × (d < first_day (m + 1))

-- how many of the months 1 to k have begun by the day d
unfoldable pub begun_months : ℕ → ℕ → ℕ
begun_months zero d = 0
begun_months (suc k) d = begun_months k d + cond (nat_le (first_day (suc k)) d) 1 0

-- the month of a day
unfoldable pub month_of : ℕ → ℕ
month_of d = begun_months LAST_MONTH d
