-- Dates from 1 January 2000 to 31 December 2099, by year, month and day, their day numbers and their texts.
use Rattle.std.specs.Prelude.{◌≡◌, ℕ, ◌+◌, ◌-◌, ◌*◌, ◌/◌, ◌%◌, ◌<◌, ◌≤◌, List, [], ◌∷◌, ◌++◌, ◌≢◌}
use Rattle.dates.specs.Months.{month_length, first_day}

-- the number of a month, January 2000 being 0
abbrev pub month_number : ℕ → ℕ → ℕ
month_number year month = (year - 2000) * 12 + month - 1

-- there is such a date
abbrev pub IsDate : ℕ → ℕ → ℕ → Type 0
IsDate year month day =
    ((2000 ≤ year) × (year ≤ 2099)) × ((1 ≤ month) × (month ≤ 12))
    × ((1 ≤ day) × (day ≤ month_length (month_number year month)))

-- the number of a day, 1 January 2000 being 0
abbrev pub day_of : ℕ → ℕ → ℕ → ℕ
day_of year month day = first_day (month_number year month) + day - 1

-- the two digits of a number below 100
abbrev pub two_digits : ℕ → List ℕ
two_digits n = (48 + n / 10) ∷ (48 + n % 10) ∷ []

-- a date as text, as 2026-12-30
abbrev pub date_text : ℕ → ℕ → ℕ → List ℕ
date_text year month day =
    two_digits (year / 100) ++ two_digits (year % 100) ++ (45 ∷ two_digits month) ++ (45 ∷ two_digits day)

-- the number n stands as these two digits
abbrev pub AreDigitsOf : ℕ → ℕ → ℕ → Type 0
AreDigitsOf tens units n = (n < 100) × (tens ≡ 48 + n / 10) × (units ≡ 48 + n % 10)

-- these numbers stand in the text, as 2026, 13 and 99 in 2026-13-99
abbrev pub HasNumbers : List ℕ → ℕ → ℕ → ℕ → Type 0
HasNumbers text year month day = (year < 10000) × (month < 100) × (day < 100) × (text ≡ date_text year month day)

-- a text of eight digits and two dashes, as 2026-12-30 or 2026-13-99
abbrev pub HasDateForm : List ℕ → Type 0
HasDateForm text = (year : ℕ) × (month : ℕ) × (day : ℕ) × HasNumbers text year month day

-- no date has this text
abbrev pub IsTextOfNoDate : List ℕ → Type 0
IsTextOfNoDate text = (year month day : ℕ) → IsDate year month day → text ≢ date_text year month day
