-- The day number and the text of a `Date`, and what is read from a text.
use Rattle.std.specs.Prelude.{◌≡◌, ℕ, ◌+◌, ◌-◌, ◌%◌, cond, nat_le, List, ◌++◌, Ok, Err, codes, Result}
use Rattle.std.specs.Fmt.{decimal}
use Rattle.dates.specs.declared.date.Date.{Date}
use Rattle.dates.specs.declared.date.DateError.{DateError}
use Rattle.dates.specs.declared.date.DateError.TheVariants.{Form, NoSuchDate}
use Rattle.dates.specs.declared.TheConstants.{LAST_DAY}
use Rattle.dates.specs.Months.{year_of, first_day, month_of}
use Rattle.dates.specs.DateParts.{IsDate, day_of, date_text, HasDateForm, IsTextOfNoDate}

-- the day number of a date
abbrev pub day_number : Date → ℕ
day_number d = day_of d.year d.month d.day

-- the text of a date
abbrev pub text_of : Date → List ℕ
text_of d = date_text d.year d.month d.day

-- the text of a day by its number: that of its date, or `day 36525` past the last date
abbrev pub day_text : ℕ → List ℕ
day_text n =
    let m = month_of n in
    cond (nat_le n LAST_DAY) (date_text (year_of m) (m % 12 + 1) (n - first_day m + 1)) (codes "day " ++ decimal n)

-- d is the date y-m-k
abbrev pub HasParts : Date → ℕ → ℕ → ℕ → Type 0
HasParts d y m k = (d.year ≡ y) × (d.month ≡ m) × (d.day ≡ k)

-- no other date than d has this day number
abbrev pub IsOnlyDateOfDay : Date → ℕ → Type 0
IsOnlyDateOfDay d n = (y m k : ℕ) → IsDate y m k → day_of y m k ≡ n → HasParts d y m k

-- no other date than d has this text
abbrev pub IsOnlyDateOfText : Date → List ℕ → Type 0
IsOnlyDateOfText d text = (y m k : ℕ) → IsDate y m k → text ≡ date_text y m k → HasParts d y m k

-- the date that has the text, or why there is none
abbrev pub Reads : List ℕ → Result Date DateError → Type 0
Reads text (Ok d) = (text ≡ text_of d) × IsOnlyDateOfText d text
Reads text (Err Form) = (HasDateForm text → ⊥) × IsTextOfNoDate text
Reads text (Err NoSuchDate) = HasDateForm text × IsTextOfNoDate text

-- what is said of a text that gives no date
abbrev pub message : DateError → List ℕ
message Form = codes "a date is written as 2026-12-30"
message NoSuchDate = codes "there is no such date from 2000-01-01 to 2099-12-31"
