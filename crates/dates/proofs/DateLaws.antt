-- Each date has one day number, and each day number one date.
use Rattle.std.proofs.Common.{◌≡◌, ℕ, ◌+◌, ◌-◌, ◌/◌, ◌%◌, ◌≤◌, sym, ap, ◌∙◌, arith}
use Rattle.std.proofs.lemmas.Bool.{le-leb}
use Rattle.dates.specs.declared.date.Date.{Date}
use Rattle.dates.specs.Dates.{day_number, text_of, day_text, IsOnlyDateOfDay}
use Rattle.dates.specs.Months.{month_length, first_day, month_of, Holds}
use Rattle.dates.specs.DateParts.{month_number, IsDate, day_of}
use Rattle.dates.proofs.MonthLaws.{first-day-suc, first-day-grows, days-end, month-holds, month-is}

-- a date lies in its month
pub date-holds : (y m k : ℕ) → IsDate y m k → (month_number y m ≤ 1199) × Holds (month_number y m) (day_of y m k)
date-holds y m k r = (omega arith, (omega arith, omega (arith, first-day-suc (month_number y m))))

pub date-bound : (y m k : ℕ) → IsDate y m k → day_of y m k ≤ 36524
date-bound y m k r =
    let h = date-holds y m k r in
    omega (arith, days-end, first-day-grows (month_number y m + 1) 1200 (omega arith))

-- two dates with one day number are the same date
pub one-date : (y m k n : ℕ) → IsDate y m k → day_of y m k ≡ n
    → (y' m' k' : ℕ) → IsDate y' m' k' → day_of y' m' k' ≡ n → (y ≡ y') × (m ≡ m') × (k ≡ k')
one-date y m k n r e y' m' k' r' e' =
    let h = date-holds y m k r in
    let h' = date-holds y' m' k' r' in
    let a : month_of (day_of y m k) ≡ month_number y m = month-is _ _ h.1.0 h.1.1 h.0 in
    let b : month_of (day_of y' m' k') ≡ month_number y' m' = month-is _ _ h'.1.0 h'.1.1 h'.0 in
    let t : month_number y m ≡ month_number y' m' = sym a ∙ ap month_of (e ∙ sym e') ∙ b in
    let f = ap first_day t in
    omega arith

-- day k of the month m is a date
pub dated : (m k : ℕ) → m ≤ 1199 → (1 ≤ k) × (k ≤ month_length m)
    → IsDate (2000 + m / 12) (m % 12 + 1) k × (day_of (2000 + m / 12) (m % 12 + 1) k ≡ first_day m + k - 1)
dated m k h o =
    let e : month_number (2000 + m / 12) (m % 12 + 1) ≡ m = omega arith in
    let l = ap month_length e in
    let f = ap first_day e in
    (((omega arith, omega arith), (omega arith, omega arith), (omega arith, omega arith)), omega arith)

-- the text of the date of a day is that of the day
pub day_text_is : (d : Date) (n : ℕ) → day_number d ≡ n → IsOnlyDateOfDay d n → text_of d ≡ day_text n
day_text_is d n e only =
    let m = month_of n in
    let h : n ≤ 36524 = omega (arith, date-bound d.year d.month d.day d.is_date) in
    let o = month-holds n h in
    let s = first-day-suc m in
    let r = dated m (n - first_day m + 1) o.0 (omega arith, omega arith) in
    let i = only (2000 + m / 12) (m % 12 + 1) (n - first_day m + 1) r.0 (omega arith) in
    rw (le-leb n 36524 h, i.0, i.1, i.2)
