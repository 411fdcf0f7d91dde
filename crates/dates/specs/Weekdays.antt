-- The days of the week.
use Rattle.std.specs.Prelude.{ℕ}
use Rattle.dates.specs.declared.weekday.Weekday.{Weekday}
use Rattle.dates.specs.declared.weekday.Weekday.TheVariants.{Saturday, Sunday, Monday, Tuesday, Wednesday, Thursday, Friday}

-- how many days after the last Saturday
abbrev pub days_since_saturday : Weekday → ℕ
days_since_saturday Saturday = 0
days_since_saturday Sunday = 1
days_since_saturday Monday = 2
days_since_saturday Tuesday = 3
days_since_saturday Wednesday = 4
days_since_saturday Thursday = 5
days_since_saturday Friday = 6
