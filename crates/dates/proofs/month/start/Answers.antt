use Rattle.std.proofs.Common.{◌≡◌, ◌+◌, ◌*◌, ◌/◌, ◌%◌, get_or, arith}
use Rattle.std.proofs.lemmas.Bool.Decides.{nat_tests}
use Rattle.dates.specs.Months.{first_day}
use Rattle.dates.proofs.MonthLaws.{before, first-day-is, first-day-bound}
use Rattle.dates.proofs.month.start.Goals as goal

pub returns : goal.returns
returns c =
    let m = c.args.month in
    let e : 365 * (m / 12) + (m / 12 + 3) / 4 + get_or before (m % 12) 0 + c.if-of_year-ge2.leap_day ≡ first_day m
    = rw first-day-is (grind (arith, nat_tests)) in
    record { value = e; bound = λ h. omega (arith, e, first-day-bound m h) }
