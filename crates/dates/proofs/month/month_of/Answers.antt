use Rattle.std.proofs.Common.{◌≡◌, ◌+◌, ◌/◌, sym, arith}
use Rattle.dates.specs.Months.{Holds}
use Rattle.dates.proofs.MonthLaws.{guess-fits, month-found}
use Rattle.dates.proofs.month.month_of.Goals as goal

pub returns-then-start-day : goal.returns-then-start-day
returns-then-start-day c =
    let g = c.saturating_sub-guess.result / 1461 in
    let e : (g + 1) + 1 ≡ g + 2 = omega arith in
    let o : Holds (g + 1) c.args.day = (omega arith, rw e (guess-fits c.args.day g (omega arith)).1) in
    let m = month-found c.args.day (g + 1) (omega arith) o in
    record { value = (omega arith, sym m.0); holds = (m.1, o); within = m.2 }

pub returns-else-start-day : goal.returns-else-start-day
returns-else-start-day c =
    let g = c.saturating_sub-guess.result / 1461 in
    let o : Holds g c.args.day = ((guess-fits c.args.day g (omega arith)).0, omega arith) in
    let m = month-found c.args.day g (omega arith) o in
    record { value = (omega arith, sym m.0); holds = (m.1, o); within = m.2 }
