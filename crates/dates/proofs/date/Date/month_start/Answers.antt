use Rattle.std.proofs.Common.{◌≡◌, refl, ap, ◌∙◌, arith}
use Rattle.dates.specs.Months.{first_day}
use Rattle.dates.specs.DateParts.{month_number}
use Rattle.dates.proofs.DateLaws.{date-bound, one-date}
use Rattle.dates.proofs.date.Date.month_start.Goals as goal

pub returns : goal.returns
returns c =
    let d = c.args.self.now in
    let v : c.start.result ≡ first_day (month_number d.year d.month)
    = c.start.ensures.value ∙ ap first_day c.month_number.ensures.value in
    record {
      value = v;
      bound = omega (arith, date-bound d.year d.month d.day d.is_date);
      only = one-date d.year d.month d.day _ d.is_date refl;
    }
