use Rattle.std.proofs.Common.{refl}
use Rattle.dates.proofs.DateLaws.{one-date, dated}
use Rattle.dates.proofs.date.Date.in_month.Goals as goal

pub returns : goal.returns
returns c =
    let r = dated c.args.month c.args.day c.requires.month c.requires.day in
    record { value = r.1; only = one-date _ _ _ _ r.0 refl }
