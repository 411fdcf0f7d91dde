use Rattle.std.proofs.Common.{rules}
use Rattle.dates.specs.DateParts.{HasDateForm}
use Rattle.dates.proofs.TextLaws.{undated}
use Rattle.dates.proofs.date.DateFromStr.from_str.Goals as goal

pub returns-in_err-year : goal.returns-in_err-year
returns-in_err-year c =
    let n : HasDateForm c.args.text.now → ⊥ = search rules in
    let u = undated c.args.text.now n in
    search rules
