use Rattle.std.proofs.Common.{◌≡◌, length, arith, rules}
use Rattle.dates.proofs.TextLaws.{text-is}
use Rattle.dates.proofs.date.numbers.Goals as goal

pub returns : goal.returns
returns c =
    let a = c.in_ok-century.ensures in
    let b = c.in_ok-year.ensures in
    let m = c.in_ok-month.ensures in
    let d = c.in_ok-day.ensures in
    let l : length c.args.text.now ≡ 10 = search rules in
    (omega arith, m.0, d.0, text-is c.args.text.now _ _ _ _ l a b (search rules) m (search rules) d)
