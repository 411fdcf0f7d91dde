use Rattle.std.proofs.Common.{◌≡◌, ◌≤◌, ◌+◌, ◌*◌, length, sym, ap, ◌∙◌, arith, rules, mul-le-mul_right}
use Rattle.std.proofs.lemmas.List.{places}
use Rattle.amounts.specs.Rows.{row_of}
use Rattle.amounts.proofs.Writing.{rows-next}
use Rattle.amounts.proofs.rows.write_rows.Goals as goal

pub loop-account-preserved : goal.loop-account-preserved
loop-account-preserved g c =
    let n = c.loop-account.account in
    let k = c.args.months in
    let f = g.A.Amounts.amount_of c.args.amounts.now in
    let below : (n + 1) * k ≤ c.args.accounts * k = mul-le-mul_right k (omega arith) in
    let room : n * k + k ≤ length c.loop-account.array = omega arith in
    let whole : length c.write_row.new.row ≡ k = c.write_row.auto.row ∙ search (rules, places) in
    rows-next n k _ f c.args.array.now c.loop-account.array c.write_row.new.row c.loop-account.invariant room (omega arith) whole
    (c.write_row.ensures ∙ ap (λ i. row_of i (f n)) (sym c.write_row.auto.row))
