use Rattle.std.proofs.Common.{◌≡◌, ◌∙◌, to_z, of_z, w64, arith}
use Rattle.std.proofs.lemmas.Int.{ints}
use Rattle.amounts.proofs.Writing.{row-more}
use Rattle.amounts.proofs.rows.write_row.Goals as goal

pub loop-month-preserved : goal.loop-month-preserved
loop-month-preserved g c =
    let same : to_z w64 (of_z w64 c.amount.result) ≡ c.amount.result = omega (arith, ints) in
    row-more (g.A.Amounts.amount_of c.args.amounts.now c.args.account) c.loop-month.row c.loop-month.month _ (omega arith) c.loop-month.invariant (same ∙ c.amount.ensures)
