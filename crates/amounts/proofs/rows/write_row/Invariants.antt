use Rattle.std.proofs.Common.{◌≡◌, take}
use Rattle.amounts.specs.Rows.{row_of}
use Rattle.amounts.proofs.rows.write_row.Given as goal

abbrev pub invariant-loop-month : goal.invariant-loop-month
invariant-loop-month g l = take l.month l.row ≡ row_of l.month (g.A.Amounts.amount_of l.amounts l.account)
