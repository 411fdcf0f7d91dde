use Rattle.amounts.proofs.Writing.{RowsWritten}
use Rattle.amounts.proofs.rows.write_rows.Given as goal

abbrev pub invariant-loop-account : goal.invariant-loop-account
invariant-loop-account g l = RowsWritten l.account l.months (g.A.Amounts.amount_of l.amounts) l.initial.array l.array
