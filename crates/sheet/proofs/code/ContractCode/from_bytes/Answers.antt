use Rattle.std.proofs.Common.{rules}
use Rattle.sheet.proofs.CodeLaws.{no-tens, no_ones, code_read}
use Rattle.sheet.proofs.code.ContractCode.from_bytes.Goals as goal

pub returns-in_err-digit : goal.returns-in_err-digit
returns-in_err-digit c = rw c.from_residual-in_err-digit.ensures (no-tens c.args.bytes.now c.in_err-digit.ensures)

pub returns-in_err-year : goal.returns-in_err-year
returns-in_err-year c = rw c.from_residual-in_err-year.ensures (no_ones c.args.bytes.now c.in_err-year.ensures)

pub returns : goal.returns
returns c =
    code_read c.args.bytes.now c.in_ok-month_of_year.month_of_year c.in_ok-digit.field-0 c.in_ok-year.field-0
    (search rules) (search rules) (search rules) (search rules)
    (search rules) c.in_ok-digit.ensures c.in_ok-year.ensures
