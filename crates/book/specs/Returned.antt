-- What a refused close and a refused payment tell.
use Rattle.rows.specs.Rows.{Reason}
use Rattle.refusal.specs.Refusals.{reason_of}
use Rattle.book.specs.declared.references.CloseRefused.{CloseRefused}
use Rattle.book.specs.declared.references.PayRefused.{PayRefused}

abbrev pub close_reason : CloseRefused → Reason
close_reason e = reason_of e.refusal

abbrev pub pay_reason : PayRefused → Reason
pay_reason e = reason_of e.refusal
