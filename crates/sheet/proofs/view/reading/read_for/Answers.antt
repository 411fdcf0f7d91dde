use Rattle.std.proofs.Common.{Some}
use Rattle.sheet.proofs.ReadLaws.{outcome, reads-back}
use Rattle.sheet.proofs.view.reading.read_for.Goals as goal

pub returns : goal.returns
returns c =
    let o = outcome c.args.bytes.now (Some c.args.day) c.read_on.result c.type_inv.bytes c.read_on.ensures.fault c.read_on.ensures.view in
    record { fault = c.read_on.ensures.fault; outcome = o; back = reads-back c.args.bytes.now (Some c.args.day) c.read_on.result o }
