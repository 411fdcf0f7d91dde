use Rattle.std.proofs.Common.{◌^◌, ◌<◌, arith}
use Rattle.amounts.proofs.Gains.{gain-size, gain-exact}
use Rattle.amounts.proofs.adjustments.gain.Goals as goal

pub returns : goal.returns
returns c =
    let h : c.args.price < 2 ^ 32 = omega arith in
    let k : c.args.before < 2 ^ 32 = omega arith in
    let few = c.requires in
    let e = gain-exact c.args.contracts c.args.price c.args.before (omega arith) h k in
    let s = gain-size c.args.contracts c.args.price c.args.before h k in
    record { value = e; most = rw e (omega arith) }
