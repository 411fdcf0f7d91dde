use Rattle.std.proofs.Common.{add-one, arith}
use Rattle.interest.specs.Correction.{corrected_day}
use Rattle.correction.proofs.WalkLaws.{change-more}
use Rattle.correction.proofs.gap.each_after_day.Goals as goal

pub loop-i-preserved : goal.loop-i-preserved
loop-i-preserved g c =
    rw (c.after_day.ensures, c.loop-i.invariant, add-one)
    (change-more (λ p. corrected_day p c.args.factor) 0 c.args.prices c.loop-i.i (omega (arith, c.loop-i-test.true)))
