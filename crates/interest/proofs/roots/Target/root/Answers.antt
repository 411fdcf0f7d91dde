use Rattle.std.proofs.Common.{◌+◌, ◌<◌, ◌≤◌, arith}
use Rattle.interest.specs.Power.{power_of, root_of}
use Rattle.interest.proofs.Growth.{power-least}
use Rattle.interest.proofs.RootLaws.{root_by, root-computed, root-least, root-most, below-root, above-root}
use Rattle.interest.proofs.roots.Target.root.Goals as goal
use Rattle.interest.proofs.roots.Target.root.Goals.{In-Less, In-Greater}

below : (c : In-Less) → c.loop-factor.factor < root_of c.args.self.value
below c =
    let u : c.trial-trial.result.year.upper ≤ c.args.self.value = c.in-Less.ensures in
    below-root c.args.self.value c.loop-factor.factor c.args.self.range (omega (arith, rw c.new.ensures at c.trial-trial.ensures.year.1, u))

above : (c : In-Greater) → root_of c.args.self.value < c.loop-factor.factor
above c =
    let o : c.args.self.value < c.trial-trial.result.year.lower = c.in-Greater.ensures in
    above-root c.args.self.value c.loop-factor.factor c.args.self.range (omega (arith, rw c.new.ensures at c.trial-trial.ensures.year.0, o))

pub loop-factor-smaller-in-Less : goal.loop-factor-smaller-in-Less
loop-factor-smaller-in-Less c = let h = below c in omega arith

pub loop-factor-preserved-in-Less : goal.loop-factor-preserved-in-Less
loop-factor-preserved-in-Less c = let h = below c in let m = root-most c.args.self.value c.args.self.range in (omega arith, omega arith)

pub loop-factor-smaller : goal.loop-factor-smaller
loop-factor-smaller c = let h = above c in omega arith

pub loop-factor-preserved : goal.loop-factor-preserved
loop-factor-preserved c = let h = above c in let m = root-least c.args.self.value in (omega arith, omega arith)

pub returns-in-Equal-clause-root : goal.returns-in-Equal-clause-root
returns-in-Equal-clause-root c =
    let f = c.loop-factor.factor in
    let t = c.args.self.value in
    let year = rw c.new.ensures at c.trial-trial.ensures.year in
    let i = c.in-Equal.ensures in
    let u : power_of f 252 ≤ t = omega (arith, year.0, i.0) in
    let o : t < power_of (f + 1) 252 = omega (arith, year.1, i.1) in
    root_by t f c.loop-factor.invariant.0 u o

pub returns-in-Equal-clause-value : goal.returns-in-Equal-clause-value
returns-in-Equal-clause-value c = root-computed c.args.self.value c.loop-factor.factor c.args.self.range (returns-in-Equal-clause-root c)

pub returns-in-Equal-clause-least : goal.returns-in-Equal-clause-least
returns-in-Equal-clause-least c =
    let e = rw c.new.ensures at c.trial-trial.ensures.power in
    omega (arith, e, power-least c.loop-factor.factor c.args.days c.loop-factor.invariant.0)
