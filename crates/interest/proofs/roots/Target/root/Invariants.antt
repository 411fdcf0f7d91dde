use Rattle.std.proofs.Common.{◌+◌, ◌-◌, ◌≤◌}
use Rattle.interest.specs.Power.{root_of}
use Rattle.interest.specs.declared.powers.TheConstants.{ONE}
use Rattle.interest.specs.declared.roots.TheConstants.{MAX_ROOT}
use Rattle.interest.proofs.roots.Target.root.Given as goal

abbrev pub invariant-loop-factor : goal.invariant-loop-factor
invariant-loop-factor l = (ONE ≤ l.factor) × (l.factor ≤ MAX_ROOT)

-- how far the factor is from the root
abbrev pub decreases-loop-factor : goal.decreases-loop-factor
decreases-loop-factor l = (l.factor - root_of l.self.value) + (root_of l.self.value - l.factor)
