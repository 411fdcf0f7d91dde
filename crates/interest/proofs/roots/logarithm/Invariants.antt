use Rattle.std.proofs.Common.{◌*◌, ◌/◌, ◌≤◌}
use Rattle.interest.specs.declared.roots.TheConstants.{UNIT}
use Rattle.interest.proofs.roots.logarithm.Given as goal

abbrev pub invariant-loop-k : goal.invariant-loop-k
invariant-loop-k l = l.sum ≤ 9 * UNIT / 8
