use Rattle.interest.specs.Power.{NeighbourPowers}
use Rattle.interest.proofs.roots.Neighbours.raise.Given as goal

abbrev pub invariant-loop-done : goal.invariant-loop-done
invariant-loop-done l = NeighbourPowers l.self.lower.factor l.done l.lower l.upper
