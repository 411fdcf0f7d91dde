use Rattle.std.proofs.Common.{◌≡◌, ◌++◌, map, take, drop}
use Rattle.interest.specs.Correction.{corrected_day}
use Rattle.correction.proofs.gap.each_after_day.Given as goal

abbrev pub invariant-loop-i : goal.invariant-loop-i
invariant-loop-i g l = l.corrected ≡ map (λ p. corrected_day p l.factor) (take l.i l.prices) ++ drop l.i l.prices
