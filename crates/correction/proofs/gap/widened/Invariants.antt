use Rattle.std.proofs.Common.{◌≡◌, ℕ, ◌<◌, ◌++◌, get_or, take, drop}
use Rattle.correction.proofs.gap.widened.Given as goal

abbrev pub invariant-loop-i : goal.invariant-loop-i
invariant-loop-i g l = (l.wide ≡ take l.i l.prices ++ drop l.i l.initial.wide) × ((k : ℕ) → get_or l.wide k 0 < 4294967296)
