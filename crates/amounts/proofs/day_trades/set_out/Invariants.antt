use Rattle.std.proofs.Common.{◌≡◌, ℕ, ◌<◌, min, get_or, length}
use Rattle.amounts.specs.declared.day_trades.FirstContracts.{FirstContracts}
use Rattle.amounts.specs.SideSums.{no_sum}
use Rattle.amounts.proofs.day_trades.set_out.Given as goal

abbrev pub invariant-loop-i : goal.invariant-loop-i
invariant-loop-i l =
    (length l.cells ≡ 512)
    × ((k : ℕ) (d : FirstContracts) → k < l.i → get_or l.cells k d ≡ record { left = min (get_or l.sums.bought k no_sum).contracts (get_or l.sums.sold k no_sum).contracts; value = 0 })
