use Rattle.std.proofs.Common.{refl}
use Rattle.amounts.proofs.Summing.{sums-none}
use Rattle.amounts.proofs.session.SessionTrades.new.Goals as goal

pub invariant_of-result : goal.invariant_of-result
invariant_of-result c = record { counted = refl; sums = sums-none _ c.new.result refl c.new.ensures.bought c.new.ensures.sold }
