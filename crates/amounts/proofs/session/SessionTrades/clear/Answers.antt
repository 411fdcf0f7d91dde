use Rattle.std.proofs.Common.{refl}
use Rattle.amounts.proofs.Summing.{sums-none}
use Rattle.amounts.proofs.session.SessionTrades.clear.Goals as goal

pub invariant_of-self : goal.invariant_of-self
invariant_of-self c = record { counted = refl; sums = sums-none _ c.clear.new.self refl c.clear.ensures.bought c.clear.ensures.sold }
