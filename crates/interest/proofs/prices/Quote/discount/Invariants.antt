use Rattle.std.proofs.Common.{◌≡◌}
use Rattle.interest.specs.Price.{after_years}
use Rattle.interest.proofs.prices.Quote.discount.Given as goal

abbrev pub invariant-loop-done : goal.invariant-loop-done
invariant-loop-done l = l.left ≡ after_years l.fn.self.rate l.done l.worth
