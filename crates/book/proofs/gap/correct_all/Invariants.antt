use Rattle.std.proofs.Common.{◌≡◌, ◌++◌, map, take, drop}
use Rattle.book.specs.Closes.{prices_after}
use Rattle.book.proofs.gap.correct_all.Given as goal

abbrev pub invariant-loop-price : goal.invariant-loop-price
invariant-loop-price l = l.price-items ≡ map (prices_after l.fn.factor) (take l.price-index l.fn.prices.items) ++ drop l.price-index l.fn.prices.items
