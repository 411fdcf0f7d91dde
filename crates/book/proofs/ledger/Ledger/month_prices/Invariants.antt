use Rattle.std.proofs.Common.{◌≡◌, map, take}
use Rattle.book.specs.Closes.{prices_before}
use Rattle.book.proofs.ledger.Ledger.month_prices.Given as goal

abbrev pub invariant-loop-row : goal.invariant-loop-row
invariant-loop-row l = l.list.items ≡ map (prices_before l.day) (take l.row-index l.row-items)
