use Rattle.std.proofs.Common.{add-one}
use Rattle.amounts.specs.Closes.{no_prices}
use Rattle.book.specs.Closes.{prices_after}
use Rattle.book.proofs.Changing.{part-step}
use Rattle.book.proofs.gap.correct_all.Goals as goal

pub loop-price-preserved : goal.loop-price-preserved
loop-price-preserved c =
    rw (c.after_day-price.ensures, c.loop-price.invariant, add-one)
    (part-step (prices_after c.args.factor) no_prices _ c.loop-price.price-index (rw (← c.deref_mut-price-items.ensures.value) c.loop-price-test.true))
