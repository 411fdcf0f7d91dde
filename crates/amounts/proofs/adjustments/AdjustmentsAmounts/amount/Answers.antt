use Rattle.std.proofs.Common.{◌≡◌, ◌∙◌, get_or, arith, w32, w64, to_z, of_z}
use Rattle.std.proofs.lemmas.Int.{ints}
use Rattle.amounts.specs.Amounts.{adjustment_of, carried_in}
use Rattle.amounts.specs.Closes.{position_in}
use Rattle.amounts.specs.SideSums.{IsSideSum, no_sum}
use Rattle.amounts.specs.declared.trades.Side.TheVariants.{Bought, Sold}
use Rattle.amounts.proofs.Adjusting.{adjustment-is, sum-bounded}
use Rattle.amounts.proofs.adjustments.AdjustmentsAmounts.amount.Goals as goal

pub adjustment-requires-clause-bought : goal.adjustment-requires-clause-bought
adjustment-requires-clause-bought c =
    let h = c.args.self.now.summed in
    let e = h.bought.each c.args.account c.args.month no_sum c.requires.account c.requires.month in
    rw c.place-at.ensures (sum-bounded Bought c.args.account c.args.month c.args.self.now.trades.now c.args.self.now.sums.now _ h e)

pub adjustment-requires-clause-sold : goal.adjustment-requires-clause-sold
adjustment-requires-clause-sold c =
    let h = c.args.self.now.summed in
    let e = h.sold.each c.args.account c.args.month no_sum c.requires.account c.requires.month in
    rw c.place-at.ensures (sum-bounded Sold c.args.account c.args.month c.args.self.now.trades.now c.args.self.now.sums.now _ h e)

pub returns : goal.returns
returns c =
    let s = c.args.self.now in
    let a = c.args.account in
    let m = c.args.month in
    let ts = s.trades.now in
    let place = c.place-at.ensures in
    let bought : IsSideSum Bought ts a m (get_or s.sums.now.bought c.place-at.result no_sum) = rw place (s.summed.bought.each a m no_sum c.requires.account c.requires.month) in
    let sold : IsSideSum Sold ts a m (get_or s.sums.now.sold c.place-at.result no_sum) = rw place (s.summed.sold.each a m no_sum c.requires.account c.requires.month) in
    let fits = c.position_in-position.ensures.most in
    let held : to_z w32 (of_z w32 c.position_in-position.result) ≡ position_in s.positions.now a m = omega (arith, ints) ∙ c.position_in-position.ensures.value in
    let prices = c.month_prices-prices.ensures in
    let same : to_z w64 (of_z w64 c.adjustment.result) ≡ c.adjustment.result = omega (arith, ints) in
    same ∙ c.adjustment.ensures
    ∙ adjustment-is a m ts _ _ _ _ bought sold
    ∙ (λ i. adjustment_of a m (prices i).settlement ts (carried_in a m ts (held i)) (prices i).corrected)
