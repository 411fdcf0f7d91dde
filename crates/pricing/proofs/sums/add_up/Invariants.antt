use Rattle.sheet.specs.Lines.{trades_left}
use Rattle.sheet.specs.Views.{view_trades}
use Rattle.pricing.proofs.Parts.{Part}
use Rattle.pricing.proofs.sums.add_up.Given as goal

abbrev pub invariant-loop-trade : goal.invariant-loop-trade
invariant-loop-trade g l =
    (goal.iterator-loop-trade g).can_next l.trade-iterator × (goal.iterator-loop-trade g).is_finite l.trade-iterator
    × Part (g.P.Pick.picked l.pick) (view_trades l.view) (trades_left l.trade-iterator) l.lines l.contracts
