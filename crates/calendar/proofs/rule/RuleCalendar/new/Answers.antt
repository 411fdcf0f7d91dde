use Rattle.std.proofs.Common.{◌≡◌, ◌∷◌, ◌++◌, rules}
use Rattle.std.specs.Slice.Iter.{iter_rest}
use Rattle.std.specs.Iterator.Adapters.{rev_source}
use mathlib.Core.List.{append_assoc}
use Rattle.calendar.proofs.rule.RuleCalendar.new.Goals as goal

pub loop-exception-preserved : goal.loop-exception-preserved
loop-exception-preserved c =
    let i = c.loop-exception.invariant in
    let e : c.args.exceptions.now ≡ iter_rest (rev_source c.next.new.self) ++ (c.in-Some.exception.now ∷ i.0) = search (rules, append_assoc) in
    (c.in-Some.exception.now ∷ i.0, e, c.enter.ensures i.0 i.2)
