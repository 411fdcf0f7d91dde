use Rattle.std.proofs.Common.{◌≡◌, length, sym, ap, ◌∙◌, arith, rules}
use Rattle.calendar.specs.Kinds.{is_reserve}
use Rattle.calendar.specs.Spans.{reserve_days}
use Rattle.calendar.proofs.Spans.{days-none, count-more, count-ends}
use Rattle.calendar.proofs.span.count_days.Goals as goal

pub loop-day-init : goal.loop-day-init
loop-day-init g c = (sym (ap length (days-none is_reserve _ _ _ (omega arith))), omega arith)

pub loop-day-preserved : goal.loop-day-preserved
loop-day-preserved g c = search (rules, count-more)

pub returns : goal.returns
returns g c =
    let e : c.loop-day.day ≡ c.args.end = omega arith in
    let all = c.loop-day.invariant.0 ∙ ap (λ d. length (reserve_days (g.C.Calendar.kinds c.args.calendar.now) c.args.from d)) e in
    record { value = λ to. count-ends _ (g.met.C.Calendar.ends c.args.calendar.now) _ _ to _ all; most = omega arith }
