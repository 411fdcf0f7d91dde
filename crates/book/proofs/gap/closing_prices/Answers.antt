use Rattle.std.proofs.Common.{Some, refl, ap, ◌∙◌}
use Rattle.refusal.specs.Refusals.{reason_of}
use Rattle.book.proofs.Correcting.{walk-start, walk-next, walk-missing, walk-end, gap-is, reason-is}
use Rattle.book.proofs.gap.closing_prices.Goals as goal

pub loop-day-init : goal.loop-day-init
loop-day-init g c = walk-start _ _ _ _ _ _ c.month_prices-prices.ensures

pub loop-day-preserved : goal.loop-day-preserved
loop-day-preserved g c = walk-next _ _ _ _ _ c.loop-day.day _ _ c.loop-day.auto.day (rw (← c.gap-gap.ensures.1) c.loop-day-test.true) c.in_ok-correct_over.ensures c.loop-day.invariant

pub returns-in_err-correct_over-clause-answers : goal.returns-in_err-correct_over-clause-answers
returns-in_err-correct_over-clause-answers g c =
    let gap = gap-is (g.C.Calendar.kinds c.args.calendar.now) c.args.ledger.now.session.closed _ _ c.gap-gap.ensures.0 in
    let missing = walk-missing _ _ _ _ _ c.loop-day.day _ c.loop-day.auto.day (rw (← c.gap-gap.ensures.1) c.loop-day-test.true) c.in_err-correct_over.ensures.1 c.loop-day.invariant in
    reason-is reason_of _ _ c.from_residual.ensures.1 ∙ ap (λ e. Some (reason_of e)) c.in_err-correct_over.ensures.0 ∙ rw (← gap, missing) refl

pub returns-clause-answers : goal.returns-clause-answers
returns-clause-answers g c =
    let gap = gap-is (g.C.Calendar.kinds c.args.calendar.now) c.args.ledger.now.session.closed _ _ c.gap-gap.ensures.0 in
    let end = c.gap-gap.ensures.1 in
    rw (← gap, (walk-end _ _ _ _ _ c.loop-day.day _ (rw (← end) c.loop-day-test.false) (rw (← end) c.loop-day.auto.day-end) c.loop-day.invariant).0)

pub returns-clause-value : goal.returns-clause-value
returns-clause-value g c =
    let gap = gap-is (g.C.Calendar.kinds c.args.calendar.now) c.args.ledger.now.session.closed _ _ c.gap-gap.ensures.0 in
    let end = c.gap-gap.ensures.1 in
    rw (← gap) (walk-end _ _ _ _ _ c.loop-day.day _ (rw (← end) c.loop-day-test.false) (rw (← end) c.loop-day.auto.day-end) c.loop-day.invariant).1
