use Rattle.std.proofs.Common.{sym}
use Rattle.calendar.proofs.Spans.{session-past, is-first}
use Rattle.calendar.proofs.span.next_session.Goals as goal

pub returns-then-from-gt-LAST_DAY : goal.returns-then-from-gt-LAST_DAY
returns-then-from-gt-LAST_DAY g c =
    let e = sym (session-past _ (g.met.C.Calendar.ends c.args.calendar.now) _ _ c.if-from-gt-LAST_DAY.true) in
    record { value = e; first = is-first _ _ _ _ e; bound = tt }
