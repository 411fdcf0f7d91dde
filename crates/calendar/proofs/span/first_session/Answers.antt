use Rattle.std.proofs.Common.{◌≡◌, rules, refl}
use borrow.Author.Tests.{tests}
use Rattle.std.proofs.lemmas.Iterator.{YieldsList-from_range}
use Rattle.std.proofs.lemmas.Iterator.Search.{find_from_yields_List}
use Rattle.calendar.specs.Kinds.{is_session}
use Rattle.calendar.specs.Spans.{first_session}
use Rattle.calendar.proofs.Spans.{session-found, is-first, first-bound}
use Rattle.calendar.proofs.span.first_session.Goals as goal

pub returns : goal.returns
returns g c =
    let k = g.C.Calendar.kinds c.args.calendar.now in
    let ends = g.met.C.Calendar.ends c.args.calendar.now in
    let e : c.find.result ≡ first_session k c.args.from c.args.to =
    session-found k ends c.args.from c.args.to c.min-end.result c.find.result c.min-end.ensures
    (find_from_yields_List (λ d. is_session (k d)) _ _ c.find.result c.find.ensures.ran
    (YieldsList-from_range c.args.from c.min-end.result _ refl refl) (λ x b q e. search (rules, tests))) in
    let f = is-first k c.args.from c.args.to c.find.result e in
    record { value = e; first = f; bound = first-bound k ends c.args.from c.args.to c.find.result f }
