use Rattle.std.proofs.Common.{◌&&◌, refl, rules}
use borrow.Author.Tests.{tests}
use Rattle.std.proofs.lemmas.Iterator.{YieldsList-from_range}
use Rattle.std.proofs.lemmas.Iterator.Search.{find_from_yields_List}
use Rattle.calendar.specs.Kinds.{is_reserve}
use Rattle.rates.specs.Meanings.{rates_of}
use Rattle.correction.specs.Gaps.{is_unrated}
use Rattle.correction.proofs.WalkLaws.{unrated-found}
use Rattle.correction.proofs.unrated.first_unrated.Goals as goal

pub returns : goal.returns
returns g c =
    let kinds = g.C.Calendar.kinds c.args.calendar.now in
    let rates = rates_of (g.S.RateSource.meaning c.args.source.now) in
    unrated-found kinds (g.met.C.Calendar.ends c.args.calendar.now) rates c.args.from c.args.to c.min-end.result c.find.result c.min-end.ensures
    (find_from_yields_List (λ d. is_reserve (kinds d) && is_unrated rates d) _ _ c.find.result c.find.ensures.ran
    (YieldsList-from_range c.args.from c.min-end.result _ refl refl) (λ x b q e. search (rules, tests)))
