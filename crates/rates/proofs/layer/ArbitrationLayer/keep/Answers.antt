use Rattle.std.proofs.Common.{ap, ◌∙◌, rules}
use Rattle.rates.specs.ArbitratedDays.{within_limit}
use Rattle.rates.specs.Meanings.{under}
use Rattle.rates.proofs.Layering.{arbitrated_sets}
use Rattle.rates.specs.RateBounds.{limit-more}
use Rattle.rates.proofs.layer.ArbitrationLayer.keep.Goals as goal

pub invariant_of-self : goal.invariant_of-self
invariant_of-self g c =
    let x = c.args.self.now in
    record { limited = ap within_limit c.push.ensures.items ∙ limit-more x.days.items c.args.entry x.limited c.requires.limit }

pub returns-clause-sets : goal.returns-clause-sets
returns-clause-sets g c =
    let x = c.args.self.now in
    let more = arbitrated_sets (under x.days.items (g.S.RateSource.meaning x.below)) c.args.entry c.requires.free in
    search (rules, more)
