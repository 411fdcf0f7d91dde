use Rattle.std.proofs.Common.{ap, ◌∙◌}
use Rattle.rates.specs.Meanings.{rates_of, under}
use Rattle.rates.proofs.Layering.{published_sets, layer-answers, same-layer}
use Rattle.rates.proofs.layer.ArbitrationLayer.publish_below.Goals as goal

pub returns-clause-published : goal.returns-clause-published
returns-clause-published g c =
    let x = c.args.self.now in
    let m = g.S.RateSource.meaning x.below in
    let days = x.days.items in
    let done = c.publish.ensures in
    record {
      answers = done.answers ∙ layer-answers m days c.args.entry c.args.period c.requires;
      refused = λ no. same-layer x _ _ (done.refused no);
      accepted = λ yes. ap (under days) (done.accepted yes);
      rates = λ yes d. ap (λ n. rates_of (under days n) d) (done.accepted yes) ∙ published_sets (under days m) c.args.entry c.requires d;
    }
