use Rattle.std.proofs.Common.{◌≡◌, arith}
use Rattle.interest.specs.Price.{after_days, trade_price}
use Rattle.interest.proofs.Bounds.{trade-price-least, trade-price-most}
use Rattle.interest.proofs.prices.Quote.price.Goals as goal

pub returns : goal.returns
unfolding after_days trade_price
returns c =
    let q = c.args.self in
    let e : c.to_centavos.result ≡ trade_price q.rate q.days = cc in
    record {
      rate = q.rate_limit;
      days = q.day_limit;
      by_root = (c.root-root.result.factor, (c.root-root.ensures.root, cc));
      value = e;
      least = omega (arith, e, trade-price-least q.rate q.days q.rate_limit q.day_limit);
      most = omega (arith, e, trade-price-most q.rate q.days);
    }
