use Rattle.std.proofs.Common.{◌≡◌, arith}
use Rattle.interest.specs.Price.{day_factor}
use Rattle.interest.proofs.Bounds.{day-factor-least, day-factor-most}
use Rattle.interest.proofs.di_rates.day_factor.Goals as goal

pub returns : goal.returns
unfolding day_factor
returns c =
    let d = c.args.rate in
    let h = c.if-rate-gt-MAX_DI_RATE.false in
    let e : c.to_eight_decimals.result ≡ day_factor d = cc in
    record {
      within = h;
      by_root = (c.root.result.factor, (c.root.ensures.root, cc));
      value = e;
      least = omega (arith, e, day-factor-least d);
      most = omega (arith, e, day-factor-most d h);
    }
