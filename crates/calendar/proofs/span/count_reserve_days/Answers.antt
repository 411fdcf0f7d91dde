use Rattle.std.proofs.Common.{length, sym, ap, arith}
use Rattle.calendar.specs.Kinds.{is_reserve}
use Rattle.calendar.proofs.Spans.{days-none, count-ends}
use Rattle.calendar.proofs.span.count_reserve_days.Goals as goal

pub returns-then-from-end : goal.returns-then-from-end
returns-then-from-end g c =
    record {
      value =
          count-ends _ (g.met.C.Calendar.ends c.args.calendar.now) _ _ _ _
          (sym (ap length (days-none is_reserve _ _ _ c.if-from-end.true))) c.min-end.ensures;
      most = omega arith;
    }
