use Rattle.std.proofs.Common.{◌∷◌, length, None, Some, ap, arith}
use Rattle.refusal.specs.Refusals.{reason_of}
use Rattle.model.specs.History.{Traded}
use Rattle.model.specs.Imports.{line_trade}
use Rattle.book.proofs.Importing.{next-line}
use Rattle.book.proofs.position_book.Book.trade_lines.Goals as goal

pub returns-in-Err-clause-came : goal.returns-in-Err-clause-came
returns-in-Err-clause-came g c w h k =
    let r = rw c.in-Some.ensures.steps at (c.loop-line.invariant.remaining w h k) in
    rw (
      next-line _ w h c.args.ticket.now _ _ _ _ _ r (Some (reason_of c.in-Err.refusal)) (c.in-Err.ensures.answers w r.history r.kept),
      c.in-Err.ensures.refused,
    )
    (record { taken = c.refused.ensures.0; stop = c.refused.ensures.1; kept = r.kept })

pub loop-line-preserved : goal.loop-line-preserved
loop-line-preserved g c = record {
  can = tt;
  finite = tt;
  few = omega (arith, c.loop-line.invariant.few, ap length c.in-Some.ensures.steps);
  unchanged = λ none. absurd (omega arith);
  remaining = λ w h k.
      let r = rw c.in-Some.ensures.steps at (c.loop-line.invariant.remaining w h k) in
      record {
        history = Traded (line_trade w r.history c.in-Some.line) ∷ r.history;
        kept = (c.in_default.ensures.accepted w r.history r.kept).1;
        same = next-line _ w h c.args.ticket.now _ _ _ _ _ r None (c.in_default.ensures.answers w r.history r.kept);
      };
}
