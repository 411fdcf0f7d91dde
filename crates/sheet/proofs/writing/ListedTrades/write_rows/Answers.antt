use Rattle.std.proofs.Common.{◌≡◌, ℕ, ◌++◌, Some, get_or, sym, ap, ◌∙◌, rules}
use Rattle.sheet.specs.Codes.{code_bytes}
use Rattle.sheet.specs.Sheet.{little, sides, terms}
use Rattle.sheet.proofs.Rows.{row_more}
use Rattle.sheet.proofs.SheetLaws.{blank, wide-sides, wide-terms}
use Rattle.sheet.proofs.writing.ListedTrades.write_rows.Goals as goal

pub loop-line-preserved : goal.loop-line-preserved
loop-line-preserved c =
    let ts = c.args.self.now.trades.now in
    let t = get_or ts c.loop-line.line blank in
    let m : Some c.unwrap-code.result ≡ c.new.result = sym c.unwrap-code.ensures in
    let e : c.unwrap-code.result.month ≡ t.month = search rules in (
      row_more sides 2 wide-sides ts blank c.split_at_mut-side_rows.result.0.now c.loop-line.side_rows c.copy_from_slice.new.self c.loop-line.line
          c.loop-line-test.true c.copy_from_slice.ensures.after c.loop-line.invariant.0,
      row_more terms 14 wide-terms ts blank c.split_at_mut-side_rows.result.1.now c.loop-line.term_rows c.write_terms.new.out c.loop-line.line
          c.loop-line-test.true (c.write_terms.ensures ∙ ap (λ (x : ℕ). code_bytes x ++ (little 4 t.rate ++ little 4 t.quantity)) e) c.loop-line.invariant.1,
    )
