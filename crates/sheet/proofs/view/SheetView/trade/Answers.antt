use Rattle.std.proofs.Common.{◌≡◌, ℕ, true, List, take, Some, sym, ap, ◌∙◌, subst, arith}
use Rattle.sheet.specs.Codes.{is_code}
use Rattle.sheet.specs.Sheet.{trade_from, sides_at, terms_at, code_of}
use Rattle.sheet.proofs.SheetLaws.{line_at, line-past}
use Rattle.sheet.proofs.ReadLaws.{trade-found, coded-at}
use Rattle.sheet.proofs.view.SheetView.trade.Goals as goal

pub returns-then-line-count-clause-value : goal.returns-then-line-count-clause-value
returns-then-line-count-clause-value c =
    let f = c.args.self.now.frame in
    sym (line-past f.count f.bytes.now c.args.line (omega (arith, c.count.ensures.value.0, c.if-line-count.true)))

pub returns-clause-value : goal.returns-clause-value
returns-clause-value c =
    let f = c.args.self.now.frame in
    let b = f.bytes.now in
    let i = c.args.line in
    let n = f.counted in
    let s : c.sides.result ≡ sides_at b i = c.sides.ensures in
    let t : c.terms.result ≡ terms_at f.count b i = c.terms.ensures in
    let e : code_of b i ≡ take 6 c.terms.result = cc in
    trade-found _ c.trade_from.result _ c.trade_from.ensures (subst (λ x. is_code x ≡ true) e (coded-at b f.count i c.args.self.now.coded (omega (arith, c.count.ensures.value.0, c.if-line-count.false))))
    ∙ ap (λ (x : List ℕ). Some (trade_from x c.terms.result)) s
    ∙ ap (λ (x : List ℕ). Some (trade_from (sides_at b i) x)) t
    ∙ sym (line_at f.count b i (omega (arith, c.count.ensures.value.0, c.if-line-count.false)))
