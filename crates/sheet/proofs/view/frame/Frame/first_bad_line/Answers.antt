use Rattle.std.proofs.Common.{◌≡◌, true, rules, tests}
use Rattle.std.proofs.lemmas.Iterator.{first_from_Range}
use Rattle.sheet.specs.Codes.{is_code}
use Rattle.sheet.specs.Sheet.{code_of}
use Rattle.sheet.proofs.ReadLaws.{first_bad}
use Rattle.sheet.proofs.view.frame.Frame.first_bad_line.Goals as goal

pub returns : goal.returns
returns c =
    let f = c.args.self.now in
    let b = f.bytes.now in
    first_bad b f.count c.find.result
    (first_from_Range _ _ _ _ (λ i. is_code (code_of b i) ≡ true → ⊥) (λ i. is_code (code_of b i) ≡ true) c.find.ensures.ran
    (λ x q k. search (rules, tests)) (λ x q k. search (rules, tests)))
