use Rattle.std.proofs.Common.{ℕ, List, subst}
use Rattle.std.specs.Fmt.{HasWritten}
use Rattle.sheet.proofs.CodeLaws.{code-shown}
use Rattle.sheet.proofs.code.ContractCodeDisplay.fmt.Goals as goal

pub returns-clause-writes : goal.returns-clause-writes
returns-clause-writes g c =
    λ p o.
    subst (λ (bs : List ℕ). HasWritten {W = g.row.W.Denot} g.W.Write.write_str_gives c.args.f.now bs c.write.new.self)
    (code-shown c.args.self.now.month c.parts-letter.result.0 c.parts-letter.result.1 c.parts-letter.result.2
    c.parts-letter.ensures.letter c.parts-letter.ensures.tens c.parts-letter.ensures.ones)
    (c.write.ensures.writes p o)
