-- What accepted calls answer, computed.
use Rattle.std.proofs.Common.{refl}
use Rattle.examples.specs.Answers.{AnswersHold}
use Rattle.examples.proofs.LawfulSteps.{figures}

pub answers-hold : AnswersHold
unfolding figures
answers-hold = record { indices = refl; tickets = refl; prices = refl; slips = refl; positions = refl; balances = refl; arrays = refl; written_off = refl }
