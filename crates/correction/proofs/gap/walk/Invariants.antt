use Rattle.std.proofs.Common.{◌≡◌, ◌≤◌}
use Rattle.rates.specs.Meanings.{rates_of}
use Rattle.correction.specs.Walks.{CorrectedTo}
use Rattle.correction.proofs.gap.walk.Given as goal

abbrev pub invariant-loop-day : goal.invariant-loop-day
invariant-loop-day g l =
    CorrectedTo (g.C.Calendar.kinds l.calendar) (rates_of (g.S.RateSource.meaning l.source)) l.from l.day l.fn.prices l.corrected
    × (l.end ≤ l.from → l.corrected ≡ l.fn.prices)
