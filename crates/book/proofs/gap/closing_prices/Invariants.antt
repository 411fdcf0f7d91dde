use Rattle.rates.specs.Meanings.{rates_of}
use Rattle.book.specs.Causes.{day_in}
use Rattle.book.proofs.Correcting.{Walked}
use Rattle.book.proofs.gap.closing_prices.Given as goal

abbrev pub invariant-loop-day : goal.invariant-loop-day
invariant-loop-day g l = Walked (g.C.Calendar.kinds l.calendar) (rates_of (g.S.RateSource.meaning l.source)) (day_in l.ledger) l.initial.day l.ledger.months l.day l.prices.items
