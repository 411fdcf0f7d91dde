-- What the errors of a source tell, and their words.
use Rattle.std.specs.Prelude.{ℕ, List, codes}
use Rattle.rows.specs.Rows.{Reason, numbered}
use Rattle.rates.specs.declared.error.Error.{Error}
use Rattle.rates.specs.declared.error.Error.TheVariants.{OutsideHorizon, HasRate, RateTooHigh, BadPeriod, LayerFull}

-- the number of each cause; none names a value
abbrev pub reason_of : Error → Reason
reason_of OutsideHorizon = numbered 21
reason_of HasRate = numbered 22
reason_of RateTooHigh = numbered 23
reason_of BadPeriod = numbered 24
reason_of LayerFull = numbered 25

-- the words of each cause
abbrev pub message : Error → List ℕ
message OutsideHorizon = codes "day outside the horizon"
message HasRate = codes "day has a rate"
message RateTooHigh = codes "DI rate over 99,999,999"
message BadPeriod = codes "period is not 1"
message LayerFull = codes "16 days arbitrated already"
