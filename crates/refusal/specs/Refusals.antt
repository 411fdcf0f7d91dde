-- The causes of refusals: what each tells, and its words.
use Rattle.std.specs.Prelude.{ℕ, List, [], ◌∷◌, ◌++◌, codes, decimal}
use Rattle.rows.specs.Rows.{Reason, numbered}
use Rattle.refusal.specs.declared.Refusal.{Refusal}
use Rattle.refusal.specs.declared.Refusal.TheVariants.{NotCurrent, NoSuchIndex, Expired, SameSides, BadQuantity, BadRate, TooFar, PositionLimit, SessionFull, BadPrice, SessionOpen, NoSession, Unpaid, Unmarked, MissingRate, ArrayShort, NoLaterSession, TableFull, AlreadyThere, NoExpiry, OutsideHorizon, HasRate, RateTooHigh, BadPeriod, ArbitrationFull, BadSheet}

-- the number of a cause, and the month or the day that it names
abbrev pub reason_of : Refusal → Reason
reason_of NotCurrent = numbered 1
reason_of NoSuchIndex = numbered 2
reason_of Expired = numbered 3
reason_of SameSides = numbered 4
reason_of BadQuantity = numbered 5
reason_of BadRate = numbered 6
reason_of TooFar = numbered 7
reason_of PositionLimit = numbered 8
reason_of SessionFull = numbered 9
reason_of BadPrice = numbered 10
reason_of SessionOpen = numbered 11
reason_of NoSession = numbered 12
reason_of Unpaid = numbered 13
reason_of (Unmarked month) = record { number = 14; values = month ∷ [] }
reason_of (MissingRate day) = record { number = 15; values = day ∷ [] }
reason_of ArrayShort = numbered 16
reason_of NoLaterSession = numbered 17
reason_of TableFull = numbered 18
reason_of AlreadyThere = numbered 19
reason_of NoExpiry = numbered 20
reason_of OutsideHorizon = numbered 21
reason_of HasRate = numbered 22
reason_of RateTooHigh = numbered 23
reason_of BadPeriod = numbered 24
reason_of ArbitrationFull = numbered 25
reason_of BadSheet = numbered 26

-- the cause in words
abbrev pub cause : Refusal → List ℕ
cause NotCurrent = codes "not of the open session, or not the unpaid slip"
cause NoSuchIndex = codes "index not in the book"
cause Expired = codes "expiry not after the session"
cause SameSides = codes "buyer and seller are the same account"
cause BadQuantity = codes "quantity not from 1 to 20,000"
cause BadRate = codes "rate too high or off its step"
cause TooFar = codes "more than 2,520 reserve days to the expiry"
cause PositionLimit = codes "a position would pass 500,000 contracts"
cause SessionFull = codes "256 trades in the session already"
cause BadPrice = codes "price not from 1 to 10,000,000"
cause SessionOpen = codes "a session is open"
cause NoSession = codes "no session in the next 60 days"
cause Unpaid = codes "an earlier slip is unpaid"
cause (Unmarked month) = codes "month without a settlement price"
cause (MissingRate day) = codes "reserve day without a rate"
cause ArrayShort = codes "array too short"
cause NoLaterSession = codes "no later session is open"
cause TableFull = codes "table full"
cause AlreadyThere = codes "already in the book"
cause NoExpiry = codes "month without an expiry to come"
cause OutsideHorizon = codes "day outside the horizon"
cause HasRate = codes "day has a rate"
cause RateTooHigh = codes "DI rate over 99,999,999"
cause BadPeriod = codes "period is not 1"
cause ArbitrationFull = codes "16 days arbitrated already"
cause BadSheet = codes "bad sheet"

-- what staff read: the cause, and the month or the day that it names
abbrev pub message : Refusal → List ℕ
message (Unmarked month) = cause (Unmarked month) ++ codes ": index " ++ decimal month
message (MissingRate day) = cause (MissingRate day) ++ codes ": day " ++ decimal day
message r = cause r
