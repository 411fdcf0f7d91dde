-- Why prices are not corrected: the causes, their reasons, and their words.
use Rattle.std.specs.Prelude.{ℕ, cond, List, [], ◌∷◌, ◌++◌, length, codes, Some, None, Option, nat_lt}
use Rattle.std.specs.Option.{option_map}
use Rattle.calendar.specs.declared.kind.DayKind.{DayKind}
use Rattle.calendar.specs.Spans.{reserve_days}
use Rattle.dates.specs.Dates.{day_text}
use Rattle.rows.specs.Rows.{Reason}
use Rattle.correction.specs.declared.error.Uncorrected.{Uncorrected}
use Rattle.correction.specs.declared.error.Uncorrected.TheVariants.{TooLong, MissingRate}
use Rattle.correction.specs.declared.gap.TheConstants.{MAX_GAP_DAYS}
use Rattle.correction.specs.Gaps.{first_unrated}

-- the first cause: the gap is too long; else a reserve day has no rate, and the first such is told
abbrev pub gap_fault : (ℕ → DayKind) → (ℕ → Option ℕ) → ℕ → ℕ → Option Uncorrected
gap_fault kinds rates from to =
    cond (nat_lt MAX_GAP_DAYS (length (reserve_days kinds from to))) (Some TooLong) (option_map MissingRate (first_unrated rates (reserve_days kinds from to)))

-- the number of a cause, and the day that it names; a gap that is too long has none
abbrev pub uncorrected_reason : Uncorrected → Option Reason
uncorrected_reason TooLong = None
uncorrected_reason (MissingRate day) = Some (record { number = 15; values = day ∷ [] })

-- a cause in words
abbrev pub message : Uncorrected → List ℕ
message TooLong = codes "over 252 reserve days"
message (MissingRate day) = codes "no rate for " ++ day_text day
