-- What a close looks at, writes and leaves, as the tables tell it.
use Rattle.std.specs.Prelude.{◌≡◌, true, None, map, ℕ, ◌+◌, ◌*◌, ◌%◌, min, Bool, false, cond, not, ◌&&◌, ◌||◌, List, [], ◌∷◌, ◌++◌, take, drop, length, ℤ, pos, ◌+ℤ◌, is_some, Option, nat_le, nat_lt, slice_get}
use Rattle.std.specs.Int.{int_wrap, w64}
use Rattle.std.specs.List.{position}
use Rattle.std.specs.Option.{unwrap_or, option_map}
use Rattle.amounts.specs.declared.adjustments.MonthPrices.{MonthPrices}
use Rattle.amounts.specs.Sums.{total}
use Rattle.calendar.specs.declared.kind.DayKind.{DayKind}
use Rattle.calendar.specs.Kinds.{is_reserve}
use Rattle.correction.specs.Gaps.{factor_on, factors}
use Rattle.interest.specs.Correction.{corrected, corrected_day}
use Rattle.rows.specs.Rows.{Row, numbered}
use Rattle.model.specs.References.{SessionReference, is_of}
use Rattle.model.specs.Rows.{naming}
use Rattle.model.specs.Sessions.{gap_since}
use Rattle.book.specs.Causes.{day_in}
use Rattle.book.specs.Changes.{priced}
use Rattle.book.specs.declared.ledger.AccountRow.{AccountRow}
use Rattle.book.specs.declared.ledger.MonthRow.{MonthRow}
use Rattle.book.specs.Tables.{Tables}

-- ---- refusals

-- a month that expires after the day and has no mark
abbrev pub lacks_mark : ℕ → MonthRow → Bool
lacks_mark day row = nat_lt day row.expiry && not (is_some row.mark)

-- to close a session, whatever its rates and the arrays
abbrev pub session_rows_in : Tables → SessionReference → List Row
session_rows_in t ticket =
    (not (is_of t.number ticket t.session.opens), numbered 1)
    ∷ (is_some t.session.unpaid, numbered 13)
    ∷ naming 14 (position (lacks_mark (day_in t)) t.months)
    ∷ []

-- an array is too short for the amounts of all accounts and months
abbrev pub room_row_in : Tables → ℕ → ℕ → Row
room_row_in t adjustments day_trades =
    (nat_lt adjustments (length t.accounts * length t.months) || nat_lt day_trades (length t.accounts * length t.months), numbered 16)

-- to close it into arrays of these lengths, where this is the first reserve day of the gap without a rate
abbrev pub close_rows_in : Tables → SessionReference → Option ℕ → ℕ → ℕ → List Row
close_rows_in t ticket missing adjustments day_trades = session_rows_in t ticket ++ (naming 15 missing ∷ room_row_in t adjustments day_trades ∷ [])

-- ---- prices

-- the gap: the reserve days from the latest closed session, included, to the latest session, excluded
abbrev pub gap_in : (ℕ → DayKind) → Tables → List ℕ
gap_in kinds t = gap_since kinds t.session.closed (day_in t)

-- a price as 32 bits hold it: their greatest number where it is more
abbrev pub price_in_32_bits : ℕ → ℕ
price_in_32_bits n = min n 4294967295

-- the prices of a month in the session of a day: the settlement price, and the latest before it, corrected over these days
abbrev pub prices_over : (ℕ → Option ℕ) → ℕ → List ℕ → MonthRow → MonthPrices
prices_over rates day days row = record { settlement = (priced day row).latest; corrected = price_in_32_bits (corrected row.latest (factors rates days)) }

-- before any day of them
abbrev pub prices_before : ℕ → MonthRow → MonthPrices
prices_before day row = record { settlement = (priced day row).latest; corrected = price_in_32_bits row.latest }

-- after one more of this factor
abbrev pub prices_after : ℕ → MonthPrices → MonthPrices
prices_after factor prices = record prices { corrected = price_in_32_bits (corrected_day prices.corrected factor) }

-- a reserve day without a rate
pub record Unrated (kinds : ℕ → DayKind) (rates : ℕ → Option ℕ) (day : ℕ) : Type 0 where
  pub reserve : is_reserve (kinds day) ≡ true
  pub unrated : rates day ≡ None

-- the prices after a day: a reserve day has a rate, and its factor corrects them; any other day leaves them
pub record Corrects (kinds : ℕ → DayKind) (rates : ℕ → Option ℕ) (day : ℕ) (old new : List MonthPrices) : Type 0 where
  pub rated : is_reserve (kinds day) ≡ true → is_some (rates day) ≡ true
  pub prices : new ≡ cond (is_reserve (kinds day)) (map (prices_after (factor_on rates day)) old) old

-- ---- what is due and what is held afterwards

-- a list with each element changed, by its index, the first being this
abbrev pub changed_each : {X : Type 0} → (ℕ → X → X) → ℕ → List X → List X
changed_each change i [] = []
changed_each change i (x ∷ xs) = change i x ∷ changed_each change (i + 1) xs

-- an amount more is due
abbrev pub with_more_due : ℤ → AccountRow → AccountRow
with_more_due amount row = record row { due = int_wrap w64 (row.due +ℤ amount) }

-- the row of an account in cells with k months to an account
abbrev pub row_in : ℕ → List ℤ → ℕ → List ℤ
row_in k cells a = take k (drop (a * k) cells)

-- to each account is due what its row adds up to
abbrev pub accounts_after : ℕ → List ℤ → List AccountRow → List AccountRow
accounts_after k cells rows = changed_each (λ a row. with_more_due (int_wrap w64 (total (λ z. z) (row_in k cells a))) row) 0 rows

-- the month of an index is there, and its expiry is not after the day
abbrev pub has_expired : ℕ → List MonthRow → ℕ → Bool
has_expired day rows m = unwrap_or (option_map (λ row. nat_le row.expiry day) (slice_get rows m)) false

-- the positions of such months are 0
abbrev pub positions_after : ℕ → List MonthRow → List ℤ → List ℤ
positions_after day rows cells = changed_each (λ i z. cond (has_expired day rows (i % 16)) (pos 0) z) 0 cells
