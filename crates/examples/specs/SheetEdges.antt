-- Imports of trade sheets from their bytes, and sheets that are read and written, at their edges.
use Rattle.std.specs.Prelude.{◌≡◌, ℕ, ◌+◌, List, [], ◌∷◌, ◌++◌, take, replicate, Some, None, Option, codes}
use Rattle.std.specs.List.{range_with_len, flat_map}
use Rattle.std.specs.Option.{option_map}
use Rattle.rows.specs.Rows.{Reason, numbered}
use Rattle.sheet.specs.Faults.{write_reason}
use Rattle.sheet.specs.Sheet.{sheet_bytes, read_fault, write_fault}
use Rattle.sheet.specs.declared.fault.SheetFault.{SheetFault}
use Rattle.sheet.specs.declared.fault.SheetFault.TheVariants.{Length, Count, Day, Code}
use Rattle.sheet.specs.declared.trade_line.TradeLine.{TradeLine}
use Rattle.examples.specs.Books.{weekdays, of_day, order, in_session, Same, refusal}
use Rattle.model.specs.declared.calls.Layer.TheVariants as layers
use Rattle.model.specs.History.{History, Traded}
use Rattle.model.specs.Imports.{Import, import_of, line_trade}
use Rattle.model.specs.Observed.{trade_at}

-- ---- bytes

-- the terms of a line: a code, the rate 10,000, and less than 256 contracts
abbrev pub terms_with : List ℕ → ℕ → List ℕ
terms_with code contracts = code ++ 16 ∷ 39 ∷ 0 ∷ 0 ∷ contracts ∷ 0 ∷ 0 ∷ 0 ∷ []

-- 10 contracts of February 2027, and 7 of March
abbrev pub february : List ℕ
february = terms_with (codes "DI1G27") 10

abbrev pub march : List ℕ
march = terms_with (codes "DI1H27") 7

-- a sheet of these sides and terms, of the session of 9,860: 38 × 256 + 132
abbrev pub bytes_of : ℕ → List ℕ → List ℕ → List ℕ
bytes_of count sides terms = count ∷ 0 ∷ 132 ∷ 38 ∷ sides ++ terms

-- account 0 buys in rate from account 1, then account 2 from account 1
abbrev pub two_lines : List ℕ
two_lines = bytes_of 2 (0 ∷ 1 ∷ 2 ∷ 1 ∷ []) (february ++ march)

-- so many lines of April 2027, which is not listed; the count is 256 × high + low
abbrev pub lines_of_april : ℕ → ℕ → ℕ → List ℕ
lines_of_april n low high = low ∷ high ∷ 132 ∷ 38 ∷ replicate (n + n) 0 ++ flat_map (λ _. terms_with (codes "DI1J27") 1) (range_with_len 0 n)

-- ---- faults

-- the fault of bytes that are read for the session of 9,860
abbrev pub fault_of : List ℕ → Option SheetFault
fault_of bytes = read_fault bytes (Some 9860)

-- length, count, day and code
abbrev pub read_edges : List (Option SheetFault × Option SheetFault)
read_edges =
    (fault_of two_lines, None)
    -- no trades
    ∷ (fault_of (0 ∷ 0 ∷ 132 ∷ 38 ∷ []), None)
    ∷ (fault_of [], Some Length)
    ∷ (fault_of (0 ∷ 0 ∷ 132 ∷ []), Some Length)
    ∷ (fault_of (0 ∷ 0 ∷ 132 ∷ 38 ∷ 0 ∷ []), Some Length)
    ∷ (fault_of (take 35 two_lines), Some Length)
    ∷ (fault_of (two_lines ++ 0 ∷ []), Some Length)
    -- 256 trades and 257, whatever the length
    ∷ (fault_of (lines_of_april 256 0 1), None)
    ∷ (fault_of (lines_of_april 257 1 1), Some Count)
    ∷ (fault_of (1 ∷ 1 ∷ 132 ∷ 38 ∷ []), Some Count)
    ∷ (fault_of (0 ∷ 1 ∷ 132 ∷ 38 ∷ []), Some Length)
    -- 9,861
    ∷ (fault_of (0 ∷ 0 ∷ 133 ∷ 38 ∷ []), Some Day)
    ∷ (fault_of (0 ∷ 0 ∷ 133 ∷ 38 ∷ 0 ∷ []), Some Length)
    -- January 2000 and December 2099
    ∷ (fault_of (bytes_of 2 (0 ∷ 1 ∷ 2 ∷ 1 ∷ []) (terms_with (codes "DI1F00") 10 ++ terms_with (codes "DI1Z99") 10)), None)
    -- no letter of a month, small letters, no digit; the first line of these
    ∷ (fault_of (bytes_of 1 (0 ∷ 1 ∷ []) (terms_with (codes "DI1I27") 10)), Some (Code 0))
    ∷ (fault_of (bytes_of 1 (0 ∷ 1 ∷ []) (terms_with (codes "di1g27") 10)), Some (Code 0))
    ∷ (fault_of (bytes_of 2 (0 ∷ 1 ∷ 2 ∷ 1 ∷ []) (february ++ terms_with (codes "DI1G2:") 10)), Some (Code 1))
    ∷ (fault_of (bytes_of 2 (0 ∷ 1 ∷ 2 ∷ 1 ∷ []) (terms_with (codes "DI2G27") 10 ++ terms_with (codes "DI1G2:") 10)), Some (Code 0))
    ∷ []

-- ---- imports

-- an import that takes all lines
abbrev pub whole_import : ℕ → History → Import
whole_import n h = record { taken = n; stop = None; history = h }

-- an import that the book stops at the line after so many
abbrev pub book_import : ℕ → ℕ → History → Import
book_import n number h = record { taken = n; stop = Some (record { line = n; reason = numbered number; layer = layers.Book }); history = h }

-- a sheet that is refused for a fault at the line: nothing is traded
abbrev pub sheet_import : ℕ → Import
sheet_import line = record { taken = 0; stop = Some (record { line = line; reason = numbered 26; layer = layers.Sheet }); history = in_session }

-- account 0 buys in rate from account 1 in February, 23 reserve days on
abbrev pub after_february : History
after_february = Traded (trade_at (order 0 1 0 10000 10) 9913388) ∷ in_session

-- then account 2 from account 1 in March, 43 on
abbrev pub after_march : History
after_march = Traded (trade_at (order 2 1 1 10000 7) 9838683) ∷ after_february

-- what bytes come to that are imported in the session of 9,860
abbrev pub import_in_session : List ℕ → Import
import_in_session bytes = import_of weekdays in_session (of_day 9860) bytes

-- sheets without a fault: the book takes their lines in order until it refuses one
abbrev pub line_edges : List (Import × Import)
line_edges =
    (import_in_session two_lines, whole_import 2 after_march)
    -- April in the second line
    ∷ (import_in_session (bytes_of 2 (0 ∷ 1 ∷ 2 ∷ 1 ∷ []) (february ++ terms_with (codes "DI1J27") 7)), book_import 1 2 after_february)
    -- account 1 is both sides of line 1: line 0 stands, and line 2 is not traded
    ∷ (import_in_session (bytes_of 3 (0 ∷ 1 ∷ 1 ∷ 1 ∷ 2 ∷ 1 ∷ []) (february ++ february ++ march)), book_import 1 4 after_february)
    ∷ []

-- sheets of which no line is traded
abbrev pub import_edges : List (Import × Import)
import_edges =
    (import_in_session (0 ∷ 0 ∷ 132 ∷ 38 ∷ []), whole_import 0 in_session)
    -- faults of length, count and day tell line 0, one of a code its line
    ∷ (import_in_session (two_lines ++ 0 ∷ []), sheet_import 0)
    ∷ (import_in_session (lines_of_april 257 1 1), sheet_import 0)
    ∷ (import_in_session (0 ∷ 0 ∷ 133 ∷ 38 ∷ []), sheet_import 0)
    ∷ (import_in_session (bytes_of 2 (0 ∷ 1 ∷ 2 ∷ 1 ∷ []) (february ++ terms_with (codes "DI1I27") 7)), sheet_import 1)
    -- a fault comes before the refusal of any line: here account 1 is both sides of line 0
    ∷ (import_in_session (bytes_of 2 (1 ∷ 1 ∷ 2 ∷ 1 ∷ []) (february ++ terms_with (codes "DI1I27") 7)), sheet_import 1)
    -- April in the first line
    ∷ (import_in_session (lines_of_april 256 0 1), book_import 0 2 in_session)
    -- by a ticket of another book, and of another day
    ∷ (import_of weekdays in_session (record { number = 2; day = 9860 }) two_lines, book_import 0 1 in_session)
    ∷ (import_of weekdays in_session (of_day 9861) two_lines, sheet_import 0)
    ∷ []

-- ---- writing

-- account 0 buys 1 contract in rate from account 1 at 10,000 in the month
abbrev pub line_in : ℕ → TradeLine
line_in month = record { buyer = 0; seller = 1; month = month; rate = 10000; quantity = 1 }

-- why these lines are not written into an array of so many bytes, if they are not
abbrev pub write_refusal : ℕ → List TradeLine → Option Reason
write_refusal room lines = option_map write_reason (write_fault room lines)

-- room, months and count
abbrev pub write_edges : List (Option Reason × Option Reason)
write_edges =
    (write_refusal 4 [], None)
    ∷ (write_refusal 3 [], refusal 16)
    ∷ (write_refusal 36 (line_in 325 ∷ line_in 326 ∷ []), None)
    ∷ (write_refusal 35 (line_in 325 ∷ line_in 326 ∷ []), refusal 16)
    ∷ (write_refusal 20 (line_in 1199 ∷ []), None)
    ∷ (write_refusal 20 (line_in 1200 ∷ []), refusal 26)
    ∷ (write_refusal 19 (line_in 1200 ∷ []), refusal 16)
    ∷ (write_refusal 4100 (replicate 256 (line_in 325)), None)
    ∷ (write_refusal 4116 (replicate 257 (line_in 325)), refusal 26)
    ∷ (write_refusal 4115 (replicate 257 (line_in 325)), refusal 16)
    ∷ []

-- sheets at their edges
pub record SheetEdges : Type 0 where
  pub read : Same read_edges
  pub lines : Same line_edges
  pub imports : Same import_edges
  pub write : Same write_edges
  -- the bytes of two lines
  pub bytes : sheet_bytes 9860 (record { buyer = 0; seller = 1; month = 325; rate = 10000; quantity = 10 }
      ∷ record { buyer = 2; seller = 1; month = 326; rate = 10000; quantity = 7 } ∷ []) ≡ two_lines
  -- a line of a month that is not listed has an index past the last
  pub unlisted : (line_trade weekdays in_session (line_in 327)).month ≡ 2
