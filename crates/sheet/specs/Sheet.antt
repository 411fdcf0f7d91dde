-- The trade sheet and its bytes, and why bytes are no sheet. Assumes nothing.
use Rattle.std.specs.Prelude.{ℕ, ◌+◌, ◌*◌, ◌^◌, ◌<◌, Bool, true, not, ◌&&◌, List, [], ◌∷◌, ◌++◌, map, length, take, Some, None, Option, IsTrue, ◌==◌, nat_le, nat_lt, slice_index}
use Rattle.std.specs.Simd.Lanes.{number_l, digits_l, chunk}
use Rattle.std.specs.List.{range_with_len, flat_map, list_all, AllByRecursion}
use Rattle.dates.specs.declared.TheConstants.{LAST_MONTH}
use Rattle.rows.specs.Rows.{first_row}
use Rattle.amounts.specs.declared.trades.TheConstants.{MAX_TRADES}
use Rattle.sheet.specs.declared.trade_line.TradeLine.{TradeLine}
use Rattle.sheet.specs.declared.fault.SheetFault.{SheetFault}
use Rattle.sheet.specs.declared.fault.SheetFault.TheVariants.{Length, Count, Day, Code}
use Rattle.sheet.specs.declared.fault.WriteFault.{WriteFault}
use Rattle.sheet.specs.declared.fault.WriteFault.TheVariants.{Short, BadSheet}
use Rattle.sheet.specs.Codes.{code_bytes, month_of, is_code}

-- the k bytes of a number, the lowest first
abbrev pub little : ℕ → ℕ → List ℕ
little k n = digits_l 256 k n

-- the number that bytes make, the lowest first
abbrev pub number : List ℕ → ℕ
number bytes = number_l 256 bytes

-- the two sides of a trade, in rate
abbrev pub sides : TradeLine → List ℕ
sides t = t.buyer ∷ t.seller ∷ []

-- the terms of a trade: the code of its month, its rate and its quantity
abbrev pub terms : TradeLine → List ℕ
terms t = code_bytes t.month ++ (little 4 t.rate ++ little 4 t.quantity)

-- the bytes of a sheet: the count, the day, the sides of each trade, then the terms of each
unfoldable pub sheet_bytes : ℕ → List TradeLine → List ℕ
sheet_bytes day trades = little 2 (length trades) ++ (little 2 day ++ (flat_map sides trades ++ flat_map terms trades))

-- the trades make a sheet: few enough, and each in a month that has a code
abbrev pub are_listable : List TradeLine → Bool
are_listable trades = nat_le (length trades) MAX_TRADES && list_all (λ t. nat_le t.month LAST_MONTH) trades

-- each field of a trade fits its bytes
abbrev pub FitsLine : TradeLine → Type 0
FitsLine t = (t.buyer < 256) × (t.seller < 256) × (t.rate < 2 ^ 32) × (t.quantity < 2 ^ 32)

-- a sheet: its day fits two bytes, its trades make a sheet, and each fits its line
abbrev pub Valid : ℕ → List TradeLine → Type 0
Valid day trades = (day < 2 ^ 16) × IsTrue (are_listable trades) × AllByRecursion FitsLine trades

-- what the bytes of a sheet say
abbrev pub count_of : List ℕ → ℕ
count_of bytes = number (chunk 0 2 bytes)

abbrev pub day_of : List ℕ → ℕ
day_of bytes = number (chunk 2 2 bytes)

-- the two bytes of sides and the fourteen of terms of a line, in a sheet of so many trades
abbrev pub sides_at : List ℕ → ℕ → List ℕ
sides_at bytes line = chunk (4 + 2 * line) 2 bytes

abbrev pub terms_at : ℕ → List ℕ → ℕ → List ℕ
terms_at count bytes line = chunk (4 + 2 * count + 14 * line) 14 bytes

-- the code of a line
abbrev pub code_of : List ℕ → ℕ → List ℕ
code_of bytes line = take 6 (terms_at (count_of bytes) bytes line)

-- the trade that its sides and its terms say
abbrev pub trade_from : List ℕ → List ℕ → TradeLine
trade_from s t = record {
  buyer = slice_index s 0;
  seller = slice_index s 1;
  month = month_of (take 6 t);
  rate = number (chunk 6 4 t);
  quantity = number (chunk 10 4 t);
}

-- the trades of so many lines
unfoldable pub lines_of : ℕ → List ℕ → List TradeLine
lines_of count bytes = map (λ line. trade_from (sides_at bytes line) (terms_at count bytes line)) (range_with_len 0 count)

-- the trades of a sheet
abbrev pub trades_of : List ℕ → List TradeLine
trades_of bytes = lines_of (count_of bytes) bytes

-- the day is the ticket's, if there is a ticket
abbrev pub is_on : Option ℕ → ℕ → Bool
is_on None day = true
is_on (Some ticket) day = day == ticket

-- lines without a code, from one on, so many of them
abbrev pub code_rows : List ℕ → ℕ → ℕ → List (Bool × SheetFault)
code_rows bytes from n = map (λ line. (not (is_code (code_of bytes line)), Code line)) (range_with_len from n)

-- why bytes are not read as a sheet of the ticket's day, if there is a ticket, in order
abbrev pub read_rows : List ℕ → Option ℕ → List (Bool × SheetFault)
read_rows bytes ticket =
    (nat_lt (length bytes) 4, Length)
    ∷ (nat_lt MAX_TRADES (count_of bytes), Count)
    ∷ (not (length bytes == 4 + 16 * count_of bytes), Length)
    ∷ (not (is_on ticket (day_of bytes)), Day)
    ∷ code_rows bytes 0 (count_of bytes)

-- the one fault of bytes; none in a sheet of the ticket's day
abbrev pub read_fault : List ℕ → Option ℕ → Option SheetFault
read_fault bytes ticket = first_row (read_rows bytes ticket)

-- why trades are not written as a sheet into an array of so many bytes, in order
abbrev pub write_rows : ℕ → List TradeLine → List (Bool × WriteFault)
write_rows room trades = (nat_lt room (4 + 16 * length trades), Short) ∷ (not (are_listable trades), BadSheet) ∷ []

-- the one fault of trades and an array; none where the sheet is written
abbrev pub write_fault : ℕ → List TradeLine → Option WriteFault
write_fault room trades = first_row (write_rows room trades)
