-- Which numbers the rows of each call have, in order: a call meets these rows and no others.
use Rattle.std.specs.Prelude.{◌≡◌, ℕ, List, [], ◌∷◌, map}
use Rattle.rates.specs.declared.entry.DayRate.{DayRate}
use Rattle.rows.specs.Rows.{Row, reasons_of}
use Rattle.sheet.specs.Faults.{fault_reason, write_reason}
use Rattle.sheet.specs.declared.fault.SheetFault.{SheetFault}
use Rattle.sheet.specs.declared.trade_line.TradeLine.{TradeLine}
use Rattle.sheet.specs.Sheet.{write_rows}
use Rattle.model.specs.declared.calls.Account.{Account}
use Rattle.model.specs.declared.calls.Order.{Order}
use Rattle.model.specs.History.{History}
use Rattle.model.specs.References.{SessionReference}
use Rattle.model.specs.Rows.{enter_rows, list_rows, publish_rows, arbitrate_rows, open_rows, trade_rows, mark_rows, close_rows, pay_rows, position_rows, balance_rows}
use Rattle.model.specs.World.{World}

-- the numbers of rows, in order
abbrev pub row_numbers : List Row → List ℕ
row_numbers rows = map (λ row. row.1.number) rows

-- the numbers of each call's rows
pub record RowsNumbered : Type 0 where
  pub enter : (h : History) (x : Account) → row_numbers (enter_rows h x) ≡ 18 ∷ 19 ∷ []
  pub list : (w : World) (h : History) (n : ℕ) → row_numbers (list_rows w h n) ≡ 18 ∷ 19 ∷ 20 ∷ []
  pub publish : (w : World) (h : History) (entry : DayRate) (period : ℕ) → row_numbers (publish_rows w h entry period) ≡ 21 ∷ 22 ∷ 23 ∷ 24 ∷ []
  pub arbitrate : (w : World) (h : History) (entry : DayRate) → row_numbers (arbitrate_rows w h entry) ≡ 21 ∷ 22 ∷ 23 ∷ 25 ∷ []
  pub opens : (w : World) (h : History) → row_numbers (open_rows w h) ≡ 11 ∷ 12 ∷ []
  pub trade : (w : World) (h : History) (ticket : SessionReference) (o : Order) → row_numbers (trade_rows w h ticket o) ≡ 1 ∷ 2 ∷ 3 ∷ 4 ∷ 5 ∷ 6 ∷ 7 ∷ 8 ∷ 9 ∷ []
  pub mark : (w : World) (h : History) (ticket : SessionReference) (m n : ℕ) → row_numbers (mark_rows w h ticket m n) ≡ 1 ∷ 2 ∷ 3 ∷ 10 ∷ []
  pub close : (w : World) (h : History) (ticket : SessionReference) (i j : ℕ) → row_numbers (close_rows w h ticket i j) ≡ 1 ∷ 13 ∷ 14 ∷ 15 ∷ 16 ∷ []
  pub pay : (w : World) (h : History) (slip : SessionReference) → row_numbers (pay_rows w h slip) ≡ 1 ∷ 17 ∷ []
  pub position : (h : History) (a m : ℕ) → row_numbers (position_rows h a m) ≡ 2 ∷ []
  pub balance : (h : History) (a : ℕ) → row_numbers (balance_rows h a) ≡ 2 ∷ []
  -- the faults of a sheet that is read, and of one that is written
  pub import_sheet : (fault : SheetFault) → (fault_reason fault).number ≡ 26
  pub write_sheet : (room : ℕ) (lines : List TradeLine) → row_numbers (reasons_of write_reason (write_rows room lines)) ≡ 16 ∷ 26 ∷ []
