-- What a view of a sheet says, and what reading answers. Assumes nothing.
use Rattle.std.specs.Prelude.{◌≡◌, ℕ, List, length, None, Option, Result, IsTrue, MatchResult, ◌≢◌}
use Rattle.sheet.specs.declared.fault.SheetFault.{SheetFault}
use Rattle.sheet.specs.declared.trade_line.TradeLine.{TradeLine}
use Rattle.sheet.specs.declared.view.SheetView.{SheetView}
use Rattle.sheet.specs.Sheet.{sheet_bytes, Valid, count_of, day_of, lines_of, is_on, read_fault}

-- the bytes under a view, and the session day, the count and the trades that it gives
abbrev pub view_bytes : SheetView → List ℕ
view_bytes v = v.frame.bytes.now

abbrev pub view_day : SheetView → ℕ
view_day v = v.frame.day

abbrev pub view_count : SheetView → ℕ
view_count v = v.frame.count

abbrev pub view_trades : SheetView → List TradeLine
view_trades v = lines_of (view_count v) (view_bytes v)

-- the view is of a sheet, under the head that the bytes say
abbrev pub Sound : SheetView → Type 0
Sound v = (read_fault (view_bytes v) None ≡ None) × (view_count v ≡ count_of (view_bytes v)) × (view_day v ≡ day_of (view_bytes v))

-- bytes are accepted: they are those of a sheet, on the ticket's day if there is a ticket, and the view is of that sheet
pub record Accepted (bytes : List ℕ) (ticket : Option ℕ) (v : SheetView) : Type 0 where
  pub sound : Sound v
  pub over : view_bytes v ≡ bytes
  pub valid : Valid (view_day v) (view_trades v)
  pub counted : length (view_trades v) ≡ view_count v
  pub written : bytes ≡ sheet_bytes (view_day v) (view_trades v)
  pub dated : IsTrue (is_on ticket (view_day v))

-- bytes are those of no sheet, on the ticket's day if there is a ticket
abbrev pub NoSheet : List ℕ → Option ℕ → Type 0
NoSheet bytes ticket = (day : ℕ) (trades : List TradeLine) → Valid day trades → IsTrue (is_on ticket day) → bytes ≢ sheet_bytes day trades

-- what reading answers: a view of the sheet, or the bytes are those of no sheet
abbrev pub Outcome : List ℕ → Option ℕ → Result SheetView SheetFault → Type 0
Outcome bytes ticket r = MatchResult r (Accepted bytes ticket) (λ _. NoSheet bytes ticket)

-- the bytes of a sheet are read as its day and its trades
abbrev pub ReadsBack : List ℕ → Option ℕ → Result SheetView SheetFault → Type 0
ReadsBack bytes ticket r =
    (day : ℕ) (trades : List TradeLine) → Valid day trades → IsTrue (is_on ticket day) → bytes ≡ sheet_bytes day trades
    → MatchResult r (λ v. (view_day v ≡ day) × (view_trades v ≡ trades)) (λ _. ⊥)
