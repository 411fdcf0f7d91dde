-- What an import of a sheet comes to.
use Rattle.std.specs.Prelude.{◌≡◌, ℕ, ◌+◌, ◌≤◌, true, false, List, [], ◌∷◌, length, take, drop, Some, None, Option, nat_eq, slice_index}
use Rattle.std.specs.List.{list_any}
use Rattle.std.specs.Option.{option_map}
use Rattle.rows.specs.Rows.{Reason, Row, numbered, first_row}
use Rattle.sheet.specs.Codes.{place_in}
use Rattle.sheet.specs.Faults.{fault_line, fault_reason}
use Rattle.sheet.specs.Sheet.{trades_of, read_fault}
use Rattle.sheet.specs.declared.fault.SheetFault.{SheetFault}
use Rattle.sheet.specs.declared.trade_line.TradeLine.{TradeLine}
use Rattle.amounts.specs.declared.trades.Trade.{Trade}
use Rattle.model.specs.declared.calls.Layer.{Layer}
use Rattle.model.specs.declared.calls.Layer.TheVariants as layers
use Rattle.model.specs.declared.calls.Order.{Order}
use Rattle.model.specs.History.{History, Traded}
use Rattle.model.specs.Lawful.{Allowed, Lawful}
use Rattle.model.specs.Observed.{months_of, is_listed, session_day, open_session, price_on, trade_at}
use Rattle.model.specs.References.{SessionReference, is_of}
use Rattle.model.specs.Rows.{trade_rows}
use Rattle.model.specs.World.{World}

-- ---- the lines of a sheet

-- a line as an order to the book: its month by the index, which is past the end where the month is not listed
abbrev pub line_order : History → TradeLine → Order
line_order h t = record { buyer = t.buyer; seller = t.seller; month = place_in (months_of h) t.month; rate = t.rate; quantity = t.quantity }

-- the refusals of a line, after the lines before it
abbrev pub line_rows : World → History → SessionReference → TradeLine → List Row
line_rows w h ticket t = trade_rows w h ticket (line_order h t)

-- the trade of a line
abbrev pub line_trade : World → History → TradeLine → Trade
line_trade w h t = trade_at (line_order h t) (price_on w h (session_day h) (line_order h t))

-- ---- what an import comes to

-- where an import stopped: the line, counted from 0, what is told, and who refused
pub record Stop : Type 0 where
  pub line : ℕ
  pub reason : Reason
  pub layer : Layer

-- how many lines were taken, where the import stopped, if it did before the end, and what has happened then
pub record Import : Type 0 where
  pub taken : ℕ
  pub stop : Option Stop
  pub history : History

-- the book refuses a line
abbrev pub book_stop : ℕ → Reason → Stop
book_stop line reason = record { line = line; reason = reason; layer = layers.Book }

-- the book refuses the line after n others; or, where it does not, what the lines from there on come to
abbrev pub stopped_or : ℕ → History → Option Reason → Import → Import
stopped_or n h (Some reason) next = record { taken = n; stop = Some (book_stop n reason); history = h }
stopped_or n h None next = next

-- lines are traded in order after n others, until one is refused
abbrev pub import_lines : World → History → SessionReference → ℕ → List TradeLine → Import
import_lines w h ticket n [] = record { taken = n; stop = None; history = h }
import_lines w h ticket n (t ∷ ts) =
    stopped_or n h (first_row (line_rows w h ticket t)) (import_lines w (Traded (line_trade w h t) ∷ h) ticket (n + 1) ts)

-- a sheet with a fault: nothing is traded
abbrev pub import_fault : History → SheetFault → Import
import_fault h fault = record { taken = 0; stop = Some (record { line = fault_line fault; reason = fault_reason fault; layer = layers.Sheet }); history = h }

-- bytes with a fault, or else the lines of their sheet
abbrev pub import_sheet : World → History → SessionReference → List ℕ → Option SheetFault → Import
import_sheet w h ticket bytes (Some fault) = import_fault h fault
import_sheet w h ticket bytes None = import_lines w h ticket 0 (trades_of bytes)

-- what an import of bytes comes to, read for the ticket's day
abbrev pub import_of : World → History → SessionReference → List ℕ → Import
import_of w h ticket bytes = import_sheet w h ticket bytes (read_fault bytes (Some ticket.day))

-- ---- laws

-- the history after lines were traded
abbrev pub after_lines : World → History → List TradeLine → History
after_lines w h [] = h
after_lines w h (t ∷ ts) = after_lines w (Traded (line_trade w h t) ∷ h) ts

-- each of the lines is accepted after those before it
abbrev pub AllAccepted : World → History → SessionReference → List TradeLine → Type 0
AllAccepted w h ticket [] = Unit {0}
AllAccepted w h ticket (t ∷ ts) = Allowed (line_rows w h ticket t) × AllAccepted w (Traded (line_trade w h t) ∷ h) ticket ts

-- where the book stops: at the first of these lines, after n others, if it is refused; nowhere if it is accepted or there is none
abbrev pub stop_at : World → History → SessionReference → ℕ → List TradeLine → Option Stop
stop_at w h ticket n [] = None
stop_at w h ticket n (t ∷ ts) = option_map (book_stop n) (first_row (line_rows w h ticket t))

-- the lines before the stop are accepted and make the history, the next is the first that is refused; without a stop all are taken
pub record InOrder (w : World) (h : History) (ticket : SessionReference) (lines : List TradeLine) (i : Import) : Type 0 where
  pub within : i.taken ≤ length lines
  pub accepted : AllAccepted w h ticket (take i.taken lines)
  pub history : i.history ≡ after_lines w h (take i.taken lines)
  pub stop : i.stop ≡ stop_at w i.history ticket i.taken (drop i.taken lines)
  pub whole : i.stop ≡ None → i.taken ≡ length lines

-- laws of imports
pub record ImportsHold : Type 0 where
  -- the lines of a sheet are taken in order
  pub lines : (w : World) (h : History) (ticket : SessionReference) (lines : List TradeLine) → InOrder w h ticket lines (import_lines w h ticket 0 lines)
  -- they come to one thing only
  pub one_order : (w : World) (h : History) (ticket : SessionReference) (lines : List TradeLine) (i j : Import) → InOrder w h ticket lines i → InOrder w h ticket lines j → i ≡ j
  -- the trades that stand leave the history lawful
  pub lawful : (w : World) (h : History) (ticket : SessionReference) (bytes : List ℕ) → Lawful w h → Lawful w (import_of w h ticket bytes).history
  -- a line's month has an index in the book exactly if it is listed
  pub listed : (h : History) (n : ℕ) → is_listed h (place_in (months_of h) n) ≡ list_any (nat_eq n) (months_of h)
  -- which is the month's
  pub place : (h : History) (n : ℕ) → is_listed h (place_in (months_of h) n) ≡ true → slice_index (months_of h) (place_in (months_of h) n) ≡ n
  -- if it is not listed, with the open session's ticket, the line is refused for its index
  pub unlisted : (w : World) (h : History) (ticket : SessionReference) (t : TradeLine) → is_of w.number ticket (open_session h) ≡ true → list_any (nat_eq t.month) (months_of h) ≡ false
      → first_row (line_rows w h ticket t) ≡ Some (numbered 2)
