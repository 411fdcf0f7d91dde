-- A list of calls to a book, one after another: the replies of the rules, and what each call leaves.
use Rattle.std.specs.Prelude.{◌≡◌, ℕ, Bool, true, false, List, [], ◌∷◌, length, ℤ, Some, None, Option}
use Rattle.std.specs.Option.{unwrap_or, option_map}
use Rattle.amounts.specs.Rows.{rows_of}
use Rattle.rows.specs.Rows.{Row, first_row}
use Rattle.refusal.specs.declared.Refusal.{Refusal}
use Rattle.refusal.specs.Refusals.{reason_of}
use Rattle.model.specs.Answers.{next_account, next_month, next_ticket, next_slip}
use Rattle.model.specs.Balance.{Balanced}
use Rattle.model.specs.Closes.{amounts_at_close, cells_of}
use Rattle.model.specs.History.{History, Entered, Listed, Published, Arbitrated, Opened, Traded, Marked, Closed, Paid}
use Rattle.model.specs.Imports.{Import, import_of, line_rows, line_trade}
use Rattle.model.specs.Lawful.{Allowed, Lawful}
use Rattle.model.specs.Observed.{accounts_of, months_of}
use Rattle.model.specs.Positions.{position_of, balance_of}
use Rattle.model.specs.References.{SessionReference}
use Rattle.model.specs.Rows.{enter_rows, list_rows, publish_rows, arbitrate_rows, open_rows, mark_rows, close_rows, pay_rows, position_rows, balance_rows}
use Rattle.model.specs.Value.{Valued}
use Rattle.model.specs.World.{World}
use Rattle.book.specs.declared.import.ImportOutcome.{ImportOutcome}
use Rattle.book.specs.Imported.{stop_of}
use Rattle.book.specs.Imported as imported
use Rattle.desk.specs.declared.calls.TheConstants.{NO_MONTH}
use Rattle.desk.specs.declared.calls.Call.{Call}
use Rattle.desk.specs.declared.calls.Call.TheVariants as calls
use Rattle.desk.specs.declared.calls.Closing.{Closing}
use Rattle.desk.specs.declared.calls.Reply.{Reply}
use Rattle.desk.specs.declared.calls.Reply.TheVariants as replies
use Rattle.desk.specs.Standing.{Standing}

-- which calls the topmost source has beside those of every book
pub record Takes : Type 0 where
  pub publishes : Bool
  pub arbitrates : Bool

abbrev pub takes : Bool → Bool → Takes
takes publishes arbitrates = record { publishes = publishes; arbitrates = arbitrates }

-- a row refuses the call, and the refusal is of its reason
abbrev pub RefusedBy : List Row → Refusal → Type 0
RefusedBy rows refusal = first_row rows ≡ Some (reason_of refusal)

-- a call with the ticket or the slip that is held
abbrev pub Holding : Option SessionReference → (SessionReference → Type 0) → Type 0
Holding held P = (reference : SessionReference) × (held ≡ Some reference) × P reference

-- the index of a month, one that no book has where it is not listed
abbrev pub index_of : History → ℕ → ℕ
index_of h month = unwrap_or (imported.index_of h month) NO_MONTH

-- the answer says what an import comes to
pub record IsImport (i : Import) (outcome : ImportOutcome) : Type 0 where
  pub taken : outcome.taken ≡ i.taken
  pub stop : option_map stop_of outcome.stop ≡ i.stop

-- the amounts that a close writes, row after row
abbrev pub rows_written : History → (ℕ → ℕ → ℤ) → List ℤ
rows_written h amount = rows_of (length (accounts_of h)) (length (months_of h)) amount

pub record IsClosing (w : World) (h : History) (closing : Closing) : Type 0 where
  pub adjustments : closing.adjustments.items ≡ rows_written h (amounts_at_close w h).adjustments
  pub day_trades : closing.day_trades.items ≡ rows_written h (amounts_at_close w h).day_trades

-- the rows of a close into arrays with just enough room
abbrev pub closing_rows : World → History → SessionReference → List Row
closing_rows w h ticket = close_rows w h ticket (cells_of h) (cells_of h)

-- the reply is that of the rules
abbrev pub Replies : Takes → World → Call → Reply → Standing → Type 0
Replies has w (calls.Enter x) (replies.Entered i) s = Allowed (enter_rows s.history x) × (i ≡ next_account s.history)
Replies has w (calls.Enter x) (replies.Refused e) s = RefusedBy (enter_rows s.history x) e
Replies has w (calls.List n) (replies.Listed i) s = Allowed (list_rows w s.history n) × (i ≡ next_month s.history)
Replies has w (calls.List n) (replies.Refused e) s = RefusedBy (list_rows w s.history n) e
Replies has w (calls.Publish entry period) replies.Published s = (has.publishes ≡ true) × Allowed (publish_rows w s.history entry period)
Replies has w (calls.Publish entry period) (replies.Refused e) s = (has.publishes ≡ true) × RefusedBy (publish_rows w s.history entry period) e
Replies has w (calls.Publish entry period) replies.NoSuchCall s = has.publishes ≡ false
Replies has w (calls.Arbitrate entry) replies.Arbitrated s = (has.arbitrates ≡ true) × Allowed (arbitrate_rows w s.history entry)
Replies has w (calls.Arbitrate entry) (replies.Refused e) s = (has.arbitrates ≡ true) × RefusedBy (arbitrate_rows w s.history entry) e
Replies has w (calls.Arbitrate entry) replies.NoSuchCall s = has.arbitrates ≡ false
Replies has w calls.Open (replies.Opened d) s = Allowed (open_rows w s.history) × (next_ticket w s.history ≡ Some (record { number = w.number; day = d }))
Replies has w calls.Open (replies.Refused e) s = RefusedBy (open_rows w s.history) e
Replies has w (calls.Trade line) (replies.Traded p) s = Holding s.ticket (λ t. Allowed (line_rows w s.history t line) × (p ≡ (line_trade w s.history line).price))
Replies has w (calls.Trade line) (replies.Refused e) s = Holding s.ticket (λ t. RefusedBy (line_rows w s.history t line) e)
Replies has w (calls.Trade line) replies.NoTicket s = s.ticket ≡ None
Replies has w (calls.Import bytes) (replies.Imported i) s = Holding s.ticket (λ t. IsImport (import_of w s.history t bytes.now) i)
Replies has w (calls.Import bytes) replies.NoTicket s = s.ticket ≡ None
Replies has w (calls.Mark month p) replies.Marked s = Holding s.ticket (λ t. Allowed (mark_rows w s.history t (index_of s.history month) p))
Replies has w (calls.Mark month p) (replies.Refused e) s = Holding s.ticket (λ t. RefusedBy (mark_rows w s.history t (index_of s.history month) p) e)
Replies has w (calls.Mark month p) replies.NoTicket s = s.ticket ≡ None
Replies has w calls.Close (replies.Closed closing) s = Holding s.ticket (λ t. Allowed (closing_rows w s.history t) × IsClosing w s.history closing)
Replies has w calls.Close (replies.Refused e) s = Holding s.ticket (λ t. RefusedBy (closing_rows w s.history t) e)
Replies has w calls.Close replies.NoTicket s = s.ticket ≡ None
Replies has w calls.Pay replies.Paid s = Holding s.slip (λ slip. Allowed (pay_rows w s.history slip))
Replies has w calls.Pay (replies.Refused e) s = Holding s.slip (λ slip. RefusedBy (pay_rows w s.history slip) e)
Replies has w calls.Pay replies.NoSlip s = s.slip ≡ None
Replies has w calls.WriteOff (replies.WrittenOff number day) s = s.slip ≡ Some (record { number = number; day = day })
Replies has w calls.WriteOff replies.NoSlip s = s.slip ≡ None
Replies has w (calls.Position account month) (replies.Position x) s =
    Allowed (position_rows s.history account (index_of s.history month)) × (x ≡ position_of w s.history account (index_of s.history month))
Replies has w (calls.Position account month) (replies.Refused e) s = RefusedBy (position_rows s.history account (index_of s.history month)) e
Replies has w (calls.Balance account) (replies.Balance x) s = Allowed (balance_rows s.history account) × (x ≡ balance_of s.history account)
Replies has w (calls.Balance account) (replies.Refused e) s = RefusedBy (balance_rows s.history account) e
Replies has w call reply s = ⊥

-- the history after an import with the ticket that is held; without one nothing is imported
abbrev pub after_import : World → List ℕ → Standing → History
after_import w bytes s = unwrap_or (option_map (λ t. (import_of w s.history t bytes).history) s.ticket) s.history

-- what a call leaves after its reply; a refusal, a question and a call that does nothing leave all as it was
abbrev pub after_call : World → Call → Reply → Standing → Standing
after_call w (calls.Enter x) (replies.Entered i) s = record s { history = Entered x ∷ s.history }
after_call w (calls.List n) (replies.Listed i) s = record s { history = Listed n ∷ s.history }
after_call w (calls.Publish entry period) replies.Published s = record s { history = Published entry ∷ s.history }
after_call w (calls.Arbitrate entry) replies.Arbitrated s = record s { history = Arbitrated entry ∷ s.history }
after_call w calls.Open (replies.Opened d) s = record s { history = Opened d ∷ s.history; ticket = Some (record { number = w.number; day = d }) }
after_call w (calls.Trade line) (replies.Traded p) s = record s { history = Traded (line_trade w s.history line) ∷ s.history }
after_call w (calls.Import bytes) (replies.Imported i) s = record s { history = after_import w bytes.now s }
after_call w (calls.Mark month p) replies.Marked s = record s { history = Marked (index_of s.history month) p ∷ s.history }
after_call w calls.Close (replies.Closed closing) s = record { history = Closed (amounts_at_close w s.history) ∷ s.history; ticket = None; slip = Some (next_slip w s.history) }
after_call w calls.Pay replies.Paid s = record s { history = Paid ∷ s.history; slip = None }
after_call w calls.WriteOff (replies.WrittenOff number day) s = record s { slip = None }
after_call w call reply s = s

-- the history is lawful, and both claims hold of it
pub record Claimed (w : World) (h : History) : Type 0 where
  pub lawful : Lawful w h
  pub balanced : Balanced h
  pub valued : Valued w h

-- the replies to a list of calls are those of the rules, each after the calls before it, and both claims hold after every call
abbrev pub Runs : Takes → World → List Call → List Reply → Standing → Type 0
Runs has w [] [] s = Unit {0}
Runs has w (c ∷ cs) (r ∷ rs) s = Replies has w c r s × Claimed w (after_call w c r s).history × Runs has w cs rs (after_call w c r s)
Runs has w [] (r ∷ rs) s = ⊥
Runs has w (c ∷ cs) [] s = ⊥

-- what they leave
abbrev pub after_calls : World → List Call → List Reply → Standing → Standing
after_calls w (c ∷ cs) (r ∷ rs) s = after_calls w cs rs (after_call w c r s)
after_calls w [] rs s = s
after_calls w (c ∷ cs) [] s = s
