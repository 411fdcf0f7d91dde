-- Lawful histories: each event was one that the rules accept at that point, with the answer that the rules give.
-- Tickets, slips and arrays were some that the rules let pass; where the arrays' cells stand is for the contract of a close.
use Rattle.std.specs.Prelude.{◌≡◌, ℕ, List, [], ◌∷◌, Some, None}
use Rattle.rows.specs.Rows.{Row, first_row}
use Rattle.model.specs.Closes.{amounts_at_close}
use Rattle.model.specs.History.{History, Event, Amounts, Entered, Listed, Published, Arbitrated, Opened, Traded, Marked, Closed, Paid}
use Rattle.model.specs.Observed.{session_day, next_session, price_on, order_of}
use Rattle.model.specs.References.{SessionReference}
use Rattle.model.specs.Rows.{enter_rows, list_rows, publish_rows, arbitrate_rows, open_rows, trade_rows, mark_rows, close_rows, pay_rows}
use Rattle.model.specs.World.{World}

-- no row refuses
abbrev pub Allowed : List Row → Type 0
Allowed rows = first_row rows ≡ None

-- a close by some ticket, into arrays of some lengths, with the amounts of the rules
pub record Closes (w : World) (h : History) (c : Amounts) : Type 0 where
  pub ticket : SessionReference
  pub room : ℕ
  pub day_room : ℕ
  pub allowed : Allowed (close_rows w h ticket room day_room)
  pub amounts : c ≡ amounts_at_close w h

-- the rules accept the event after this history
abbrev pub Accepts : World → History → Event → Type 0
Accepts w h (Entered x) = Allowed (enter_rows h x)
Accepts w h (Listed n) = Allowed (list_rows w h n)
Accepts w h (Published entry) = Allowed (publish_rows w h entry 1)
Accepts w h (Arbitrated entry) = Allowed (arbitrate_rows w h entry)
Accepts w h (Opened d) = Allowed (open_rows w h) × (next_session w h ≡ Some d)
Accepts w h (Traded t) = ((ticket : SessionReference) × Allowed (trade_rows w h ticket (order_of t))) × (t.price ≡ price_on w h (session_day h) (order_of t))
Accepts w h (Marked m p) = (ticket : SessionReference) × Allowed (mark_rows w h ticket m p)
Accepts w h (Closed c) = Closes w h c
Accepts w h Paid = (slip : SessionReference) × Allowed (pay_rows w h slip)

-- each event was accepted after those before it
abbrev pub Lawful : World → History → Type 0
Lawful w [] = Unit {0}
Lawful w (e ∷ h) = Accepts w h e × Lawful w h
