-- What the calls answer where no row refuses. Those that are not here answer nothing but that they are done; position and balance answer
-- position_of and balance_of, a trade price_now of its order.
use Rattle.std.specs.Prelude.{ℕ, length, Option}
use Rattle.std.specs.Option.{option_map}
use Rattle.model.specs.declared.calls.Order.{Order}
use Rattle.model.specs.History.{History}
use Rattle.model.specs.Observed.{accounts_of, months_of, session_day, next_session, price_on}
use Rattle.model.specs.References.{SessionReference}
use Rattle.model.specs.World.{World}

-- the index of an account that is entered
abbrev pub next_account : History → ℕ
next_account h = length (accounts_of h)

-- the index of a month that is listed
abbrev pub next_month : History → ℕ
next_month h = length (months_of h)

-- a reference to the session of a day
abbrev pub reference_to : World → ℕ → SessionReference
reference_to w day = record { number = w.number; day = day }

-- the ticket of the session that is opened next, if there is one
abbrev pub next_ticket : World → History → Option SessionReference
next_ticket w h = option_map (reference_to w) (next_session w h)

-- the price of an order in the session
abbrev pub price_now : World → History → Order → ℕ
price_now w h order = price_on w h (session_day h) order

-- the slip of the session that is closed
abbrev pub next_slip : World → History → SessionReference
next_slip w h = reference_to w (session_day h)

-- the two numbers of a slip that is written off
abbrev pub numbers_of : SessionReference → ℕ × ℕ
numbers_of slip = (slip.number, slip.day)
