-- What calls change in the tables.
use Rattle.std.specs.Prelude.{◌==◌, cond, ℕ, ◌++◌, ℤ, pos, ◌+ℤ◌, ◌-ℤ◌, zero, suc, List, [], ◌∷◌, length, map, Some, None}
use Rattle.std.specs.Option.{unwrap_or}
use Rattle.std.specs.Int.{int_wrap, w64}
use Rattle.book.specs.declared.ledger.AccountRow.{AccountRow}
use Rattle.book.specs.declared.ledger.MonthRow.{MonthRow}
use Rattle.amounts.specs.Tables.{place_of}
use Rattle.calendar.specs.declared.kind.DayKind.{DayKind}
use Rattle.calendar.specs.Spans.{reserve_days}
use Rattle.model.specs.declared.calls.Order.{Order}
use Rattle.model.specs.Observed.{trade_at}
use Rattle.book.specs.Tables.{Tables}

-- the list with the element at an index changed
abbrev pub changed_at : {X : Type 0} → (X → X) → List X → ℕ → List X
changed_at change [] i = []
changed_at change (x ∷ xs) zero = change x ∷ xs
changed_at change (x ∷ xs) (suc i) = x ∷ changed_at change xs i

-- a month with a price
abbrev pub with_mark : ℕ → MonthRow → MonthRow
with_mark price row = record row { mark = Some price }

-- a month when a session is opened: without a mark, and with the reserve days from the session to its expiry
abbrev pub at_opening : (ℕ → DayKind) → ℕ → MonthRow → MonthRow
at_opening kinds day row = record row { days = length (reserve_days kinds day row.expiry); mark = None }

-- a session is open, without trades and marks
abbrev pub after_open : (ℕ → DayKind) → ℕ → Tables → Tables
after_open kinds day t = record t {
  months = map (at_opening kinds day) t.months;
  session = record { latest = Some day; opens = Some day; closed = t.session.closed; unpaid = t.session.unpaid; trades = [] };
}

-- the buyer's position falls, the seller's rises
abbrev pub moved : Order → List ℤ → List ℤ
moved o cells =
    changed_at (λ z. z +ℤ pos o.quantity) (changed_at (λ z. z -ℤ pos o.quantity) cells (place_of o.buyer o.month)) (place_of o.seller o.month)

-- a trade more
abbrev pub after_trade : Order → ℕ → Tables → Tables
after_trade o price t = record t { positions = moved o t.positions; session = record t.session { trades = t.session.trades ++ trade_at o price ∷ [] } }

-- what is due is paid
abbrev pub paid_out : AccountRow → AccountRow
paid_out row = record row { paid = int_wrap w64 (row.paid +ℤ row.due); due = pos 0 }

-- all that is due is paid
abbrev pub after_pay : Tables → Tables
after_pay t = record t { accounts = map paid_out t.accounts; session = record t.session { unpaid = None } }

-- a month with the settlement price of a session of that day
abbrev pub priced : ℕ → MonthRow → MonthRow
priced day row = record row { latest = cond (day == row.expiry) 10000000 (unwrap_or row.mark 0) }

-- a session is closed, with what is then due and held
abbrev pub after_close : ℕ → List AccountRow → List ℤ → Tables → Tables
after_close day accounts cells t = record t {
  accounts = accounts;
  months = map (priced day) t.months;
  positions = cells;
  session = record { latest = t.session.latest; opens = None; closed = Some day; unpaid = Some day; trades = t.session.trades };
}
