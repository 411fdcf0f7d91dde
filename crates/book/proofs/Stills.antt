-- What an event leaves as it was in the tables.
use Rattle.std.proofs.Common.{◌≡◌, ℕ, false, List, ◌∷◌, ℤ, None, Option, sym, refl, ◌∙◌}
use Rattle.model.specs.History.{History, Event, account_entered, month_listed, session_opened, trade_made, price_marked, amounts_written, is_payment, gather}
use Rattle.model.specs.Lawful.{Lawful}
use Rattle.model.specs.World.{World}
use Rattle.model.proofs.Dues.{dues-move}
use Rattle.model.proofs.Moving.{positions-move}
use Rattle.book.specs.declared.ledger.AccountRow.{AccountRow}
use Rattle.book.specs.declared.ledger.MonthRow.{MonthRow}
use Rattle.book.specs.Tables.{SessionTable, KeepsAccounts, KeepsMonth, KeepsMonths, KeepsPositions, KeepsSession}

-- an event that tells nothing adds nothing
pub gather_still : {X : Type 0} (tells : Event → Option X) (e : Event) (h : History) → tells e ≡ None → gather tells (e ∷ h) ≡ gather tells h
gather_still tells e h none = rw none refl

pub accounts-still : (e : Event) (h : History) (rows : List AccountRow) → account_entered e ≡ None → amounts_written e ≡ None → is_payment e ≡ false
    → KeepsAccounts h rows → KeepsAccounts (e ∷ h) rows
accounts-still e h rows enters writes pays k = record {
  accounts = k.accounts ∙ sym (gather_still account_entered e h enters);
  amounts = λ a row at. let still = dues-move.still e h a writes pays in let now = k.amounts a row at in (now.0 ∙ sym still.1, now.1 ∙ sym still.0);
}

-- the months, but for marks
pub month-still : (w : World) (e : Event) (h : History) (m : ℕ) (row : MonthRow) → session_opened e ≡ None → amounts_written e ≡ None → price_marked m e ≡ None
    → KeepsMonth w h m row → KeepsMonth w (e ∷ h) m row
month-still w e h m row opens writes marks k = record {
  expiry = k.expiry;
  days = λ d is_open. k.days d (rw (opens, writes) at is_open);
  mark = rw (opens, marks) k.mark;
  latest = rw writes k.latest;
}

pub months-still : (w : World) (e : Event) (h : History) (rows : List MonthRow) → month_listed e ≡ None → session_opened e ≡ None → amounts_written e ≡ None
    → ((m : ℕ) → price_marked m e ≡ None) → KeepsMonths w h rows → KeepsMonths w (e ∷ h) rows
months-still w e h rows lists opens writes marks k = record {
  numbers = k.numbers ∙ sym (gather_still month_listed e h lists);
  each = λ m row at. month-still w e h m row opens writes (marks m) (k.each m row at);
}

pub positions-still : (w : World) (e : Event) (h : History) (cells : List ℤ) → Lawful w (e ∷ h) → trade_made e ≡ None → amounts_written e ≡ None
    → KeepsPositions w h cells → KeepsPositions w (e ∷ h) cells
positions-still w e h cells l trades writes k =
    record { whole = k.whole; each = λ a m few listed. k.each a m few listed ∙ sym (positions-move.still w e h a m l trades writes) }

pub session-still : (w : World) (e : Event) (h : History) (t : SessionTable) → session_opened e ≡ None → amounts_written e ≡ None → trade_made e ≡ None → is_payment e ≡ false
    → KeepsSession w h t → KeepsSession w (e ∷ h) t
session-still w e h t opens writes trades pays k = record {
  latest = rw opens k.latest;
  opens = rw (opens, writes) k.opens;
  closed = rw writes k.closed;
  unpaid = rw (pays, writes) k.unpaid;
  trades = rw (opens, trades) k.trades;
}
