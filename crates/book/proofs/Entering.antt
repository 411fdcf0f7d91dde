-- An account is entered.
use Rattle.std.proofs.Common.{◌≡◌, ℕ, ◌⊎◌, List, [], ◌∷◌, ◌++◌, length, map, pos, Some, slice_get, sym, refl, ap, ◌∙◌, inl, inr, arith}
use Rattle.std.specs.List.{list_any}
use Rattle.model.specs.Accounts.{same_account}
use Rattle.rows.specs.Rows.{first_row}
use Rattle.model.specs.Rows.{enter_rows}
use Rattle.book.specs.Causes.{enter_rows_in}
use Rattle.model.specs.declared.calls.Account.{Account}
use Rattle.model.specs.History.{History, Entered}
use Rattle.model.specs.Lawful.{Lawful}
use Rattle.model.specs.Observed.{accounts_of}
use Rattle.model.specs.Positions.{due_of, paid_of}
use Rattle.model.specs.World.{World}
use Rattle.model.proofs.Dues.{dues-move}
use Rattle.book.specs.declared.ledger.AccountRow.{AccountRow}
use Rattle.book.specs.Tables.{Tables, KeepsAccounts, KeepsTables}
use Rattle.model.proofs.Late.{late-account}
use Rattle.book.proofs.Pushing.{map_push, length_map, get_push}
use Rattle.book.proofs.Stills.{months-still, positions-still, session-still}

-- a row with nothing paid or due
abbrev pub new_row : Account → AccountRow
new_row x = record { account = x; paid = pos 0; due = pos 0 }

-- an account is there if some row has it
any-account : (x : Account) (rows : List AccountRow) → list_any (same_account x) (map (λ row. row.account) rows) ≡ list_any (λ row. same_account x row.account) rows
any-account x [] = refl
any-account x (row ∷ rows) = rw (any-account x rows) refl

-- as many rows as accounts
pub account-count : (h : History) (rows : List AccountRow) → KeepsAccounts h rows → length rows ≡ length (accounts_of h)
account-count h rows k = sym (length_map (λ (row : AccountRow). row.account) rows) ∙ ap length k.accounts

accounts-enter : (w : World) (h : History) (x : Account) (rows : List AccountRow) → Lawful w (Entered x ∷ h)
    → KeepsAccounts h rows → KeepsAccounts (Entered x ∷ h) (rows ++ new_row x ∷ [])
accounts-enter w h x rows l k = record {
  accounts = map_push (λ row. row.account) rows (new_row x) ∙ ap (λ xs. xs ++ x ∷ []) k.accounts;
  amounts = λ a row at. by a row (get_push rows (new_row x) a row at);
}
  where
    by : (a : ℕ) (row : AccountRow) → (slice_get rows a ≡ Some row) ⊎ ((a ≡ length rows) × (row ≡ new_row x))
        → (row.paid ≡ paid_of (Entered x ∷ h) a) × (row.due ≡ due_of (Entered x ∷ h) a)
    by a row (inl at) =
        let still = dues-move.still (Entered x) h a refl refl in
        let now = k.amounts a row at in
        (now.0 ∙ sym still.1, now.1 ∙ sym still.0)
    by a row (inr new) =
        let still = dues-move.still (Entered x) h a refl refl in
        let none = late-account w h a l.1 (omega (arith, account-count h rows k, new.0)) in
        (ap (λ (r : AccountRow). r.paid) new.1 ∙ sym (still.1 ∙ none.0), ap (λ (r : AccountRow). r.due) new.1 ∙ sym (still.0 ∙ none.1))

pub tables-enter : (w : World) (h : History) (x : Account) (t : Tables) → Lawful w (Entered x ∷ h) → KeepsTables w h t
    → KeepsTables w (Entered x ∷ h) (record t { accounts = t.accounts ++ new_row x ∷ [] })
tables-enter w h x t l k = record {
  number = k.number;
  start = k.start;
  accounts = accounts-enter w h x t.accounts l k.accounts;
  months = months-still w (Entered x) h t.months refl refl refl (λ m. refl) k.months;
  positions = positions-still w (Entered x) h t.positions l refl refl k.positions;
  session = session-still w (Entered x) h t.session refl refl refl refl k.session;
}

-- the tables tell the rows of the call
pub enter-first : (w : World) (h : History) (x : Account) (t : Tables) → KeepsTables w h t → first_row (enter_rows h x) ≡ first_row (enter_rows_in t x)
enter-first w h x t k =
    rw (← any-account x t.accounts, account-count h t.accounts k.accounts, ← k.accounts.accounts) refl
