-- A slip is paid.
use Rattle.std.proofs.Common.{◌≡◌, ℕ, ◌+◌, ◌<◌, ◌^◌, List, ◌∷◌, map, ℤ, ◌+ℤ◌, unsigned_abs, refl, sym, ap, ◌∙◌, arith}
use borrow.Author.Differences.{ints}
use Rattle.std.specs.Int.{int_wrap, w64}
use Rattle.std.proofs.lemmas.Int.{int_wrap_fits, fits_signed_from_abs}
use Rattle.calendar.specs.declared.kind.DayKind.TheVariants.{ClosedDay}
use Rattle.rates.specs.Meanings.{rates_of}
use Rattle.rows.specs.Rows.{first_row}
use Rattle.model.specs.History.{History, Paid}
use Rattle.model.specs.Lawful.{Lawful}
use Rattle.model.specs.Limits.{RatesLimited}
use Rattle.model.specs.Positions.{due_of, paid_of}
use Rattle.model.specs.References.{SessionReference}
use Rattle.model.specs.Rows.{pay_rows}
use Rattle.model.specs.World.{World}
use Rattle.model.proofs.Dues.{dues-move}
use Rattle.model.proofs.Sums.{dues-fit}
use Rattle.book.specs.declared.ledger.AccountRow.{AccountRow}
use Rattle.book.specs.Causes.{pay_rows_in}
use Rattle.book.specs.Changes.{paid_out, after_pay}
use Rattle.book.specs.Tables.{Tables, KeepsAccounts, KeepsTables}
use Rattle.book.proofs.Opening.{map-map, get_map}
use Rattle.book.proofs.Stills.{months-still, positions-still}

pub pay-first : (w : World) (h : History) (slip : SessionReference) (t : Tables) → KeepsTables w h t → first_row (pay_rows w h slip) ≡ first_row (pay_rows_in t slip)
pay-first w h slip t k = rw (k.number, k.session.unpaid, k.session.opens) refl

-- an amount of 64 bits
fits : (x y : ℤ) → unsigned_abs x + unsigned_abs y < 2 ^ 63 → int_wrap w64 (x +ℤ y) ≡ x +ℤ y
fits x y few = int_wrap_fits w64 (x +ℤ y) (fits_signed_from_abs w64 (x +ℤ y) (omega (arith, ints)))

module _ (w : World) (h : History) (limited : RatesLimited (rates_of w.source)) (ends : (d : ℕ) → 36524 < d → w.kinds d ≡ ClosedDay) where
  accounts-pay : (rows : List AccountRow) → Lawful w h → KeepsAccounts h rows → KeepsAccounts (Paid ∷ h) (map paid_out rows)
  accounts-pay rows l k = record {
    accounts = map-map paid_out (λ row. row.account) (λ row. refl) rows ∙ k.accounts;
    amounts = λ a row at.
        let was = get_map paid_out rows a row at in
        let now = k.amounts a was.0 was.1 in
        let moved = dues-move.paid h a in (
          ap (λ (r : AccountRow). r.paid) was.2 ∙ (λ i. int_wrap w64 (now.0 i +ℤ now.1 i)) ∙ fits (paid_of h a) (due_of h a) (dues-fit w h a limited ends l) ∙ sym moved.1,
          ap (λ (r : AccountRow). r.due) was.2 ∙ sym moved.0,
        );
  }

  pub tables-pay : (t : Tables) → Lawful w (Paid ∷ h) → KeepsTables w h t → KeepsTables w (Paid ∷ h) (after_pay t)
  tables-pay t l k = record {
    number = k.number;
    start = k.start;
    accounts = accounts-pay t.accounts l.1 k.accounts;
    months = months-still w Paid h t.months refl refl refl (λ m. refl) k.months;
    positions = positions-still w Paid h t.positions l refl refl k.positions;
    session = record { latest = k.session.latest; opens = k.session.opens; closed = k.session.closed; unpaid = refl; trades = k.session.trades };
  }
