-- A session is opened.
use Rattle.std.proofs.Common.{◌≡◌, ℕ, ◌+◌, zero, suc, List, [], ◌∷◌, length, map, Some, Option, slice_get, refl, sym, ◌∙◌}
use Rattle.calendar.specs.declared.kind.DayKind.{DayKind}
use Rattle.calendar.specs.Spans.{first_session, reserve_days}
use Rattle.rows.specs.Rows.{first_row}
use Rattle.model.specs.History.{History, Opened}
use Rattle.model.specs.Lawful.{Lawful}
use Rattle.model.specs.Observed.{latest_opened, next_from, next_session}
use Rattle.model.specs.Rows.{open_rows}
use Rattle.model.specs.World.{World}
use Rattle.book.specs.declared.ledger.MonthRow.{MonthRow}
use Rattle.book.specs.Causes.{next_in, open_rows_in}
use Rattle.book.specs.Changes.{at_opening, after_open}
use Rattle.book.specs.Tables.{Tables, KeepsMonths, KeepsTables}
use Rattle.book.proofs.Stills.{accounts-still, positions-still}

-- the day from which the next session is looked for, as the tables tell it
pub next-told : (w : World) (h : History) (t : Tables) → KeepsTables w h t → next_from w.start (latest_opened h) ≡ next_in t
next-told w h t k = rw (k.start, k.session.latest) refl

pub open-first : (w : World) (h : History) (t : Tables) (next : Option ℕ) → KeepsTables w h t → next_session w h ≡ next
    → first_row (open_rows w h) ≡ first_row (open_rows_in t next)
open-first w h t next k is = rw (is, k.session.opens) refl

module _ {X : Type 0} (g : X → X) where
  pub map-map : {Y : Type 0} (f : X → Y) → ((x : X) → f (g x) ≡ f x) → (rows : List X) → map f (map g rows) ≡ map f rows
  map-map f same [] = refl
  map-map f same (row ∷ rows) = rw (same row, map-map f same rows)

  pub get_map : (rows : List X) (i : ℕ) (y : X) → slice_get (map g rows) i ≡ Some y → (x : X) × (slice_get rows i ≡ Some x) × (y ≡ g x)
  get_map [] i y at = absurd cc
  get_map (row ∷ rows) zero y at = (row, refl, cc)
  get_map (row ∷ rows) (suc i) y at = get_map rows i y at

months-open : (w : World) (h : History) (d : ℕ) (rows : List MonthRow) → KeepsMonths w h rows → KeepsMonths w (Opened d ∷ h) (map (at_opening w.kinds d) rows)
months-open w h d rows k = record {
  numbers = map-map (at_opening w.kinds d) (λ row. row.number) (λ row. refl) rows ∙ k.numbers;
  each = λ m row at.
      let was = get_map (at_opening w.kinds d) rows m row at in
      let kept = k.each m was.0 was.1 in
      rw was.2 (record {
        expiry = kept.expiry;
        days = λ day is_open. let same : d ≡ day = cc in λ i. length (reserve_days w.kinds (same i) (kept.expiry i));
        mark = refl;
        latest = kept.latest;
      });
}

pub tables-open : (w : World) (h : History) (d : ℕ) (t : Tables) → Lawful w (Opened d ∷ h) → KeepsTables w h t → KeepsTables w (Opened d ∷ h) (after_open w.kinds d t)
tables-open w h d t l k = record {
  number = k.number;
  start = k.start;
  accounts = accounts-still (Opened d) h t.accounts refl refl refl k.accounts;
  months = months-open w h d t.months k.months;
  positions = positions-still w (Opened d) h t.positions l refl refl k.positions;
  session = record { latest = refl; opens = refl; closed = k.session.closed; unpaid = k.session.unpaid; trades = refl };
}

pub next-session-told : (w : World) (h : History) (t : Tables) (kinds : ℕ → DayKind) (from : ℕ) (next : Option ℕ) → w.kinds ≡ kinds → KeepsTables w h t
    → from ≡ next_in t → next ≡ first_session kinds from (from + 60) → next_session w h ≡ next
next-session-told w h t kinds from next calendar k start is =
    let same : next_from w.start (latest_opened h) ≡ from = next-told w h t k ∙ sym start in
    (λ i. first_session (calendar i) (same i) (same i + 60)) ∙ sym is
