-- A month is marked.
use Rattle.std.proofs.Common.{◌≡◌, ℕ, ◌<◌, ◌⊎◌, zero, suc, get_or, List, [], ◌∷◌, length, map, Some, slice_get, refl, sym, ap, ◌∙◌, inl, inr, arith}
use Rattle.std.proofs.lemmas.Bool.Decides.{nat_tests}
use Rattle.std.specs.Option.{unwrap_or, option_map}
use Rattle.rows.specs.Rows.{first_row}
use Rattle.model.specs.History.{History, Marked}
use Rattle.model.specs.Lawful.{Lawful}
use Rattle.model.specs.Observed.{months_of, month_at, expiry_at, session_day, open_session}
use Rattle.model.specs.References.{SessionReference, is_of}
use Rattle.model.specs.Rows.{mark_rows}
use Rattle.model.specs.World.{World}
use Rattle.book.specs.declared.ledger.MonthRow.{MonthRow}
use Rattle.book.specs.Causes.{expiry_in, day_in, mark_rows_in}
use Rattle.book.specs.Changes.{changed_at, with_mark}
use Rattle.book.specs.Tables.{Tables, KeepsMonth, KeepsMonths, KeepsTables}
use Rattle.book.proofs.Changing.{map-changed, get_changed}
use Rattle.book.proofs.Pushing.{length_map}
use Rattle.book.proofs.Stills.{accounts-still, positions-still, session-still, month-still}

-- ---- the causes, as the tables tell them

pub current-told : (w : World) (h : History) (reference : SessionReference) (t : Tables) → KeepsTables w h t
    → is_of w.number reference (open_session h) ≡ is_of t.number reference t.session.opens
current-told w h reference t k = rw (k.number, k.session.opens) refl

pub day-told : (w : World) (h : History) (t : Tables) → KeepsTables w h t → session_day h ≡ day_in t
day-told w h t k = rw k.session.latest refl

pub month-count : (h : History) (w : World) (rows : List MonthRow) → KeepsMonths w h rows → length rows ≡ length (months_of h)
month-count h w rows k = sym (length_map (λ (row : MonthRow). row.number) rows) ∙ ap length k.numbers

-- a month that is listed has a row
pub row_at : (rows : List MonthRow) (m : ℕ) → m < length rows → (row : MonthRow) × (slice_get rows m ≡ Some row)
row_at [] m listed = absurd (omega arith)
row_at (row ∷ rows) zero listed = (row, refl)
row_at (row ∷ rows) (suc m) listed = row_at rows m (omega arith)

-- its number
pub number_at : (rows : List MonthRow) (m : ℕ) (row : MonthRow) → slice_get rows m ≡ Some row → get_or (map (λ r. r.number) rows) m 0 ≡ row.number
number_at [] m row at = absurd cc
number_at (r ∷ rows) zero row at = ap (λ (o : MonthRow). o.number) (let e : r ≡ row = cc in e)
number_at (r ∷ rows) (suc m) row at = number_at rows m row at

pub expiry-told : (w : World) (h : History) (t : Tables) (m : ℕ) → KeepsTables w h t → m < length t.months → expiry_at w h m ≡ expiry_in t m
expiry-told w h t m k listed =
    let row = row_at t.months m listed in
    rw (← k.months.numbers, number_at t.months m row.0 row.1, row.1) (sym (k.months.each m row.0 row.1).expiry)

-- the number of a month that is listed
pub number-told : (w : World) (h : History) (t : Tables) (m : ℕ) → KeepsTables w h t → m < length t.months
    → month_at h m ≡ unwrap_or (option_map (λ (row : MonthRow). row.number) (slice_get t.months m)) 0
number-told w h t m k listed = let row = row_at t.months m listed in rw (← k.months.numbers, number_at t.months m row.0 row.1, row.1) refl

pub mark-first : (w : World) (h : History) (ticket : SessionReference) (m price : ℕ) (t : Tables) → KeepsTables w h t
    → first_row (mark_rows w h ticket m price) ≡ first_row (mark_rows_in t ticket m price)
mark-first w h ticket m price t k =
    let current = current-told w h ticket t k in
    let day = day-told w h t k in
    let count = month-count h w t.months k.months in
    let expiry = expiry-told w h t m k in
    grind (arith, nat_tests, expiry)

-- ---- the tables afterwards

marked-month : (w : World) (h : History) (m p i : ℕ) (row : MonthRow) → (i ≡ m → ⊥) → KeepsMonth w h i row → KeepsMonth w (Marked m p ∷ h) i row
marked-month w h m p i row other k = month-still w (Marked m p) h i row refl refl (grind (arith, nat_tests)) k

months-mark : (w : World) (h : History) (m p : ℕ) (rows : List MonthRow) → KeepsMonths w h rows → KeepsMonths w (Marked m p ∷ h) (changed_at (with_mark p) rows m)
months-mark w h m p rows k = record {
  numbers = map-changed (with_mark p) (λ row. row.number) (λ row. refl) rows m ∙ k.numbers;
  each = λ i row at. by i row (get_changed (with_mark p) rows m i row at);
}
  where
    by : (i : ℕ) (row : MonthRow)
        → ((x : MonthRow) × (i ≡ m) × (slice_get rows m ≡ Some x) × (row ≡ with_mark p x)) ⊎ ((i ≡ m → ⊥) × (slice_get rows i ≡ Some row))
        → KeepsMonth w (Marked m p ∷ h) i row
    by i row (inl new) =
        let was = k.each m new.0 new.2 in
        rw (new.1, new.3) (record { expiry = was.expiry; days = was.days; mark = grind (arith, nat_tests); latest = was.latest })
    by i row (inr old) = marked-month w h m p i row old.0 (k.each i row old.1)

pub tables-mark : (w : World) (h : History) (m p : ℕ) (t : Tables) → Lawful w (Marked m p ∷ h) → KeepsTables w h t
    → KeepsTables w (Marked m p ∷ h) (record t { months = changed_at (with_mark p) t.months m })
tables-mark w h m p t l k = record {
  number = k.number;
  start = k.start;
  accounts = accounts-still (Marked m p) h t.accounts refl refl refl k.accounts;
  months = months-mark w h m p t.months k.months;
  positions = positions-still w (Marked m p) h t.positions l refl refl k.positions;
  session = session-still w (Marked m p) h t.session refl refl refl refl k.session;
}
