-- A month is listed.
use Rattle.std.proofs.Common.{◌≡◌, ℕ, ◌⊎◌, List, [], ◌∷◌, ◌++◌, length, map, nat_le, ◌||◌, Some, None, Option, slice_get, refl, sym, ap, ◌∙◌, inl, inr, arith}
use Rattle.std.specs.Bool.{◌==◌}
use Rattle.std.specs.List.{list_any}
use Rattle.calendar.specs.declared.kind.DayKind.{DayKind}
use Rattle.calendar.specs.Spans.{expiry_of, reserve_days}
use Rattle.pricing.specs.Pricing.{expiry_day, days_to}
use Rattle.rows.specs.Rows.{first_row, numbered}
use Rattle.model.specs.History.{History, Listed}
use Rattle.model.specs.Lawful.{Lawful}
use Rattle.model.specs.Observed.{open_session}
use Rattle.model.specs.Rows.{lacks_expiry, list_rows}
use Rattle.model.specs.World.{World}
use Rattle.book.specs.declared.ledger.MonthRow.{MonthRow}
use Rattle.book.specs.Causes.{lacks_in, list_rows_in}
use Rattle.book.specs.Tables.{Tables, KeepsMonth, KeepsMonths, KeepsTables}
use Rattle.model.proofs.Late.{late-month}
use Rattle.book.proofs.Marking.{month-count, day-told}
use Rattle.book.proofs.Pushing.{map_push, get_push}
use Rattle.book.proofs.Stills.{accounts-still, positions-still, session-still, month-still}

-- ---- the causes

any-number : (n : ℕ) (rows : List MonthRow) → list_any (λ k. n == k) (map (λ row. row.number) rows) ≡ list_any (λ row. n == row.number) rows
any-number n [] = refl
any-number n (row ∷ rows) = rw (any-number n rows) refl

lacks-told : (w : World) (h : History) (t : Tables) (o : Option ℕ) → KeepsTables w h t → lacks_expiry w h o ≡ lacks_in t o
lacks-told w h t None k = refl
lacks-told w h t (Some d) k = let day = day-told w h t k in let start = sym k.start in λ i. nat_le d (start i) || nat_le d (day i)

pub list-first : (w : World) (h : History) (n : ℕ) (t : Tables) (expiry : Option ℕ) → KeepsTables w h t → expiry_of w.kinds n ≡ expiry
    → first_row (list_rows w h n) ≡ first_row (list_rows_in t n expiry)
list-first w h n t expiry k is =
    let count = sym (month-count h w t.months k.months) in
    let there = ap (list_any (λ k. n == k)) (sym k.months.numbers) ∙ any-number n t.months in
    let lacks = ap (lacks_expiry w h) is ∙ lacks-told w h t expiry k in
    λ i. first_row ((nat_le 16 (count i), numbered 18) ∷ (there i, numbered 19) ∷ (lacks i, numbered 20) ∷ [])

-- ---- the tables afterwards

abbrev pub new_month : ℕ → ℕ → ℕ → MonthRow
new_month n expiry days = record { number = n; expiry = expiry; days = days; mark = None; latest = 0 }

months-list : (w : World) (h : History) (n expiry days : ℕ) (rows : List MonthRow) → Lawful w (Listed n ∷ h) → expiry ≡ expiry_day w.kinds n
    → ((d : ℕ) → open_session h ≡ Some d → days ≡ days_to w.kinds d n) → KeepsMonths w h rows → KeepsMonths w (Listed n ∷ h) (rows ++ new_month n expiry days ∷ [])
months-list w h n expiry days rows l is counted k = record {
  numbers = map_push (λ row. row.number) rows (new_month n expiry days) ∙ ap (λ xs. xs ++ n ∷ []) k.numbers;
  each = λ m row at. by m row (get_push rows (new_month n expiry days) m row at);
}
  where
    by : (m : ℕ) (row : MonthRow) → (slice_get rows m ≡ Some row) ⊎ ((m ≡ length rows) × (row ≡ new_month n expiry days)) → KeepsMonth w (Listed n ∷ h) m row
    by m row (inl at) = month-still w (Listed n) h m row refl refl refl (k.each m row at)
    by m row (inr new) =
        let late = late-month w h m l.1 (omega (arith, month-count h w rows k, new.0)) in
        rw new.1 (record { expiry = is; days = counted; mark = sym late.0; latest = sym late.1 })

pub tables-list : (w : World) (h : History) (n expiry days : ℕ) (t : Tables) → expiry ≡ expiry_day w.kinds n → ((d : ℕ) → open_session h ≡ Some d → days ≡ days_to w.kinds d n)
    → Lawful w (Listed n ∷ h) → KeepsTables w h t → KeepsTables w (Listed n ∷ h) (record t { months = t.months ++ new_month n expiry days ∷ [] })
tables-list w h n expiry days t is counted l k = record {
  number = k.number;
  start = k.start;
  accounts = accounts-still (Listed n) h t.accounts refl refl refl k.accounts;
  months = months-list w h n expiry days t.months l is counted k.months;
  positions = positions-still w (Listed n) h t.positions l refl refl k.positions;
  session = session-still w (Listed n) h t.session refl refl refl refl k.session;
}

-- the reserve days that were counted to it from the open session
pub days-given : (w : World) (h : History) (kinds : ℕ → DayKind) (n expiry days : ℕ) (t : Tables) → w.kinds ≡ kinds → expiry ≡ expiry_day w.kinds n → KeepsTables w h t
    → ((d : ℕ) → t.session.opens ≡ Some d → days ≡ length (reserve_days kinds d expiry)) → (d : ℕ) → open_session h ≡ Some d → days ≡ days_to w.kinds d n
days-given w h kinds n expiry days t same is k counted d is_open =
    counted d (k.session.opens ∙ is_open) ∙ (λ i. length (reserve_days (sym same i) d (is i)))

-- the expiry that the calendar gave
pub expiry-given : (w : World) (kinds : ℕ → DayKind) (n expiry : ℕ) (o : Option ℕ) → w.kinds ≡ kinds → o ≡ expiry_of kinds n → o ≡ Some expiry → expiry ≡ expiry_day w.kinds n
expiry-given w kinds n expiry o same is given = rw (same, ← is, given) refl
