-- What refuses a close, as the tables tell it.
use Rattle.std.proofs.Common.{◌≡◌, ℕ, suc, ◌+◌, ◌*◌, Bool, true, false, cond, ◌||◌, not, List, [], ◌∷◌, length, is_some, filter, nat_lt, Some, slice_get, refl, sym, ap, ◌∙◌, arith}
use Rattle.std.specs.List.{range_with_len, position, position_from}
use Rattle.std.proofs.lemmas.Iterator.Adapters.{position_from-zero}
use Rattle.calendar.specs.declared.kind.DayKind.{DayKind}
use Rattle.calendar.specs.Spans.{first_in}
use Rattle.correction.specs.Gaps.{first_unrated}
use Rattle.rates.specs.Meanings.{Meaning, rates_of}
use Rattle.rows.specs.Rows.{first_row, numbered}
use Rattle.model.specs.History.{History}
use Rattle.model.specs.Observed.{expiry_at, source_of}
use Rattle.model.specs.References.{SessionReference}
use Rattle.model.specs.Rows.{naming, is_unmarked, first_unmarked, close_rows}
use Rattle.model.specs.Sessions.{gap_since}
use Rattle.model.specs.World.{World}
use Rattle.book.specs.declared.ledger.MonthRow.{MonthRow}
use Rattle.book.specs.Causes.{day_in}
use Rattle.book.specs.Closes.{lacks_mark, close_rows_in, gap_in}
use Rattle.book.specs.Tables.{Tables, KeepsTables}
use Rattle.book.proofs.Entering.{account-count}
use Rattle.book.proofs.Marking.{current-told, day-told, month-count, number_at}

-- the first index that passes a test, where the rows tell it
first-from : (test : ℕ → Bool) (p : MonthRow → Bool) (rows : List MonthRow) (i : ℕ) → ((m : ℕ) (row : MonthRow) → slice_get rows m ≡ Some row → test (i + m) ≡ p row)
    → first_in (filter test (range_with_len i (length rows))) ≡ position_from p i rows
first-from test p [] i same = refl
first-from test p (row ∷ rows) i same =
    by (test i) (p row) (ap test (let e : i ≡ i + 0 = omega arith in e) ∙ same 0 row refl)
    (first-from test p rows (i + 1) (λ m r at. ap test (let e : i + 1 + m ≡ i + suc m = omega arith in e) ∙ same (suc m) r at))
  where
    by : (b c : Bool) → b ≡ c → first_in (filter test (range_with_len (i + 1) (length rows))) ≡ position_from p (i + 1) rows
        → first_in (cond b (i ∷ filter test (range_with_len (i + 1) (length rows))) (filter test (range_with_len (i + 1) (length rows)))) ≡ cond c (Some i) (position_from p (i + 1) rows)
    by true true e r = refl
    by false false e r = r
    by true false e r = absurd cc
    by false true e r = absurd cc

-- the expiry of a month that is listed
pub expiry-row : (w : World) (h : History) (t : Tables) (m : ℕ) (row : MonthRow) → KeepsTables w h t → slice_get t.months m ≡ Some row → expiry_at w h m ≡ row.expiry
expiry-row w h t m row k at = rw (← k.months.numbers, number_at t.months m row at) (sym (k.months.each m row at).expiry)

-- the lowest month without a mark
unmarked-told : (w : World) (h : History) (t : Tables) → KeepsTables w h t → first_unmarked w h ≡ position (lacks_mark (day_in t)) t.months
unmarked-told w h t k =
    rw (← month-count h w t.months k.months)
    (first-from (is_unmarked w h) (lacks_mark (day_in t)) t.months 0
    (λ m row at.
    let each = k.months.each m row at in
    let z : 0 + m ≡ m = omega arith in
    rw (z, day-told w h t k, expiry-row w h t m row k at, ← each.mark) refl)
    ∙ sym (position_from-zero (lacks_mark (day_in t)) t.months))

pub close-first : (w : World) (h : History) (ticket : SessionReference) (t : Tables) (i j : ℕ) (kinds : ℕ → DayKind) (source : Meaning) → w.kinds ≡ kinds → source_of w h ≡ source → KeepsTables w h t
    → first_row (close_rows w h ticket i j) ≡ first_row (close_rows_in t ticket (first_unrated (rates_of source) (gap_in kinds t)) i j)
close-first w h ticket t i j kinds source calendar rates k =
    let current = current-told w h ticket t k in
    let unpaid = sym k.session.unpaid in
    let unmarked = unmarked-told w h t k in
    let closed = sym k.session.closed in
    let day = day-told w h t k in
    let accounts = sym (account-count h t.accounts k.accounts) in
    let months = sym (month-count h w t.months k.months) in
    λ x. first_row (
    (not (current x), numbered 1) ∷ (is_some (unpaid x), numbered 13) ∷ naming 14 (unmarked x) ∷ naming 15 (first_unrated (rates_of (rates x)) (gap_since (calendar x) (closed x) (day x)))
    ∷ (nat_lt i (accounts x * months x) || nat_lt j (accounts x * months x), numbered 16) ∷ []
    )
