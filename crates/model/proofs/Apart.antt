-- A month whose expiry is still to come is later than the month of the session.
use Rattle.std.proofs.Common.{ℕ, ◌<◌, ◌≤◌, sym, ◌∙◌, inl, inr, arith}
use Rattle.std.proofs.lemmas.Bool.{true≢false, cases_lt}
use Rattle.dates.specs.Months.{first_day, month_of}
use Rattle.dates.proofs.MonthLaws.{first-day-grows, first-day-bound, month-holds}
use Rattle.model.specs.Laws.{MonthsApart, TradesApart}
use Rattle.model.specs.Observed.{month_at}
use Rattle.model.proofs.Allowing.{open-on, trading}
use Rattle.model.proofs.SessionOrder.{in_order}
use Rattle.model.proofs.Expiring.{expiry-is}

-- a day before a month is in an earlier month
earlier : (d n : ℕ) → n ≤ 1199 → d < first_day n → month_of d < n
earlier d n h b =
    elim (cases_lt (month_of d) n) [
      | inl l ↦ l
      | inr l ↦
          absurd (let k = month-holds d (omega (arith, first-day-bound n h)) in omega (arith, k.1.0, first-day-grows n (month_of d) l))
    ]

pub months-apart : MonthsApart
months-apart w h d m l o i b =
    let x = expiry-is w h m l i in
    elim (cases_lt d (first_day (month_at h m))) [
      | inl j ↦ omega (arith, earlier d (month_at h m) x.0 j)
      | inr j ↦ absurd (true≢false (sym ((in_order w h l).on-session d (open-on h d o).latest) ∙ x.1.3 d j b))
    ]

pub trades-apart : TradesApart
trades-apart w h t l =
    let x = trading w h t l.0 in rw x.session.day (months-apart w h x.day t.month l.1 x.session.is_open x.month x.before-expiry)
