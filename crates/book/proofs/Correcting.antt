-- The latest prices corrected over the gap, one day after another.
use Rattle.std.proofs.Common.{◌≡◌, Bool, ℕ, ◌+◌, ◌*◌, ◌<◌, ◌≤◌, true, false, cond, not, List, [], ◌∷◌, ◌++◌, map, is_some, Some, None, filter, Option, Result, Ok, Err, refl, sym, ap, ◌∙◌, inl, inr, mul-le-mul_right, arith}
use Rattle.std.specs.Option.{unwrap_or}
use Rattle.std.specs.Result.{IsErrAnd}
use Rattle.std.proofs.lemmas.Bool.{cases_lt}
use Rattle.std.proofs.lemmas.List.Elements.{filter-append}
use Rattle.std.proofs.lemmas.List.{append-nil, map-append}
use Rattle.std.proofs.lemmas.Simd.{map-map}
use Rattle.amounts.specs.declared.adjustments.MonthPrices.{MonthPrices}
use Rattle.calendar.specs.declared.kind.DayKind.{DayKind}
use Rattle.calendar.specs.Kinds.{is_reserve}
use Rattle.calendar.specs.Spans.{reserve_days, first_in}
use Rattle.calendar.proofs.Spans.{days-none, days-more, days-split, days-head}
use Rattle.correction.specs.Gaps.{factor_on, factors, is_unrated, first_unrated}
use Rattle.interest.specs.Correction.{corrected, corrected_day}
use Rattle.interest.proofs.Bounds.{day-factor-least}
use Rattle.interest.proofs.Corrections.{corrected-none, corrected-more}
use Rattle.rows.specs.Rows.{Reason, reason_by}
use Rattle.model.specs.Sessions.{gap_since}
use Rattle.book.specs.declared.ledger.MonthRow.{MonthRow}
use Rattle.book.specs.Closes.{price_in_32_bits, prices_over, prices_before, prices_after, Corrects, Unrated}

-- a price that no longer fits 32 bits never does again
price_in_32_bits-day : (price g : ℕ) → 100000000 ≤ g → price_in_32_bits (corrected_day (price_in_32_bits price) g) ≡ price_in_32_bits (corrected_day price g)
price_in_32_bits-day price g least = elim (cases_lt price 4294967296) [
  | inl few ↦ ap (λ p. price_in_32_bits (corrected_day p g)) (let e : price_in_32_bits price ≡ price = omega arith in e)
  | inr many ↦
      let capped : price_in_32_bits price ≡ 4294967295 = omega arith in
      let more : 4294967295 * g ≤ price * g = mul-le-mul_right g (omega arith) in
      rw capped (omega arith)
]

module _ (rates : ℕ → Option ℕ) (session : ℕ) where
  -- before the first day
  over-none : (row : MonthRow) → prices_before session row ≡ prices_over rates session [] row
  over-none row = rw (corrected-none row.latest) refl

  -- one day more
  over-more : (days : List ℕ) (d : ℕ) (row : MonthRow) → prices_after (factor_on rates d) (prices_over rates session days row) ≡ prices_over rates session (days ++ d ∷ []) row
  over-more days d row =
      let least : 100000000 ≤ factor_on rates d = day-factor-least (unwrap_or (rates d) 0) in
      let all : corrected row.latest (factors rates (days ++ d ∷ [])) ≡ corrected_day (corrected row.latest (factors rates days)) (factor_on rates d) =
      ap (corrected row.latest) (map-append (factor_on rates) days (d ∷ [])) ∙ corrected-more row.latest (factors rates days) (factor_on rates d) in
      let step = price_in_32_bits-day (corrected row.latest (factors rates days)) (factor_on rates d) least ∙ ap price_in_32_bits (sym all) in
      λ i. record (prices_over rates session days row) { corrected = step i }

-- on the way over the gap: each reserve day so far has a rate, and the prices are corrected over them; where the gap is empty the walk does not begin
pub record Walked (kinds : ℕ → DayKind) (rates : ℕ → Option ℕ) (session from : ℕ) (rows : List MonthRow) (day : ℕ) (prices : List MonthPrices) : Type 0 where
  pub rated : filter (is_unrated rates) (reserve_days kinds from day) ≡ []
  pub corrected : prices ≡ map (prices_over rates session (reserve_days kinds from day)) rows
  pub begun : session ≤ from → day ≡ from

module _ (kinds : ℕ → DayKind) (rates : ℕ → Option ℕ) (session from : ℕ) (rows : List MonthRow) where
  pub walk-start : (prices : List MonthPrices) → prices ≡ map (prices_before session) rows → Walked kinds rates session from rows from prices
  walk-start prices is =
      let none = days-none is_reserve kinds from from (omega arith) in
      record {
        rated = ap (filter (is_unrated rates)) none;
        corrected = is ∙ (λ i. map (λ row. over-none rates session row i) rows) ∙ ap (λ days. map (prices_over rates session days) rows) (sym none);
        begun = λ _. refl;
      }

  -- one day on
  pub walk-next : (day : ℕ) (prices next : List MonthPrices) → from ≤ day → day < session → Corrects kinds rates day prices next
      → Walked kinds rates session from rows day prices → Walked kinds rates session from rows (day + 1) next
  walk-next day prices next after before x so_far = by (is_reserve (kinds day)) refl
    where
      by : (b : Bool) → is_reserve (kinds day) ≡ b → Walked kinds rates session from rows (day + 1) next
      by true reserve =
          let days = reserve_days kinds from day in
          let more : reserve_days kinds from (day + 1) ≡ days ++ day ∷ [] = days-more is_reserve kinds from day after ∙ ap (λ b. days ++ cond b (day ∷ []) []) reserve in
          let is : next ≡ map (prices_after (factor_on rates day)) prices = x.prices ∙ ap (λ b. cond b (map (prices_after (factor_on rates day)) prices) prices) reserve in
          record {
            rated = ap (filter (is_unrated rates)) more ∙ filter-append (is_unrated rates) days (day ∷ []) ∙ ap (λ xs. xs ++ filter (is_unrated rates) (day ∷ [])) so_far.rated
                ∙ ap (λ b. cond (not b) (day ∷ []) []) (x.rated reserve);
            corrected = is ∙ ap (map (prices_after (factor_on rates day))) so_far.corrected ∙ map-map _ _ rows ∙ (λ i. map (λ row. over-more rates session days day row i) rows)
                ∙ ap (λ ds. map (prices_over rates session ds) rows) (sym more);
            begun = λ late. absurd (omega arith);
          }
      by false other =
          let days = reserve_days kinds from day in
          let same : reserve_days kinds from (day + 1) ≡ days =
          days-more is_reserve kinds from day after ∙ ap (λ b. days ++ cond b (day ∷ []) []) other ∙ append-nil days in
          let is : next ≡ prices = x.prices ∙ ap (λ b. cond b (map (prices_after (factor_on rates day)) prices) prices) other in
          record { rated = ap (filter (is_unrated rates)) same ∙ so_far.rated; corrected = is ∙ rw same so_far.corrected; begun = λ late. absurd (omega arith) }

  -- a reserve day without a rate is the first such day of the gap
  pub walk-missing : (day : ℕ) (prices : List MonthPrices) → from ≤ day → day < session → Unrated kinds rates day
      → Walked kinds rates session from rows day prices → first_unrated rates (reserve_days kinds from session) ≡ Some day
  walk-missing day prices after before none x =
      let days = reserve_days kinds from day in
      let rest = reserve_days kinds (day + 1) session in
      let whole : reserve_days kinds from session ≡ days ++ day ∷ rest =
      days-split is_reserve kinds from day session after (omega arith)
      ∙ ap (λ xs. days ++ xs) (days-head is_reserve kinds day session before ∙ ap (λ b. cond b (day ∷ rest) rest) none.reserve) in
      ap (first_unrated rates) whole ∙ ap first_in (filter-append (is_unrated rates) days (day ∷ rest) ∙ ap (λ xs. xs ++ filter (is_unrated rates) (day ∷ rest)) x.rated)
      ∙ ap (λ o. first_in (cond (not (is_some o)) (day ∷ filter (is_unrated rates) rest) (filter (is_unrated rates) rest))) none.unrated

  -- the days of the walk are those of the gap
  pub walk-end : (day : ℕ) (prices : List MonthPrices) → session ≤ day → (from ≤ session → day ≤ session) → Walked kinds rates session from rows day prices
      → (first_unrated rates (reserve_days kinds from session) ≡ None) × (prices ≡ map (prices_over rates session (reserve_days kinds from session)) rows)
  walk-end day prices past within x =
      let all : reserve_days kinds from day ≡ reserve_days kinds from session = elim (cases_lt from session) [
        | inl ahead ↦ ap (reserve_days kinds from) (let stops = within (omega arith) in let e : day ≡ session = omega arith in e)
        | inr late ↦ rw (x.begun late, days-none is_reserve kinds from from (omega arith), days-none is_reserve kinds from session late) refl
      ] in
      (ap first_in (ap (filter (is_unrated rates)) (sym all) ∙ x.rated), x.corrected ∙ ap (λ days. map (prices_over rates session days) rows) all)

-- before the first close the gap is empty
pub gap-is : (kinds : ℕ → DayKind) (closed : Option ℕ) (session from : ℕ) → from ≡ unwrap_or closed session → reserve_days kinds from session ≡ gap_since kinds closed session
gap-is kinds None session from is = rw is (days-none is_reserve kinds session session (omega arith))
gap-is kinds (Some d) session from is = rw is refl

-- what an error that is handed on tells
pub reason-is : {T E : Type 0} (reason : E → Reason) (e : E) (r : Result T E) → IsErrAnd r (λ y. y ≡ e) → reason_by reason r ≡ Some (reason e)
reason-is reason e (Ok x) is = absurd is
reason-is {E = E} reason e (Err y) is = ap (λ (z : E). Some (reason z)) is
