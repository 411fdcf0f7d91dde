-- A walk over the days of a gap.
use Rattle.std.proofs.Common.{◌≡◌, ℕ, zero, suc, ◌+◌, ◌-◌, ◌<◌, ◌≤◌, min, Bool, true, false, cond, not, ◌&&◌, List, [], ◌∷◌, ◌++◌, length, map, take, drop, get_or, slice_set, is_some, Some, None, filter, Option, option_map, sym, refl, ap, ◌∙◌, mul-le-mul_left, arith}
use Rattle.std.specs.List.{range_with_len, find}
use Rattle.std.proofs.lemmas.Iterator.Adapters.{option_map_id}
use Rattle.std.proofs.lemmas.List.Elements.{filter-append}
use Rattle.std.proofs.lemmas.List.{append-nil, map-append, length-append}
use Rattle.calendar.specs.declared.kind.DayKind.{DayKind}
use Rattle.calendar.specs.declared.kind.DayKind.TheVariants.{ClosedDay}
use Rattle.calendar.specs.Kinds.{is_reserve}
use Rattle.calendar.specs.Spans.{reserve_days, first_in, days_by}
use Rattle.calendar.proofs.Spans.{days-none, days-more, days-split, days-head, days-end, past-last}
use Rattle.interest.specs.Correction.{corrected, corrected_day}
use Rattle.interest.proofs.Corrections.{corrected-none, corrected-more}
use Rattle.correction.specs.declared.gap.TheConstants.{MAX_GAP_DAYS}
use Rattle.correction.specs.Gaps.{factor_on, factors, is_unrated, first_unrated, corrected_price, corrected_prices}
use Rattle.correction.specs.Walks.{CorrectedTo}

-- a range has the days that it has up to the end of the calendar
whole : (kinds : ℕ → DayKind) → ((d : ℕ) → 36524 < d → kinds d ≡ ClosedDay) → (from to end : ℕ) → end ≡ min to 36525
    → reserve_days kinds from to ≡ reserve_days kinds from end
whole kinds ends from to end e =
    days-end is_reserve kinds 36525 from to (past-last kinds ends is_reserve refl) ∙ ap (days_by is_reserve kinds from) (sym e)

-- ---- the first day without a rate

-- a search for what passes two tests
found_both : (p q : ℕ → Bool) (ds : List ℕ) → find (λ d. p d && q d) ds ≡ first_in (filter q (filter p ds))
found_both p q [] = refl
found_both p q (d ∷ ds) = by (p d) (q d) refl (found_both p q ds)
  where
    by : (a b : Bool) → q d ≡ b → find (λ x. p x && q x) ds ≡ first_in (filter q (filter p ds))
        → cond (a && b) (Some d) (find (λ x. p x && q x) ds) ≡ first_in (filter q (cond a (d ∷ filter p ds) (filter p ds)))
    by true true e h = rw e
    by true false e h = rw e h
    by false b e h = h

-- what a search of a range to the end of the calendar finds
pub unrated-found : (kinds : ℕ → DayKind) → ((d : ℕ) → 36524 < d → kinds d ≡ ClosedDay) → (rates : ℕ → Option ℕ) (from to end : ℕ) (r : Option ℕ) → end ≡ min to 36525
    → option_map (λ d. d) r ≡ find (λ d. is_reserve (kinds d) && is_unrated rates d) (range_with_len from (end - from))
    → r ≡ first_unrated rates (reserve_days kinds from to)
unfolding days_by
unrated-found kinds ends rates from to end r e found =
    sym (option_map_id r) ∙ found ∙ found_both (λ d. is_reserve (kinds d)) (is_unrated rates) (range_with_len from (end - from))
    ∙ sym (ap (first_unrated rates) (whole kinds ends from to end e))

-- ---- each price over one day

-- one day more than a price
pub one-day : (x g : ℕ) → x ≤ 90000000000 → g ≤ 100275437 → corrected_day x g ≤ x + 280000000
one-day x g h k = let m = mul-le-mul_left x k in omega (arith, m)

-- one element more of a list is changed
pub change-more : {X : Type 0} (change : X → X) (d : X) (xs : List X) (i : ℕ) → i < length xs
    → slice_set (map change (take i xs) ++ drop i xs) i (change (get_or xs i d)) ≡ map change (take (suc i) xs) ++ drop (suc i) xs
change-more change d [] i h = absurd (omega arith)
change-more change d (x ∷ xs) zero h = refl
change-more change d (x ∷ xs) (suc i) h = ap (λ l. change x ∷ l) (change-more change d xs i (omega arith))

-- ---- a walk over the days of a gap

same-prices : (kinds : ℕ → DayKind) (rates : ℕ → Option ℕ) (from day : ℕ) → reserve_days kinds from day ≡ [] → (prices : List ℕ) → corrected_prices kinds rates from day prices ≡ prices
same-prices kinds rates from day none [] = refl
same-prices kinds rates from day none (p ∷ ps) =
    let first : corrected_price kinds rates from day p ≡ p = ap (λ xs. corrected p (factors rates xs)) none ∙ corrected-none p in
    let rest = same-prices kinds rates from day none ps in
    cc

pub corrected_none : (kinds : ℕ → DayKind) (rates : ℕ → Option ℕ) (from : ℕ) (prices now : List ℕ) → now ≡ prices → ((i : ℕ) → get_or now i 0 < 4294967296) → CorrectedTo kinds rates from from prices now
corrected_none kinds rates from prices now same fits =
    let none = days-none is_reserve kinds from from (omega arith) in
    record {
      value = same ∙ sym (same-prices kinds rates from from none prices);
      rated = ap (filter (is_unrated rates)) none;
      most = λ i. let f = fits i in omega arith;
    }

-- a day that is no reserve day changes nothing
pub corrected-skip : (kinds : ℕ → DayKind) (rates : ℕ → Option ℕ) (from day : ℕ) (prices now : List ℕ) → from ≤ day → is_reserve (kinds day) ≡ false
    → CorrectedTo kinds rates from day prices now → CorrectedTo kinds rates from (day + 1) prices now
corrected-skip kinds rates from day prices now h no-day c =
    let e : reserve_days kinds from (day + 1) ≡ reserve_days kinds from day =
    days-more is_reserve kinds from day h ∙ ap (λ b. reserve_days kinds from day ++ cond b (day ∷ []) []) no-day ∙ append-nil (reserve_days kinds from day) in
    record {
      value = c.value ∙ sym (ap (λ xs. map (λ p. corrected p (factors rates xs)) prices) e);
      rated = ap (filter (is_unrated rates)) e ∙ c.rated;
      most = λ i. rw e (c.most i);
    }

-- a price of the list, over one day
get_or-corrected : (g : ℕ) (ps : List ℕ) (i : ℕ) → get_or (map (λ p. corrected_day p g) ps) i 0 ≡ corrected_day (get_or ps i 0) g
get_or-corrected g [] i = omega arith
get_or-corrected g (p ∷ ps) zero = refl
get_or-corrected g (p ∷ ps) (suc i) = get_or-corrected g ps i

more-prices : (kinds : ℕ → DayKind) (rates : ℕ → Option ℕ) (from day g : ℕ) → g ≡ factor_on rates day
    → reserve_days kinds from (day + 1) ≡ reserve_days kinds from day ++ day ∷ [] → (prices : List ℕ)
    → map (λ p. corrected_day p g) (corrected_prices kinds rates from day prices) ≡ corrected_prices kinds rates from (day + 1) prices
more-prices kinds rates from day g is e [] = refl
more-prices kinds rates from day g is e (p ∷ ps) =
    let m : factors rates (reserve_days kinds from day ++ day ∷ []) ≡ factors rates (reserve_days kinds from day) ++ factor_on rates day ∷ [] =
    map-append (factor_on rates) (reserve_days kinds from day) (day ∷ []) in
    let first : corrected_day (corrected_price kinds rates from day p) g ≡ corrected_price kinds rates from (day + 1) p =
    ap (corrected_day (corrected_price kinds rates from day p)) is
    ∙ sym (ap (λ xs. corrected p (factors rates xs)) e ∙ ap (corrected p) m ∙ corrected-more p (factors rates (reserve_days kinds from day)) (factor_on rates day)) in
    let rest = more-prices kinds rates from day g is e ps in
    cc

-- a reserve day with a rate
pub corrected-further : (kinds : ℕ → DayKind) (rates : ℕ → Option ℕ) (from day g : ℕ) (prices now next : List ℕ) → from ≤ day → is_reserve (kinds day) ≡ true
    → (is_some (rates day) ≡ true) × (g ≡ factor_on rates day) × (g ≤ 100275437) → next ≡ map (λ p. corrected_day p g) now
    → ((i : ℕ) → get_or now i 0 ≤ 90000000000)
    → CorrectedTo kinds rates from day prices now → CorrectedTo kinds rates from (day + 1) prices next
corrected-further kinds rates from day g prices now next h a-day has is fits c =
    let e : reserve_days kinds from (day + 1) ≡ reserve_days kinds from day ++ day ∷ [] =
    days-more is_reserve kinds from day h ∙ ap (λ b. reserve_days kinds from day ++ cond b (day ∷ []) []) a-day in
    let k : filter (is_unrated rates) (reserve_days kinds from day ++ day ∷ []) ≡ [] =
    filter-append (is_unrated rates) (reserve_days kinds from day) (day ∷ [])
    ∙ ap (λ xs. xs ++ filter (is_unrated rates) (day ∷ [])) c.rated
    ∙ ap (λ b. cond (not b) (day ∷ []) []) has.0 in
    let n : length (reserve_days kinds from (day + 1)) ≡ length (reserve_days kinds from day) + 1 =
    ap length e ∙ length-append (reserve_days kinds from day) (day ∷ []) in
    record {
      value = is ∙ ap (map (λ p. corrected_day p g)) c.value ∙ more-prices kinds rates from day g has.1 e prices;
      rated = ap (filter (is_unrated rates)) e ∙ k;
      most = λ i.
          let b = c.most i in
          let o = one-day (get_or now i 0) g (fits i) has.2 in
          rw (is, get_or-corrected g now i) (omega arith);
    }

-- the days of a part are no more than those of the whole
fewer : (kinds : ℕ → DayKind) (from day to : ℕ) → from ≤ day → day ≤ to → length (reserve_days kinds from day) ≤ length (reserve_days kinds from to)
fewer kinds from day to h l =
    let e = ap length (days-split is_reserve kinds from day to h l) ∙ length-append (reserve_days kinds from day) (reserve_days kinds day to) in omega arith

-- prices on the way stay small enough for one day more
pub small : (kinds : ℕ → DayKind) → ((d : ℕ) → 36524 < d → kinds d ≡ ClosedDay) → (rates : ℕ → Option ℕ) (from to end day : ℕ) (prices now : List ℕ) → end ≡ min to 36525
    → length (reserve_days kinds from to) ≤ MAX_GAP_DAYS → from ≤ day → day < end → CorrectedTo kinds rates from day prices now → (i : ℕ) → get_or now i 0 ≤ 90000000000
small kinds ends rates from to end day prices now e few h l c i =
    let w = ap length (whole kinds ends from to end e) in
    let f = fewer kinds from day end h (omega arith) in
    let m = c.most i in
    omega arith

-- a reserve day without a rate is the first such of every gap that holds it
pub missing : (kinds : ℕ → DayKind) (rates : ℕ → Option ℕ) (from day : ℕ) (prices now : List ℕ) → from ≤ day → is_reserve (kinds day) ≡ true → rates day ≡ None
    → CorrectedTo kinds rates from day prices now → (to : ℕ) → day < to → first_unrated rates (reserve_days kinds from to) ≡ Some day
missing kinds rates from day prices now h a-day none c to l =
    ap (first_unrated rates) (days-split is_reserve kinds from day to h (omega arith))
    ∙ ap first_in (filter-append (is_unrated rates) (reserve_days kinds from day) (reserve_days kinds day to)
    ∙ ap (λ xs. xs ++ filter (is_unrated rates) (reserve_days kinds day to)) c.rated
    ∙ ap (filter (is_unrated rates)) (days-head is_reserve kinds day to l ∙ ap (λ b. cond b (day ∷ reserve_days kinds (day + 1) to) (reserve_days kinds (day + 1) to)) a-day)
    ∙ ap (λ b. cond b (day ∷ filter (is_unrated rates) (reserve_days kinds (day + 1) to)) (filter (is_unrated rates) (reserve_days kinds (day + 1) to))) (ap (λ r. not (is_some r)) none))

-- the whole gap is walked
pub arrived : (kinds : ℕ → DayKind) → ((d : ℕ) → 36524 < d → kinds d ≡ ClosedDay) → (rates : ℕ → Option ℕ) (from to end day : ℕ) (prices now : List ℕ) → end ≡ min to 36525
    → end ≤ day → (from ≤ end → day ≤ end) → (end ≤ from → now ≡ prices) → CorrectedTo kinds rates from day prices now
    → (first_unrated rates (reserve_days kinds from to) ≡ None) × (now ≡ corrected_prices kinds rates from to prices)
arrived kinds ends rates from to end day prices now e past upto still c = by (end - from) refl
  where
    by : (n : ℕ) → end - from ≡ n → (first_unrated rates (reserve_days kinds from to) ≡ None) × (now ≡ corrected_prices kinds rates from to prices)
    by zero f =
        let none = whole kinds ends from to end e ∙ days-none is_reserve kinds from end (omega arith) in
        (ap (first_unrated rates) none, still (omega arith) ∙ sym (same-prices kinds rates from to none prices))
    by (suc n) f =
        let u = upto (omega arith) in
        let d : day ≡ end = omega arith in
        let all = ap (reserve_days kinds from) d ∙ sym (whole kinds ends from to end e) in
        (ap first_in (ap (filter (is_unrated rates)) (sym all) ∙ c.rated), c.value ∙ ap (λ xs. map (λ p. corrected p (factors rates xs)) prices) all)
