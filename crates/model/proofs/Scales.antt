-- What amounts are multiplied by: products of factors and powers of 10^8 over joined ranges of days.
use Rattle.std.proofs.Common.{◌≡◌, ℕ, zero, suc, ◌+◌, ◌-◌, ◌*◌, ◌^◌, ◌<◌, ◌≤◌, Bool, true, false, List, [], ◌∷◌, ◌++◌, length, sum_by, Option, sym, refl, ap, ◌∙◌, mul_assoc, add-mul, one-mul, pow-suc, mul-zero, zero-mul, mul-one, add-one, add-zero, arith, pow-add}
use Rattle.std.specs.List.{range_with_len, AllByRecursion}
use Rattle.std.proofs.ByRecursion.{All-from_get_or, all_kept_by}
use Rattle.std.proofs.lemmas.List.FromFn.{length-range_with_len, get_or-range_with_len}
use Rattle.std.proofs.lemmas.List.{map-append, length-append}
use Rattle.std.proofs.lemmas.List.Sums.{sum_by-cons}
use Rattle.calendar.specs.declared.kind.DayKind.{DayKind}
use Rattle.calendar.specs.Kinds.{is_reserve}
use Rattle.calendar.specs.Spans.{days_by, reserve_days}
use Rattle.calendar.proofs.Spans.{days-none, days-head, days-split, count-more}
use Rattle.correction.specs.Gaps.{factor_on, factors}
use Rattle.interest.specs.Rounding.{product, drift}
use Rattle.model.specs.Value.{scale_of}

pub product-append : (xs ys : List ℕ) → product (xs ++ ys) ≡ product xs * product ys
product-append [] ys = sym (one-mul (product ys))
product-append (x ∷ xs) ys = rw (product-append xs ys) (sym (mul_assoc x (product xs) (product ys)))

-- sums that agree on each element
pub sums_same : {X : Type 0} (f g : X → ℕ) (xs : List X) → AllByRecursion (λ x. f x ≡ g x) xs → sum_by f xs ≡ sum_by g xs
sums_same f g [] h = refl
sums_same f g (x ∷ xs) h = omega (arith, sum_by-cons f x xs, sum_by-cons g x xs, h.0, sums_same f g xs h.1)

pub sums-times : {X : Type 0} (f : X → ℕ) (k : ℕ) (xs : List X) → sum_by (λ x. f x * k) xs ≡ sum_by f xs * k
sums-times f k [] = sym (zero-mul k)
sums-times f k (x ∷ xs) =
    rw (sum_by-cons (λ x. f x * k) x xs, sum_by-cons f x xs, add-mul (f x) (sum_by f xs) k) (omega (arith, sums-times f k xs))

module _ (kinds : ℕ → DayKind) where
  -- the reserve days of a range stand in it
  pub days-within : (from to : ℕ) → AllByRecursion (λ d. (from ≤ d) × (d < to)) (reserve_days kinds from to)
  unfolding days_by
  days-within from to =
      let days = range_with_len from (to - from) in
      all_kept_by (λ d. is_reserve (kinds d)) (λ d. (from ≤ d) × (d < to)) days
      (All-from_get_or (λ d. (from ≤ d) × (d < to)) days 0 (λ i l. let k : i < to - from = omega (arith, length-range_with_len from (to - from)) in
      rw (get_or-range_with_len from (to - from) i 0 k) (omega arith, omega arith)))

module _ (kinds : ℕ → DayKind) (rates : ℕ → Option ℕ) where
  -- the product of the factors of a range
  abbrev pub growth : ℕ → ℕ → ℕ
  growth from to = product (factors rates (reserve_days kinds from to))

  pub growth-split : (from mid to : ℕ) → from ≤ mid → mid ≤ to → growth from to ≡ growth from mid * growth mid to
  growth-split from mid to h l =
      rw (days-split is_reserve kinds from mid to h l, map-append (factor_on rates) (reserve_days kinds from mid) (reserve_days kinds mid to))
      (product-append (factors rates (reserve_days kinds from mid)) (factors rates (reserve_days kinds mid to)))

  pub growth-none : (day : ℕ) → growth day day ≡ 1
  growth-none day = rw (days-none is_reserve kinds day day (omega arith))

  module _ (first : ℕ) where
    -- 10^8 for each reserve day from the first
    abbrev pub unit : ℕ → ℕ
    unit d = 100000000 ^ length (reserve_days kinds first d)

    pub unit-split : (x y : ℕ) → first ≤ x → x ≤ y → unit y ≡ unit x * 100000000 ^ length (reserve_days kinds x y)
    unit-split x y h l =
        rw (days-split is_reserve kinds first x y h l, length-append (reserve_days kinds first x) (reserve_days kinds x y))
        (pow-add 100000000 (length (reserve_days kinds first x)) (length (reserve_days kinds x y)))

    -- scaled further
    pub scale-on : (x y d : ℕ) → d ≤ x → x ≤ y → scale_of kinds rates first y d ≡ scale_of kinds rates first x d * growth x y
    scale-on x y d h l = ap (λ n. unit d * n) (growth-split d x y h l) ∙ sym (mul_assoc (unit d) (growth d x) (growth x y))

    pub scale-here : (x : ℕ) → scale_of kinds rates first x x ≡ unit x
    scale-here x = ap (λ n. unit x * n) (growth-none x) ∙ mul-one (unit x)

    -- each reserve day of a range, scaled from the day after it
    abbrev scaled_days : ℕ → ℕ → ℕ
    scaled_days to from = sum_by (λ d. scale_of kinds rates first to (d + 1)) (reserve_days kinds from to)

    days-drift-by : (n from to : ℕ) → to - from ≡ n → first ≤ from
        → scaled_days to from ≡ unit from * drift (factors rates (reserve_days kinds from to))
    days-drift-by zero from to e h = rw (days-none is_reserve kinds from to (omega arith)) (sym (mul-zero (unit from)))
    days-drift-by (suc n) from to e h = by (is_reserve (kinds from)) refl (days-drift-by n (from + 1) to (omega arith) (omega arith))
      where
        l : from < to
        l = omega arith

        shape : (u g d : ℕ) → u * 100000000 * g + u * 100000000 * d ≡ u * (100000000 * (g + d))
        shape u g d = omega arith

        by : (b : Bool) → is_reserve (kinds from) ≡ b
            → scaled_days to (from + 1) ≡ unit (from + 1) * drift (factors rates (reserve_days kinds (from + 1) to))
            → scaled_days to from ≡ unit from * drift (factors rates (reserve_days kinds from to))
        by true is more =
            let n = length (reserve_days kinds first from) in
            let u : unit (from + 1) ≡ unit from * 100000000 = rw (count-more is_reserve kinds first from h, is, add-one n, pow-suc 100000000 n) refl in
            rw (days-head is_reserve kinds from to l, is, sum_by-cons (λ d. scale_of kinds rates first to (d + 1)) from (reserve_days kinds (from + 1) to), more, u)
            (shape (unit from) (growth (from + 1) to) (drift (factors rates (reserve_days kinds (from + 1) to))))
        by false is more =
            let u : unit (from + 1) ≡ unit from = rw (count-more is_reserve kinds first from h, is, add-zero (length (reserve_days kinds first from))) refl in
            rw (days-head is_reserve kinds from to l, is, more, u) refl

    pub days-drift : (from to : ℕ) → first ≤ from → scaled_days to from ≡ unit from * drift (factors rates (reserve_days kinds from to))
    days-drift from to h = days-drift-by (to - from) from to refl h
