-- The first days of months in closed form, and the laws of the month of a day.
use Rattle.std.proofs.Common.{◌≡◌, ℕ, zero, suc, ◌+◌, ◌-◌, ◌*◌, ◌/◌, ◌%◌, ◌<◌, ◌≤◌, cond, eqb, leb, List, [], ◌∷◌, get_or, refl, subst, inl, inr, add-zero, add-suc, le_antisymm, add-one, arith}
use Rattle.std.proofs.lemmas.Bool.Decides.{nat_tests}
use Rattle.std.proofs.lemmas.Bool.{leb-true, leb-false, cases_eq, cases_lt, cond_both}
use Rattle.dates.specs.Months.{leap_year, days_in, month_length, first_day, begun_months, month_of, Holds}

pub first-day-zero : first_day 0 ≡ 0
unfolding first_day
first-day-zero = refl

pub first-day-suc : (m : ℕ) → first_day (m + 1) ≡ first_day m + month_length m
unfolding first_day
first-day-suc m = rw add-one

pub length_bound : (m : ℕ) → (28 ≤ month_length m) × (month_length m ≤ 31)
unfolding month_length
length_bound m = grind (arith, nat_tests)

-- the days before each month of a common year
abbrev pub before : List ℕ
before = 0 ∷ 31 ∷ 59 ∷ 90 ∷ 120 ∷ 151 ∷ 181 ∷ 212 ∷ 243 ∷ 273 ∷ 304 ∷ 334 ∷ []

-- the first day of month k of the year 2000 + y
abbrev pub start : ℕ → ℕ → ℕ
start y k = 365 * y + (y + 3) / 4 + get_or before k 0 + cond (leb 2 k) (cond (eqb (y % 4) 0) 1 0) 0

-- the first day of the month after it
abbrev next : ℕ → ℕ → ℕ
next y k = cond (eqb k 11) (start (y + 1) 0) (start y (k + 1))

steps : (y k : ℕ) → k < 12 → next y k ≡ start y k + days_in (leap_year (2000 + y)) k
steps y (suc (suc (suc (suc (suc (suc (suc (suc (suc (suc (suc (suc m)))))))))))) lt = absurd (omega arith)
steps y k lt = grind (arith, nat_tests)

-- the closed form of the first day
pub first-day-is : (m : ℕ) → first_day m ≡ start (m / 12) (m % 12)
unfolding first_day month_length
first-day-is zero = refl
first-day-is (suc m) =
    let i = first-day-is m in
    let s = steps (m / 12) (m % 12) (omega arith) in
    elim (cases_eq (m % 12) 11) [
      | inl e ↦
          let y : suc m / 12 ≡ m / 12 + 1 = omega arith in
          let k : suc m % 12 ≡ 0 = omega arith in
          rw (y, k) (grind (arith, nat_tests))
      | inr n ↦
          let y : suc m / 12 ≡ m / 12 = omega arith in
          let k : suc m % 12 ≡ m % 12 + 1 = omega arith in
          rw (y, k) (grind (arith, nat_tests))
    ]

-- a later month begins no earlier
pub first-day-grows : (m k : ℕ) → m ≤ k → first_day m ≤ first_day k
unfolding first_day
first-day-grows m k le = let e : m + (k - m) ≡ k = omega arith in rw e at (by (k - m))
  where
    by : (j : ℕ) → first_day m ≤ first_day (m + j)
    by zero = rw add-zero (omega arith)
    by (suc j) = rw add-suc (omega (arith, by j))

-- the month n, which is month k of the year 2000 + y, begins near 1461 / 48 * n
abbrev Close : ℕ → ℕ → ℕ → Type 0
Close n y k = (48 * start y k ≤ 1461 * n + 63) × (1461 * n ≤ 48 * start y k + 78)

close : (y k : ℕ) → k < 12 → Close (12 * y + k) y k
close y (suc (suc (suc (suc (suc (suc (suc (suc (suc (suc (suc (suc m)))))))))))) lt = absurd (omega arith)
close y k lt = grind (arith, nat_tests)

-- 1461 days to 48 months: how late and how early a month may begin
near : (m : ℕ) → (48 * first_day m ≤ 1461 * m + 63) × (1461 * m ≤ 48 * first_day m + 78)
near m =
    let e : 12 * (m / 12) + m % 12 ≡ m = omega arith in
    rw first-day-is (subst (λ (n : ℕ). Close n (m / 12) (m % 12)) e (close (m / 12) (m % 12) (omega arith)))

-- the day d lies in the month g or in the one after it
pub guess-fits : (d g : ℕ) → g ≡ (48 * d - 63) / 1461 → (first_day g ≤ d) × (d < first_day (g + 2))
guess-fits d zero e = omega (arith, first-day-zero, near 2)
guess-fits d (suc g) e = omega (arith, near (suc g), near (suc g + 2))

-- the months 0 to 1,199 have 36,525 days
pub days-end : first_day 1200 ≡ 36525
days-end = rw first-day-is

pub first-day-bound : (m : ℕ) → m ≤ 1199 → first_day m ≤ 36494
first-day-bound m h = omega (arith, first-day-grows m 1199 h, first-day-is 1199)

-- a month that has begun_months by a day is not after one that has not ended
not_after : (d m k : ℕ) → first_day m ≤ d → d < first_day (k + 1) → m ≤ k
not_after d m k from to =
    elim (cases_lt k m) [ inl l ↦ absurd (omega (arith, first-day-grows (k + 1) m (omega arith))) | inr l ↦ l ]

-- b of the months 1 to k have begun by the day d
abbrev Begun : ℕ → ℕ → ℕ → Type 0
Begun k d b = (b ≤ k) × (first_day b ≤ d) × (b < k → d < first_day (b + 1))

one_more : (k d b : ℕ) → Begun k d b → first_day (suc k) ≤ d → Begun (suc k) d (b + 1)
one_more k d b i h =
    elim (cases_lt b k) [
      | inl l ↦ absurd (omega (arith, not_after d (suc k) b h (i.2 l)))
      | inr l ↦ let s : b + 1 ≡ suc k = omega arith in (omega arith, rw s h, λ t. absurd (omega arith))
    ]

no_more : (k d b : ℕ) → Begun k d b → d < first_day (suc k) → Begun (suc k) d (b + 0)
no_more k d b i h =
    rw add-zero (
      omega arith,
      i.1,
      λ l. elim (cases_lt b k) [ inl t ↦ i.2 t | inr t ↦ let s : b + 1 ≡ suc k = omega arith in rw s h ],
    )

counts : (k d : ℕ) → Begun k d (begun_months k d)
unfolding begun_months
counts zero d = (omega arith, omega (arith, first-day-zero), λ h. absurd (omega arith))
counts (suc k) d =
    cond_both (leb (first_day (suc k)) d) 1 0 (λ n. Begun (suc k) d (begun_months k d + n))
    (λ e. one_more k d (begun_months k d) (counts k d) (leb-true _ _ e))
    (λ e. no_more k d (begun_months k d) (counts k d) (leb-false _ _ e))

-- the month of a day holds the day
pub month-holds : (d : ℕ) → d ≤ 36524 → (month_of d ≤ 1199) × Holds (month_of d) d
unfolding month_of
month-holds d h =
    let i = counts 1199 d in (
      i.0,
      (
        i.1,
        elim (cases_lt (begun_months 1199 d) 1199) [
          | inl l ↦ i.2 l
          | inr l ↦ let e : begun_months 1199 d + 1 ≡ 1200 = omega arith in rw e (omega (arith, days-end))
        ],
      ),
    )

-- a month that holds a day is its month
pub month-by : (d m : ℕ) → d ≤ 36524 → Holds m d → month_of d ≡ m
month-by d m h o =
    let i = month-holds d h in
    le_antisymm (not_after d (month_of d) m i.1.0 o.1) (not_after d m (month_of d) o.0 i.1.1)

pub month-is : (d m : ℕ) → first_day m ≤ d → d < first_day (m + 1) → m ≤ 1199 → month_of d ≡ m
month-is d m from to h =
    month-by d m (omega (arith, days-end, first-day-grows (m + 1) 1200 (omega arith))) (from, to)

-- the month that holds a day is the one that is asked for
pub month-found : (d m : ℕ) → d ≤ 36524 → Holds m d
    → (month_of d ≡ m) × (m ≤ 1199) × (d < first_day m + month_length m)
month-found d m h o = (month-by d m h o, omega (arith, month-by d m h o, month-holds d h), omega (arith, first-day-suc m))

-- a later day has no earlier month
pub month-grows : (d e : ℕ) → d ≤ e → month_of d ≤ month_of e
unfolding month_of begun_months
month-grows d e h = by 1199
  where
    by : (k : ℕ) → begun_months k d ≤ begun_months k e
    by zero = omega arith
    by (suc k) = let i = by k in grind (arith, nat_tests)
