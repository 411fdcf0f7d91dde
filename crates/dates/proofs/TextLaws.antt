-- Dates as ten bytes of text.
use Rattle.std.proofs.Common.{◌≡◌, ℕ, ◌+◌, ◌-◌, ◌*◌, ◌/◌, ◌%◌, ◌^◌, ◌<◌, ◌≤◌, inl, inr, ◌++◌, List, length, get_or, refl, arith}
use Rattle.std.specs.Fmt.{styled_decimal, format_spec, padded_integral, char_count}
use Rattle.std.proofs.lemmas.Bool.{cases_lt}
use Rattle.std.proofs.lemmas.List.FromFn.{fill_by_all}
use Rattle.std.proofs.lemmas.Fmt.{decimal_digit, decimal_step}
use Rattle.dates.specs.DateParts.{month_number, two_digits, date_text, AreDigitsOf, HasDateForm, IsTextOfNoDate}
use Rattle.dates.proofs.MonthLaws.{length_bound}

-- the text of a date has the form of one
pub undated : (bs : List ℕ) → (HasDateForm bs → ⊥) → IsTextOfNoDate bs
undated bs no-form y m d r e =
    let l = length_bound (month_number y m) in
    no-form (y, m, d, (omega arith, omega arith, omega arith, e))

-- bs has the two digits of n from place i on
abbrev Pair : List ℕ → ℕ → ℕ → Type 0
Pair bs i n = AreDigitsOf (get_or bs i 0) (get_or bs (i + 1) 0) n

pub text-is : (bs : List ℕ) (p q m d : ℕ) → length bs ≡ 10 → Pair bs 0 p → Pair bs 2 q → get_or bs 4 0 ≡ 45
    → Pair bs 5 m → get_or bs 7 0 ≡ 45 → Pair bs 8 d → bs ≡ date_text (100 * p + q) m d
text-is bs p q m d l a b x e y f =
    let c : (100 * p + q) / 100 ≡ p = omega arith in
    let o : (100 * p + q) % 100 ≡ q = omega arith in
    let t = fill_by_all (λ i. get_or bs i 0) bs 10 0 l (λ i h. refl) in
    rw (c, o) (cc)

-- what `{:02}` writes
pub shown_in_two : (n : ℕ) → n < 100 → styled_decimal (format_spec 32 0 4 2 (2 ^ 64 - 1)) n ≡ two_digits n
unfolding padded_integral char_count
shown_in_two n small = elim (cases_lt n 10) [
  | inl one ↦ let high : n / 10 ≡ 0 = omega arith in let low : n % 10 ≡ n = omega arith in rw (decimal_digit n one, high, low)
  | inr two ↦ let t : n / 10 < 10 = omega arith in rw (decimal_step n two (omega arith), decimal_digit (n / 10) t)
]

-- what `{:04}` writes of a year
pub shown_in_four : (n : ℕ) → 1000 ≤ n → n < 10000 → styled_decimal (format_spec 32 0 4 4 (2 ^ 64 - 1)) n ≡ two_digits (n / 100) ++ two_digits (n % 100)
unfolding padded_integral char_count
shown_in_four n some small =
    let a : n / 10 / 10 / 10 ≡ n / 100 / 10 = omega arith in
    let b : n / 10 / 10 % 10 ≡ n / 100 % 10 = omega arith in
    let d : n / 10 % 10 ≡ n % 100 / 10 = omega arith in
    let e : n % 10 ≡ n % 100 % 10 = omega arith in
    let s : n / 10 / 10 / 10 < 10 = omega arith in
    rw (decimal_step n (omega arith) (omega arith), decimal_step (n / 10) (omega arith) (omega arith), decimal_step (n / 10 / 10) (omega arith) (omega arith), decimal_digit (n / 10 / 10 / 10) s, a, b, d, e)
