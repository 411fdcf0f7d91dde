-- A month's code names that month, and no other. Assumes nothing.
use Rattle.std.proofs.Common.{◌≡◌, ℕ, ◌+◌, ◌*◌, ◌/◌, ◌%◌, ◌<◌, ◌≤◌, true, eqb, leb, List, [], ◌∷◌, ◌++◌, length, get_or, decimal, is_some, Some, None, Option, Decides, MatchOption, sym, refl, ap, ◌∙◌, arith}
use lib.Utf8.{encode}
use Rattle.std.proofs.lemmas.Str.Ascii.{encode_ascii}
use Rattle.std.proofs.lemmas.Fmt.{decimal_digit}
use Rattle.std.proofs.lemmas.List.FromFn.{fill_by_all}
use Rattle.std.proofs.lemmas.Bool.{eqb-true, leb-true, le-leb, false_from_ne_true, agree_below_at}
use Rattle.std.proofs.lemmas.Bool.Decides.{Decides-and}
use Rattle.std.proofs.lemmas.Slice.Eq.{bytes_eq-Decides}
use Rattle.std.specs.Str.{bytes_eq}
use Rattle.dates.specs.declared.TheConstants.{LAST_MONTH}
use Rattle.sheet.specs.declared.code.ContractCode.{ContractCode}
use Rattle.sheet.specs.Codes.{letters, letter_of, code_bytes, Names, NoCode, place_in, month_of, is_code}

-- a byte that is no digit, where the year's digits stand
pub no-tens : (b : List ℕ) → ((d : ℕ) → d < 10 → get_or b 4 0 ≡ 48 + d → ⊥) → NoCode b
no-tens b none m le e = none (m / 12 / 10) (omega arith) (ap (λ l. get_or l 4 0) e)

pub no_ones : (b : List ℕ) → ((d : ℕ) → d < 10 → get_or b 5 0 ≡ 48 + d → ⊥) → NoCode b
no_ones b none m le e = none (m / 12 % 10) (omega arith) (ap (λ l. get_or l 5 0) e)

-- a letter and two digits make the code of the month that they count
pub code-made : (l t o : ℕ) → l < 12 → t < 10 → o < 10
    → code_bytes (12 * (10 * t + o) + l) ≡ 68 ∷ 73 ∷ 49 ∷ letter_of l ∷ (48 + t) ∷ (48 + o) ∷ []
code-made l t o hl ht ho =
    let a : (12 * (10 * t + o) + l) % 12 ≡ l = omega arith in
    let b : (12 * (10 * t + o) + l) / 12 / 10 ≡ t = omega arith in
    let d : (12 * (10 * t + o) + l) / 12 % 10 ≡ o = omega arith in
    cc

-- the place of a letter is its month
pub place-letter : (l : ℕ) → l < 12 → place_in letters (letter_of l) ≡ l
place-letter l h = eqb-true (place_in letters (letter_of l)) l (agree_below_at (λ k. eqb (place_in letters (letter_of k)) k) (λ _. true) 12 l refl h)

pub month-back : (m : ℕ) → m ≤ LAST_MONTH → month_of (code_bytes m) ≡ m
month-back m h =
    let p = place-letter (m % 12) (omega arith) in
    omega arith

-- the code of a month: the bytes name a month, and are its code
pub decides-code : (b : List ℕ) → Decides (is_code b) ((month_of b ≤ LAST_MONTH) × (b ≡ code_bytes (month_of b)))
decides-code b =
    Decides-and (leb (month_of b) LAST_MONTH) (bytes_eq b (code_bytes (month_of b)))
    (leb-true (month_of b) LAST_MONTH, le-leb (month_of b) LAST_MONTH) (bytes_eq-Decides b (code_bytes (month_of b)))

pub code-back : (m : ℕ) → m ≤ LAST_MONTH → is_code (code_bytes m) ≡ true
code-back m h =
    let e = month-back m h in
    (decides-code (code_bytes m)).1 (omega arith, ap code_bytes (sym e))

-- a month's bytes are the code of no other month
pub names-only : (b : List ℕ) (m : ℕ) → m ≤ LAST_MONTH → b ≡ code_bytes m → Names b m
names-only b m h e =
    let n : m ≡ month_of b = sym (ap month_of e ∙ month-back m h) in
    (e, n, λ k le d. let x : k ≡ month_of b = sym (ap month_of d ∙ month-back k le) in x ∙ sym n)

-- bytes that are read as a code
pub code_read : (b : List ℕ) (l t o : ℕ) → length b ≡ 6 → get_or b 0 0 ≡ 68 → get_or b 1 0 ≡ 73 → get_or b 2 0 ≡ 49
    → (l < 12) × (letter_of l ≡ get_or b 3 0) → (t < 10) × (get_or b 4 0 ≡ 48 + t) → (o < 10) × (get_or b 5 0 ≡ 48 + o)
    → Names b (12 * (10 * t + o) + l)
code_read b l t o n e₀ e₁ e₂ hl ht ho =
    let s = fill_by_all (λ k. get_or b k 0) b 6 0 n (λ _ _. refl) in
    let m = code-made l t o hl.0 ht.0 ho.0 in
    let e : b ≡ code_bytes (12 * (10 * t + o) + l) = cc (hl.1, ht.1, ho.1) in
    names-only b (12 * (10 * t + o) + l) (omega (arith, hl.0, ht.0, ho.0)) e

-- the letter and the digits of a code, as they are printed
pub code-shown : (m c t o : ℕ) → (c ≡ letter_of (m % 12)) × (c < 128) → (t ≡ m / 12 / 10) × (t < 10) → (o ≡ m / 12 % 10) × (o < 10)
    → 68 ∷ 73 ∷ 49 ∷ (encode c ++ (decimal t ++ decimal o)) ≡ code_bytes m
code-shown m c t o ec et eo =
    let x = encode_ascii c ec.1 in
    let y = decimal_digit t et.1 in
    let z = decimal_digit o eo.1 in
    rw (x, y, z, ec.0, et.0, eo.0)
