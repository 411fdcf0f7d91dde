-- Numbers as bytes, the lowest first, and back; parts of a list of bytes. Assumes nothing.
use Rattle.std.proofs.Common.{◌≡◌, ℕ, zero, suc, ◌+◌, ◌-◌, ◌*◌, ◌/◌, ◌%◌, ◌^◌, ◌<◌, ◌≤◌, List, [], ◌∷◌, ◌++◌, length, take, drop, sym, refl, ap, ◌∙◌, subst, pow-suc, arith, take-add}
use lib.Lanes.{chunk}
use Rattle.std.specs.List.{AllByRecursion}
use Rattle.std.proofs.lemmas.Nat.{div_below}
use Rattle.std.proofs.lemmas.List.{drop_at, drop-drop, take-take, drop-take}
use Rattle.sheet.specs.Sheet.{little, number}

pub number-little : (k n : ℕ) → n < 256 ^ k → number (little k n) ≡ n
number-little zero n h = omega arith
number-little (suc k) n h =
    let e = number-little k (n / 256) (div_below n 256 (256 ^ k) (omega arith) (rw pow-suc at h)) in
    rw e (omega arith)

pub little-number : (bs : List ℕ) → AllByRecursion (λ b. b < 256) bs → little (length bs) (number bs) ≡ bs
little-number [] h = refl
little-number (b ∷ bs) h =
    let l : b < 256 = h.0 in
    let m : (b + 256 * number bs) % 256 ≡ b = omega arith in
    let d : (b + 256 * number bs) / 256 ≡ number bs = omega arith in
    let e = little-number bs h.1 in
    rw (m, d, e)

pub number-below : (bs : List ℕ) → AllByRecursion (λ b. b < 256) bs → number bs < 256 ^ length bs
number-below [] h = omega arith
number-below (b ∷ bs) h = let l : b < 256 = h.0 in omega (arith, number-below bs h.1, pow-suc 256 (length bs))

-- a part behind a front, a part within a front, a part of a part, a part in two
pub chunk-past : {X : Type 0} (p q : List X) (n i k : ℕ) → length p ≡ n → chunk (n + i) k (p ++ q) ≡ chunk i k q
chunk-past p q n i k e = ap (take k) (sym (drop-drop i n (p ++ q)) ∙ ap (drop i) (drop_at p q n e))

pub chunk-chunk : {X : Type 0} (a n i k : ℕ) (b : List X) → i + k ≤ n → chunk i k (chunk a n b) ≡ chunk (a + i) k b
chunk-chunk a n i k b h =
    let e : i + (n - i) ≡ n = omega arith in
    let t = take-take k (n - i) (drop i (drop a b)) (omega arith) in
    let d : drop i (take n (drop a b)) ≡ take (n - i) (drop i (drop a b)) = subst (λ (x : ℕ). drop i (take x (drop a b)) ≡ take (n - i) (drop i (drop a b))) e (drop-take i (n - i) (drop a b)) in
    let s = drop-drop i a b in
    cc

pub chunk-split : {X : Type 0} (a i j : ℕ) (b : List X) → chunk a (i + j) b ≡ chunk a i b ++ chunk (a + i) j b
chunk-split a i j b = let t = take-add i j (drop a b) in let s = drop-drop j (a + i) b in let u = drop-drop i a b in cc
