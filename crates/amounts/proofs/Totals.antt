-- Sums with sign over lists: two lists joined, how great they are, and sums over a range of numbers.
use Rattle.std.proofs.Common.{◌≡◌, add-one, ℕ, zero, suc, ◌+◌, ◌*◌, ◌≤◌, List, [], ◌∷◌, ◌++◌, length, ℤ, pos, ◌+ℤ◌, ◌-ℤ◌, ◌*ℤ◌, nat_abs, sym, refl, ap, ◌∙◌, arith}
use lib.IntN.{zero-*ℤ}
use borrow.Author.Differences.{ints}
use Rattle.std.specs.List.{AllByRecursion, range_with_len}
use Rattle.amounts.specs.Sums.{total}
use Rattle.interest.proofs.Ring.{dist-r}

module _ {X : Type 0} (f : X → ℤ) where
  pub total-append : (xs ys : List X) → total f (xs ++ ys) ≡ total f xs +ℤ total f ys
  total-append [] ys = omega (arith, ints)
  total-append (x ∷ xs) ys = omega (arith, ints, total-append xs ys)

  pub total_size : (m : ℕ) (xs : List X) → AllByRecursion (λ x. nat_abs (f x) ≤ m) xs → nat_abs (total f xs) ≤ length xs * m
  total_size m [] h = omega arith
  total_size m (x ∷ xs) h = omega (arith, ints, h.0, total_size m xs h.1)

pub total-zero : {X : Type 0} (xs : List X) → total (λ _. pos 0) xs ≡ pos 0
total-zero [] = refl
total-zero (x ∷ xs) = omega (arith, ints, total-zero xs)

pub total-sum : {X : Type 0} (f g : X → ℤ) (xs : List X) → total (λ x. f x +ℤ g x) xs ≡ total f xs +ℤ total g xs
total-sum f g [] = refl
total-sum f g (x ∷ xs) = omega (arith, ints, total-sum f g xs)

pub total-less : {X : Type 0} (f g : X → ℤ) (xs : List X) → total (λ x. f x -ℤ g x) xs ≡ total f xs -ℤ total g xs
total-less f g [] = refl
total-less f g (x ∷ xs) = omega (arith, ints, total-less f g xs)

pub total-times : {X : Type 0} (f : X → ℤ) (k : ℤ) (xs : List X) → total (λ x. f x *ℤ k) xs ≡ total f xs *ℤ k
total-times f k [] = sym (zero-*ℤ k)
total-times f k (x ∷ xs) = ap (λ y. f x *ℤ k +ℤ y) (total-times f k xs) ∙ sym (dist-r (f x) (total f xs) k)

-- a range of one more number
one-more : (a n : ℕ) → range_with_len a (suc n) ≡ range_with_len a n ++ (a + n) ∷ []
one-more a zero = ap (λ x. x ∷ []) (let e : a ≡ a + 0 = omega arith in e)
one-more a (suc n) =
    ap (λ xs. a ∷ xs)
    (one-more (a + 1) n ∙ ap (λ x. range_with_len (a + 1) n ++ x ∷ []) (let e : a + 1 + n ≡ a + suc n = omega arith in e))

pub range-more : (a n : ℕ) → range_with_len a (n + 1) ≡ range_with_len a n ++ (a + n) ∷ []
range-more a n = ap (range_with_len a) (add-one n) ∙ one-more a n
