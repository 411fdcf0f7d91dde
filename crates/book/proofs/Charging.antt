-- What is due and what is held after a close.
use Rattle.std.proofs.Common.{◌≡◌, ℕ, zero, suc, ◌+◌, ◌<◌, List, [], ◌∷◌, ◌++◌, length, map, take, drop, Some, slice_get, get_or, slice_set, ℤ, ◌+ℤ◌, pos, refl, sym, ap, ◌∙◌, add-one, arith}
use borrow.Author.Differences.{ints}
use Rattle.std.specs.Int.{int_wrap, w64}
use Rattle.std.proofs.lemmas.Int.{int_wrap-add_left}
use Rattle.std.proofs.lemmas.List.{take_more}
use Rattle.amounts.specs.Sums.{total}
use Rattle.amounts.proofs.Totals.{total-append}
use Rattle.book.specs.Closes.{changed_each}

-- one more cell of a row is added
pub total-next : (cells : List ℤ) (i : ℕ) (sum new : ℤ) → i < length cells → sum ≡ int_wrap w64 (total (λ z. z) (take i cells)) → new ≡ int_wrap w64 (sum +ℤ get_or cells i (pos 0))
    → new ≡ int_wrap w64 (total (λ z. z) (take (i + 1) cells))
total-next cells i sum new inside so_far step =
    let x = get_or cells i (pos 0) in
    let one : total (λ z. z) (x ∷ []) ≡ x = omega (arith, ints) in
    let all : total (λ z. z) (take (i + 1) cells) ≡ total (λ z. z) (take i cells) +ℤ x =
    ap (total (λ z. z)) (take_more cells i (pos 0) inside) ∙ total-append (λ z. z) (take i cells) (x ∷ []) ∙ ap (λ z. total (λ z. z) (take i cells) +ℤ z) one in
    step ∙ ap (λ z. int_wrap w64 (z +ℤ x)) so_far ∙ int_wrap-add_left w64 (total (λ z. z) (take i cells)) x ∙ ap (int_wrap w64) (sym all)

module _ {X : Type 0} (change : ℕ → X → X) where
  each-more : (d : X) (xs : List X) (b i j : ℕ) → i < length xs → b + i ≡ j
      → slice_set (changed_each change b (take i xs) ++ drop i xs) i (change j (get_or (changed_each change b (take i xs) ++ drop i xs) i d)) ≡ changed_each change b (take (suc i) xs) ++ drop (suc i) xs
  each-more d [] b i j inside is = absurd (omega arith)
  each-more d (x ∷ xs) b zero j inside is = ap (λ n. change n x ∷ xs) (let e : j ≡ b = omega arith in e)
  each-more d (x ∷ xs) b (suc i) j inside is = ap (λ ys. change b x ∷ ys) (each-more d xs (b + 1) i j (omega arith) (omega arith))

  -- one more element is changed, of which the first are
  pub each-next : (d : X) (xs ys : List X) (i : ℕ) (v : X) → i < length xs → ys ≡ changed_each change 0 (take i xs) ++ drop i xs → v ≡ change i (get_or ys i d)
      → slice_set ys i v ≡ changed_each change 0 (take (i + 1) xs) ++ drop (i + 1) xs
  each-next d xs ys i v inside so_far here = rw (here, so_far, add-one) (each-more d xs 0 i i inside (omega arith))

  pub length-each : (xs : List X) (b : ℕ) → length (changed_each change b xs) ≡ length xs
  length-each [] b = refl
  length-each (x ∷ xs) b = ap (λ n. suc n) (length-each xs (b + 1))

  -- what the change leaves alone
  pub map-each : {Y : Type 0} (f : X → Y) → ((i : ℕ) (x : X) → f (change i x) ≡ f x) → (xs : List X) (b : ℕ) → map f (changed_each change b xs) ≡ map f xs
  map-each f same [] b = refl
  map-each f same (x ∷ xs) b = rw (same b x, map-each f same xs (b + 1)) refl

  -- what stands somewhere stood there before the change
  pub get_each : (xs : List X) (b i j : ℕ) (y : X) → b + i ≡ j → slice_get (changed_each change b xs) i ≡ Some y → (x : X) × (slice_get xs i ≡ Some x) × (y ≡ change j x)
  get_each [] b i j y is at = absurd cc
  get_each (x ∷ xs) b zero j y is at = (x, refl, let e : b ≡ j = omega arith in rw (← e) cc)
  get_each (x ∷ xs) b (suc i) j y is at = get_each xs (b + 1) i j y (omega arith) at

  pub get_or-each : (xs : List X) (b i j : ℕ) (d : X) → b + i ≡ j → i < length xs → get_or (changed_each change b xs) i d ≡ change j (get_or xs i d)
  get_or-each [] b i j d is inside = absurd (omega arith)
  get_or-each (x ∷ xs) b zero j d is inside = ap (λ n. change n x) (let e : b ≡ j = omega arith in e)
  get_or-each (x ∷ xs) b (suc i) j d is inside = get_or-each xs (b + 1) i j d (omega arith) (omega arith)
