-- The place of a number in a list.
use Rattle.std.proofs.Common.{◌≡◌, ℕ, ◌+◌, ◌<◌, Bool, true, false, cond, eqb, List, [], ◌∷◌, length, get_or, map, Some, Option, refl, sym, ap, ◌∙◌, add_comm, add-one, arith}
use Rattle.std.proofs.lemmas.Bool.{eqb-true}
use Rattle.std.specs.Bool.{◌==◌}
use Rattle.std.specs.List.{position, position_from}
use Rattle.std.specs.Option.{unwrap_or}
use Rattle.std.proofs.lemmas.Iterator.Adapters.{position_from-zero}
use Rattle.sheet.specs.Codes.{place_in}

-- what stands at the place of a number
pub at-place : (n : ℕ) (xs : List ℕ) → place_in xs n < length xs → get_or xs (place_in xs n) 0 ≡ n
at-place n [] l = absurd (omega arith)
at-place n (x ∷ xs) l = by (eqb n x) refl (at-place n xs) l
  where
    by : (b : Bool) → eqb n x ≡ b → (place_in xs n < length xs → get_or xs (place_in xs n) 0 ≡ n)
        → cond b 0 (1 + place_in xs n) < length (x ∷ xs) → get_or (x ∷ xs) (cond b 0 (1 + place_in xs n)) 0 ≡ n
    by true e i k = sym (eqb-true n x e)
    by false e i k = rw (add_comm 1 (place_in xs n), add-one) (i (omega arith))

-- the place by a search of rows that bear numbers
module _ {X : Type 0} (number : X → ℕ) (n : ℕ) where
  place-from : (rows : List X) (i : ℕ) → unwrap_or (position_from (λ row. n == number row) i rows) (i + length rows) ≡ i + place_in (map number rows) n
  place-from [] i = refl
  place-from (x ∷ xs) i = by (n == number x) (place-from xs (i + 1))
    where
      by : (b : Bool) → unwrap_or (position_from (λ row. n == number row) (i + 1) xs) (i + 1 + length xs) ≡ i + 1 + place_in (map number xs) n
          → unwrap_or (cond b (Some i) (position_from (λ row. n == number row) (i + 1) xs)) (i + length (x ∷ xs)) ≡ i + cond b 0 (1 + place_in (map number xs) n)
      by true e = let z : i ≡ i + 0 = omega arith in z
      by false e =
          let len : i + length (x ∷ xs) ≡ i + 1 + length xs = omega arith in
          let place : i + (1 + place_in (map number xs) n) ≡ i + 1 + place_in (map number xs) n = omega arith in
          ap (unwrap_or (position_from (λ row. n == number row) (i + 1) xs)) len ∙ e ∙ sym place

  pub place-is : (rows : List X) (o : Option ℕ) → o ≡ position (λ row. n == number row) rows → unwrap_or o (length rows) ≡ place_in (map number rows) n
  place-is rows o e =
      let z : 0 + length rows ≡ length rows = omega arith in
      let y : 0 + place_in (map number rows) n ≡ place_in (map number rows) n = omega arith in
      ap (λ x. unwrap_or x (length rows)) (e ∙ position_from-zero (λ row. n == number row) rows)
      ∙ ap (unwrap_or (position_from (λ row. n == number row) 0 rows)) (sym z) ∙ place-from rows 0 ∙ y
