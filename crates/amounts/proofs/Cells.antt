-- Tables with a cell for each account and month: one of a single value, and a write at one cell.
use Rattle.std.proofs.Common.{◌≡◌, ℕ, ◌<◌, ◌⊎◌, List, length, get_or, set, replicate, ◌∙◌, inl, inr, arith, length-set, get_or-set_same, get_or-set_other}
use Rattle.std.proofs.lemmas.Bool.{cases_eq}
use Rattle.std.proofs.lemmas.List.{length-replicate, get_or-replicate}
use Rattle.amounts.specs.Tables.{place_of, EachCell}

pub each-replicate : {X : Type 0} (P : ℕ → ℕ → X → Type 0) (v : X) (n : ℕ) → n ≡ 512 → ((a m : ℕ) → P a m v) → EachCell P (replicate n v)
each-replicate P v n e h = record {
  size = length-replicate n v ∙ e;
  each = λ a m d ha hm. rw (get_or-replicate n (place_of a m) v d (omega arith)) (h a m);
}

module _ {X : Type 0} (P Q : ℕ → ℕ → X → Type 0) where
  -- what the new cell is, and what stays true of the others
  pub each-set : (xs : List X) (p q : ℕ) (v : X) → EachCell P xs → p < 32 → q < 16
      → Q p q v
      → ((a m : ℕ) (x : X) → ((a ≡ p) × (m ≡ q) → ⊥) → P a m x → Q a m x)
      → EachCell Q (set xs (place_of p q) v)
  each-set xs p q v e hp hq here other = record {
    size = length-set xs (place_of p q) v ∙ e.size;
    each = λ a m d ha hm. at a m d ha hm (cases_eq (place_of a m) (place_of p q));
  }
    where
      at : (a m : ℕ) (d : X) → a < 32 → m < 16 → (place_of a m ≡ place_of p q) ⊎ (place_of a m ≡ place_of p q → ⊥)
          → Q a m (get_or (set xs (place_of p q) v) (place_of a m) d)
      at a m d ha hm (inl same) =
          let s = e.size in
          let ea : a ≡ p = omega arith in
          let em : m ≡ q = omega arith in
          let inside : place_of p q < length xs = omega arith in
          rw (ea, em, get_or-set_same xs (place_of p q) v d inside) here
      at a m d ha hm (inr differs) =
          rw (get_or-set_other xs (place_of p q) (place_of a m) v d differs)
          (other a m (get_or xs (place_of a m) d) (λ h. differs (rw (h.0, h.1))) (e.each a m d ha hm))
