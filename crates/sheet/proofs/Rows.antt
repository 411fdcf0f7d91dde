-- Rows of one width, joined. Assumes nothing.
use Rattle.std.proofs.Common.{◌≡◌, ℕ, zero, suc, ◌+◌, ◌-◌, ◌*◌, ◌<◌, List, [], ◌∷◌, ◌++◌, map, length, get_or, take, drop, sym, refl, ap, ◌∙◌, append_assoc, not-suc-le-zero, add-zero, mul-zero, mul-suc, add-one, arith}
use borrow.Rule.Slice.PartMut.{put_mid}
use lib.Lanes.{chunk}
use Rattle.std.specs.List.{range_with_len, flat_map}
use Rattle.std.proofs.lemmas.List.{take_at, drop_at, drop-drop, length-append, length-drop, take-append-drop, nil_from_length, flat_map_more, take_more, drop_all, append-nil, length-take-le}
use Rattle.sheet.proofs.Bytes.{chunk-past}

module _ {X : Type 0} (f : X → List ℕ) (w : ℕ) (wide : (x : X) → length (f x) ≡ w) where
  pub length-joined : (xs : List X) → length (flat_map f xs) ≡ w * length xs
  length-joined [] = sym (mul-zero w)
  length-joined (x ∷ xs) = rw length-append (omega (arith, wide x, length-joined xs, mul-suc w (length xs)))

  -- row i, with anything behind the rows
  pub row-joined : (xs : List X) (d : X) (rest : List ℕ) (i : ℕ) → i < length xs → chunk (w * i) w (flat_map f xs ++ rest) ≡ f (get_or xs i d)
  row-joined [] d rest i h = absurd (not-suc-le-zero h)
  row-joined (x ∷ xs) d rest zero h =
      let z = mul-zero w in
      let s = append_assoc (f x) (flat_map f xs) rest in
      let t = take_at (f x) (flat_map f xs ++ rest) w (wide x) in
      rw (mul-zero, append_assoc) t
  row-joined (x ∷ xs) d rest (suc i) h =
      let m : w * suc i ≡ w + w * i = omega (arith, mul-suc w i) in
      let s = chunk-past (f x) (flat_map f xs ++ rest) w (w * i) w (wide x) in
      let e = row-joined xs d rest i (omega arith) in
      rw (m, append_assoc) (s ∙ e)

  -- bytes whose rows are those of g, are those rows joined
  pub joined-rows : (g : ℕ → X) (n a : ℕ) (b : List ℕ) → length b ≡ w * n → ((i : ℕ) → i < n → chunk (w * i) w b ≡ f (g (a + i)))
      → b ≡ flat_map f (map g (range_with_len a n))
  joined-rows g zero a b e rows = nil_from_length b (omega (arith, mul-zero w))
  joined-rows g (suc n) a b e rows =
      let first : take w b ≡ f (g a) = let r = rows 0 (omega arith) in rw (mul-zero, add-zero) at r in
      let next = joined-rows g n (a + 1) (drop w b) (rw length-drop (omega (arith, mul-suc w n)))
      (λ i h. let m : w + w * i ≡ w * suc i = omega (arith, mul-suc w i) in
      let k : a + suc i ≡ (a + 1) + i = omega arith in
      let r = rows (suc i) (omega arith) in
      let d = drop-drop (w * i) w b in
      cc) in
      let t = take-append-drop w b in
      cc

-- ---- rows written behind one another

-- a part written straight behind what was written so far
pub part-more : {X : Type 0} (front old out row : List X) (at m : ℕ) → length front ≡ at → out ≡ front ++ drop at old
    → put_mid at m out row ≡ (front ++ row) ++ drop (at + m) old
part-more front old out row at m l e =
    let t : take at out ≡ front = rw e (take_at front (drop at old) at l) in
    let d : drop at out ≡ drop at old = rw e (drop_at front (drop at old) at l) in
    let n = drop-drop m at old in
    let s = append_assoc front row (drop (at + m) old) in
    cc

-- one row more
pub row_more : {X : Type 0} (f : X → List ℕ) (w : ℕ) → ((x : X) → length (f x) ≡ w) → (xs : List X) (d : X) (old out row : List ℕ) (i : ℕ)
    → i < length xs → row ≡ f (get_or xs i d) → out ≡ flat_map f (take i xs) ++ drop (w * i) old
    → put_mid (w * i) ((w * i + w) - w * i) out row ≡ flat_map f (take (i + 1) xs) ++ drop (w * (i + 1)) old
row_more f w wide xs d old out row i h r e =
    let k : (w * i + w) - w * i ≡ w = omega arith in
    let m : w * (i + 1) ≡ w * i + w = rw add-one (mul-suc w i) in
    let t : length (take i xs) ≡ i = length-take-le i xs (omega arith) in
    let l : length (flat_map f (take i xs)) ≡ w * i = length-joined f w wide (take i xs) ∙ ap (λ (n : ℕ). w * n) t in
    let p = part-more (flat_map f (take i xs)) old out row (w * i) w l e in
    let n = take_more xs i d h in
    let j = flat_map_more f [] (take i xs) (get_or xs i d) in
    cc

-- three parts, one behind the other
pub three-parts : (old p q r : List ℕ) (a b c : ℕ) → length p ≡ a → length q ≡ b
    → put_mid (a + b) c (put_mid a b (p ++ drop a old) q) r ≡ (p ++ (q ++ r)) ++ drop (a + b + c) old
three-parts old p q r a b c lp lq =
    let x = part-more p old (p ++ drop a old) q a b lp refl in
    let n : length (p ++ q) ≡ a + b = rw length-append (omega arith) in
    let y = part-more (p ++ q) old (put_mid a b (p ++ drop a old) q) r (a + b) c n x in
    y ∙ ap (λ (z : List ℕ). z ++ drop (a + b + c) old) (append_assoc p q r)
