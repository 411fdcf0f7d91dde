-- Rows written to an array, one after another.
use Rattle.std.proofs.Common.{◌≡◌, ℕ, zero, suc, ◌+◌, ◌*◌, ◌<◌, ◌≤◌, List, [], ◌∷◌, ◌++◌, length, get_or, take, drop, set, ℤ, sym, ap, ◌∙◌, add-one, suc-mul, zero-mul, append-nil, append_assoc, zero-add, arith}
use borrow.Rule.Slice.PartMut.{put_mid}
use Rattle.std.specs.List.{flat_map, range_with_len}
use Rattle.std.proofs.lemmas.Grind.{flat_map-append}
use Rattle.std.proofs.lemmas.List.{drop-drop, take_more_set, get_or_append_left, get_or-append-add}
use Rattle.std.proofs.lemmas.List.FromFn.{map-range_with_len_more, length-map-range_with_len, get_or-map-range_with_len}
use Rattle.std.proofs.lemmas.Slice.{drop-put_mid, take-put_mid}
use Rattle.amounts.specs.Rows.{row_of, rows_of, RowsStand}
use Rattle.amounts.proofs.Totals.{range-more}

-- one more cell of a row
pub row-more : (f : ℕ → ℤ) (row : List ℤ) (m : ℕ) (v : ℤ) → m < length row → take m row ≡ row_of m f → v ≡ f m → take (m + 1) (set row m v) ≡ row_of (m + 1) f
row-more f row m v inside so_far here =
    take_more_set row m v inside ∙ (λ i. so_far i ++ here i ∷ []) ∙ sym (map-range_with_len_more f 0 m m (zero-add m))

-- n rows of k cells are written, and the rest of the array is as before
pub record RowsWritten (n k : ℕ) (f : ℕ → ℕ → ℤ) (old new : List ℤ) : Type 0 where
  pub rows : take (n * k) new ≡ rows_of n k f
  pub rest : drop (n * k) new ≡ drop (n * k) old

-- one more row
pub rows-next : (n k w : ℕ) (f : ℕ → ℕ → ℤ) (old new row : List ℤ) → RowsWritten n k f old new → n * k + k ≤ length new → w ≡ k → length row ≡ k → row ≡ row_of (length row) (f n)
    → RowsWritten (n + 1) k f old (put_mid (n * k) w new row)
rows-next n k w f old new row h room width whole is =
    let next : (n + 1) * k ≡ n * k + k = ap (λ i. i * k) (add-one n) ∙ suc-mul n k in
    let single : flat_map (λ a. row_of k (f a)) (n ∷ []) ≡ row = append-nil (row_of k (f n)) ∙ sym (is ∙ ap (λ i. row_of i (f n)) whole) in
    let more : rows_of (n + 1) k f ≡ rows_of n k f ++ row =
    ap (flat_map (λ a. row_of k (f a))) (range-more 0 n ∙ ap (λ i. range_with_len 0 n ++ i ∷ []) (zero-add n))
    ∙ flat_map-append (λ a. row_of k (f a)) (range_with_len 0 n) (n ∷ []) ∙ ap (λ r. rows_of n k f ++ r) single in
    record {
      rows = take-put_mid (n * k) w new row ((n + 1) * k) (rw (whole, next)) (omega arith) ∙ ap (λ r. r ++ row) h.rows ∙ sym more;
      rest = drop-put_mid (n * k) w new row ((n + 1) * k) (omega arith) (omega arith) (whole ∙ sym width)
          ∙ rw next (sym (drop-drop k (n * k) new) ∙ ap (drop k) h.rest ∙ drop-drop k (n * k) old);
    }

-- ---- where an amount stands

module _ (k : ℕ) (f : ℕ → ℕ → ℤ) (rest : List ℤ) (m : ℕ) (d : ℤ) (inside : m < k) where
  -- in the rows of n accounts from b on
  stands-from : (n b a : ℕ) → a < n → get_or (flat_map (λ i. row_of k (f i)) (range_with_len b n) ++ rest) (a * k + m) d ≡ f (b + a) m
  stands-from zero b a below = absurd (omega arith)
  stands-from (suc n) b zero below =
      let here : zero * k + m ≡ m = rw (zero-mul k, zero-add m) in
      let width = length-map-range_with_len (f b) 0 k in
      let others = flat_map (λ i. row_of k (f i)) (range_with_len (b + 1) n) ++ rest in
      rw (here, append_assoc)
      (get_or_append_left (row_of k (f b)) others d m (omega arith) ∙ get_or-map-range_with_len (f b) 0 k m m d inside (zero-add m)
      ∙ ap (λ i. f i m) (let e : b ≡ b + zero = omega arith in e))
  stands-from (suc n) b (suc a) below =
      let width = length-map-range_with_len (f b) 0 k in
      let s = suc-mul a k in
      let here : suc a * k + m ≡ length (row_of k (f b)) + (a * k + m) = omega arith in
      rw (here, append_assoc)
      (get_or-append-add (row_of k (f b)) (flat_map (λ i. row_of k (f i)) (range_with_len (b + 1) n) ++ rest) (a * k + m) d ∙ stands-from n (b + 1) a (omega arith)
      ∙ ap (λ i. f i m) (let e : b + 1 + a ≡ b + suc a = omega arith in e))

pub rows-stand : RowsStand
rows-stand n k f old a m d below inside = stands-from k f (drop (n * k) old) m d inside n 0 a below ∙ ap (λ i. f i m) (zero-add a)
