-- What is written is read as its trades, and what is read is written as its bytes. Assumes nothing.
use Rattle.std.proofs.Common.{◌≡◌, ℕ, ◌+◌, ◌-◌, ◌*◌, ◌^◌, ◌<◌, ◌≤◌, Bool, true, false, leb, Decides, List, [], ◌++◌, length, get_or, take, drop, Some, None, sym, refl, ap, ◌∙◌, subst, arith}
use borrow.Rule.Slice.PartMut.{put_mid}
use lib.Lanes.{chunk}
use Rattle.std.specs.List.{flat_map, list_all, AllByRecursion, slice_get}
use Rattle.std.proofs.lemmas.Bool.{leb-true, le-leb, le-ltb}
use Rattle.std.proofs.lemmas.Bool.Decides.{Decides-and, not_from_Decides}
use Rattle.std.proofs.lemmas.List.FromFn.{fill_by_all, length-map-range_with_len, get_or-map-range_with_len}
use Rattle.std.proofs.ByRecursion.{Decides-by_and, All-take, All-drop, All-get_or, All-from_get_or}
use Rattle.std.proofs.lemmas.Simd.{length-chunk, chunk-drop}
use Rattle.std.proofs.lemmas.List.{length-append, length-drop, append-nil, take_all, take-append-drop, same_lists}
use Rattle.std.proofs.lemmas.Option.{slice_get-get_or, slice_get_past}
use Rattle.sheet.specs.declared.trade_line.TradeLine.{TradeLine}
use Rattle.dates.specs.declared.TheConstants.{LAST_MONTH}
use Rattle.amounts.specs.declared.trades.TheConstants.{MAX_TRADES}
use Rattle.sheet.specs.Codes.{code_bytes, month_of, is_code}
use Rattle.sheet.specs.Sheet.{little, number, sides, terms, sheet_bytes, are_listable, write_fault, FitsLine, Valid, count_of, day_of, sides_at, terms_at, code_of, trade_from, lines_of, trades_of}
use Rattle.sheet.proofs.CodeLaws.{month-back, decides-code, code-back}
use Rattle.sheet.proofs.Bytes.{number-little, little-number, number-below, chunk-past, chunk-chunk, chunk-split}
use Rattle.sheet.proofs.Rows.{length-joined, row-joined, joined-rows, three-parts}

-- bytes
abbrev pub Bytes : List ℕ → Type 0
Bytes b = AllByRecursion (λ x. x < 256) b

bytes-chunk : (a k : ℕ) (b : List ℕ) → Bytes b → Bytes (chunk a k b)
bytes-chunk a k b h = All-take (λ x. x < 256) k (drop a b) (All-drop (λ x. x < 256) a b h)

-- the bytes of a number that some of the bytes make
little-chunk : (a k : ℕ) (b : List ℕ) → Bytes b → a + k ≤ length b → little k (number (chunk a k b)) ≡ chunk a k b
little-chunk a k b h le =
    subst (λ (n : ℕ). little n (number (chunk a k b)) ≡ chunk a k b) (length-chunk a k b le) (little-number (chunk a k b) (bytes-chunk a k b h))

pub same-three : (a b c x y z : List ℕ) → a ≡ x → b ≡ y → c ≡ z → a ++ (b ++ c) ≡ x ++ (y ++ z)
same-three a b c x y z p q r = cc

in_four : (b a₀ a₁ a₂ a₃ r₁ r₂ r₃ x₀ x₁ x₂ x₃ : List ℕ) → b ≡ a₀ ++ r₁ → r₁ ≡ a₁ ++ r₂ → r₂ ≡ a₂ ++ r₃ → r₃ ≡ a₃
    → x₀ ≡ a₀ → x₁ ≡ a₁ → x₂ ≡ a₂ → x₃ ≡ a₃ → b ≡ x₀ ++ (x₁ ++ (x₂ ++ x₃))
in_four b a₀ a₁ a₂ a₃ r₁ r₂ r₃ x₀ x₁ x₂ x₃ p q r s e₀ e₁ e₂ e₃ = cc

-- ---- a line

-- a trade of zeros, where a list needs a default
abbrev pub blank : TradeLine
blank = record { buyer = 0; seller = 0; month = 0; rate = 0; quantity = 0 }

pub same-trade : (t : TradeLine) (m r q : ℕ) → m ≡ t.month → r ≡ t.rate → q ≡ t.quantity
    → record { buyer = t.buyer; seller = t.seller; month = m; rate = r; quantity = q } ≡ t
same-trade t m r q em er eq = λ i. record { buyer = t.buyer; seller = t.seller; month = em i; rate = er i; quantity = eq i }

pub trade-back : (t : TradeLine) → FitsLine t → t.month ≤ LAST_MONTH → trade_from (sides t) (terms t) ≡ t
trade-back t f m =
    same-trade t (month_of (code_bytes t.month)) (number (little 4 t.rate)) (number (little 4 t.quantity))
    (month-back t.month m) (number-little 4 t.rate (omega arith)) (number-little 4 t.quantity (omega arith))

pub sides-back : (s t : List ℕ) → length s ≡ 2 → sides (trade_from s t) ≡ s
sides-back s t e = sym (fill_by_all (λ k. get_or s k 0) s 2 0 e (λ _ _. refl))

pub terms-back : (s t : List ℕ) → length t ≡ 14 → Bytes t → is_code (take 6 t) ≡ true → terms (trade_from s t) ≡ t
terms-back s t e b c =
    let x = chunk-split 6 4 4 t in
    let y = take-append-drop 6 t in
    let z : chunk 6 8 t ≡ drop 6 t = take_all 8 (drop 6 t) (rw length-drop (omega arith)) in
    same-three (code_bytes (month_of (take 6 t))) (little 4 (number (chunk 6 4 t))) (little 4 (number (chunk 10 4 t)))
    (take 6 t) (chunk 6 4 t) (chunk 10 4 t)
    (sym ((decides-code (take 6 t)).0 c).1) (little-chunk 6 4 t b (omega arith)) (little-chunk 10 4 t b (omega arith))
    ∙ ap (λ (l : List ℕ). take 6 t ++ l) (sym x ∙ z) ∙ y

-- ---- lines

pub length-lines : (n : ℕ) (b : List ℕ) → length (lines_of n b) ≡ n
unfolding lines_of
length-lines n b = length-map-range_with_len (λ i. trade_from (sides_at b i) (terms_at n b i)) 0 n

pub get_or-lines : (n : ℕ) (b : List ℕ) (i : ℕ) (d : TradeLine) → i < n → get_or (lines_of n b) i d ≡ trade_from (sides_at b i) (terms_at n b i)
unfolding lines_of
get_or-lines n b i d h = get_or-map-range_with_len (λ j. trade_from (sides_at b j) (terms_at n b j)) 0 n i i d h (omega arith)

pub line_at : (n : ℕ) (b : List ℕ) (i : ℕ) → i < n → slice_get (lines_of n b) i ≡ Some (trade_from (sides_at b i) (terms_at n b i))
line_at n b i h =
    let d = blank in
    slice_get-get_or (lines_of n b) i d (omega (arith, length-lines n b)) ∙ ap Some (get_or-lines n b i d h)

pub line-past : (n : ℕ) (b : List ℕ) (i : ℕ) → n ≤ i → slice_get (lines_of n b) i ≡ None
line-past n b i h = slice_get_past (lines_of n b) i (omega (arith, length-lines n b))

-- ---- the bytes of a sheet

-- the rows of sides and of terms, and their lengths
pub wide-sides : (t : TradeLine) → length (sides t) ≡ 2
wide-sides t = refl

pub wide-terms : (t : TradeLine) → length (terms t) ≡ 14
wide-terms t = refl

pub length-sheet : (day : ℕ) (ts : List TradeLine) → length (sheet_bytes day ts) ≡ 4 + 16 * length ts
unfolding sheet_bytes
length-sheet day ts = simp length-append (omega (arith, length-joined sides 2 wide-sides ts, length-joined terms 14 wide-terms ts))

-- the count, the day and the rows of a sheet, written one behind the other
pub sheet-put : (day : ℕ) (ts : List TradeLine) (old p q rows : List ℕ)
    → p ≡ little 2 (length ts) → q ≡ little 2 day → rows ≡ flat_map sides ts ++ flat_map terms ts
    → put_mid 4 ((4 + 16 * length ts) - 4) (put_mid 2 2 (p ++ drop 2 old) q) rows ≡ sheet_bytes day ts ++ drop (4 + 16 * length ts) old
unfolding sheet_bytes
sheet-put day ts old p q rows ep eq er =
    let n = length ts in
    let k : (4 + 16 * n) - 4 ≡ 16 * n = omega arith in
    let three = three-parts old p q rows 2 2 (16 * n) (ap length ep) (ap length eq) in
    rw k (three ∙ ap (λ (z : List ℕ). z ++ drop (4 + 16 * n) old)
    (same-three p q rows (little 2 n) (little 2 day) (flat_map sides ts ++ flat_map terms ts) ep eq er))

-- the sides and the terms of a line that was written
pub sides-at : (day : ℕ) (ts : List TradeLine) (d : TradeLine) (i : ℕ) → i < length ts → chunk (4 + 2 * i) 2 (sheet_bytes day ts) ≡ sides (get_or ts i d)
unfolding sheet_bytes
sides-at day ts d i h =
    chunk-past (little 2 (length ts) ++ little 2 day) (flat_map sides ts ++ flat_map terms ts) 4 (2 * i) 2 refl
    ∙ row-joined sides 2 wide-sides ts d (flat_map terms ts) i h

pub terms-at : (day : ℕ) (ts : List TradeLine) (d : TradeLine) (i : ℕ) → i < length ts
    → chunk (4 + 2 * length ts + 14 * i) 14 (sheet_bytes day ts) ≡ terms (get_or ts i d)
unfolding sheet_bytes
terms-at day ts d i h =
    let n = length ts in
    let e : 4 + 2 * n + 14 * i ≡ 4 + (2 * n + 14 * i) = omega arith in
    ap (λ (k : ℕ). chunk k 14 (sheet_bytes day ts)) e
    ∙ chunk-past (little 2 n ++ little 2 day) (flat_map sides ts ++ flat_map terms ts) 4 (2 * n + 14 * i) 14 refl
    ∙ chunk-past (flat_map sides ts) (flat_map terms ts) (2 * n) (14 * i) 14 (length-joined sides 2 wide-sides ts)
    ∙ ap (λ (l : List ℕ). chunk (14 * i) 14 l) (sym (append-nil (flat_map terms ts)))
    ∙ row-joined terms 14 wide-terms ts d [] i h

-- the count and the day that were written
pub count_at : (day : ℕ) (ts : List TradeLine) → length ts ≤ MAX_TRADES → count_of (sheet_bytes day ts) ≡ length ts
unfolding sheet_bytes
count_at day ts h = number-little 2 (length ts) (omega arith)

pub day-at : (day : ℕ) (ts : List TradeLine) → day < 2 ^ 16 → day_of (sheet_bytes day ts) ≡ day
unfolding sheet_bytes
day-at day ts h = number-little 2 day (omega arith)

-- few trades, each in a month that has a code
abbrev pub Listable : List TradeLine → Type 0
Listable ts = (length ts ≤ MAX_TRADES) × AllByRecursion (λ t. t.month ≤ LAST_MONTH) ts

pub decides-listable : (ts : List TradeLine) → Decides (are_listable ts) (Listable ts)
decides-listable ts =
    Decides-and (leb (length ts) MAX_TRADES) (list_all (λ t. leb t.month LAST_MONTH) ts)
    (leb-true (length ts) MAX_TRADES, le-leb (length ts) MAX_TRADES)
    (Decides-by_and (λ t. leb t.month LAST_MONTH) (λ t. t.month ≤ LAST_MONTH) (list_all (λ t. leb t.month LAST_MONTH))
    (λ t. (leb-true t.month LAST_MONTH, le-leb t.month LAST_MONTH)) refl (λ _ _. refl) ts)

-- room enough and trades that make a sheet: nothing is at fault
pub writable : (room : ℕ) (ts : List TradeLine) (r : Bool) → Decides r (room < 4 + 16 * length ts) → r ≡ false → are_listable ts ≡ true → None ≡ write_fault room ts
writable room ts r short is listed =
    let fits = not_from_Decides r short is in
    let e = le-ltb room (4 + 16 * length ts) (omega arith) in
    rw (e, listed)

-- bytes whose count is in range, whose length is that of so many trades, and that have a code on each line
pub record IsSheet (b : List ℕ) : Type 0 where
  pub few : count_of b ≤ MAX_TRADES
  pub long : length b ≡ 4 + 16 * count_of b
  pub coded : (line : ℕ) → line < count_of b → is_code (code_of b line) ≡ true

-- what is written is a sheet, and is read as its day and its trades
pub record Back (day : ℕ) (ts : List TradeLine) : Type 0 where
  pub sheet : IsSheet (sheet_bytes day ts)
  pub day-back : day_of (sheet_bytes day ts) ≡ day
  pub trades-back : trades_of (sheet_bytes day ts) ≡ ts

module _ (day : ℕ) (ts : List TradeLine) (v : Valid day ts) where
  listable : Listable ts
  listable = (decides-listable ts).0 v.1

  count-is : count_of (sheet_bytes day ts) ≡ length ts
  count-is = count_at day ts listable.0

  terms-is : (d : TradeLine) (i : ℕ) → i < length ts → terms_at (count_of (sheet_bytes day ts)) (sheet_bytes day ts) i ≡ terms (get_or ts i d)
  terms-is d i h = ap (λ (n : ℕ). chunk (4 + 2 * n + 14 * i) 14 (sheet_bytes day ts)) count-is ∙ terms-at day ts d i h

  code_is : (d : TradeLine) (i : ℕ) → i < length ts → code_of (sheet_bytes day ts) i ≡ code_bytes (get_or ts i d).month
  code_is d i h = ap (take 6) (terms-is d i h)

  trade-is : (d : TradeLine) (i : ℕ) → i < length ts → trade_from (sides_at (sheet_bytes day ts) i) (terms_at (count_of (sheet_bytes day ts)) (sheet_bytes day ts) i) ≡ get_or ts i d
  trade-is d i h =
      let t = get_or ts i d in
      ap (λ (x : List ℕ). trade_from x (terms_at (count_of (sheet_bytes day ts)) (sheet_bytes day ts) i)) (sides-at day ts d i h)
      ∙ ap (λ (x : List ℕ). trade_from (sides t) x) (terms-is d i h)
      ∙ trade-back t (All-get_or FitsLine ts i d h v.2) (All-get_or (λ x. x.month ≤ LAST_MONTH) ts i d h listable.1)

  pub written_back : Back day ts
  written_back = record {
    sheet = record {
      few = omega (arith, count-is, listable.0);
      long = omega (arith, length-sheet day ts, count-is);
      coded = λ line h. let l : line < length ts = omega (arith, count-is) in
          let d = blank in
          ap is_code (code_is d line l) ∙ code-back (get_or ts line d).month (All-get_or (λ x. x.month ≤ LAST_MONTH) ts line d l listable.1);
    };
    day-back = day-at day ts v.0;
    trades-back =
        let b = sheet_bytes day ts in
        sym (same_lists ts (trades_of b) (omega (arith, length-lines (count_of b) b, count-is))
        (λ k d h. sym (get_or-lines (count_of b) b k d (omega (arith, count-is)) ∙ trade-is d k h)));
  }

-- ---- bytes that are read as a sheet
module _ (b : List ℕ) (bytes : Bytes b) (s : IsSheet b) where
  abbrev n : ℕ
  n = count_of b

  long : length b ≡ 4 + 16 * n
  long = s.long

  -- the two rows
  sides-rows : chunk 4 (2 * n) b ≡ flat_map sides (trades_of b)
  unfolding lines_of
  sides-rows =
      joined-rows sides 2 wide-sides (λ i. trade_from (sides_at b i) (terms_at (count_of b) b i)) n 0 (chunk 4 (2 * n) b)
      (length-chunk 4 (2 * n) b (omega (arith, long)))
      (λ i h.
      let k : 0 + i ≡ i = omega arith in
      rw k (chunk-chunk 4 (2 * n) (2 * i) 2 b (omega arith) ∙ sym (sides-back (sides_at b i) (terms_at (count_of b) b i) (length-chunk (4 + 2 * i) 2 b (omega (arith, long))))))

  terms-rows : chunk (4 + 2 * n) (14 * n) b ≡ flat_map terms (trades_of b)
  unfolding lines_of
  terms-rows =
      joined-rows terms 14 wide-terms (λ i. trade_from (sides_at b i) (terms_at (count_of b) b i)) n 0 (chunk (4 + 2 * n) (14 * n) b)
      (length-chunk (4 + 2 * n) (14 * n) b (omega (arith, long)))
      (λ i h.
      let k : 0 + i ≡ i = omega arith in
      rw k (chunk-chunk (4 + 2 * n) (14 * n) (14 * i) 14 b (omega arith)
      ∙ sym (terms-back (sides_at b i) (terms_at (count_of b) b i) (length-chunk (4 + 2 * n + 14 * i) 14 b (omega (arith, long))) (bytes-chunk (4 + 2 * n + 14 * i) 14 b bytes) (s.coded i h))))

  length-trades : length (trades_of b) ≡ n
  length-trades = length-lines n b

  pub read_back : b ≡ sheet_bytes (day_of b) (trades_of b)
  unfolding sheet_bytes
  read_back =
      in_four b (chunk 0 2 b) (chunk 2 2 b) (chunk 4 (2 * n) b) (chunk (4 + 2 * n) (14 * n) b) (drop 2 b) (drop 4 b) (drop (4 + 2 * n) b)
      (little 2 (length (trades_of b))) (little 2 (day_of b)) (flat_map sides (trades_of b)) (flat_map terms (trades_of b))
      (chunk-drop 0 2 b) (chunk-drop 2 2 b) (chunk-drop 4 (2 * n) b)
      (sym (take_all (14 * n) (drop (4 + 2 * n) b) (rw length-drop (omega (arith, long)))))
      (ap (little 2) length-trades ∙ little-chunk 0 2 b bytes (omega (arith, long))) (little-chunk 2 2 b bytes (omega (arith, long)))
      (sym sides-rows) (sym terms-rows)

  -- the number of four of the bytes of a line
  four_below : (i j : ℕ) → i < n → j + 4 ≤ 14 → number (chunk j 4 (terms_at (count_of b) b i)) < 2 ^ 32
  four_below i j h le =
      let t = length-chunk (4 + 2 * n + 14 * i) 14 b (omega (arith, long)) in
      let l = length-chunk j 4 (terms_at (count_of b) b i) (omega arith) in
      subst (λ (k : ℕ). number (chunk j 4 (terms_at (count_of b) b i)) < 256 ^ k) l
      (number-below (chunk j 4 (terms_at (count_of b) b i)) (bytes-chunk j 4 (terms_at (count_of b) b i) (bytes-chunk (4 + 2 * n + 14 * i) 14 b bytes)))

  side-below : (i j : ℕ) → i < n → j < 2 → get_or (sides_at b i) j 0 < 256
  side-below i j h le =
      let l = length-chunk (4 + 2 * i) 2 b (omega (arith, long)) in
      All-get_or (λ x. x < 256) (sides_at b i) j 0 (omega arith) (bytes-chunk (4 + 2 * i) 2 b bytes)

  -- what holds of the trade of each line
  each_line : (P : TradeLine → Type 0) → ((i : ℕ) → i < n → P (trade_from (sides_at b i) (terms_at n b i))) → AllByRecursion P (trades_of b)
  each_line P h =
      let d = blank in
      All-from_get_or P (trades_of b) d (λ i l. let k : i < n = omega (arith, length-trades) in subst P (sym (get_or-lines n b i d k)) (h i k))

  pub read-valid : Valid (day_of b) (trades_of b)
  read-valid =
      let l = length-chunk 2 2 b (omega (arith, long)) in (
        subst (λ (k : ℕ). day_of b < 256 ^ k) l (number-below (chunk 2 2 b) (bytes-chunk 2 2 b bytes)),
        (decides-listable (trades_of b)).1 (omega (arith, length-trades, s.few), each_line (λ t. t.month ≤ LAST_MONTH) (λ i h. ((decides-code (code_of b i)).0 (s.coded i h)).0)),
        each_line FitsLine (λ i h. (side-below i 0 h (omega arith), side-below i 1 h (omega arith), four_below i 6 h (omega arith), four_below i 10 h (omega arith))),
      )
