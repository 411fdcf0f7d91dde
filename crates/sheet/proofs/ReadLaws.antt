-- From what reading found to what the bytes are. Assumes nothing.
use Rattle.std.proofs.Common.{◌≡◌, ℕ, zero, suc, ◌+◌, ◌*◌, ◌<◌, ◌≤◌, Bool, true, false, cond, not, List, [], ◌∷◌, length, get_or, drop, Some, None, Ok, Err, Option, Result, option_map, inl, inr, refl, sym, ap, ◌∙◌, subst, arith, w8, Fits, IfOk, MatchOption}
use Rattle.std.proofs.ByRecursion.{All-from_get_or}
use Rattle.std.specs.Bool.{◌==◌}
use Rattle.std.specs.List.{slice_get}
use Rattle.std.specs.Result.{result_err}
use Rattle.std.proofs.lemmas.Bool.{cases_eq, false_from_ne_true, le-ltb, ltb-false}
use Rattle.std.proofs.lemmas.Bool.Decides.{Decides-eqb}
use Rattle.std.proofs.lemmas.List.{drop_all, drop_more}
use Rattle.std.proofs.lemmas.Option.{slice_get_cases, slice_get_within, get_or_from_slice_get, none-some}
use Rattle.rows.specs.Rows.{first_row}
use Rattle.rows.proofs.RowLaws.{none-first}
use Rattle.amounts.specs.declared.trades.TheConstants.{MAX_TRADES}
use Rattle.sheet.specs.declared.trade_line.TradeLine.{TradeLine}
use Rattle.sheet.specs.declared.fault.SheetFault.{SheetFault}
use Rattle.sheet.specs.declared.fault.SheetFault.TheVariants.{Day, Code}
use Rattle.sheet.specs.declared.view.SheetView.{SheetView}
use Rattle.sheet.specs.Codes.{month_of, is_code, NoCode}
use Rattle.sheet.specs.Sheet.{sheet_bytes, Valid, count_of, day_of, code_of, lines_of, trades_of, is_on, code_rows, read_fault}
use Rattle.sheet.specs.Views.{view_bytes, view_day, view_count, view_trades, Sound, Accepted, Outcome, ReadsBack}
use Rattle.sheet.proofs.CodeLaws.{decides-code}
use Rattle.sheet.proofs.SheetLaws.{Bytes, IsSheet, length-lines, written_back, read_back, read-valid}

pub bytes-from-fits : (b : List ℕ) → ((i : ℕ) → Fits w8 (get_or b i 0)) → Bytes b
bytes-from-fits b h = All-from_get_or (λ x. x < 256) b 0 (λ i _. (h i).fits)

pub trade-found : (b : List ℕ) (r : Option TradeLine) (t : TradeLine) → MatchOption r (NoCode b) (λ x. x ≡ t) → is_code b ≡ true → r ≡ Some t
trade-found b None t h is = let d = (decides-code b).0 is in absurd (h (month_of b) d.0 d.1)
trade-found b (Some x) t h is = ap Some h

true_from_not : (b : Bool) → not b ≡ false → b ≡ true
true_from_not true e = refl
true_from_not false e = absurd cc

-- ---- the lines without a code

module _ (b : List ℕ) where
  -- each line has a code
  all-coded : (n from : ℕ) → ((k : ℕ) → from ≤ k → k < from + n → is_code (code_of b k) ≡ true) → first_row (code_rows b from n) ≡ None
  all-coded zero from h = refl
  all-coded (suc n) from h =
      ap (λ c. cond (not c) (Some (Code from)) (first_row (code_rows b (from + 1) n))) (h from (omega arith) (omega arith))
      ∙ all-coded n (from + 1) (λ k l m. h k (omega arith) (omega arith))

  -- a line has no code, and each before it has one
  first-uncoded : (n from i : ℕ) → from ≤ i → i < from + n → is_code (code_of b i) ≡ false → ((k : ℕ) → from ≤ k → k < i → is_code (code_of b k) ≡ true)
      → first_row (code_rows b from n) ≡ Some (Code i)
  first-uncoded zero from i l m e h = absurd (omega arith)
  first-uncoded (suc n) from i l m e h = elim (cases_eq from i) [
    | inl same ↦ ap (λ c. cond (not c) (Some (Code from)) (first_row (code_rows b (from + 1) n))) (ap (λ k. is_code (code_of b k)) same ∙ e) ∙ ap (λ k. Some (Code k)) same
    | inr other ↦
        ap (λ c. cond (not c) (Some (Code from)) (first_row (code_rows b (from + 1) n))) (h from (omega arith) (omega arith))
        ∙ first-uncoded n (from + 1) i (omega arith) (omega arith) e (λ k p q. h k (omega arith) q)
  ]

  -- no line is without a code
  coded_from : (n from : ℕ) → first_row (code_rows b from n) ≡ None → (k : ℕ) → from ≤ k → k < from + n → is_code (code_of b k) ≡ true
  coded_from zero from e k l m = absurd (omega arith)
  coded_from (suc n) from e k l m =
      let p = none-first (not (is_code (code_of b from))) (Code from) (first_row (code_rows b (from + 1) n)) e in
      elim (cases_eq from k) [
        | inl same ↦ ap (λ j. is_code (code_of b j)) (sym same) ∙ true_from_not (is_code (code_of b from)) p.0
        | inr other ↦ coded_from n (from + 1) p.1 k (omega arith) (omega arith)
      ]

  pub coded-at : (n k : ℕ) → first_row (code_rows b 0 n) ≡ None → k < n → is_code (code_of b k) ≡ true
  coded-at n k e h = coded_from n 0 e k (omega arith) (omega arith)

  -- what a search for a line without a code finds
  pub first_bad : (n : ℕ) (r : Option ℕ)
      → MatchOption r ((k : ℕ) → 0 ≤ k → k < n → is_code (code_of b k) ≡ true)
      (λ i. (0 ≤ i) × (i < n) × (is_code (code_of b i) ≡ true → ⊥) × ((k : ℕ) → 0 ≤ k → k < i → is_code (code_of b k) ≡ true))
      → option_map Code r ≡ first_row (code_rows b 0 n)
  first_bad n None h = sym (all-coded n 0 (λ k l m. h k l (omega arith)))
  first_bad n (Some i) h = sym (first-uncoded n 0 i h.0 (omega (arith, h.1)) (false_from_ne_true (is_code (code_of b i)) h.2) h.3)

-- ---- the fault of bytes

-- behind the frame, the day and then the lines decide
pub past-frame : (b : List ℕ) (ticket : Option ℕ) (n : ℕ) → length b ≡ 4 + 16 * n → n ≤ MAX_TRADES → n ≡ count_of b
    → read_fault b ticket ≡ cond (not (is_on ticket (day_of b))) (Some Day) (first_row (code_rows b 0 n))
past-frame b ticket n long few is =
    let head = le-ltb (length b) 4 (omega arith) in
    let count = le-ltb MAX_TRADES (count_of b) (omega arith) in
    let whole : (length b == 4 + 16 * count_of b) ≡ true = (Decides-eqb (length b) (4 + 16 * count_of b)).1 (omega arith) in
    rw (head, count, whole, is)

-- a sheet of the ticket's day has no fault
pub faultless : (b : List ℕ) (ticket : Option ℕ) → IsSheet b → is_on ticket (day_of b) ≡ true → read_fault b ticket ≡ None
faultless b ticket s on =
    past-frame b ticket (count_of b) s.long s.few refl
    ∙ ap (λ c. cond (not c) (Some Day) (first_row (code_rows b 0 (count_of b)))) on
    ∙ all-coded b (count_of b) 0 (λ k l m. s.coded k (omega arith))

-- without a fault, bytes are a sheet of the ticket's day
pub sheet-found : (b : List ℕ) (ticket : Option ℕ) → read_fault b ticket ≡ None → IsSheet b × (is_on ticket (day_of b) ≡ true)
sheet-found b ticket e =
    let head = none-first _ _ _ e in
    let count = none-first _ _ _ head.1 in
    let whole = none-first _ _ _ count.1 in
    let day = none-first _ _ _ whole.1 in (
      record {
        few = ltb-false MAX_TRADES (count_of b) count.0;
        long = (Decides-eqb (length b) (4 + 16 * count_of b)).0 (true_from_not (length b == 4 + 16 * count_of b) whole.0);
        coded = λ line h. coded-at b (count_of b) line day.1 h;
      },
      true_from_not (is_on ticket (day_of b)) day.0,
    )

-- ---- the trades that are left from a line on

pub none_left : (ts : List TradeLine) (i : ℕ) → None ≡ slice_get ts i → drop i ts ≡ []
none_left ts i e = elim (slice_get_cases ts i).1 [
  | inl p ↦ absurd (none-some p.0 (e ∙ p.2))
  | inr p ↦ drop_all i ts p.0
]

pub one_left : (ts : List TradeLine) (i : ℕ) (t : TradeLine) → Some t ≡ slice_get ts i → drop i ts ≡ t ∷ drop (i + 1) ts
one_left ts i t e =
    drop_more ts i t (slice_get_within ts i t (sym e)) ∙ ap (λ (x : TradeLine). x ∷ drop (i + 1) ts) (get_or_from_slice_get ts i t t (sym e))

pub fewer_left : (ts : List TradeLine) (i : ℕ) (t : TradeLine) → Some t ≡ slice_get ts i → length (drop (i + 1) ts) < length (drop i ts)
fewer_left ts i t e = let l = ap length (one_left ts i t e) in omega arith

-- ---- views

-- a view is of a sheet
pub view-sheet : (v : SheetView) → IsSheet (view_bytes v)
view-sheet v =
    let n = v.frame.counted in
    record {
      few = subst (λ k. k ≤ MAX_TRADES) n v.frame.few;
      long = subst (λ k. length (view_bytes v) ≡ 4 + 16 * k) n v.frame.long;
      coded = λ line h. coded-at (view_bytes v) (view_count v) line v.coded (omega arith);
    }

pub view-sound : (v : SheetView) → Sound v
view-sound v = (faultless (view_bytes v) None (view-sheet v) refl, v.frame.counted, v.frame.dated)

-- a view has as many trades as its head counts, and no more than a sheet
pub few-trades : (v : SheetView) → length (view_trades v) ≤ MAX_TRADES
few-trades v = omega (arith, length-lines (view_count v) (view_bytes v), v.frame.few)

-- ---- what is read

pub accepted : (bytes : List ℕ) (ticket : Option ℕ) (v : SheetView) → Bytes bytes → view_bytes v ≡ bytes → read_fault bytes ticket ≡ None
    → Accepted bytes ticket v
accepted bytes ticket v b e none =
    let bb : Bytes (view_bytes v) = subst Bytes (sym e) b in
    let s = view-sheet v in
    let w = read_back (view_bytes v) bb s in
    let n = v.frame.counted in
    let m = v.frame.dated in
    let on : is_on ticket (day_of bytes) ≡ true = (sheet-found bytes ticket none).1 in
    record {
      sound = view-sound v;
      over = e;
      valid =
          subst (λ (x : ℕ). Valid x (lines_of (view_count v) (view_bytes v))) (sym m)
          (subst (λ (x : ℕ). Valid (day_of (view_bytes v)) (lines_of x (view_bytes v))) (sym n) (read-valid (view_bytes v) bb s));
      counted = length-lines (view_count v) (view_bytes v);
      written = cc;
      dated = ap (is_on ticket) (m ∙ ap day_of e) ∙ on;
    }

-- the bytes of a sheet
module _ (bytes : List ℕ) (day : ℕ) (ts : List TradeLine) (v : Valid day ts) (e : bytes ≡ sheet_bytes day ts) where
  day-is : day_of bytes ≡ day
  day-is = ap day_of e ∙ (written_back day ts v).day-back

  trades-are : trades_of bytes ≡ ts
  trades-are = ap trades_of e ∙ (written_back day ts v).trades-back

  no-fault : (ticket : Option ℕ) → is_on ticket day ≡ true → read_fault bytes ticket ≡ None
  no-fault ticket on = faultless bytes ticket (subst IsSheet (sym e) (written_back day ts v).sheet) (ap (is_on ticket) day-is ∙ on)

  view-is : (ticket : Option ℕ) (x : SheetView) → Accepted bytes ticket x → (view_day x ≡ day) × (view_trades x ≡ ts)
  view-is ticket x a =
      let o = a.over in
      let n = a.sound.1 in
      let m = a.sound.2 in
      let d = day-is in
      let t = trades-are in
      (cc, cc)

-- what was found is the outcome
pub outcome : (bytes : List ℕ) (ticket : Option ℕ) (r : Result SheetView SheetFault) → ((i : ℕ) → Fits w8 (get_or bytes i 0))
    → result_err r ≡ read_fault bytes ticket → IfOk r (λ v. view_bytes v ≡ bytes) → Outcome bytes ticket r
outcome bytes ticket (Ok v) b h over = accepted bytes ticket v (bytes-from-fits bytes b) over (sym h)
outcome bytes ticket (Err f) b h over = λ day ts v on e. none-some f (sym (no-fault bytes day ts v e ticket on) ∙ sym h)

pub reads-back : (bytes : List ℕ) (ticket : Option ℕ) (r : Result SheetView SheetFault) → Outcome bytes ticket r → ReadsBack bytes ticket r
reads-back bytes ticket (Ok x) h day ts v on e = view-is bytes day ts v e ticket x h
reads-back bytes ticket (Err f) h day ts v on e = h day ts v on e
