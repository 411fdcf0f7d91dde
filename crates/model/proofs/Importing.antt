-- Imports: each comes to one thing, and leaves a lawful history; the index of a line's month.
use Rattle.std.proofs.Common.{◌≡◌, ℕ, zero, suc, ◌+◌, ◌<◌, ◌≤◌, Bool, true, false, cond, not, ◌&&◌, ◌||◌, eqb, ltb, List, [], ◌∷◌, length, take, drop, get_or, Some, None, Option, option_map, sym, refl, ap, ◌∙◌, add_comm, add-one, arith}
use Rattle.std.specs.List.{list_any}
use Rattle.std.proofs.lemmas.Bool.{eqb-true, lt-ltb, ltb-true}
use Rattle.std.proofs.lemmas.Bool.Decides.{nat_tests}
use Rattle.rows.specs.Rows.{Reason, first_row}
use Rattle.sheet.specs.declared.fault.SheetFault.{SheetFault}
use Rattle.sheet.specs.declared.trade_line.TradeLine.{TradeLine}
use Rattle.sheet.specs.Codes.{place_in}
use Rattle.sheet.specs.Sheet.{trades_of, read_fault}
use Rattle.model.specs.History.{History, Traded}
use Rattle.model.specs.Imports.{line_trade, line_rows, Import, book_stop, stopped_or, import_lines, import_sheet, after_lines, AllAccepted, stop_at, InOrder, ImportsHold}
use Rattle.model.specs.Lawful.{Allowed, Lawful}
use Rattle.model.specs.Observed.{months_of, is_account, is_listed}
use Rattle.model.specs.References.{SessionReference}
use Rattle.model.specs.World.{World}

-- ---- lines in order

-- k of the lines are taken after n others
record InOrderFrom (w : World) (h : History) (ticket : SessionReference) (n : ℕ) (lines : List TradeLine) (k : ℕ) (i : Import) : Type 0 where
  taken : i.taken ≡ n + k
  within : k ≤ length lines
  accepted : AllAccepted w h ticket (take k lines)
  history : i.history ≡ after_lines w h (take k lines)
  stop : i.stop ≡ stop_at w i.history ticket i.taken (drop k lines)
  whole : i.stop ≡ None → k ≡ length lines

from-start : (w : World) (h : History) (ticket : SessionReference) (lines : List TradeLine) (k : ℕ) (i : Import) → InOrderFrom w h ticket 0 lines k i → InOrder w h ticket lines i
from-start w h ticket lines k i o =
    let e : k ≡ i.taken = let t = o.taken in omega arith in
    record {
      within = let b = o.within in omega arith;
      accepted = rw e at o.accepted;
      history = rw e at o.history;
      stop = rw e at o.stop;
      whole = λ none. sym e ∙ o.whole none;
    }

at-start : (w : World) (h : History) (ticket : SessionReference) (lines : List TradeLine) (i : Import) → InOrder w h ticket lines i → InOrderFrom w h ticket 0 lines i.taken i
at-start w h ticket lines i o =
    record { taken = omega arith; within = o.within; accepted = o.accepted; history = o.history; stop = o.stop; whole = o.whole }

-- a line more at the front
taken-more : (w : World) (h : History) (ticket : SessionReference) (n : ℕ) (t : TradeLine) (ts : List TradeLine) (k : ℕ) (i : Import) → Allowed (line_rows w h ticket t)
    → InOrderFrom w (Traded (line_trade w h t) ∷ h) ticket (n + 1) ts k i → InOrderFrom w h ticket n (t ∷ ts) (suc k) i
taken-more w h ticket n t ts k i a o = record {
  taken = let e = o.taken in omega arith;
  within = let e = o.within in omega arith;
  accepted = (a, o.accepted);
  history = o.history;
  stop = o.stop;
  whole = λ e. ap suc (o.whole e);
}

in-order : (w : World) (h : History) (ticket : SessionReference) (n : ℕ) (lines : List TradeLine) → (k : ℕ) × InOrderFrom w h ticket n lines k (import_lines w h ticket n lines)
in-order w h ticket n [] = (0, record { taken = omega arith; within = omega arith; accepted = tt; history = refl; stop = refl; whole = λ _. refl })
in-order w h ticket n (t ∷ ts) = by (first_row (line_rows w h ticket t)) refl (in-order w (Traded (line_trade w h t) ∷ h) ticket (n + 1) ts)
  where
    next : Import
    next = import_lines w (Traded (line_trade w h t) ∷ h) ticket (n + 1) ts

    by : (o : Option Reason) → first_row (line_rows w h ticket t) ≡ o → (k : ℕ) × InOrderFrom w (Traded (line_trade w h t) ∷ h) ticket (n + 1) ts k next
        → (k : ℕ) × InOrderFrom w h ticket n (t ∷ ts) k (stopped_or n h o next)
    by None e s = (suc s.0, taken-more w h ticket n t ts s.0 next e s.1)
    by (Some reason) e s = (
      0,
      record {
        taken = omega arith;
        within = omega arith;
        accepted = tt;
        history = refl;
        stop = ap (option_map (book_stop n)) (sym e);
        whole = λ none. absurd cc;
      },
    )

-- the same lines, taken in the same order
same : (i j : Import) → i.taken ≡ j.taken → i.stop ≡ j.stop → i.history ≡ j.history → i ≡ j
same i j taken stop history = λ x. record { taken = taken x; stop = stop x; history = history x }

refused-first : (w : World) (h : History) (ticket : SessionReference) (n : ℕ) (t : TradeLine) (ts : List TradeLine) (i : Import)
    → InOrderFrom w h ticket n (t ∷ ts) 0 i → Allowed (line_rows w h ticket t) → ⊥
refused-first w h ticket n t ts i o a =
    let none : i.stop ≡ None = o.stop ∙ ap (λ k. option_map (book_stop i.taken) (first_row (line_rows w k ticket t))) o.history ∙ ap (option_map (book_stop i.taken)) a in
    let e = o.whole none in omega arith

one-from : (w : World) (h : History) (ticket : SessionReference) (n : ℕ) (lines : List TradeLine) (k l : ℕ) (i j : Import)
    → InOrderFrom w h ticket n lines k i → InOrderFrom w h ticket n lines l j → i ≡ j
one-from w h ticket n [] zero zero i j o p =
    same i j (o.taken ∙ sym p.taken) (o.stop ∙ sym p.stop) (o.history ∙ sym p.history)
one-from w h ticket n [] (suc k) l i j o p = absurd (let b = o.within in omega arith)
one-from w h ticket n [] k (suc l) i j o p = absurd (let b = p.within in omega arith)
one-from w h ticket n (t ∷ ts) zero zero i j o p =
    let taken = o.taken ∙ sym p.taken in
    let history = o.history ∙ sym p.history in
    same i j taken (o.stop ∙ (λ x. stop_at w (history x) ticket (taken x) (t ∷ ts)) ∙ sym p.stop) history
one-from w h ticket n (t ∷ ts) zero (suc l) i j o p = absurd (refused-first w h ticket n t ts i o p.accepted.0)
one-from w h ticket n (t ∷ ts) (suc k) zero i j o p = absurd (refused-first w h ticket n t ts j p o.accepted.0)
one-from w h ticket n (t ∷ ts) (suc k) (suc l) i j o p =
    one-from w (Traded (line_trade w h t) ∷ h) ticket (n + 1) ts k l i j (rest k i o) (rest l j p)
  where
    rest : (m : ℕ) (x : Import) → InOrderFrom w h ticket n (t ∷ ts) (suc m) x → InOrderFrom w (Traded (line_trade w h t) ∷ h) ticket (n + 1) ts m x
    rest m x q = record {
      taken = let e = q.taken in omega arith;
      within = let e = q.within in omega arith;
      accepted = q.accepted.1;
      history = q.history;
      stop = q.stop;
      whole = λ none. let e = q.whole none in omega arith;
    }

lines-lawful : (w : World) (h : History) (ticket : SessionReference) (n : ℕ) (lines : List TradeLine) → Lawful w h → Lawful w (import_lines w h ticket n lines).history
lines-lawful w h ticket n [] l = l
lines-lawful w h ticket n (t ∷ ts) l = by (first_row (line_rows w h ticket t)) refl (lines-lawful w (Traded (line_trade w h t) ∷ h) ticket (n + 1) ts)
  where
    next : Import
    next = import_lines w (Traded (line_trade w h t) ∷ h) ticket (n + 1) ts

    by : (o : Option Reason) → first_row (line_rows w h ticket t) ≡ o → (Lawful w (Traded (line_trade w h t) ∷ h) → Lawful w next.history) → Lawful w (stopped_or n h o next).history
    by None e more = more (((ticket, e), refl), l)
    by (Some reason) e more = l

-- ---- bytes

lawful : (w : World) (h : History) (ticket : SessionReference) (bytes : List ℕ) (fault : Option SheetFault) → Lawful w h → Lawful w (import_sheet w h ticket bytes fault).history
lawful w h ticket bytes (Some fault) l = l
lawful w h ticket bytes None l = lines-lawful w h ticket 0 (trades_of bytes) l

-- ---- the index of a line's month

-- what stands at the place of a number
at-place : (n : ℕ) (xs : List ℕ) → place_in xs n < length xs → get_or xs (place_in xs n) 0 ≡ n
at-place n [] l = absurd (omega arith)
at-place n (x ∷ xs) l = by (eqb n x) refl (at-place n xs) l
  where
    by : (b : Bool) → eqb n x ≡ b → (place_in xs n < length xs → get_or xs (place_in xs n) 0 ≡ n)
        → cond b 0 (1 + place_in xs n) < length (x ∷ xs) → get_or (x ∷ xs) (cond b 0 (1 + place_in xs n)) 0 ≡ n
    by true e i k = sym (eqb-true n x e)
    by false e i k = rw (add_comm 1 (place_in xs n), add-one) (i (omega arith))

-- a number has a place in a list exactly if it is in it
place-listed : (n : ℕ) (xs : List ℕ) → ltb (place_in xs n) (length xs) ≡ list_any (eqb n) xs
place-listed n [] = refl
place-listed n (x ∷ xs) = by (eqb n x) (place-listed n xs)
  where
    by : (b : Bool) → ltb (place_in xs n) (length xs) ≡ list_any (eqb n) xs → ltb (cond b 0 (1 + place_in xs n)) (suc (length xs)) ≡ (b || list_any (eqb n) xs)
    by true ih = lt-ltb 0 (suc (length xs)) (omega arith)
    by false ih = grind (arith, nat_tests)

-- no index, no trade
no-index : (x y z : Bool) → z ≡ false → not (x && (y && z)) ≡ true
no-index x y z e = grind (arith, nat_tests)

pub imports-hold : ImportsHold
imports-hold = record {
  lines = λ w h ticket lines. let o = in-order w h ticket 0 lines in from-start w h ticket lines o.0 (import_lines w h ticket 0 lines) o.1;
  one_order = λ w h ticket lines i j o p. one-from w h ticket 0 lines i.taken j.taken i j (at-start w h ticket lines i o) (at-start w h ticket lines j p);
  lawful = λ w h ticket bytes l. lawful w h ticket bytes (read_fault bytes (Some ticket.day)) l;
  listed = λ h n. place-listed n (months_of h);
  place = λ h n e. at-place n (months_of h) (ltb-true (place_in (months_of h) n) (length (months_of h)) e);
  unlisted = λ w h ticket t current none.
      rw (current, no-index (is_account h t.buyer) (is_account h t.seller) (is_listed h (place_in (months_of h) t.month)) (place-listed t.month (months_of h) ∙ none));
}
