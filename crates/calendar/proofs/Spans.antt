-- Laws of the days of a range.
use Rattle.std.proofs.Common.{◌≡◌, ℕ, zero, suc, ◌+◌, ◌-◌, ◌<◌, ◌≤◌, min, Bool, true, false, cond, List, [], ◌∷◌, ◌++◌, length, IfSome, Some, None, filter, Option, option_map, sym, refl, ap, ◌∙◌, inl, inr, arith}
use Rattle.std.proofs.lemmas.Bool.{true≢false, cases_lt, cases_eq}
use Rattle.std.proofs.lemmas.Iterator.Adapters.{option_map_id}
use Rattle.std.proofs.lemmas.List.{append-nil, length-append}
use Rattle.std.specs.List.{range_with_len, find}
use Rattle.dates.specs.declared.TheConstants.{LAST_DAY}
use Rattle.calendar.specs.declared.kind.DayKind.{DayKind}
use Rattle.calendar.specs.declared.kind.DayKind.TheVariants.{ClosedDay}
use Rattle.calendar.specs.Kinds.{is_reserve, is_session}
use Rattle.calendar.specs.Spans.{days_by, reserve_days, first_in, first_session, IsFirstSession}

-- an empty range has no days
pub days-none : (t : DayKind → Bool) (k : ℕ → DayKind) (from to : ℕ) → to ≤ from → days_by t k from to ≡ []
unfolding days_by
days-none t k from to h =
    let e : to - from ≡ 0 = omega arith in ap (λ n. filter (λ d. t (k d)) (range_with_len from n)) e

-- the first day of a range, and the rest
pub days-head : (t : DayKind → Bool) (k : ℕ → DayKind) (from to : ℕ) → from < to
    → days_by t k from to ≡ cond (t (k from)) (from ∷ days_by t k (from + 1) to) (days_by t k (from + 1) to)
unfolding days_by
days-head t k from to h =
    let e : to - from ≡ suc (to - (from + 1)) = omega arith in ap (λ n. filter (λ d. t (k d)) (range_with_len from n)) e

join : (b : Bool) (d : ℕ) (xs ys : List ℕ) → cond b (d ∷ (xs ++ ys)) (xs ++ ys) ≡ cond b (d ∷ xs) xs ++ ys
join true d xs ys = refl
join false d xs ys = refl

split : (t : DayKind → Bool) (k : ℕ → DayKind) (n from mid to : ℕ) → mid - from ≡ n → from ≤ mid → mid ≤ to
    → days_by t k from to ≡ days_by t k from mid ++ days_by t k mid to
split t k zero from mid to e h l = let s : from ≡ mid = omega arith in rw (days-none t k from mid (omega arith), s)
split t k (suc n) from mid to e h l =
    rw (days-head t k from to (omega arith), days-head t k from mid (omega arith), split t k n (from + 1) mid to (omega arith) (omega arith) l)
    (join (t (k from)) from (days_by t k (from + 1) mid) (days_by t k mid to))

-- a range is its first part and the rest
pub days-split : (t : DayKind → Bool) (k : ℕ → DayKind) (from mid to : ℕ) → from ≤ mid → mid ≤ to
    → days_by t k from to ≡ days_by t k from mid ++ days_by t k mid to
days-split t k from mid to h l = split t k (mid - from) from mid to refl h l

-- one day more at the end
pub days-more : (t : DayKind → Bool) (k : ℕ → DayKind) (from day : ℕ) → from ≤ day
    → days_by t k from (day + 1) ≡ days_by t k from day ++ cond (t (k day)) (day ∷ []) []
days-more t k from day h =
    rw (days-split t k from day (day + 1) h (omega arith), days-head t k day (day + 1) (omega arith), days-none t k (day + 1) (day + 1) (omega arith))

no-days : (t : DayKind → Bool) (k : ℕ → DayKind) (n from to : ℕ) → to - from ≡ n → ((d : ℕ) → from ≤ d → t (k d) ≡ false) → days_by t k from to ≡ []
no-days t k zero from to e h = days-none t k from to (omega arith)
no-days t k (suc n) from to e h =
    rw (days-head t k from to (omega arith), h from (omega arith)) (no-days t k n (from + 1) to (omega arith) (λ d l. h d (omega arith)))

-- a range has none of the days if none passes from its start on
pub days-never : (t : DayKind → Bool) (k : ℕ → DayKind) (from to : ℕ) → ((d : ℕ) → from ≤ d → t (k d) ≡ false) → days_by t k from to ≡ []
days-never t k from to h = no-days t k (to - from) from to refl h

-- what a range has past a day from which on none passes is nothing
pub days-end : (t : DayKind → Bool) (k : ℕ → DayKind) (end from to : ℕ) → ((d : ℕ) → end ≤ d → t (k d) ≡ false)
    → days_by t k from to ≡ days_by t k from (min to end)
days-end t k end from to h =
    elim (cases_lt end to) [
      | inl l ↦
          let g : min to end ≡ end = omega arith in
          elim (cases_lt from end) [
            | inl m ↦
                rw (g, days-split t k from end to (omega arith) (omega arith), days-never t k end to h) (append-nil (days_by t k from end))
            | inr m ↦ rw (g, days-never t k from to (λ d l. h d (omega arith)), days-none t k from end m)
          ]
      | inr l ↦ let g : min to end ≡ to = omega arith in rw g
    ]

-- the number of days with one day more
pub count-more : (t : DayKind → Bool) (k : ℕ → DayKind) (from day : ℕ) → from ≤ day
    → length (days_by t k from (day + 1)) ≡ length (days_by t k from day) + cond (t (k day)) 1 0
count-more t k from day h =
    ap length (days-more t k from day h) ∙ length-append (days_by t k from day) _ ∙ ap (λ n. length (days_by t k from day) + n) (one (t (k day)))
  where
    one : (b : Bool) → length (cond b (day ∷ []) []) ≡ cond b 1 0
    one true = refl
    one false = refl

pub session-none : (k : ℕ → DayKind) (from to : ℕ) → to ≤ from → first_session k from to ≡ None
session-none k from to h = ap first_in (days-none is_session k from to h)

-- past the end of the calendar no day passes
pub past-last : (k : ℕ → DayKind) → ((d : ℕ) → LAST_DAY < d → k d ≡ ClosedDay) → (t : DayKind → Bool) → t ClosedDay ≡ false → (d : ℕ) → LAST_DAY + 1 ≤ d → t (k d) ≡ false
past-last k ends t e d h = ap t (ends d (omega arith)) ∙ e

-- a count that stops at the end of the calendar
pub count-ends : (k : ℕ → DayKind) → ((d : ℕ) → LAST_DAY < d → k d ≡ ClosedDay) → (from end to count : ℕ) → count ≡ length (reserve_days k from end)
    → end ≡ min to (LAST_DAY + 1) → count ≡ length (reserve_days k from to)
count-ends k ends from end to count is e =
    is ∙ sym (ap length (days-end is_reserve k (LAST_DAY + 1) from to (past-last k ends is_reserve refl) ∙ ap (days_by is_reserve k from) (sym e)))

-- a search that stops at the end of the calendar
pub session-ends : (k : ℕ → DayKind) → ((d : ℕ) → LAST_DAY < d → k d ≡ ClosedDay) → (from to end : ℕ) → end ≡ min to (LAST_DAY + 1)
    → first_session k from to ≡ first_session k from end
session-ends k ends from to end e =
    ap first_in (days-end is_session k (LAST_DAY + 1) from to (past-last k ends is_session refl) ∙ ap (days_by is_session k from) (sym e))

-- nothing past the end of the calendar
pub session-past : (k : ℕ → DayKind) → ((d : ℕ) → LAST_DAY < d → k d ≡ ClosedDay) → (from to : ℕ) → LAST_DAY < from → first_session k from to ≡ None
session-past k ends from to h = ap first_in (days-never is_session k from to (λ d l. past-last k ends is_session refl d (omega arith)))

-- a day before the first session of the rest is none, if the first day is none
later : (k : ℕ → DayKind) (from to : ℕ) → is_session (k from) ≡ false → ((d : ℕ) → from + 1 ≤ d → d < to → is_session (k d) ≡ false)
    → (d : ℕ) → from ≤ d → d < to → is_session (k d) ≡ false
later k from to f a d l m = elim (cases_eq d from) [ inl e ↦ rw e f | inr n ↦ a d (omega arith) m ]

cover : (k : ℕ → DayKind) (from to : ℕ) → is_session (k from) ≡ false → (r : Option ℕ) → IsFirstSession k (from + 1) to r → IsFirstSession k from to r
cover k from to f None a = later k from to f a
cover k from to f (Some s) a = (omega (arith, a.0), a.1, a.2, later k from s f a.3)

-- the first of the sessions of a range is a session with none before it
firsts : (k : ℕ → DayKind) (n from to : ℕ) → to - from ≡ n → IsFirstSession k from to (first_session k from to)
firsts k zero from to e = rw (session-none k from to (omega arith)) (λ d l m. absurd (omega arith))
firsts k (suc n) from to e = by (is_session (k from)) refl (firsts k n (from + 1) to (omega arith))
  where
    lt : from < to
    lt = omega arith

    by : (b : Bool) → is_session (k from) ≡ b → IsFirstSession k (from + 1) to (first_session k (from + 1) to) → IsFirstSession k from to (first_session k from to)
    by true f later = rw (days-head is_session k from to lt, f) ((omega arith, lt, f, λ d l m. absurd (omega arith)))
    by false f later = rw (days-head is_session k from to lt, f) (cover k from to f (first_session k (from + 1) to) later)

pub is-first : (k : ℕ → DayKind) (from to : ℕ) (r : Option ℕ) → r ≡ first_session k from to → IsFirstSession k from to r
is-first k from to r e = rw e (firsts k (to - from) from to refl)

-- a session is a day of the calendar
pub first-bound : (k : ℕ → DayKind) → ((d : ℕ) → LAST_DAY < d → k d ≡ ClosedDay) → (from to : ℕ) (r : Option ℕ) → IsFirstSession k from to r → IfSome r (λ d. d ≤ LAST_DAY)
first-bound k ends from to None a = tt
first-bound k ends from to (Some s) a =
    elim (cases_lt LAST_DAY s) [ inl l ↦ absurd (true≢false (sym a.2 ∙ past-last k ends is_session refl s (omega arith))) | inr l ↦ l ]

-- the first day that a search finds is the first of those that pass
found-first : (t : ℕ → Bool) (ds : List ℕ) → find t ds ≡ first_in (filter t ds)
found-first t [] = refl
found-first t (d ∷ ds) = by (t d) (found-first t ds)
  where
    by : (b : Bool) → find t ds ≡ first_in (filter t ds) → cond b (Some d) (find t ds) ≡ first_in (cond b (d ∷ filter t ds) (filter t ds))
    by true e = refl
    by false e = e

-- what a search of a range to the end of the calendar finds
pub session-found : (k : ℕ → DayKind) → ((d : ℕ) → LAST_DAY < d → k d ≡ ClosedDay) → (from to end : ℕ) (r : Option ℕ) → end ≡ min to (LAST_DAY + 1)
    → option_map (λ d. d) r ≡ find (λ d. is_session (k d)) (range_with_len from (end - from)) → r ≡ first_session k from to
unfolding days_by
session-found k ends from to end r e found =
    sym (option_map_id r) ∙ found ∙ found-first (λ d. is_session (k d)) (range_with_len from (end - from)) ∙ sym (session-ends k ends from to end e)
