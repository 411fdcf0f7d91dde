-- Each reserve day from the first closed session to the latest has a rate.
use Rattle.std.proofs.Common.{◌≡◌, ℕ, ◌≤◌, List, [], ◌∷◌, ◌++◌, None, filter, Option, refl, arith}
use Rattle.std.proofs.lemmas.List.Elements.{filter-append}
use Rattle.calendar.specs.Kinds.{is_reserve}
use Rattle.calendar.specs.Spans.{reserve_days, first_in}
use Rattle.calendar.proofs.Spans.{days-none, days-split}
use Rattle.correction.specs.Gaps.{is_unrated, first_unrated}
use Rattle.model.specs.World.{World}
use Rattle.model.specs.Observed.{expiry_at, rate_on}
use Rattle.model.specs.Sessions.{Session, sessions_of, oldest_day, newest_day}
use Rattle.model.specs.Laws.{GapsRated}
use Rattle.model.proofs.Falling.{Falling}
use Rattle.model.proofs.SessionOrder.{falling}
use Rattle.model.proofs.Telescope.{oldest-first}
use Rattle.model.proofs.Valuing.{AllRightly, all_right}

first-none : (xs : List ℕ) → first_in xs ≡ None → xs ≡ []
first-none [] e = refl
first-none (x ∷ xs) e = absurd cc

-- days that have rates, and more such days
rated-append : (rates : ℕ → Option ℕ) (xs ys : List ℕ) → first_unrated rates xs ≡ None → first_unrated rates ys ≡ None → first_unrated rates (xs ++ ys) ≡ None
rated-append rates xs ys e f =
    rw (filter-append (is_unrated rates) xs ys, first-none (filter (is_unrated rates) xs) e) f

module _ (w : World) (rates : ℕ → Option ℕ) (a m expiry : ℕ) where
  no_gap : (day : ℕ) → first_unrated rates (reserve_days w.kinds day day) ≡ None
  no_gap day = rw (days-none is_reserve w.kinds day day (omega arith))

  rated-from : (s : Session) (ss : List Session) → Falling (s ∷ ss) → AllRightly w a m expiry rates (s ∷ ss)
      → first_unrated rates (reserve_days w.kinds (oldest_day s.day ss) s.day) ≡ None
  rated-from s [] f h = no_gap s.day
  rated-from r (s ∷ ss) f h =
      let first = oldest_day s.day ss in
      let later : s.day ≤ r.day = let l = f.0.0 in omega arith in
      rw (days-split is_reserve w.kinds first s.day r.day (oldest-first s ss f.1) later)
      (rated-append rates (reserve_days w.kinds first s.day) (reserve_days w.kinds s.day r.day) (rated-from s ss f.1 h.1) h.0.rated)

  rated-all : (ss : List Session) → Falling ss → AllRightly w a m expiry rates ss → first_unrated rates (reserve_days w.kinds (oldest_day 0 ss) (newest_day ss)) ≡ None
  rated-all [] f h = no_gap 0
  rated-all (s ∷ ss) f h = rated-from s ss f h

pub gaps-rated : GapsRated
gaps-rated w h l = rated-all w (rate_on w h) 0 0 (expiry_at w h 0) (sessions_of w h) (falling w h l) (all_right w h l 0 0 (expiry_at w h 0) (λ _. refl))
