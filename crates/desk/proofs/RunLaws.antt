-- A run of calls, one call more.
use Rattle.std.proofs.Common.{◌≡◌, List, [], ◌∷◌, ◌++◌, refl, sym, subst}
use Rattle.model.specs.History.{History}
use Rattle.model.specs.World.{World}
use Rattle.book.specs.declared.position_book.Book.{Book}
use Rattle.desk.specs.declared.calls.Call.{Call}
use Rattle.desk.specs.declared.calls.Reply.{Reply}
use Rattle.desk.specs.declared.desk.Desk.{Desk}
use Rattle.desk.specs.Acts.{Acted, RanOn}
use Rattle.desk.specs.Runs.{Takes, Replies, Claimed, Runs, after_call, after_calls}
use Rattle.desk.specs.Standing.{Standing, standing, Stands}

runs-more : (has : Takes) (w : World) (cs : List Call) (rs : List Reply) (s : Standing) (c : Call) (r : Reply) → Runs has w cs rs s
    → Replies has w c r (after_calls w cs rs s) → Claimed w (after_call w c r (after_calls w cs rs s)).history → Runs has w (cs ++ c ∷ []) (rs ++ r ∷ []) s
runs-more has w [] [] s c r runs replies claimed = (replies, claimed, tt)
runs-more has w [] (q ∷ rs) s c r runs replies claimed = absurd runs
runs-more has w (d ∷ cs) [] s c r runs replies claimed = absurd runs
runs-more has w (d ∷ cs) (q ∷ rs) s c r runs replies claimed = (runs.0, runs.1, runs-more has w cs rs (after_call w d q s) c r runs.2 replies claimed)

calls-after : (has : Takes) (w : World) (cs : List Call) (rs : List Reply) (s : Standing) (c : Call) (r : Reply) → Runs has w cs rs s
    → after_calls w (cs ++ c ∷ []) (rs ++ r ∷ []) s ≡ after_call w c r (after_calls w cs rs s)
calls-after has w [] [] s c r runs = refl
calls-after has w [] (q ∷ rs) s c r runs = absurd runs
calls-after has w (d ∷ cs) [] s c r runs = absurd runs
calls-after has w (d ∷ cs) (q ∷ rs) s c r runs = calls-after has w cs rs (after_call w d q s) c r runs.2

module _ {C S : Type 0} (has : Takes) (keeps : World → History → Book C S → Type 0) (claims : (w : World) (h : History) (b : Book C S) → keeps w h b → Claimed w h)
    (w : World) (h : History) where
  pub ran-none : (d : Desk C S) → keeps w h d.book → RanOn has keeps w h [] [] d d
  ran-none d k = record { runs = tt; stands = record { kept = k; holds = refl } }

  pub ran-more : (cs : List Call) (rs : List Reply) (old mid new : Desk C S) (c : Call) (r : Reply) → RanOn has keeps w h cs rs old mid
      → ((x : History) → keeps w x mid.book → Acted has keeps w x c r mid new) → RanOn has keeps w h (cs ++ c ∷ []) (rs ++ r ∷ []) old new
  ran-more cs rs old mid new c r ran acts =
      let s : Standing = standing h old in
      let at : Standing = after_calls w cs rs s in
      let acted = acts at.history ran.stands.kept in
      let replies : Replies has w c r at = subst (λ (x : Standing). Replies has w c r x) ran.stands.holds acted.replies in
      let stands : Stands keeps w (after_call w c r at) new = subst (λ (x : Standing). Stands keeps w (after_call w c r x) new) ran.stands.holds acted.stands in
      record {
        runs = runs-more has w cs rs s c r ran.runs replies (claims w (after_call w c r at).history new.book stands.kept);
        stands = subst (λ (x : Standing). Stands keeps w x new) (sym (calls-after has w cs rs s c r ran.runs)) stands;
      }
