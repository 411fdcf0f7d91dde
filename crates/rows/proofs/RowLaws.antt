-- Laws of tables of refusals.
use Rattle.std.proofs.Common.{◌≡◌, Bool, true, false, cond, List, [], ◌∷◌, ◌++◌, Some, None, Ok, Err, Option, Result, option_map, refl, ap, sym, ◌∙◌, arith}
use Rattle.rows.specs.Rows.{Reason, first_row, reasons_of, reason_by}

-- the first row does not refuse, nor do those after it
pub none-first : {A : Type 0} (b : Bool) (t : A) (o : Option A) → cond b (Some t) o ≡ None → (b ≡ false) × (o ≡ None)
none-first true t o h = absurd cc
none-first false t o h = (refl, h)

-- each cause fails
abbrev pub NoneHold : {A : Type 0} → List (Bool × A) → Type 0
NoneHold [] = Unit {0}
NoneHold (row ∷ rows) = (row.0 ≡ false) × NoneHold rows

-- no row refuses: each cause fails
pub none-hold : {A : Type 0} (rows : List (Bool × A)) → first_row rows ≡ None → NoneHold rows
none-hold [] h = tt
none-hold (row ∷ rows) h = let p = none-first row.0 row.1 (first_row rows) h in (p.0, none-hold rows p.1)
