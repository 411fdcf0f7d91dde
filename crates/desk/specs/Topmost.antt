-- What the topmost source of a book takes.
use Rattle.std.specs.Prelude.{◌≡◌, Bool, is_some, Option, List, Result, IfNone, IfSome}
use Rattle.refusal.specs.declared.Refusal.{Refusal}
use Rattle.refusal.specs.Refusals.{reason_of}
use Rattle.rows.specs.Rows.{Row}
use Rattle.model.specs.History.{History, Event}
use Rattle.model.specs.World.{World}
use Rattle.book.specs.Calls.{Called}

-- a call that the topmost source has or lacks: it answers as the call of the book, or there is none and the book is as before
pub record IfTaken {B : Type 0} (has : Bool) (keeps : World → History → B → Type 0) (rows : World → History → List Row) (event : Event) (old new : B) (r : Option (Result (Unit {0}) Refusal)) : Type 0 where
  pub taken : is_some r ≡ has
  pub called : IfSome r (Called keeps reason_of rows (λ _ _ _. Unit {0}) (λ _ _ _. event) old new)
  pub lacking : IfNone r (new ≡ old)
