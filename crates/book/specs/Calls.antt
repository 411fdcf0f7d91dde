-- What a call of a book answers and leaves.
use Rattle.std.specs.Prelude.{◌≡◌, ◌∷◌, List, Result, IfOk, OnErr}
use Rattle.rows.specs.Rows.{Reason, Row, first_row, reason_by}
use Rattle.refusal.specs.declared.Refusal.{Refusal}
use Rattle.refusal.specs.Refusals.{reason_of}
use Rattle.model.specs.History.{History, Event}
use Rattle.model.specs.World.{World}

-- of every world and history that the book keeps: the answer is the reason of the first row whose cause holds, and the whole book is as before;
-- where no row refuses it is a value of the rules, and the book keeps the history with the event
pub record Called {B X E : Type 0} (keeps : World → History → B → Type 0) (reason : E → Reason) (rows : World → History → List Row)
    (says : World → History → X → Type 0) (event : World → History → X → Event) (old new : B) (r : Result X E) : Type 0 where
  pub refused : OnErr r (new ≡ old)
  pub answers : (w : World) (h : History) → keeps w h old → reason_by reason r ≡ first_row (rows w h)
  pub accepted : (w : World) (h : History) → keeps w h old → IfOk r (λ x. says w h x × keeps w (event w h x ∷ h) new)

-- a question, which changes nothing: of every world and history that the book keeps, the answer is the reason of the first row, or else what the rules say
pub record Asked {B X : Type 0} (keeps : World → History → B → Type 0) (rows : World → History → List Row) (says : World → History → X → Type 0) (book : B) (r : Result X Refusal) : Type 0 where
  pub answers : (w : World) (h : History) → keeps w h book → reason_by reason_of r ≡ first_row (rows w h)
  pub value : (w : World) (h : History) → keeps w h book → IfOk r (λ x. says w h x)
