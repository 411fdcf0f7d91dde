-- What an import of a sheet answers and leaves, and the index of a month by its number.
use Rattle.std.specs.Prelude.{◌≡◌, ℕ, List, cond, Some, None, Option, IfSome}
use Rattle.std.specs.Option.{option_map}
use Rattle.refusal.specs.Refusals.{reason_of}
use Rattle.sheet.specs.Codes.{place_in}
use Rattle.sheet.specs.Sheet.{read_fault}
use Rattle.model.specs.History.{History}
use Rattle.model.specs.Imports.{Import, Stop, import_of}
use Rattle.model.specs.Observed.{months_of, is_listed}
use Rattle.model.specs.References.{SessionReference}
use Rattle.model.specs.World.{World}
use Rattle.book.specs.declared.import.ImportOutcome.{ImportOutcome}
use Rattle.book.specs.declared.import.ImportStop.{ImportStop}

-- the index of a month by its number, if it is listed
abbrev pub index_of : History → ℕ → Option ℕ
index_of h n = cond (is_listed h (place_in (months_of h) n)) (Some (place_in (months_of h) n)) None

-- a stop, with what is told
abbrev pub stop_of : ImportStop → Stop
stop_of s = record { line = s.line; reason = reason_of s.refusal; layer = s.layer }

-- the answer says what an import comes to, and the book keeps what has happened then
pub record Came {B : Type 0} (keeps : World → History → B → Type 0) (w : World) (i : Import) (book : B) (r : ImportOutcome) : Type 0 where
  pub taken : r.taken ≡ i.taken
  pub stop : option_map stop_of r.stop ≡ i.stop
  pub kept : keeps w i.history book

-- bytes with a fault change nothing, nor does an import that takes no line; of every world and history that the book keeps, it comes to what the bytes do
pub record Imported {B : Type 0} (keeps : World → History → B → Type 0) (ticket : SessionReference) (bytes : List ℕ) (old new : B) (r : ImportOutcome) : Type 0 where
  pub refused : IfSome (read_fault bytes (Some ticket.day)) (λ _. new ≡ old)
  pub unchanged : r.taken ≡ 0 → new ≡ old
  pub came : (w : World) (h : History) → keeps w h old → Came keeps w (import_of w h ticket bytes) new r
