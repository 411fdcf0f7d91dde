-- What stands at a desk between calls.
use Rattle.std.specs.Prelude.{◌≡◌, [], None, Option}
use Rattle.model.specs.History.{History}
use Rattle.model.specs.References.{SessionReference}
use Rattle.model.specs.World.{World}
use Rattle.book.specs.declared.position_book.Book.{Book}
use Rattle.desk.specs.declared.desk.Desk.{Desk}

-- what happened to the book, and the ticket and the slip that the desk holds
pub record Standing : Type 0 where
  pub history : History
  pub ticket : Option SessionReference
  pub slip : Option SessionReference

-- a desk at the start
abbrev pub at_start : Standing
at_start = record { history = []; ticket = None; slip = None }

-- what stands at a desk after a history
abbrev pub standing : {C S : Type 0} → History → Desk C S → Standing
standing h d = record { history = h; ticket = d.ticket; slip = d.slip }

-- the desk stands so, and its book keeps the history
pub record Stands {C S : Type 0} (keeps : World → History → Book C S → Type 0) (w : World) (s : Standing) (d : Desk C S) : Type 0 where
  pub kept : keeps w s.history d.book
  pub holds : standing s.history d ≡ s
