-- What a desk does with calls.
use Rattle.std.specs.Prelude.{List}
use Rattle.model.specs.History.{History}
use Rattle.model.specs.World.{World}
use Rattle.book.specs.declared.position_book.Book.{Book}
use Rattle.desk.specs.declared.calls.Call.{Call}
use Rattle.desk.specs.declared.calls.Reply.{Reply}
use Rattle.desk.specs.declared.desk.Desk.{Desk}
use Rattle.desk.specs.Runs.{Takes, Replies, Runs, after_call, after_calls}
use Rattle.desk.specs.Standing.{at_start, standing, Stands}

-- a call was answered by the rules, and the desk stands after it as they say
pub record Acted {C S : Type 0} (has : Takes) (keeps : World → History → Book C S → Type 0) (w : World) (h : History) (call : Call) (reply : Reply) (old new : Desk C S) : Type 0 where
  pub replies : Replies has w call reply (standing h old)
  pub stands : Stands keeps w (after_call w call reply (standing h old)) new

-- calls were answered by the rules, one after another, and the desk stands after them as they say
pub record RanOn {C S : Type 0} (has : Takes) (keeps : World → History → Book C S → Type 0) (w : World) (h : History) (calls : List Call) (replies : List Reply) (old new : Desk C S) : Type 0 where
  pub runs : Runs has w calls replies (standing h old)
  pub stands : Stands keeps w (after_calls w calls replies (standing h old)) new

-- a book was made and calls were answered by the rules, one after another, and the book keeps what happened
pub record WholeRun {C S : Type 0} (has : Takes) (keeps : World → History → Book C S → Type 0) (w : World) (calls : List Call) (replies : List Reply) (book : Book C S) : Type 0 where
  pub runs : Runs has w calls replies at_start
  pub kept : keeps w (after_calls w calls replies at_start).history book
