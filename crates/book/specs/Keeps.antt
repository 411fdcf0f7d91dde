-- What a book keeps.
use Rattle.std.specs.Prelude.{◌≡◌, ℕ}
use Rattle.calendar.specs.declared.kind.DayKind.{DayKind}
use Rattle.rates.specs.Meanings.{Meaning}
use Rattle.model.specs.Balance.{Balanced}
use Rattle.model.specs.History.{History}
use Rattle.model.specs.Lawful.{Lawful}
use Rattle.model.specs.Observed.{source_of}
use Rattle.model.specs.Value.{Valued}
use Rattle.model.specs.World.{World}
use Rattle.book.specs.declared.position_book.Book.{Book}
use Rattle.book.specs.Tables.{KeepsTables}

-- the world of a book that is made of these parts
abbrev pub world_of : ℕ → ℕ → (ℕ → DayKind) → Meaning → World
world_of number start kinds source = record { number = number; start = start; kinds = kinds; source = source }

-- calendar and source mean what the world and the history say, the tables are what is seen of them, the history is lawful, and both claims hold of it
pub record Keeps {C S : Type 0} (kinds : C → ℕ → DayKind) (meaning : S → Meaning) (w : World) (h : History) (b : Book C S) : Type 0 where
  pub calendar : w.kinds ≡ kinds b.calendar
  pub source : source_of w h ≡ meaning b.source
  pub tables : KeepsTables w h b.ledger
  pub lawful : Lawful w h
  pub balanced : Balanced h
  pub valued : Valued w h
