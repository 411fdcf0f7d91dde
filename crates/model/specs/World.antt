-- What a book stands on: its number, its start day, its calendar, and what its source of rates means when the book is made.
-- Any table of kinds and any meaning are a world; those of a calendar and a source are some of them.
use Rattle.std.specs.Prelude.{ℕ}
use Rattle.calendar.specs.declared.kind.DayKind.{DayKind}
use Rattle.rates.specs.Meanings.{Meaning}

-- the world of a book when it is made
pub record World : Type 0 where
  pub number : ℕ
  pub start : ℕ
  -- the kind of each day
  pub kinds : ℕ → DayKind
  pub source : Meaning
