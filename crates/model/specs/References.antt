-- Session references: what a ticket stands for, of an open session, and what a slip stands for, of a closed one.
use Rattle.std.specs.Prelude.{ℕ, Bool, false, ◌&&◌, Some, None, Option, ◌==◌}

-- the number of a book and the day of a session
pub record SessionReference : Type 0 where
  pub number : ℕ
  pub day : ℕ

-- the reference is to the session of that day, of the book of that number
abbrev pub is_of : ℕ → SessionReference → Option ℕ → Bool
is_of number reference None = false
is_of number reference (Some day) = reference.number == number && reference.day == day
