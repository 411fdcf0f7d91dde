-- The kinds of days.
use Rattle.std.specs.Prelude.{ℕ, Bool, true, false, cond, ◌==◌, nat_le}
use Rattle.dates.specs.declared.TheConstants.{LAST_DAY}
use Rattle.calendar.specs.declared.kind.DayKind.{DayKind}
use Rattle.calendar.specs.declared.kind.DayKind.TheVariants.{ClosedDay, ReserveDay, SessionDay}

-- reserve days: a session is one too
abbrev pub is_reserve : DayKind → Bool
is_reserve ClosedDay = false
is_reserve ReserveDay = true
is_reserve SessionDay = true

-- sessions
abbrev pub is_session : DayKind → Bool
is_session ClosedDay = false
is_session ReserveDay = false
is_session SessionDay = true

-- a mark: 1 is a reserve day, 2 a session, any other closed
abbrev pub kind_of_mark : ℕ → DayKind
kind_of_mark n = cond (n == 1) ReserveDay (cond (n == 2) SessionDay ClosedDay)

-- the kind of a day of the calendar; past the last day all are closed
abbrev pub kind_to_last : ℕ → DayKind → DayKind
kind_to_last d k = cond (nat_le d LAST_DAY) k ClosedDay
