use Rattle.std.proofs.Common.{◌≡◌, List, ◌++◌, ◌+◌, vec_items}
use Rattle.std.specs.Slice.Iter.{iter_rest}
use Rattle.std.specs.Iterator.Adapters.{rev_source}
use Rattle.dates.specs.declared.TheConstants.{LAST_DAY}
use Rattle.calendar.specs.declared.rule.Exception.{Exception}
use Rattle.calendar.specs.RuleCalendars.{kind_with_exceptions, ListsKinds}
use Rattle.calendar.proofs.rule.RuleCalendar.new.Given as goal

abbrev pub invariant-loop-exception : goal.invariant-loop-exception
invariant-loop-exception l =
    (rest : List Exception) × (l.exceptions ≡ iter_rest (rev_source l.exception-iterator) ++ rest) × ListsKinds (kind_with_exceptions rest) (vec_items l.days) (LAST_DAY + 1)
