-- The history of one month is lawful, event by event, and comes to its figures.
use Rattle.std.proofs.Common.{drop, refl}
use Rattle.examples.specs.Books.{of_day}
use Rattle.examples.specs.MonthToItsEnd.{new_year, one_month, MonthToItsEnd}
use Rattle.examples.proofs.LawfulSteps.{figures, closes}
use Rattle.examples.proofs.MonthNumbers.{december-30}
use Rattle.model.specs.Lawful.{Lawful}

-- up to the first close, the newest event first
first : Lawful new_year (drop 11 one_month)
unfolding figures
first =
    (closes new_year (drop 12 one_month) 9860 refl, ((of_day 9860, refl), (((of_day 9860, rw december-30), refl), (refl, ((refl, refl), (refl, (refl, (refl, tt))))))))

-- up to the second
second : Lawful new_year (drop 5 one_month)
unfolding figures
second =
    (closes new_year (drop 6 one_month) 9861 refl, ((of_day 9861, refl), ((of_day 9861, refl), ((of_day 9860, refl), (refl, ((refl, refl), first))))))

-- all of it
whole : Lawful new_year one_month
unfolding figures
whole =
    ((of_day 9865, refl), ((refl, refl), (closes new_year (drop 3 one_month) 9865 refl, ((of_day 9861, refl), ((refl, refl), second)))))

pub month-to-its-end : MonthToItsEnd
unfolding figures
month-to-its-end = record { lawful = whole; seller = refl; buyer = refl; last = refl }
