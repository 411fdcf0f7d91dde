-- The history of two months is lawful, event by event, and comes to its figures.
use Rattle.std.proofs.Common.{drop, refl}
use Rattle.examples.specs.Books.{of_day}
use Rattle.examples.specs.MonthToItsEnd.{new_year}
use Rattle.examples.specs.SeveralMonths.{two_months, session_in_order, SeveralMonths}
use Rattle.examples.proofs.LawfulSteps.{figures, closes}
use Rattle.examples.proofs.MonthNumbers.{december-30, december-31}
use Rattle.model.specs.Lawful.{Lawful}

-- up to the first close, the newest event first
first : Lawful new_year (drop 19 two_months)
unfolding figures
first =
    (closes new_year (drop 20 two_months) 9860 refl, (refl, ((of_day 9860, refl), (((of_day 9860, rw december-30), refl), (((of_day 9860, rw december-30), refl), ((refl, refl), (refl, (refl, (refl, tt)))))))))

-- up to the second
second : Lawful new_year (drop 9 two_months)
unfolding figures
second =
    (closes new_year (drop 10 two_months) 9861 refl, (refl, ((of_day 9860, refl), ((of_day 9861, refl), ((of_day 9861, refl), (((of_day 9861, rw december-31), refl), (((of_day 9861, rw december-31), refl), (refl, ((refl, refl), (refl, first))))))))))

-- up to the third
third : Lawful new_year (drop 5 two_months)
unfolding figures
third =
    (closes new_year (drop 6 two_months) 9865 refl, ((of_day 9861, refl), ((of_day 9865, refl), ((refl, refl), second))))

-- all of it
whole : Lawful new_year two_months
unfolding figures
whole =
    (closes new_year (drop 1 two_months) 9866 refl, (refl, ((of_day 9866, refl), ((of_day 9865, refl), ((refl, refl), third)))))

order-lawful : Lawful new_year session_in_order
unfolding figures
order-lawful =
    (closes new_year (drop 1 session_in_order) 9860 refl, ((of_day 9860, refl), ((of_day 9860, refl), (((of_day 9860, rw december-30), refl), (((of_day 9860, rw december-30), refl), (((of_day 9860, rw december-30), refl), ((refl, refl), (refl, (refl, (refl, tt))))))))))

pub several-months : SeveralMonths
unfolding figures
several-months = record { lawful = whole; adjustments = refl; day_trades = refl; positions = refl; paid = refl; due = refl; last = refl; expired = refl; order = order-lawful }
