-- The history that uses the tolerance to the full is lawful, and does so.
use Rattle.std.proofs.Common.{drop, refl}
use Rattle.examples.specs.Books.{weekdays, of_day}
use Rattle.examples.specs.FullTolerance.{half_centavo, FullTolerance}
use Rattle.examples.proofs.LawfulSteps.{figures, closes}
use Rattle.examples.proofs.MonthNumbers.{december-30}
use Rattle.model.specs.Lawful.{Lawful}

-- up to the first close, the newest event first
first : Lawful weekdays (drop 4 half_centavo)
unfolding figures
first =
    (closes weekdays (drop 5 half_centavo) 9860 refl, ((of_day 9860, refl), (((of_day 9860, rw december-30), refl), (refl, ((refl, refl), (refl, (refl, (refl, tt))))))))

-- all of it
whole : Lawful weekdays half_centavo
unfolding figures
whole =
    (closes weekdays (drop 1 half_centavo) 9861 refl, ((of_day 9861, refl), ((of_day 9860, refl), ((refl, refl), first))))

pub full-tolerance : FullTolerance
unfolding figures
full-tolerance = record { lawful = whole; sides = refl; tolerance = refl }
