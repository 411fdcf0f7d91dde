-- The history of the wrong books is lawful with the right amounts, and the second claim fails of it with each pair of wrong ones.
use Rattle.std.proofs.Common.{◌≡◌, ℕ, zero, suc, drop, ℤ, pos, ◌+ℤ◌, refl, arith, lit<}
use borrow.Author.Differences.{ints}
use Rattle.std.specs.List.{AllByRecursion}
use Rattle.std.proofs.ByRecursion.{All-weaker}
use Rattle.amounts.specs.Sums.{total}
use Rattle.examples.specs.Books.{of_day, opposites}
use Rattle.examples.specs.WrongBooks.{long_gap, gap_history, right_book, wrong_amounts, book_by, OutsideTolerance, WrongBooks}
use Rattle.examples.proofs.LawfulSteps.{figures, closes}
use Rattle.examples.proofs.MonthNumbers.{december-30, january-1}
use Rattle.model.specs.Accounts.{account_indices}
use Rattle.model.specs.Balance.{Balanced}
use Rattle.model.specs.Lawful.{Lawful}
use Rattle.model.specs.Positions.{written_for}
use Rattle.model.specs.Value.{Valued}

-- up to the first close, the newest event first
first : Lawful long_gap (drop 7 right_book)
unfolding figures
first =
    (closes long_gap (drop 8 right_book) 9860 refl, ((of_day 9860, refl), (((of_day 9860, rw december-30), refl), (refl, ((refl, refl), (refl, (refl, (refl, tt))))))))

-- all of it
whole : Lawful long_gap right_book
unfolding figures
whole =
    (closes long_gap (drop 1 right_book) 9862 refl, ((of_day 9862, refl), (((of_day 9862, rw january-1), refl), (refl, (refl, ((of_day 9860, refl), ((refl, refl), first)))))))

-- a close that gives account 0 the opposite of account 1 adds to zero
cancels : (x : ℤ) (m : ℕ) → total (λ a. (opposites x).adjustments a m) account_indices ≡ pos 0
cancels x zero = omega (arith, ints)
cancels x (suc m) = refl

regrouped : (p q : ℤ) → (p +ℤ pos 0) +ℤ (q +ℤ pos 0) ≡ p +ℤ (q +ℤ pos 0)
regrouped p q = omega (arith, ints)

all-balanced : (x y : ℤ) → Balanced (gap_history x y)
all-balanced x y = record {
  closes = (cancels x, (cancels y, tt));
  accounts = λ a. regrouped (written_for a (opposites x)) (written_for a (opposites y));
}

all-caught : AllByRecursion OutsideTolerance wrong_amounts
unfolding figures
all-caught = (lit< tt, (lit< tt, (lit< tt, (lit< tt, (lit< tt, (lit< tt, (lit< tt, (lit< tt, (lit< tt, tt)))))))))

-- the two sides are those of the claim
breaks : (p : ℤ × ℤ) → OutsideTolerance p → Valued long_gap (book_by p) → ⊥
breaks p l v = omega (arith, v.within_tolerance 1 0 (lit< tt))

pub wrong-books : WrongBooks
wrong-books = record {
  right = whole;
  balanced = all-balanced;
  caught = all-caught;
  broken = All-weaker OutsideTolerance (λ p. Valued long_gap (book_by p) → ⊥) breaks wrong_amounts all-caught;
}
