-- The first claim: nothing is made and nothing is lost.
use Rattle.std.specs.Prelude.{◌≡◌, ℕ, pos, ◌+ℤ◌}
use Rattle.std.specs.List.{AllByRecursion}
use Rattle.amounts.specs.Sums.{total}
use Rattle.model.specs.Accounts.{account_indices}
use Rattle.model.specs.History.{History, amounts_written, gather}
use Rattle.model.specs.Lawful.{Lawful}
use Rattle.model.specs.Positions.{written_for, due_of, paid_of}
use Rattle.model.specs.World.{World}

-- sums over what closes wrote
pub record Balanced (h : History) : Type 0 where
  -- what a close wrote for a month adds to zero over the accounts
  pub closes : AllByRecursion (λ c. (m : ℕ) → total (λ a. c.adjustments a m) account_indices ≡ pos 0) (gather amounts_written h)
  -- paid and due of an account are all that was written for it
  pub accounts : (a : ℕ) → paid_of h a +ℤ due_of h a ≡ total (written_for a) (gather amounts_written h)

-- every lawful history is balanced
abbrev pub AlwaysBalanced : Type 0
AlwaysBalanced = (w : World) (h : History) → Lawful w h → Balanced h
