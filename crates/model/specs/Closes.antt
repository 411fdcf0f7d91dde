-- What a close writes: the amounts of each account in each month, and where they stand in an array.
use Rattle.std.specs.Prelude.{ℕ, ◌*◌, cond, ◌&&◌, List, length, ℤ, pos}
use Rattle.amounts.specs.DayTrades.{day_trade}
use Rattle.amounts.specs.Rows as rows
use Rattle.model.specs.World.{World}
use Rattle.model.specs.History.{History, Amounts}
use Rattle.model.specs.Observed.{accounts_of, months_of, is_account, is_listed, trades_of}
use Rattle.model.specs.Positions.{adjustment_at}

-- an amount for each account and month of the book, 0 for any other
abbrev pub in_book : History → (ℕ → ℕ → ℤ) → ℕ → ℕ → ℤ
in_book h amount a m = cond (is_account h a && is_listed h m) (amount a m) (pos 0)

-- the amounts that the rules give at the close of the session
abbrev pub amounts_at_close : World → History → Amounts
amounts_at_close w h = record {
  adjustments = in_book h (adjustment_at w h);
  day_trades = in_book h (λ a m. day_trade a m (trades_of h));
}

-- how many cells a close writes to each array
abbrev pub cells_of : History → ℕ
cells_of h = length (accounts_of h) * length (months_of h)

-- an array after a close: with k months the amount of account a in month m stands at a × k + m; the rest of the array is as before
abbrev pub written_to : History → (ℕ → ℕ → ℤ) → List ℤ → List ℤ
written_to h amount old = rows.written_to (length (accounts_of h)) (length (months_of h)) amount old
