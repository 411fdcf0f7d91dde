-- What is written to an array by rows, one for each account: row a starts at a × k, k being the months.
use Rattle.std.specs.Prelude.{◌≡◌, ℕ, ◌+◌, ◌*◌, ◌<◌, ◌≤◌, List, ◌++◌, map, drop, ℤ}
use Rattle.std.specs.List.{flat_map, range_with_len, slice_index_or}
use Rattle.amounts.specs.declared.trades.TheConstants.{MAX_ACCOUNTS, MAX_MONTHS}

-- the row of an account: its amounts in the first k months
abbrev pub row_of : ℕ → (ℕ → ℤ) → List ℤ
row_of k amount = map amount (range_with_len 0 k)

-- the rows of the first n accounts, one after another
abbrev pub rows_of : ℕ → ℕ → (ℕ → ℕ → ℤ) → List ℤ
rows_of n k amount = flat_map (λ a. row_of k (amount a)) (range_with_len 0 n)

-- an array once they are written to it: the amount of account a in month m stands at a × k + m, and the rest is as before
abbrev pub written_to : ℕ → ℕ → (ℕ → ℕ → ℤ) → List ℤ → List ℤ
written_to n k amount old = rows_of n k amount ++ drop (n * k) old

-- so whatever is written, it stands at its place
abbrev pub RowsStand : Type 0
RowsStand =
    (n k : ℕ) (amount : ℕ → ℕ → ℤ) (old : List ℤ) (account month : ℕ) (d : ℤ) → account < n → month < k
    → slice_index_or (written_to n k amount old) (account * k + month) d ≡ amount account month

-- so many accounts and months a book may have, and an array of this length has a place for each amount
pub record HasRoom (n k len : ℕ) : Type 0 where
  pub few_accounts : n ≤ MAX_ACCOUNTS
  pub few_months : k ≤ MAX_MONTHS
  pub long : n * k ≤ len
