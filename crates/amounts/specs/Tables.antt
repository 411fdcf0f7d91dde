-- A table with a cell for each account and month of a book: 32 rows of 16.
use Rattle.std.specs.Prelude.{◌≡◌, ℕ, ◌+◌, ◌*◌, ◌<◌, List, length}
use Rattle.std.specs.List.{slice_index_or}
use Rattle.amounts.specs.declared.trades.TheConstants.{MAX_ACCOUNTS, MAX_MONTHS}

-- where the cell of an account in a month stands
abbrev pub place_of : ℕ → ℕ → ℕ
place_of account month = MAX_MONTHS * account + month

-- what holds of the cell of each account and month
pub record EachCell {X : Type 0} (P : ℕ → ℕ → X → Type 0) (cells : List X) : Type 0 where
  pub size : length cells ≡ MAX_ACCOUNTS * MAX_MONTHS
  pub each : (account month : ℕ) (d : X) → account < MAX_ACCOUNTS → month < MAX_MONTHS → P account month (slice_index_or cells (place_of account month) d)
