-- Accounts, and the indices that accounts and months can have.
use Rattle.std.specs.Prelude.{ℕ, Bool, ◌&&◌, List, ◌==◌}
use Rattle.std.specs.List.{range_with_len}
use Rattle.amounts.specs.declared.trades.TheConstants.{MAX_ACCOUNTS, MAX_MONTHS}
use Rattle.model.specs.declared.calls.Account.{Account}

-- the same client, participant and clearing member
abbrev pub same_account : Account → Account → Bool
same_account x y = x.client == y.client && (x.participant == y.participant && x.member == y.member)

-- the indices of accounts: a book holds at most 32
abbrev pub account_indices : List ℕ
account_indices = range_with_len 0 MAX_ACCOUNTS

-- the indices of months: at most 16
abbrev pub month_indices : List ℕ
month_indices = range_with_len 0 MAX_MONTHS
