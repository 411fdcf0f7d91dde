-- The accounts that trade with one another.
use Rattle.std.specs.Prelude.{◌≡◌, ℕ, List, count_by, nat_eq}
use Rattle.std.specs.List.{AllByRecursion}
use Rattle.amounts.specs.declared.trades.Trade.{Trade}

-- an account stands in a list, and only once
abbrev pub Once : List ℕ → ℕ → Type 0
Once accounts a = count_by (nat_eq a) accounts ≡ 1

-- both sides of each trade stand once among the accounts
abbrev pub Among : List ℕ → List Trade → Type 0
Among accounts ts = AllByRecursion (λ t. Once accounts t.buyer × Once accounts t.seller) ts
