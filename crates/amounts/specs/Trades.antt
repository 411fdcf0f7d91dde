-- The contracts of an account in the trades of a session.
use Rattle.std.specs.Prelude.{ℕ, ◌≤◌, ◌<◌, cond, ◌&&◌, List, length, ℤ, pos, ◌-ℤ◌, ◌==◌}
use Rattle.std.specs.List.{AllByRecursion}
use Rattle.amounts.specs.declared.trades.Side.{Side}
use Rattle.amounts.specs.declared.trades.Side.TheVariants.{Bought, Sold}
use Rattle.amounts.specs.declared.trades.TheConstants.{MAX_TRADES, MAX_CONTRACTS, MAX_ACCOUNTS, MAX_MONTHS}
use Rattle.amounts.specs.declared.trades.Trade.{Trade}
use Rattle.amounts.specs.Sums.{total}

-- the contracts of a trade of the month, where the account is this party to it
abbrev pub party_contracts : ℕ → ℕ → ℕ → Trade → ℕ
party_contracts party account month t = cond (t.month == month && party == account) t.contracts 0

-- the contracts of the account: + for the seller in rate, − for the buyer in rate
abbrev pub contracts_of : ℕ → ℕ → Trade → ℤ
contracts_of account month t = pos (party_contracts t.seller account month t) -ℤ pos (party_contracts t.buyer account month t)

-- who is on a side in price: the seller in rate buys in price, the buyer in rate sells
abbrev pub party_of : Side → Trade → ℕ
party_of Bought t = t.seller
party_of Sold t = t.buyer

-- the contracts of a trade of the month that the account has on a side in price
abbrev pub contracts_on : Side → ℕ → ℕ → Trade → ℕ
contracts_on side account month t = party_contracts (party_of side t) account month t

-- by how much the trades change the position of the account in a month
abbrev pub position_change : ℕ → ℕ → List Trade → ℤ
position_change account month ts = total (contracts_of account month) ts

-- at most 256 trades, of at most 20,000 contracts each
pub record Limited (ts : List Trade) : Type 0 where
  pub few : length ts ≤ MAX_TRADES
  pub small : AllByRecursion (λ t. t.contracts ≤ MAX_CONTRACTS) ts

-- a trade between two of a book's accounts, in one of its months, and of at most 20,000 contracts
pub record FitsTables (t : Trade) : Type 0 where
  pub buyer : t.buyer < MAX_ACCOUNTS
  pub seller : t.seller < MAX_ACCOUNTS
  pub month : t.month < MAX_MONTHS
  pub small : t.contracts ≤ MAX_CONTRACTS
