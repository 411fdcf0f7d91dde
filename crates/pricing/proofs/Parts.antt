-- The lines and contracts of the trades so far, and of the trades that are left.
use Rattle.std.proofs.Common.{◌≡◌, ℕ, ◌+◌, ◌*◌, ◌≤◌, Bool, List, length, sum_by, filter}
use Rattle.sheet.specs.declared.trade_line.TradeLine.{TradeLine}

-- what was added up of the trades that pass a test makes, with what is left, the whole; and it fits
pub record Part (P : TradeLine → Bool) (all left : List TradeLine) (lines contracts : ℕ) : Type 0 where
  pub lines-are : lines + length (filter P left) ≡ length (filter P all)
  pub contracts-are : contracts + sum_by (λ x. x.quantity) (filter P left) ≡ sum_by (λ x. x.quantity) (filter P all)
  pub lines-fit : lines + length left ≤ 65536
  pub contracts-fit : contracts + length left * 4294967296 ≤ 281474976710656
