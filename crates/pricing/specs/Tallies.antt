-- What a tally of trades says.
use Rattle.std.specs.Prelude.{◌≡◌, Bool, List, length, sum_by, filter}
use Rattle.sheet.specs.declared.trade_line.TradeLine.{TradeLine}
use Rattle.pricing.specs.declared.sums.Tally.{Tally}

-- the lines and the contracts of the trades that pass a test
pub record Tallied (test : TradeLine → Bool) (trades : List TradeLine) (t : Tally) : Type 0 where
  pub lines : t.lines ≡ length (filter test trades)
  pub contracts : t.contracts ≡ sum_by (λ x. x.quantity) (filter test trades)
