use Rattle.std.proofs.Common.{◌<◌, ◌^◌, rules}
use Rattle.std.proofs.ByRecursion.{All-get_or}
use Rattle.amounts.specs.Trades.{FitsTables}
use Rattle.amounts.proofs.ContractPrices.{no_trade}
use Rattle.amounts.proofs.Taking.{taking-more, taking-end}
use Rattle.amounts.proofs.day_trades.Firsts.take_all.Goals as goal

pub loop-trade-preserved : goal.loop-trade-preserved
loop-trade-preserved c =
    let w = All-get_or FitsTables c.args.trades.now c.loop-trade.trade-index no_trade c.loop-trade-test.true c.requires.fitting in
    let p = All-get_or (λ t. t.price < 2 ^ 32) c.args.trades.now c.loop-trade.trade-index no_trade c.loop-trade-test.true c.requires.priced in
    rw (c.take.ensures, c.take-in-loop-trade.ensures) (search (rules, taking-more))

pub returns : goal.returns
returns c = record { bought = search (rules, taking-end); sold = search (rules, taking-end) }
