use Rattle.std.proofs.Common.{◌<◌, take, length, arith, rules}
use Rattle.std.proofs.lemmas.List.{length_push, take_more_set}
use Rattle.amounts.specs.Trades.{FitsTables}
use Rattle.amounts.proofs.Summing.{side-room, sums-more}
use Rattle.amounts.proofs.session.SessionTrades.accept.Goals as goal

pub add-requires-clause-bought_room : goal.add-requires-clause-bought_room
add-requires-clause-bought_room c =
    let s = c.self.inside in
    let h = c.self.invariant in
    let room : length (take s.count s.trades) < 256 = omega (arith, h.counted) in
    let fits : FitsTables c.args.trade = search rules in
    side-room (take s.count s.trades) s.sums c.args.trade h.sums room fits (omega arith) _ s.sums.bought h.sums.bought

pub add-requires-clause-sold_room : goal.add-requires-clause-sold_room
add-requires-clause-sold_room c =
    let s = c.self.inside in
    let h = c.self.invariant in
    let room : length (take s.count s.trades) < 256 = omega (arith, h.counted) in
    let fits : FitsTables c.args.trade = search rules in
    side-room (take s.count s.trades) s.sums c.args.trade h.sums room fits (omega arith) _ s.sums.sold h.sums.sold

pub invariant_of-self : goal.invariant_of-self
invariant_of-self c =
    let s = c.self.inside in
    let h = c.self.invariant in
    let room : length (take s.count s.trades) < 256 = omega (arith, h.counted) in
    let fits : FitsTables c.args.trade = search rules in
    let inside : s.count < length s.trades = omega arith in
    record {
      counted = rw (take_more_set s.trades s.count c.args.trade inside) (omega (arith, length_push (take s.count s.trades) c.args.trade, h.counted));
      sums = rw (take_more_set s.trades s.count c.args.trade inside)
          (sums-more (take s.count s.trades) s.sums c.args.trade h.sums room fits (omega arith) c.add.new.self c.add.ensures.bought c.add.ensures.sold);
    }
