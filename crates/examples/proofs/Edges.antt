-- The rows at their edges, computed.
use Rattle.std.proofs.Common.{refl}
use Rattle.examples.specs.Edges.{EdgesHold}
use Rattle.examples.proofs.LawfulSteps.{figures}
use Rattle.examples.proofs.MonthNumbers.{december-30, december-31, january-1, january-4}

pub edges-hold : EdgesHold
unfolding figures
edges-hold = record {
  enter = refl;
  list = refl;
  publish = refl;
  arbitrate = refl;
  opens = refl;
  trade = rw (december-30, december-31, january-1, january-4);
  mark = refl;
  close = refl;
  pay = refl;
  questions = refl;
  prices = refl;
  tickets = refl;
  slips = refl;
  accounts = refl;
  months = refl;
}
