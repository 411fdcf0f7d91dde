use Rattle.amounts.proofs.Writing.{rows-stand}
use Rattle.amounts.proofs.session.SessionTrades.write_amounts.Goals as goal

pub returns-then-not-has_room-clause-placed : goal.returns-then-not-has_room-clause-placed
returns-then-not-has_room-clause-placed c = rows-stand

pub returns-clause-placed : goal.returns-clause-placed
returns-clause-placed c = rows-stand
