use Rattle.model.proofs.claims.claims_hold.Goals as goal
use Rattle.model.proofs.Balancing.{always-balanced}
use Rattle.model.proofs.Valuing.{always-valued}

pub returns : goal.returns
returns c = record { balanced = always-balanced; valued = always-valued }
