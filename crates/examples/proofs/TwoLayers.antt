-- What two layers say, computed.
use Rattle.std.proofs.Common.{refl}
use Rattle.examples.specs.TwoLayers.{TwoLayers}

pub two-layers : TwoLayers
two-layers = record { lawful = (refl, (refl, tt)); before = refl; after = refl; days = refl; publish = refl; arbitrate = refl; lowest = refl }
