use Rattle.pbs_derive.proofs.LastPlaces.{covers_last}
use Rattle.pbs_derive.proofs.Shapes.{places_once}
use Rattle.pbs_derive.proofs.laws.last_places.Goals as goal

pub returns : goal.returns
returns c = λ e v i j first none numbered. covers_last e v i j none (places_once e first numbered)
