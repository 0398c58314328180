use Rattle.frame_laws.proofs.Places.{by_places}
use Rattle.frame_laws.proofs.open_frame_by_places.Goals as goal

pub returns : goal.returns
returns c = by_places
