use Rattle.scheme.proofs.Caused.{places}
use Rattle.scheme.proofs.causes.bad_places_have_causes.Goals as goal

pub returns : goal.returns
returns c = places
