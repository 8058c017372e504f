use Rattle.plain_operators.proofs.Places.{filter_of_places}
use Rattle.plain_operators.proofs.laws.filter_of_places.Goals as goal

pub returns : goal.returns
returns c = filter_of_places
