use Rattle.places.proofs.AcceptedPlaces.{accepted_each, accepted_places, accepted_total, accepted_words}
use Rattle.places.proofs.laws.accepted_are_few.Goals as goal

pub returns : goal.returns
returns c = record {
  places = accepted_places;
  words = accepted_words;
  total = accepted_total;
  each = λ graph known rewritten all i words is at. accepted_each graph known rewritten all is i words at;
}
