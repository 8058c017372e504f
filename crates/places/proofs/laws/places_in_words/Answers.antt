use Rattle.places.proofs.PlacesInWords.{clear_sources, clear_written, hybrid_place}
use Rattle.places.proofs.laws.places_in_words.Goals as goal

pub returns : goal.returns
returns c = record {
  clear = clear_sources c.nodes_have_parts.ensures;
  written = clear_written c.nodes_have_parts.ensures;
  hybrid = hybrid_place;
}
