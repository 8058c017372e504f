use Rattle.lanes.proofs.TablePlaces.{places_of_table}
use Rattle.lanes.proofs.laws.table_laws.Goals as goal

pub returns : goal.returns
returns c = places_of_table
