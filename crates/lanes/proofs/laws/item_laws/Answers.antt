use Rattle.lanes.proofs.Items.{lane_items, lane_lengths, words_of_parts}
use Rattle.lanes.proofs.laws.item_laws.Goals as goal

pub returns : goal.returns
returns c = record { lengths = lane_lengths; items = lane_items; parts = words_of_parts }
