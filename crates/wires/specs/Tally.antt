-- How a `Tally` holds its lanes.
use Rattle.wires.specs.Counted.{Counted}
use Rattle.wires.specs.declared.tally.Tally.TheInside.{Inside}

abbrev pub counted_by : Inside → Counted
counted_by tally = record { lanes = tally.lanes.items; and_words = tally.and_words; and_calls = tally.and_calls }
