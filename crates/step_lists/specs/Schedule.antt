-- A schedule as a list of needs for each tape.
use Rattle.std.specs.Prelude.{List}
use Rattle.lanes.specs.declared.three.Three.{Three}
use Rattle.tapes.specs.declared.draw.Need.{Need}
use Rattle.tapes.specs.declared.draw.Schedule.{Schedule}

abbrev pub lists_of : Schedule → Three (List Need)
lists_of schedule = record { first = schedule.first; second = schedule.second; third = schedule.third }
