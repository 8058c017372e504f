-- What the halves of a level are.
use Rattle.std.specs.Prelude.{◌≡◌, ◌≤◌, ◌^◌}
use Rattle.lanes.specs.Prefix.{lower_places, top_places, upper_places}
use Rattle.circuits.specs.declared.halves.Halves.{Halves}

pub record AreHalves (halves : Halves) : Type 0 where
  pub few : halves.level ≤ 5
  pub places : halves.places ≡ 2 ^ halves.level
  pub lower : halves.lower ≡ lower_places halves.level
  pub upper : halves.upper ≡ upper_places halves.level
  pub top : halves.top ≡ top_places halves.level
