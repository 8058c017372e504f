-- Open values that fit a layout.
use Rattle.std.specs.List.{AllZip}
use Rattle.lanes.specs.declared.party.Party.{Party}
use Rattle.lanes.specs.Three.{at}
use Rattle.step_lists.specs.Layout.{Layout}
use Rattle.step_lists.specs.Open.{Open}
use Rattle.step_lists.specs.Shapes.{HasLength, HaveShapes}

-- registers have their lengths, slots their shapes, and all words are below 2 ^ 64
pub record OpenFits (l : Layout) (o : Open) : Type 0 where
  pub registers : AllZip HasLength l.registers o.registers
  pub slots : (p : Party) → HaveShapes (at p l.slots) (at p o.slots)
