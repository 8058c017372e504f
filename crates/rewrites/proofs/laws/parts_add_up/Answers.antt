use Rattle.rewrites.proofs.PartSizes.{parts_add_up}
use Rattle.rewrites.proofs.laws.parts_add_up.Goals as goal

pub returns : goal.returns
returns c = parts_add_up (record { written = c.nodes_are_written.ensures; sizes = c.nodes_have_sizes.ensures })
