use Rattle.std.proofs.Common.{arith}
use Rattle.places.proofs.Small.{width_within}
use Rattle.places.proofs.cost.width_at.Goals as goal

pub returns-clause-few : goal.returns-clause-few
returns-clause-few c = let within = width_within c.args.nodes.now c.requires c.args.number in omega (arith, c.width_of-width.ensures)
