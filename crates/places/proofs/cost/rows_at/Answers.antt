use Rattle.std.proofs.Common.{arith}
use Rattle.places.proofs.Small.{rows_within}
use Rattle.places.proofs.cost.rows_at.Goals as goal

pub returns-clause-few : goal.returns-clause-few
returns-clause-few c = let within = rows_within c.args.nodes.now c.requires c.args.number in omega (arith, c.declared_rows-rows.ensures)
