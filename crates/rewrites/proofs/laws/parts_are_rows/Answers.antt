use Rattle.rewrites.proofs.Pieces.{parts_are_rows}
use Rattle.rewrites.proofs.laws.parts_are_rows.Goals as goal

pub returns : goal.returns
returns c = parts_are_rows (record { append = c.operators_of_append.ensures; written = c.nodes_are_written.ensures; mean = c.nodes_mean_operators.ensures })
