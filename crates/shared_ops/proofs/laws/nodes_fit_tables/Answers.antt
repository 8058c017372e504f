use Rattle.shared_ops.proofs.NodeLaws as nodes
use Rattle.shared_ops.proofs.laws.nodes_fit_tables.Goals as goal

pub returns : goal.returns
returns c = nodes.nodes_fit_tables c.nodes_fit_earlier.ensures c.nodes_have_sizes.ensures c.bounds_make_smaller.ensures c.nodes_are_operators.ensures
