use Rattle.plain_meaning.proofs.Nodes.{nodes_fit_earlier}
use Rattle.plain_meaning.proofs.laws.nodes_fit_earlier.Goals as goal

pub returns : goal.returns
returns c = nodes_fit_earlier
