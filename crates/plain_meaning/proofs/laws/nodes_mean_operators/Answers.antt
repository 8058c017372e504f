use Rattle.plain_meaning.proofs.Nodes.{nodes_mean_operators}
use Rattle.plain_meaning.proofs.laws.nodes_mean_operators.Goals as goal

pub returns : goal.returns
returns c =
    let laws = c.row_laws.ensures in
    nodes_mean_operators (record { widths = laws.widths; words = laws.words; items = laws.items; counts = laws.counts; texts = laws.texts })
