use Rattle.plain_meaning.proofs.Nodes.{nodes_keep_sizes}
use Rattle.plain_meaning.proofs.laws.nodes_keep_sizes.Goals as goal

pub returns : goal.returns
returns c =
    let laws = c.row_laws.ensures in
    nodes_keep_sizes (record { widths = laws.widths; words = laws.words; items = laws.items; counts = laws.counts; texts = laws.texts })
