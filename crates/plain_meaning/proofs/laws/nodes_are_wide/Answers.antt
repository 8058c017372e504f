use Rattle.plain_meaning.proofs.Nodes.{nodes_are_wide}
use Rattle.plain_meaning.proofs.laws.nodes_are_wide.Goals as goal

pub returns : goal.returns
returns c =
    let laws = c.row_laws.ensures in
    nodes_are_wide (record { widths = laws.widths; words = laws.words; items = laws.items; counts = laws.counts; texts = laws.texts })
