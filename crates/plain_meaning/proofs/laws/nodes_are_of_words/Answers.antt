use Rattle.plain_meaning.proofs.Nodes.{nodes_are_of_words}
use Rattle.plain_meaning.proofs.laws.nodes_are_of_words.Goals as goal

pub returns : goal.returns
returns c =
    let laws = c.row_laws.ensures in
    nodes_are_of_words (record { widths = laws.widths; words = laws.words; items = laws.items; counts = laws.counts; texts = laws.texts })
