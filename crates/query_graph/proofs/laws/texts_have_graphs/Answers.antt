use Rattle.query_graph.proofs.TextGraphs.{texts_have_graphs}
use Rattle.query_graph.proofs.laws.texts_have_graphs.Goals as goal

pub returns : goal.returns
returns c = texts_have_graphs c.one_reading.ensures c.texts_give_statements.ensures
