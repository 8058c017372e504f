use Rattle.graph_laws.proofs.Graphs.{graphs_are_written}
use Rattle.graph_laws.proofs.laws.graphs_are_written.Goals as goal

pub returns : goal.returns
returns c = graphs_are_written c.one_reading.ensures c.texts_give_statements.ensures
