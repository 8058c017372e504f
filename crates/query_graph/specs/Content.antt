-- What contracts see of a graph.
use Rattle.std.specs.Prelude.{List}
use Rattle.query_graph.specs.declared.node.Node.{Node}
use Rattle.query_graph.specs.declared.node.Output.{Output}

-- nodes in the order of the text, and outputs
pub record Content : Type 0 where
  pub nodes : List Node
  pub outputs : List Output
