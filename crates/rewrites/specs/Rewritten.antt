-- What contracts see of a graph's rewriting.
use Rattle.std.specs.Prelude.{Bool, List}
use Rattle.query_graph.specs.Content.{Content}
use Rattle.rewrites.specs.declared.part.Part.{Part}
use Rattle.rewrites.specs.Parts.{parts_of}
use Rattle.rewrites.specs.Up.{up_nodes}

-- the parts of each node, and whether it is up
pub record Rewritten : Type 0 where
  pub parts : List (List Part)
  pub up : List Bool

abbrev pub rewritten_of : Content → Rewritten
rewritten_of graph = record { parts = parts_of graph.nodes; up = up_nodes graph (parts_of graph.nodes) }
