-- The graph of a query is the one that its statements write.
use Rattle.std.specs.Prelude.{◌≡◌, ℕ, not, List, Ok, filter}
use Rattle.std.specs.List.{AllZip}
use Rattle.query_text.specs.Grammar.{AreStatements}
use Rattle.query_text.specs.Text.{IsQuery}
use Rattle.query_text.specs.declared.statement.Statement.{Statement}
use Rattle.query_graph.specs.Build.{graph_of}
use Rattle.query_graph.specs.Content.{Content}
use Rattle.query_graph.specs.Statements.{is_output}
use Rattle.query_graph.specs.TextGraph.{HasGraph}
use Rattle.graph_laws.specs.Nodes.{HasNode, HasOutput}

-- the nodes are those of the statements that aren't outputs, in order, and the outputs those of the others
pub record IsWritten (statements : List Statement) (graph : Content) : Type 0 where
  pub nodes : AllZip (HasNode graph.nodes) (filter (λ s. not (is_output s)) statements) graph.nodes
  pub outputs : AllZip (HasOutput graph.nodes) (filter is_output statements) graph.outputs

-- of a query's statements, and of those of a text
pub record GraphsAreWritten : Type 0 where
  pub of_queries : (statements : List Statement) (graph : Content) → AreStatements statements → graph_of statements ≡ Ok graph → IsWritten statements graph
  pub of_texts : (text : List ℕ) (statements : List Statement) (graph : Content) → IsQuery text statements → HasGraph text graph → IsWritten statements graph
