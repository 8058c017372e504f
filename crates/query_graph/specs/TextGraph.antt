-- The graph of a text, or the rule that its statements break.
use Rattle.std.specs.Prelude.{◌≡◌, ℕ, List, Ok, Err, ◌⊎◌}
use Rattle.query_text.specs.Text.{IsFaultAt, IsQuery}
use Rattle.query_text.specs.declared.statement.Statement.{Statement}
use Rattle.query_graph.specs.declared.fault.GraphFault.{GraphFault}
use Rattle.query_graph.specs.Build.{graph_of}
use Rattle.query_graph.specs.Content.{Content}
use Rattle.query_graph.specs.IsGraph.{IsGraph}
use Rattle.query_graph.specs.Statements.{IsFaultOf, IsGraphOf}

-- the text is a query, and this is its statements' graph
pub record HasGraph (text : List ℕ) (graph : Content) : Type 0 where
  pub statements : List Statement
  pub read : IsQuery text statements
  pub built : graph_of statements ≡ Ok graph

-- the text is a query, and its statements have no graph for this reason
pub record HasGraphFault (text : List ℕ) (fault : GraphFault) : Type 0 where
  pub statements : List Statement
  pub read : IsQuery text statements
  pub faulty : graph_of statements ≡ Err fault

-- a text stops being a query somewhere, or its statements have a fault, or it has a graph; only one of these, and one
-- fault or graph at most. The graph is one, and that of the statements; the fault is theirs
pub record TextsHaveGraphs : Type 0 where
  pub each : (text : List ℕ) → ((line : ℕ) × (column : ℕ) × IsFaultAt text line column) ⊎ (((fault : GraphFault) × HasGraphFault text fault) ⊎ ((graph : Content) × HasGraph text graph))
  pub one_graph : (text : List ℕ) (a b : Content) → HasGraph text a → HasGraph text b → a ≡ b
  pub one_fault : (text : List ℕ) (a b : GraphFault) → HasGraphFault text a → HasGraphFault text b → a ≡ b
  pub no_fault : (text : List ℕ) (graph : Content) (fault : GraphFault) → HasGraph text graph → HasGraphFault text fault → ⊥
  pub no_place : (text : List ℕ) (graph : Content) (line column : ℕ) → HasGraph text graph → IsFaultAt text line column → ⊥
  pub is_graph : (text : List ℕ) (graph : Content) → HasGraph text graph → IsGraph graph
  pub made : (text : List ℕ) (graph : Content) (statements : List Statement) → HasGraph text graph → IsQuery text statements → IsGraphOf statements graph
  pub broken : (text : List ℕ) (fault : GraphFault) (statements : List Statement) → HasGraphFault text fault → IsQuery text statements → IsFaultOf statements fault
