-- A node's operator as an operator on its sources, and what that says of its rows and of its size.
use Rattle.std.specs.Prelude.{◌≡◌, ℕ, List, Option, Some, None, map}
use Rattle.query_graph.specs.declared.operator.Operator.{Operator}
use Rattle.query_graph.specs.declared.operator.Operator.TheVariants.{Relation, Filter, Select, Concat, Join, Group, Distinct}
use Rattle.query_graph.specs.NodeSizes.{unbounded_size}
use Rattle.query_graph.specs.Observers.{sources_of}
use Rattle.plain_operators.specs.OnSources as on_sources
use Rattle.plain_meaning.specs.Convert.{aggregate_of, item_of, test_of}
use Rattle.plain_meaning.specs.Meaning.{node_rows, rows_of}

-- the operator of a node, without its sources, bounds and parties; a relation has none
abbrev pub operator_of : Operator → Option on_sources.Operator
operator_of (Relation r) = None
operator_of (Filter f) = Some (on_sources.Filter (map test_of f.tests))
operator_of (Select s) = Some (on_sources.Select (map item_of s.items))
operator_of (Concat c) = Some on_sources.Concat
operator_of (Join j) = Some (on_sources.Join j.keys)
operator_of (Group g) = Some (on_sources.Group g.keys (map aggregate_of g.aggregates))
operator_of (Distinct d) = Some on_sources.Distinct

-- the rows of a node are those of its operator on the rows of its sources, and its most rows without bounds are those
-- of its operator
pub record NodesAreOperators : Type 0 where
  pub rows : (shape : Operator) (operator : on_sources.Operator) (file : List (List ℕ)) (earlier : List (List (List ℕ))) → operator_of shape ≡ Some operator
      → node_rows shape file earlier ≡ on_sources.operator_rows operator (map (rows_of earlier) (sources_of shape))
  pub sizes : (shape : Operator) (operator : on_sources.Operator) (sizes : List ℕ) → operator_of shape ≡ Some operator
      → unbounded_size shape sizes ≡ on_sources.operator_size operator sizes
