-- Bounds that a query's statements write, which `plain` doesn't carry out yet.
use Rattle.std.specs.Prelude.{ℕ, Bool, true, false, ◌||◌, List, [], ◌∷◌, Option, Some, None, if◌then◌else◌}
use Rattle.query_graph.specs.declared.node.Node.{Node}
use Rattle.query_graph.specs.declared.operator.Operator.{Operator}
use Rattle.query_graph.specs.Observers.{at_most_of, parts_at_most_of}

abbrev pub is_written : {A : Type 0} → Option A → Bool
is_written None = false
is_written (Some x) = true

-- a bound is written on the operator
abbrev pub is_bounded : Operator → Bool
is_bounded shape = is_written (at_most_of shape) || is_written (parts_at_most_of shape)

-- the line of the first node with a bound
abbrev pub first_bound : List Node → Option ℕ
first_bound [] = None
first_bound (node ∷ nodes) = if is_bounded node.shape then Some node.line else first_bound nodes
