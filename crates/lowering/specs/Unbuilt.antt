-- What the compiler doesn't carry out yet.
use Rattle.std.specs.Prelude.{ℕ, ◌||◌, nat_lt, Bool, List, [], ◌∷◌, Option, Some, None, is_some, if◌then◌else◌}
use Rattle.std.specs.Option.{option_or}
use Rattle.query_graph.specs.Content.{Content}
use Rattle.query_graph.specs.Observers.{at_most_of, clear_at_of, parts_at_most_of, via_of}
use Rattle.query_graph.specs.declared.node.Node.{Node}
use Rattle.query_graph.specs.declared.operator.Operator.{Operator}
use Rattle.lowering.specs.Costs.{shared_cost}

-- a bound or a party is written on an operator
abbrev pub is_written : Operator → Bool
is_written shape = is_some (at_most_of shape) || is_some (parts_at_most_of shape) || is_some (via_of shape) || is_some (clear_at_of shape)

-- the line of the first node with one
abbrev pub first_written : List Node → Option ℕ
first_written [] = None
first_written (node ∷ nodes) = if is_written node.shape then Some node.line else first_written nodes

-- the most AND words that a query may take
abbrev pub and_limit : ℕ
and_limit = 8388608

-- line 0 where all nodes and outputs on shares take too many AND words
abbrev pub too_dear : ℕ → Option ℕ
too_dear cost = if nat_lt and_limit cost then Some 0 else None

-- the line of what isn't built
abbrev pub unbuilt : Content → Option ℕ
unbuilt graph = option_or (first_written graph.nodes) (too_dear (shared_cost graph))
