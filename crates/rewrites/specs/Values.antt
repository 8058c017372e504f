-- Values of a graph's nodes in order, each from its node and from the values of the earlier ones.
use Rattle.std.specs.Prelude.{List, [], ◌∷◌, ◌++◌}
use Rattle.query_graph.specs.declared.node.Node.{Node}

-- behind the values of earlier nodes those of these
abbrev pub values_behind : {X : Type 0} → (Node → List X → X) → List X → List Node → List X
values_behind step earlier [] = earlier
values_behind step earlier (node ∷ nodes) = values_behind step (earlier ++ step node earlier ∷ []) nodes

abbrev pub values_of : {X : Type 0} → (Node → List X → X) → List Node → List X
values_of step nodes = values_behind step [] nodes
