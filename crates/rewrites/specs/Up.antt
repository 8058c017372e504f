-- Which selects are up: their recipients work them out on rows that were opened before.
use Rattle.std.specs.Prelude.{ℕ, ◌+◌, Bool, false, ◌==◌, ◌&&◌, ◌||◌, List, [], ◌∷◌, ◌++◌, map, slice_get, slice_index_or, count_by}
use Rattle.std.specs.List.{flat_map, list_all, list_any, range_with_len}
use Rattle.std.specs.Option.{is_none, option_map_or}
use Rattle.query_graph.specs.declared.node.Node.{Node}
use Rattle.query_graph.specs.declared.operand.Item.{Item}
use Rattle.query_graph.specs.declared.operand.Item.TheVariants as items
use Rattle.query_graph.specs.declared.operand.Operand.{Operand}
use Rattle.query_graph.specs.declared.operand.Operand.TheVariants as operands
use Rattle.query_graph.specs.declared.operator.Operator.{Operator}
use Rattle.query_graph.specs.declared.operator.Operator.TheVariants as operators
use Rattle.query_graph.specs.declared.operator.Select.{Select}
use Rattle.query_graph.specs.Content.{Content}
use Rattle.query_graph.specs.NodeSizes.{width_at}
use Rattle.query_graph.specs.Observers.{sources_of}
use Rattle.rewrites.specs.declared.part.Part.{Part}
use Rattle.rewrites.specs.Parts.{is_joint, parts_at}

-- whether an operand is this column, and an item a copy of it
abbrev pub is_column : ℕ → Operand → Bool
is_column column (operands.Column c) = c == column
is_column column (operands.Constant word) = false

abbrev pub is_copy : ℕ → Item → Bool
is_copy column (items.Plain operand) = is_column column operand
is_copy column (items.Computed left op right) = false

-- whether each of so many columns is copied by an item
abbrev pub copies_columns : List Item → ℕ → Bool
copies_columns wanted width = list_all (λ column. list_any (λ item. is_copy column item) wanted) (range_with_len 0 width)

-- the nodes that are used, each as often as nodes name it as a source and outputs name it
abbrev pub used_nodes : Content → List ℕ
used_nodes graph = flat_map (λ (n : Node). sources_of n.shape) graph.nodes ++ map (λ o. o.node) graph.outputs

-- how often a node is used
abbrev pub uses : List ℕ → ℕ → ℕ
uses used number = count_by (λ s. s == number) used

-- whether an output names this node
abbrev pub is_answer : Content → ℕ → Bool
is_answer graph number = list_any (λ o. o.node == number) graph.outputs

-- whether a node has this one as its first source
abbrev pub is_first_source : ℕ → Operator → Bool
is_first_source number shape = option_map_or (λ s. s == number) (slice_get (sources_of shape) 0) false

-- whether one of these nodes that is up has this one as its source
abbrev pub is_under_up : ℕ → List Node → List Bool → Bool
is_under_up number [] up = false
is_under_up number (node ∷ nodes) [] = false
is_under_up number (node ∷ nodes) (is_up ∷ up) = (is_up && is_first_source number node.shape) || is_under_up number nodes up

-- whether a select has no party written, a joint part under it, and copies each column of its source
abbrev pub can_go_up : List Node → List (List Part) → Select → Bool
can_go_up nodes parts s = is_none s.clear_at && (list_any (λ part. is_joint part) (parts_at parts s.source) && copies_columns s.items (width_at nodes s.source))

-- whether a node is used once, by an output or by one of these later nodes that is up
abbrev pub is_shown_once : Content → ℕ → List Node → List Bool → Bool
is_shown_once graph number later up = (uses (used_nodes graph) number == 1) && (is_answer graph number || is_under_up number later up)

-- whether the node with this number, before these later ones of which these are up, is up
abbrev pub is_up_before : Content → List (List Part) → ℕ → Operator → List Node → List Bool → Bool
is_up_before graph parts number (operators.Relation r) later up = false
is_up_before graph parts number (operators.Filter f) later up = false
is_up_before graph parts number (operators.Select s) later up = can_go_up graph.nodes parts s && is_shown_once graph number later up
is_up_before graph parts number (operators.Concat c) later up = false
is_up_before graph parts number (operators.Join j) later up = false
is_up_before graph parts number (operators.Group g) later up = false
is_up_before graph parts number (operators.Distinct d) later up = false

-- one more node in front of these
abbrev pub up_before : Content → List (List Part) → ℕ → Node → List Node → List Bool → List Bool
up_before graph parts number node later up = is_up_before graph parts number node.shape later up ∷ up

-- which of the nodes from this number on are up
abbrev pub up_from : Content → List (List Part) → ℕ → List Node → List Bool
up_from graph parts number [] = []
up_from graph parts number (node ∷ nodes) = up_before graph parts number node nodes (up_from graph parts (number + 1) nodes)

-- which nodes of a graph are up
abbrev pub up_nodes : Content → List (List Part) → List Bool
up_nodes graph parts = up_from graph parts 0 graph.nodes

abbrev pub is_up_at : List Bool → ℕ → Bool
is_up_at up number = slice_index_or up number false
