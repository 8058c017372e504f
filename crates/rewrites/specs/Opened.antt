-- What a recipient works out above an opened node, by the selects that are up.
use Rattle.std.specs.Prelude.{◌≡◌, ℕ, ◌<◌, Bool, true, false, if◌then◌else◌, List, [], ◌∷◌, length, map, slice_index, slice_index_or}
use Rattle.std.specs.List.{All, range_with_len}
use Rattle.bags.specs.Bag.{SameBag}
use Rattle.query_graph.specs.declared.node.Node.{Node}
use Rattle.query_graph.specs.declared.operand.Item.{Item}
use Rattle.query_graph.specs.declared.operator.Operator.{Operator}
use Rattle.query_graph.specs.declared.operator.Operator.TheVariants as operators
use Rattle.query_graph.specs.Content.{Content}
use Rattle.query_graph.specs.NodeSizes.{IsNodeOf, width_at}
use Rattle.query_graph.specs.Observers.{sources_of}
use Rattle.plain_operators.specs.Items.{item_word}
use Rattle.plain_meaning.specs.Convert.{item_of}
use Rattle.plain_meaning.specs.Laws.{IsNodeOver}
use Rattle.plain_meaning.specs.Meaning.{meanings, rows_of}
use Rattle.rewrites.specs.Rewritten.{rewritten_of}
use Rattle.rewrites.specs.Up.{is_copy, is_up_at}
use Rattle.rewrites.specs.Values.{values_of}

-- the source of a node that has one
abbrev pub source_of : Operator → ℕ
source_of shape = slice_index (sources_of shape) 0

abbrev pub number_at : List ℕ → ℕ → ℕ
number_at numbers node = slice_index numbers node

-- the node that is opened for this one, behind these earlier ones: of a node that is up that of its source
abbrev pub node_opened : List Bool → Node → List ℕ → ℕ
node_opened up node earlier = if is_up_at up (length earlier) then number_at earlier (source_of node.shape) else length earlier

-- the node that is opened for each node: itself, or the source below all selects that are up
abbrev pub opened_nodes : Content → List ℕ
opened_nodes graph = values_of (node_opened (rewritten_of graph).up) graph.nodes

-- a node that isn't up is opened itself; for one that is up, whose source has a lower number, what is opened for its source
pub record OpenedBySources : Type 0 where
  pub itself : (graph : Content) (i : ℕ) (node : Node) → IsNodeOf graph i node → is_up_at (rewritten_of graph).up i ≡ false → number_at (opened_nodes graph) i ≡ i
  pub lower : (graph : Content) (i : ℕ) (node : Node) → IsNodeOf graph i node → is_up_at (rewritten_of graph).up i ≡ true → source_of node.shape < i
  pub below : (graph : Content) (i : ℕ) (node : Node) → IsNodeOf graph i node → is_up_at (rewritten_of graph).up i ≡ true
      → number_at (opened_nodes graph) i ≡ number_at (opened_nodes graph) (source_of node.shape)

-- a row of a select, from one of its source
abbrev pub selected_row : Operator → List ℕ → List ℕ
selected_row (operators.Relation r) row = row
selected_row (operators.Filter f) row = row
selected_row (operators.Select s) row = map (λ item. item row) (map item_word (map item_of s.items))
selected_row (operators.Concat c) row = row
selected_row (operators.Join j) row = row
selected_row (operators.Group g) row = row
selected_row (operators.Distinct d) row = row

abbrev pub row_as_it_is : List ℕ → List ℕ
row_as_it_is row = row

abbrev pub view_at : List (List ℕ → List ℕ) → ℕ → List ℕ → List ℕ
view_at views node = slice_index_or views node row_as_it_is

-- the row of a node that its recipient works out from an opened one: by the selects that are up, one after the other
abbrev pub node_view : List Bool → Node → List (List ℕ → List ℕ) → List ℕ → List ℕ
node_view up node earlier row = if is_up_at up (length earlier) then selected_row node.shape (view_at earlier (source_of node.shape) row) else row

abbrev pub views : Content → List (List ℕ → List ℕ)
views graph = values_of (node_view (rewritten_of graph).up) graph.nodes

-- the word of the first item that copies this column
abbrev pub copied_word : ℕ → List Item → List ℕ → ℕ
copied_word column [] words = 0
copied_word column (item ∷ wanted) [] = 0
copied_word column (item ∷ wanted) (word ∷ words) = if is_copy column item then word else copied_word column wanted words

-- back: a row of a select's source, each column from the first item that copies it
abbrev pub restored_row : List Node → Operator → List ℕ → List ℕ
restored_row nodes (operators.Relation r) row = row
restored_row nodes (operators.Filter f) row = row
restored_row nodes (operators.Select s) row = map (λ column. copied_word column s.items row) (range_with_len 0 (width_at nodes s.source))
restored_row nodes (operators.Concat c) row = row
restored_row nodes (operators.Join j) row = row
restored_row nodes (operators.Group g) row = row
restored_row nodes (operators.Distinct d) row = row

-- the opened row from which the recipient works out this one
abbrev pub node_back : List Node → List Bool → Node → List (List ℕ → List ℕ) → List ℕ → List ℕ
node_back nodes up node earlier row = if is_up_at up (length earlier) then view_at earlier (source_of node.shape) (restored_row nodes node.shape row) else row

abbrev pub backs : Content → List (List ℕ → List ℕ)
backs graph = values_of (node_back graph.nodes (rewritten_of graph).up) graph.nodes

-- the opened rows of a node in a world
abbrev pub opened_rows : Content → List (List (List ℕ)) → ℕ → List (List ℕ)
opened_rows graph world i = rows_of (meanings graph.nodes world) (number_at (opened_nodes graph) i)

-- what is worked out of the opened rows of a node are its plain rows, in every world; a map that knows no world undoes
-- it; and so the bag of a node's rows tells the bag of the opened ones
pub record UpIsUndone : Type 0 where
  pub rows : (graph : Content) (world : List (List (List ℕ))) (i : ℕ) (node : Node) → IsNodeOver graph world i node
      → map (view_at (views graph) i) (opened_rows graph world i) ≡ rows_of (meanings graph.nodes world) i
  pub undone : (graph : Content) (world : List (List (List ℕ))) (i : ℕ) (node : Node) → IsNodeOver graph world i node
      → All (λ row. view_at (backs graph) i (view_at (views graph) i row) ≡ row) (opened_rows graph world i)
  pub bag : (graph : Content) (world other : List (List (List ℕ))) (i : ℕ) (node : Node) → IsNodeOver graph world i node → IsNodeOver graph other i node
      → SameBag (rows_of (meanings graph.nodes world) i) (rows_of (meanings graph.nodes other) i) → SameBag (opened_rows graph world i) (opened_rows graph other i)
