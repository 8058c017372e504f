-- The rows of a node's parts, from those of its sources' parts: one after the other they are the node's rows.
use Rattle.std.proofs.Common.{◌≡◌, ℕ, zero, suc, ◌+◌, ◌<◌, List, [], ◌∷◌, ◌++◌, Some, None, length, map, take, get_or, refl, sym, ◌∙◌, ap, arith}
use Rattle.std.specs.Prelude.{slice_get}
use Rattle.std.specs.List.{All, flat_map}
use Rattle.std.proofs.lemmas.List.{append-nil, get_or-take, length-append, length-map}
use Rattle.std.proofs.lemmas.List.Concat.{flat_map-append}
use Rattle.std.proofs.lemmas.List.Elements.{All-head, All-tail}
use Rattle.std.proofs.lemmas.Option.{slice_get-get_or, slice_get_within}
use Rattle.bags.specs.Bag.{SameBag, count_of}
use Rattle.query_graph.specs.declared.node.Node.{Node}
use Rattle.query_graph.specs.declared.operator.Operator.{Operator}
use Rattle.query_graph.specs.declared.operator.Operator.TheVariants as operators
use Rattle.query_graph.specs.Content.{Content}
use Rattle.query_graph.specs.NodeSizes.{IsNodeOf, NodesAreWritten}
use Rattle.query_graph.specs.Observers.{sources_of}
use Rattle.plain_operators.specs.Items.{holds_of, item_word}
use Rattle.plain_operators.specs.Laws.{OperatorsOfAppend}
use Rattle.plain_operators.specs.Operators.{kept_rows, rows_of_items}
use Rattle.plain_meaning.specs.Convert.{item_of, test_of}
use Rattle.plain_meaning.specs.Laws.{IsNodeOver, NodesMeanOperators, relations_before}
use Rattle.plain_meaning.specs.Meaning.{meanings, node_rows, rows_of}
use Rattle.rewrites.specs.declared.part.Part.{Part}
use Rattle.rewrites.specs.Laws.{PartsAreRows}
use Rattle.rewrites.specs.Parts.{only_place, parts_at, parts_of, source_parts}
use Rattle.rewrites.specs.PartRows.{divided, node_pieces, pieces_at, pieces_of, pushed_rows, source_pieces}
use Rattle.rewrites.proofs.PartCases.{IsPushed, divided_by, is_split}
use Rattle.rewrites.proofs.Values.{value_here, values_before}

abbrev pub joined : List (List (List ℕ)) → List (List ℕ)
joined pieces = flat_map (λ rows. rows) pieces

-- the pieces of a node, from those of the earlier ones
pub pieces_here : (nodes : List Node) (rows : List (List (List ℕ))) (i : ℕ) (n : Node) → slice_get nodes i ≡ Some n
    → pieces_at (pieces_of nodes rows) i ≡ divided (parts_at (parts_of nodes) i) (rows_of rows i) (pushed_rows n.shape (source_pieces n.shape (take i (pieces_of nodes rows))))
pieces_here nodes rows i n at =
    let step = node_pieces (parts_of nodes) rows in
    let earlier = take i (pieces_of nodes rows) in
    value_here step [] nodes i n at
    ∙ ap (λ k. divided (parts_at (parts_of nodes) k) (rows_of rows k) (pushed_rows n.shape (source_pieces n.shape earlier))) (values_before step nodes i n at)

-- a map of rows that goes through appending goes through the pieces
through_pieces : (f : List (List ℕ) → List (List ℕ)) → f [] ≡ [] → ((xs ys : List (List ℕ)) → f (xs ++ ys) ≡ f xs ++ f ys) → (pieces : List (List (List ℕ))) → joined (map f pieces) ≡ f (joined pieces)
through_pieces f none both [] = sym none
through_pieces f none both (rows ∷ pieces) = ap (λ l. f rows ++ l) (through_pieces f none both pieces) ∙ sym (both rows (joined pieces))

module _ (append : OperatorsOfAppend) (i : ℕ) (pieces : List (List (List (List ℕ)))) (rows : List (List (List ℕ))) (earlier : (s : ℕ) → s < i → joined (pieces_at pieces s) ≡ rows_of rows s) where
  sources_joined : (sources : List ℕ) → All (λ s. s < i) sources → joined (flat_map (pieces_at (take i pieces)) sources) ≡ flat_map (rows_of (take i rows)) sources
  sources_joined [] lower = refl
  sources_joined (s ∷ sources) lower =
      let below = All-head (λ s. s < i) s sources lower in
      let here : joined (pieces_at (take i pieces) s) ≡ rows_of (take i rows) s = ap joined (get_or-take i pieces s [] below) ∙ earlier s below ∙ sym (get_or-take i rows s [] below) in
      let rest = sources_joined sources (All-tail (λ s. s < i) s sources lower) in
      flat_map-append (λ (xs : List (List ℕ)). xs) (pieces_at (take i pieces) s) (flat_map (pieces_at (take i pieces)) sources) ∙ (λ k. here k ++ rest k)

  pub pushed_joined : (shape : Operator) (file : List (List ℕ)) → IsPushed shape → All (λ s. s < i) (sources_of shape) → joined (pushed_rows shape (source_pieces shape (take i pieces))) ≡ node_rows shape file (take i rows)
  pushed_joined (operators.Relation r) file pushed lower = absurd pushed
  pushed_joined (operators.Filter f) file pushed lower =
      let tests = map holds_of (map test_of f.tests) in
      through_pieces (kept_rows tests) refl (append.kept tests) (flat_map (pieces_at (take i pieces)) (f.source ∷ []))
      ∙ ap (kept_rows tests) (sources_joined (f.source ∷ []) lower ∙ append-nil (rows_of (take i rows) f.source))
  pushed_joined (operators.Select s) file pushed lower =
      let words = map item_word (map item_of s.items) in
      through_pieces (rows_of_items words) refl (append.items words) (flat_map (pieces_at (take i pieces)) (s.source ∷ []))
      ∙ ap (rows_of_items words) (sources_joined (s.source ∷ []) lower ∙ append-nil (rows_of (take i rows) s.source))
  pushed_joined (operators.Concat c) file pushed lower = sources_joined c.sources lower
  pushed_joined (operators.Join j) file pushed lower = absurd pushed
  pushed_joined (operators.Group g) file pushed lower = absurd pushed
  pushed_joined (operators.Distinct d) file pushed lower = absurd pushed

-- as many pieces as parts
module _ (i : ℕ) (pieces : List (List (List (List ℕ)))) (parts : List (List Part)) (earlier : (s : ℕ) → s < i → length (pieces_at pieces s) ≡ length (parts_at parts s)) where
  sources_count : (sources : List ℕ) → All (λ s. s < i) sources → length (flat_map (pieces_at (take i pieces)) sources) ≡ length (flat_map (parts_at (take i parts)) sources)
  sources_count [] lower = refl
  sources_count (s ∷ sources) lower =
      let below = All-head (λ s. s < i) s sources lower in
      let here : length (pieces_at (take i pieces) s) ≡ length (parts_at (take i parts) s) = ap (λ l. length l) (get_or-take i pieces s [] below) ∙ earlier s below ∙ sym (ap (λ l. length l) (get_or-take i parts s [] below)) in
      let rest = sources_count sources (All-tail (λ s. s < i) s sources lower) in
      length-append (pieces_at (take i pieces) s) (flat_map (pieces_at (take i pieces)) sources) ∙ (λ k. here k + rest k)
      ∙ sym (length-append (parts_at (take i parts) s) (flat_map (parts_at (take i parts)) sources))

  pub pushed_count : (shape : Operator) → All (λ s. s < i) (sources_of shape) → length (pushed_rows shape (source_pieces shape (take i pieces))) ≡ length (source_parts shape (take i parts))
  pushed_count (operators.Relation r) lower = refl
  pushed_count (operators.Filter f) lower = length-map (flat_map (pieces_at (take i pieces)) (f.source ∷ [])) (kept_rows (map holds_of (map test_of f.tests))) ∙ sources_count (f.source ∷ []) lower
  pushed_count (operators.Select s) lower = length-map (flat_map (pieces_at (take i pieces)) (s.source ∷ [])) (rows_of_items (map item_word (map item_of s.items))) ∙ sources_count (s.source ∷ []) lower
  pushed_count (operators.Concat c) lower = sources_count c.sources lower
  pushed_count (operators.Join j) lower = sources_count (j.left ∷ j.right ∷ []) lower
  pushed_count (operators.Group g) lower = sources_count (g.source ∷ []) lower
  pushed_count (operators.Distinct d) lower = sources_count (d.source ∷ []) lower

-- of parts in their cases
counted : (parts : List Part) (rows : List (List ℕ)) (pieces : List (List (List ℕ))) → (only_place parts ≡ None → length pieces ≡ length parts) → length (divided parts rows pieces) ≡ length parts
counted [] rows pieces split = split refl
counted (part ∷ []) rows pieces split = refl
counted (part ∷ other ∷ parts) rows pieces split = split refl

pub record RowLaws : Type 0 where
  pub append : OperatorsOfAppend
  pub written : NodesAreWritten
  pub mean : NodesMeanOperators

module _ (written : NodesAreWritten) (graph : Content) (rows : List (List (List ℕ))) where
  count_below : (count i : ℕ) → i < count → (n : Node) → IsNodeOf graph i n → length (pieces_at (pieces_of graph.nodes rows) i) ≡ length (parts_at (parts_of graph.nodes) i)
  count_below zero i below n node = absurd (omega arith)
  count_below (suc count) i below n node =
      let nodes = graph.nodes in
      let inside = slice_get_within nodes i n node.is_node in
      let earlier : (s : ℕ) → s < i → length (pieces_at (pieces_of nodes rows) s) ≡ length (parts_at (parts_of nodes) s) = λ s lower.
      count_below count s (omega arith) (get_or nodes s n) (record { is_graph = node.is_graph; is_node = slice_get-get_or nodes s n (omega arith) }) in
      let pushed = pushed_rows n.shape (source_pieces n.shape (take i (pieces_of nodes rows))) in
      ap (λ l. length l) (pieces_here nodes rows i n node.is_node)
      ∙ counted (parts_at (parts_of nodes) i) (rows_of rows i) pushed
      (λ none. pushed_count i (pieces_of nodes rows) (parts_of nodes) earlier n.shape (written.sources graph i n node) ∙ sym (ap (λ l. length l) (is_split nodes i n node.is_node none).same))

  pub pieces_count : (i : ℕ) (n : Node) → IsNodeOf graph i n → length (pieces_at (pieces_of graph.nodes rows) i) ≡ length (parts_at (parts_of graph.nodes) i)
  pieces_count i n node = count_below (suc i) i (omega arith) n node

module _ (laws : RowLaws) (graph : Content) (world : List (List (List ℕ))) where
  rows_below : (count i : ℕ) → i < count → (n : Node) → IsNodeOver graph world i n → joined (pieces_at (pieces_of graph.nodes (meanings graph.nodes world)) i) ≡ rows_of (meanings graph.nodes world) i
  rows_below zero i below n over = absurd (omega arith)
  rows_below (suc count) i below n over =
      let rows = meanings graph.nodes world in
      let nodes = graph.nodes in
      let inside = slice_get_within nodes i n over.is_node in
      let earlier : (s : ℕ) → s < i → joined (pieces_at (pieces_of nodes rows) s) ≡ rows_of rows s = λ s lower.
      rows_below count s (omega arith) (get_or nodes s n) (record { is_graph = over.is_graph; is_world = over.is_world; is_node = slice_get-get_or nodes s n (omega arith) }) in
      let lower = laws.written.sources graph i n (record { is_graph = over.is_graph; is_node = over.is_node }) in
      let pushed = pushed_rows n.shape (source_pieces n.shape (take i (pieces_of nodes rows))) in
      ap joined (pieces_here nodes rows i n over.is_node)
      ∙ divided_by (λ l. joined l ≡ rows_of rows i) (parts_at (parts_of nodes) i) (rows_of rows i) pushed (append-nil (rows_of rows i))
      (λ none. pushed_joined laws.append i (pieces_of nodes rows) rows earlier n.shape (rows_of world (relations_before nodes i)) (is_split nodes i n over.is_node none).pushed lower ∙ sym (laws.mean graph world i n over))

  pub pieces_joined : (i : ℕ) (n : Node) → IsNodeOver graph world i n → joined (pieces_at (pieces_of graph.nodes (meanings graph.nodes world)) i) ≡ rows_of (meanings graph.nodes world) i
  pieces_joined i n over = rows_below (suc i) i (omega arith) n over

same_bag : {xs ys : List (List ℕ)} → xs ≡ ys → SameBag xs ys
same_bag e = record { counts = λ row. ap (count_of row) e }

pub parts_are_rows : RowLaws → PartsAreRows
parts_are_rows laws = record {
  each = λ graph rows i n node. pieces_count laws.written graph rows i n node;
  rows = λ graph world i n over. pieces_joined laws graph world i n over;
  bag = λ graph world i n over. same_bag (pieces_joined laws graph world i n over);
}
