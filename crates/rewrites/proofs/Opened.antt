-- What a recipient works out of opened rows, and that it can be undone.
use Rattle.std.proofs.Common.{◌≡◌, ℕ, zero, suc, ◌<◌, Bool, true, false, cond, List, [], ◌∷◌, Option, Some, length, map, take, get_or, refl, sym, ◌∙◌, ap, subst, arith}
use Rattle.std.specs.Prelude.{slice_get}
use Rattle.std.specs.List.{All}
use Rattle.std.specs.Option.{option_map_or}
use Rattle.std.proofs.lemmas.List.{get_or-map, get_or-take, length-map, map-id}
use Rattle.std.proofs.lemmas.List.Elements.{All-same}
use Rattle.std.proofs.lemmas.Option.{slice_get-get_or, slice_get_within}
use Rattle.bags.specs.Bag.{SameBag}
use Rattle.bags.specs.Laws.{BagsOfInjectiveMap}
use Rattle.query_graph.specs.declared.node.Node.{Node}
use Rattle.query_graph.specs.declared.operator.Operator.{Operator}
use Rattle.query_graph.specs.Content.{Content}
use Rattle.query_graph.specs.IsGraph.{IsGraph}
use Rattle.query_graph.specs.NodeSizes.{IsNodeOf, NodesAreWritten, width_at}
use Rattle.plain_operators.specs.Sizes.{AllWide}
use Rattle.plain_meaning.specs.Fits.{IsWorldOf}
use Rattle.plain_meaning.specs.Laws.{IsNodeOver, NodesAreWide, NodesMeanOperators, relations_before}
use Rattle.plain_meaning.specs.Meaning.{meanings, rows_of}
use Rattle.rewrites.specs.Opened.{OpenedBySources, UpIsUndone, backs, node_back, node_opened, node_view, number_at, opened_nodes, opened_rows, restored_row, row_as_it_is, selected_row, source_of, view_at, views}
use Rattle.rewrites.specs.Parts.{parts_of}
use Rattle.rewrites.specs.Up.{is_up_at, up_nodes}
use Rattle.rewrites.proofs.UpSelects.{up_found, up_lower, up_rows, up_undone}
use Rattle.rewrites.proofs.Values.{value_here, values_before}

map_twice : (f g : List ℕ → List ℕ) (xs : List (List ℕ)) → map (λ x. f (g x)) xs ≡ map f (map g xs)
map_twice f g [] = refl
map_twice f g (x ∷ xs) = ap (λ l. f (g x) ∷ l) (map_twice f g xs)

-- this view makes the rows of a node of those of another one, and this map undoes it
record Undone (rows : List (List (List ℕ))) (view back : List ℕ → List ℕ) (opened i : ℕ) : Type 0 where
  shown : map view (rows_of rows opened) ≡ rows_of rows i
  undone : All (λ row. back (view row) ≡ row) (rows_of rows opened)

moved : (rows : List (List (List ℕ))) (i : ℕ) (view other_view back other_back : List ℕ → List ℕ) (opened other : ℕ) → view ≡ other_view → back ≡ other_back → opened ≡ other → Undone rows other_view other_back other i → Undone rows view back opened i
moved rows i view other_view back other_back opened other same_view same_back same_opened undone =
    subst (λ v. Undone rows v back opened i) (sym same_view) (subst (λ b. Undone rows other_view b opened i) (sym same_back) (subst (λ o. Undone rows other_view other_back o i) (sym same_opened) undone))

itself : (rows : List (List (List ℕ))) (i : ℕ) → Undone rows (λ row. row) (λ row. row) i i
itself rows i = record { shown = map-id (rows_of rows i); undone = λ k d below. refl }

-- one select more
composed : (nodes : List Node) (shape : Operator) (rows : List (List (List ℕ))) (view back : List ℕ → List ℕ) (opened s i width : ℕ) → Undone rows view back opened s → rows_of rows i ≡ map (selected_row shape) (rows_of rows s)
    → ((row : List ℕ) → length row ≡ width → restored_row nodes shape (selected_row shape row) ≡ row) → AllWide width (rows_of rows s)
    → Undone rows (λ row. selected_row shape (view row)) (λ row. back (restored_row nodes shape row)) opened i
composed nodes shape rows view back opened s i width u meant undo wide =
    let xs = rows_of rows opened in
    let P : List ℕ → Type 0 = λ row. length row ≡ width in
    let seen : AllWide width (map view xs) = All-same P (map view xs) (rows_of rows s) u.shown wide in
    record {
      shown = map_twice (selected_row shape) view xs ∙ ap (map (selected_row shape)) u.shown ∙ sym meant;
      undone = λ k d below.
          let inside : k < length (map view xs) = omega (arith, length-map xs view, below) in
          let long = subst P (get_or-map view xs k d (view d) below) (seen k (view d) inside) in
          ap back (undo (view (get_or xs k d)) long) ∙ u.undone k d below;
    }

-- which node is opened for one
opened_here : (graph : Content) (i : ℕ) (n : Node) → slice_get graph.nodes i ≡ Some n
    → number_at (opened_nodes graph) i ≡ cond (is_up_at (up_nodes graph (parts_of graph.nodes)) i) (number_at (take i (opened_nodes graph)) (source_of n.shape)) i
opened_here graph i n at =
    let up = up_nodes graph (parts_of graph.nodes) in
    let step = node_opened up in
    value_here step 0 graph.nodes i n at ∙ ap (λ k. cond (is_up_at up k) (number_at (take i (opened_nodes graph)) (source_of n.shape)) k) (values_before step graph.nodes i n at)

not_up_opened : (graph : Content) (i : ℕ) (n : Node) → slice_get graph.nodes i ≡ Some n → is_up_at (up_nodes graph (parts_of graph.nodes)) i ≡ false → number_at (opened_nodes graph) i ≡ i
not_up_opened graph i n at below = opened_here graph i n at ∙ ap (λ b. cond b (number_at (take i (opened_nodes graph)) (source_of n.shape)) i) below

lower_source : NodesAreWritten → (graph : Content) (i : ℕ) (n : Node) → IsNodeOf graph i n → is_up_at (up_nodes graph (parts_of graph.nodes)) i ≡ true → source_of n.shape < i
lower_source written graph i n node above =
    let found = up_found graph (parts_of graph.nodes) 0 graph.nodes i n node.is_node in
    up_lower graph (parts_of graph.nodes) found.number found.later found.up n.shape i (sym found.is ∙ above) (written.sources graph i n node)

up_opened : NodesAreWritten → (graph : Content) (i : ℕ) (n : Node) → IsNodeOf graph i n → is_up_at (up_nodes graph (parts_of graph.nodes)) i ≡ true
    → number_at (opened_nodes graph) i ≡ number_at (opened_nodes graph) (source_of n.shape)
up_opened written graph i n node above =
    opened_here graph i n node.is_node ∙ ap (λ b. cond b (number_at (take i (opened_nodes graph)) (source_of n.shape)) i) above
    ∙ get_or-take i (opened_nodes graph) (source_of n.shape) 0 (lower_source written graph i n node above)

pub opened_by_sources : NodesAreWritten → OpenedBySources
opened_by_sources written = record {
  itself = λ graph i n node below. not_up_opened graph i n node.is_node below;
  lower = λ graph i n node above. lower_source written graph i n node above;
  below = λ graph i n node above. up_opened written graph i n node above;
}

pub record OpenedLaws : Type 0 where
  pub written : NodesAreWritten
  pub mean : NodesMeanOperators
  pub wide : NodesAreWide
  pub bags : BagsOfInjectiveMap

module _ (laws : OpenedLaws) (graph : Content) (world : List (List (List ℕ))) (is_graph : IsGraph graph) (is_world : IsWorldOf graph.nodes world) where
  abbrev up : List Bool
  up = up_nodes graph (parts_of graph.nodes)

  abbrev IsUndone : ℕ → Type 0
  IsUndone i = Undone (meanings graph.nodes world) (view_at (views graph) i) (view_at (backs graph) i) (number_at (opened_nodes graph) i) i

  module _ (i : ℕ) (n : Node) (at : slice_get graph.nodes i ≡ Some n) where
    view_here : view_at (views graph) i ≡ (λ (row : List ℕ). cond (is_up_at up i) (selected_row n.shape (view_at (take i (views graph)) (source_of n.shape) row)) row)
    view_here =
        let step = node_view up in
        value_here step row_as_it_is graph.nodes i n at
        ∙ ap {B = List ℕ → List ℕ} (λ (k : ℕ) (row : List ℕ). cond (is_up_at up k) (selected_row n.shape (view_at (take i (views graph)) (source_of n.shape) row)) row) (values_before step graph.nodes i n at)

    back_here : view_at (backs graph) i ≡ (λ (row : List ℕ). cond (is_up_at up i) (view_at (take i (backs graph)) (source_of n.shape) (restored_row graph.nodes n.shape row)) row)
    back_here =
        let step = node_back graph.nodes up in
        value_here step row_as_it_is graph.nodes i n at
        ∙ ap {B = List ℕ → List ℕ} (λ (k : ℕ) (row : List ℕ). cond (is_up_at up k) (view_at (take i (backs graph)) (source_of n.shape) (restored_row graph.nodes n.shape row)) row) (values_before step graph.nodes i n at)

    same_here : is_up_at up i ≡ false → IsUndone i
    same_here below =
        let rows = meanings graph.nodes world in
        let view = λ (b : Bool) (row : List ℕ). cond b (selected_row n.shape (view_at (take i (views graph)) (source_of n.shape) row)) row in
        let back = λ (b : Bool) (row : List ℕ). cond b (view_at (take i (backs graph)) (source_of n.shape) (restored_row graph.nodes n.shape row)) row in
        moved rows i (view_at (views graph) i) (λ row. row) (view_at (backs graph) i) (λ row. row) (number_at (opened_nodes graph) i) i
        (view_here ∙ ap view below) (back_here ∙ ap back below) (not_up_opened graph i n at below) (itself rows i)

    up_here : is_up_at up i ≡ true → ((s : ℕ) → s < i → IsUndone s) → IsUndone i
    up_here above earlier =
        let nodes = graph.nodes in
        let rows = meanings nodes world in
        let s = source_of n.shape in
        let found = up_found graph (parts_of nodes) 0 nodes i n at in
        let is = sym found.is ∙ above in
        let over : IsNodeOver graph world i n = record { is_graph = is_graph; is_world = is_world; is_node = at } in
        let lower : s < i = lower_source laws.written graph i n (record { is_graph = is_graph; is_node = at }) above in
        let inside = slice_get_within nodes i n at in
        let m = get_or nodes s n in
        let source : slice_get nodes s ≡ Some m = slice_get-get_or nodes s n (omega arith) in
        let width : width_at nodes s ≡ length m.columns = ap (λ (o : Option Node). option_map_or (λ q. length q.columns) o 0) source in
        let wide = subst (λ w. AllWide w (rows_of rows s)) (sym width) (laws.wide graph world s m (record { is_graph = is_graph; is_world = is_world; is_node = source })) in
        let meant = laws.mean graph world i n over ∙ up_rows graph (parts_of nodes) found.number found.later found.up n.shape (rows_of world (relations_before nodes i)) (take i rows) is
        ∙ ap (map (selected_row n.shape)) (get_or-take i rows s [] lower) in
        let made = composed nodes n.shape rows (view_at (views graph) s) (view_at (backs graph) s) (number_at (opened_nodes graph) s) s i (width_at nodes s) (earlier s lower) meant (up_undone graph (parts_of nodes) found.number found.later found.up n.shape is) wide in
        let view = λ (b : Bool) (row : List ℕ). cond b (selected_row n.shape (view_at (take i (views graph)) s row)) row in
        let back = λ (b : Bool) (row : List ℕ). cond b (view_at (take i (backs graph)) s (restored_row nodes n.shape row)) row in
        moved rows i (view_at (views graph) i) (λ row. selected_row n.shape (view_at (views graph) s row)) (view_at (backs graph) i) (λ row. view_at (backs graph) s (restored_row nodes n.shape row))
        (number_at (opened_nodes graph) i) (number_at (opened_nodes graph) s)
        (view_here ∙ ap view above ∙ ap {B = List ℕ → List ℕ} (λ (f : List ℕ → List ℕ) (row : List ℕ). selected_row n.shape (f row)) (get_or-take i (views graph) s row_as_it_is lower))
        (back_here ∙ ap back above ∙ ap {B = List ℕ → List ℕ} (λ (f : List ℕ → List ℕ) (row : List ℕ). f (restored_row nodes n.shape row)) (get_or-take i (backs graph) s row_as_it_is lower))
        (up_opened laws.written graph i n (record { is_graph = is_graph; is_node = at }) above) made

    node_undone : (b : Bool) → is_up_at up i ≡ b → ((s : ℕ) → s < i → IsUndone s) → IsUndone i
    node_undone true is earlier = up_here is earlier
    node_undone false is earlier = same_here is

  undone_below : (count i : ℕ) → i < count → (n : Node) → slice_get graph.nodes i ≡ Some n → IsUndone i
  undone_below zero i below n at = absurd (omega arith)
  undone_below (suc count) i below n at =
      let inside = slice_get_within graph.nodes i n at in
      node_undone i n at (is_up_at up i) refl (λ s lower. undone_below count s (omega arith) (get_or graph.nodes s n) (slice_get-get_or graph.nodes s n (omega arith)))

  undone_at : (i : ℕ) (n : Node) → slice_get graph.nodes i ≡ Some n → IsUndone i
  undone_at i n at = undone_below (suc i) i (omega arith) n at

pub up_is_undone : OpenedLaws → UpIsUndone
up_is_undone laws = record {
  rows = λ graph world i n over. (undone_at laws graph world over.is_graph over.is_world i n over.is_node).shown;
  undone = λ graph world i n over. (undone_at laws graph world over.is_graph over.is_world i n over.is_node).undone;
  bag = λ graph world other i n over another same.
      let one = undone_at laws graph world over.is_graph over.is_world i n over.is_node in
      let two = undone_at laws graph other another.is_graph another.is_world i n another.is_node in
      laws.bags (view_at (views graph) i) (view_at (backs graph) i) (opened_rows graph world i) (opened_rows graph other i) one.undone two.undone
      (subst (λ l. SameBag l (map (view_at (views graph) i) (opened_rows graph other i))) (sym one.shown) (subst (SameBag (rows_of (meanings graph.nodes world) i)) (sym two.shown) same));
}
