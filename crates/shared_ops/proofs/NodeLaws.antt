-- Nodes of a graph and tables of their sources' widths and rows.
use Rattle.std.proofs.Common.{◌≡◌, ℕ, zero, suc, ◌+◌, ◌<◌, true, false, List, [], ◌∷◌, Some, length, map, get_or, refl, sym, ◌∙◌, ap, subst, arith}
use Rattle.std.specs.Prelude.{slice_index}
use Rattle.std.specs.List.{All}
use Rattle.std.proofs.lemmas.List.{get_or-map, length-map}
use Rattle.query_graph.specs.declared.node.Node.{Node}
use Rattle.query_graph.specs.declared.operator.Operator.{Operator}
use Rattle.query_graph.specs.declared.operator.Operator.TheVariants.{Relation, Filter, Select, Concat, Join, Group, Distinct}
use Rattle.query_graph.specs.Content.{Content}
use Rattle.query_graph.specs.IsGraph as graphs
use Rattle.query_graph.specs.NodeSizes.{BoundsMakeSmaller, IsNodeOf, NodesHaveSizes, width_at}
use Rattle.query_graph.specs.Observers.{is_relation, sources_of}
use Rattle.plain_operators.specs.OnSources as on_sources
use Rattle.plain_operators.specs.OnSources.{operator_size, operator_width}
use Rattle.plain_operators.specs.Operators.{left_keys, right_keys}
use Rattle.plain_operators.specs.Sizes.{joined_width}
use Rattle.plain_operators.specs.Within.{AreAggregatesOf, AreItemsOf, AreTestsOf, HasColumns}
use Rattle.plain_meaning.specs.Convert.{aggregate_of, item_of, test_of}
use Rattle.plain_meaning.specs.Fits.{FitsEarlier, FitsRelation, widths_before}
use Rattle.plain_meaning.specs.Laws.{NodesFitEarlier}
use Rattle.plain_meaning.specs.Operators.{NodesAreOperators, operator_of}
use Rattle.shared_ops.specs.NodeLaws.{NodesFitTables}
use Rattle.shared_ops.specs.Nodes.{FitsNode}

-- what holds of the operator of a node holds of the one that is its
own : (P : on_sources.Operator → Type 0) (is operator : on_sources.Operator) → Some is ≡ Some operator → P is → P operator
own P is operator same holds = let e : is ≡ operator = cc in subst P e holds

known : (shape : Operator) → is_relation shape ≡ false → (operator : on_sources.Operator) × (operator_of shape ≡ Some operator)
known (Relation r) other = absurd cc
known (Filter f) other = (on_sources.Filter (map test_of f.tests), refl)
known (Select s) other = (on_sources.Select (map item_of s.items), refl)
known (Concat c) other = (on_sources.Concat, refl)
known (Join j) other = (on_sources.Join j.keys, refl)
known (Group g) other = (on_sources.Group g.keys (map aggregate_of g.aggregates), refl)
known (Distinct d) other = (on_sources.Distinct, refl)

-- a node with an operator is no relation
no_relation : (shape : Operator) (operator : on_sources.Operator) → operator_of shape ≡ Some operator → is_relation shape ≡ false
no_relation (Relation r) operator same = absurd cc
no_relation (Filter f) operator same = refl
no_relation (Select s) operator same = refl
no_relation (Concat c) operator same = refl
no_relation (Join j) operator same = refl
no_relation (Group g) operator same = refl
no_relation (Distinct d) operator same = refl

-- a node that is no relation has a source
has_source : (nodes : List Node) (i : ℕ) (node : Node) (shape : Operator) → graphs.FitsSources nodes i node shape → is_relation shape ≡ false → 0 < length (sources_of shape)
has_source nodes i node (Relation r) fits other = absurd cc
has_source nodes i node (Filter f) fits other = omega arith
has_source nodes i node (Select s) fits other = omega arith
has_source nodes i node (Concat c) fits other = omega (arith, fits.some)
has_source nodes i node (Join j) fits other = omega arith
has_source nodes i node (Group g) fits other = omega arith
has_source nodes i node (Distinct d) fits other = omega arith

-- the width of an earlier node
earlier_width : (nodes : List Node) (i s : ℕ) → s < length (widths_before nodes i) → get_or (widths_before nodes i) s 0 ≡ width_at nodes s
earlier_width [] zero s h = absurd (omega arith)
earlier_width [] (suc i) s h = absurd (omega arith)
earlier_width (n ∷ ns) zero s h = absurd (omega arith)
earlier_width (n ∷ ns) (suc i) zero h = refl
earlier_width (n ∷ ns) (suc i) (suc s) h = earlier_width ns i s (omega arith)

-- words that are all one word are the first of them
all_the_first : (f : ℕ → ℕ) (xs : List ℕ) (w : ℕ) → All (λ x. f x ≡ w) xs → All (λ y. y ≡ slice_index (map f xs) 0) (map f xs)
all_the_first f xs w same k d h =
    let inside : k < length xs = omega (arith, length-map xs f) in
    let some : 0 < length xs = omega arith in
    get_or-map f xs k 0 d inside ∙ same k 0 inside ∙ sym (same 0 0 some) ∙ sym (get_or-map f xs 0 0 0 some)

-- an operator over earlier nodes, on tables as wide as these
module _ (nodes : List Node) (i width : ℕ) where
  wide_as : (s : ℕ) → s < length (widths_before nodes i) → slice_index (widths_before nodes i) s ≡ width_at nodes s
  wide_as s h = earlier_width nodes i s h

  fits_on : (shape : Operator) → FitsEarlier [] (widths_before nodes i) width shape → is_relation shape ≡ false → FitsNode shape (map (width_at nodes) (sources_of shape))
  fits_on (Relation r) fit other = absurd cc
  fits_on (Filter f) fit other = subst (λ n. AreTestsOf (map test_of f.tests) n) (sym fit.same ∙ wide_as f.source fit.source) fit.tests
  fits_on (Select s) fit other = subst (λ n. AreItemsOf (map item_of s.items) n) (wide_as s.source fit.source) fit.items
  fits_on (Concat c) fit other = all_the_first (width_at nodes) c.sources width (λ k d h. sym (wide_as (get_or c.sources k d) (fit.sources k d h)) ∙ fit.same k d h)
  fits_on (Join j) fit other =
      (subst (λ n. HasColumns (left_keys j.keys) n) (wide_as j.left fit.left) fit.left_keys, subst (λ n. HasColumns (right_keys j.keys) n) (wide_as j.right fit.right) fit.right_keys)
  fits_on (Group g) fit other =
      (subst (λ n. HasColumns g.keys n) (wide_as g.source fit.source) fit.keys, subst (λ n. AreAggregatesOf (map aggregate_of g.aggregates) n) (wide_as g.source fit.source) fit.aggregates)
  fits_on (Distinct d) fit other = tt

  wide_on : (shape : Operator) (operator : on_sources.Operator) → operator_of shape ≡ Some operator → FitsEarlier [] (widths_before nodes i) width shape → 0 < length (sources_of shape)
      → operator_width operator (map (width_at nodes) (sources_of shape)) ≡ width
  wide_on (Relation r) operator same fit some = absurd cc
  wide_on (Filter f) operator same fit some = own (λ o. operator_width o (map (width_at nodes) (sources_of (Filter f))) ≡ width) _ operator same (sym (wide_as f.source fit.source) ∙ fit.same)
  wide_on (Select s) operator same fit some =
      own (λ o. operator_width o (map (width_at nodes) (sources_of (Select s))) ≡ width) _ operator same (length-map s.items item_of ∙ fit.same)
  wide_on (Concat c) operator same fit some =
      own (λ o. operator_width o (map (width_at nodes) (sources_of (Concat c))) ≡ width) on_sources.Concat operator same
      (get_or-map (width_at nodes) c.sources 0 0 0 some ∙ sym (wide_as (get_or c.sources 0 0) (fit.sources 0 0 some)) ∙ fit.same 0 0 some)
  wide_on (Join j) operator same fit some =
      own (λ o. operator_width o (map (width_at nodes) (sources_of (Join j))) ≡ width) _ operator same
      ((λ k. joined_width j.keys (sym (wide_as j.left fit.left) k) (sym (wide_as j.right fit.right) k)) ∙ fit.same)
  wide_on (Group g) operator same fit some =
      own (λ o. operator_width o (map (width_at nodes) (sources_of (Group g))) ≡ width) _ operator same (ap (λ n. length g.keys + n) (length-map g.aggregates aggregate_of) ∙ fit.same)
  wide_on (Distinct d) operator same fit some = own (λ o. operator_width o (map (width_at nodes) (sources_of (Distinct d))) ≡ width) _ operator same (sym (wide_as d.source fit.source) ∙ fit.same)

-- what the laws of graphs and of their rows say
pub nodes_fit_tables : NodesFitEarlier → NodesHaveSizes → BoundsMakeSmaller → NodesAreOperators → NodesFitTables
nodes_fit_tables earlier sizes smaller operators =
    let none : (node : Node) → is_relation node.shape ≡ false → is_relation node.shape ≡ true → FitsRelation [] (length node.columns) = λ node other yes. absurd (cc) in
    let fit = λ (graph : Content) (i : ℕ) (node : Node) (of : IsNodeOf graph i node) (other : is_relation node.shape ≡ false). earlier graph i node [] of.is_graph of.is_node (none node other) in
    let some = λ (graph : Content) (i : ℕ) (node : Node) (of : IsNodeOf graph i node) (other : is_relation node.shape ≡ false).
    has_source graph.nodes i node node.shape ((of.is_graph.nodes i node of.is_node).sources) other in
    record {
      known = known;
      some = some;
      fits = λ graph i node of other. fits_on graph.nodes i (length node.columns) node.shape (fit graph i node of other) other;
      wide = λ graph i node operator of same.
          let other = no_relation node.shape operator same in
          wide_on graph.nodes i (length node.columns) node.shape operator same (fit graph i node of other) (some graph i node of other);
      rows = λ graph i node operator of same free free_parts.
          let counts = map (graphs.rows_at graph.nodes) (sources_of node.shape) in
          sym (operators.sizes node.shape operator counts same) ∙ sym (smaller.same node.shape counts free free_parts)
          ∙ sym (sizes.rows graph i node of (some graph i node of (no_relation node.shape operator same)));
    }
