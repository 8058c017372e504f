-- The trust lemma: one step for each operator, and an induction over the number of a node.
use Rattle.std.proofs.Common.{◌≡◌, ℕ, zero, suc, ◌<◌, ◌≤◌, List, [], ◌∷◌, Option, Some, None, map, length, take, get_or, refl, sym, ◌∙◌, ap, subst, arith, inl, inr}
use Rattle.std.specs.Prelude.{slice_get}
use Rattle.std.proofs.lemmas.Bool.{cases_eq}
use Rattle.std.proofs.lemmas.List.{get_or_past, get_or-take}
use Rattle.bags.specs.Bag.{SameBag, count_of}
use Rattle.query_graph.specs.Content.{Content}
use Rattle.query_graph.specs.IsGraph.{IsGraph}
use Rattle.query_graph.specs.declared.node.Node.{Node}
use Rattle.query_graph.specs.declared.operator.Operator.{Operator}
use Rattle.query_graph.specs.declared.operator.Operator.TheVariants as operators
use Rattle.query_graph.specs.declared.operator.Relation.{Relation}
use Rattle.plain_operators.specs.Columns.{cut}
use Rattle.plain_operators.specs.Sizes.{AllWide}
use Rattle.plain_meaning.specs.Fits.{FitsEarlier, IsWorldOf, width_at, widths_before}
use Rattle.plain_meaning.specs.Laws.{IsNodeOver, NodesAreWide, NodesFitEarlier, NodesMeanOperators}
use Rattle.plain_meaning.specs.Meaning.{meanings, node_rows, rows_of}
use Rattle.trust_sets.specs.declared.known.Known.{Known}
use Rattle.trust_sets.specs.Agreement.{FilesAgree, IsRelation, file_rows, known_columns}
use Rattle.trust_sets.specs.Known.{known_at, known_node, known_nodes, known_relation, nobody}
use Rattle.trust_sets.specs.Laws.{KnowsRows}
use Rattle.trust_sets.specs.Steps.{SameIfKnown, TrustLemma, TrustSteps}
use Rattle.trust_sets.proofs.ConcatStep.{concat_step}
use Rattle.trust_sets.proofs.EarlierNodes.{known_count, known_here, known_source, known_width, source_width, no_rows, widths_fit}
use Rattle.trust_sets.proofs.GroupStep.{group_step}
use Rattle.trust_sets.proofs.RowSteps.{distinct_step, filter_step, join_step, select_step}
use Rattle.trust_sets.proofs.StepLaws.{StepLaws}
use Rattle.trust_sets.proofs.Within.{in_none}

-- the laws of nodes on which the lemma stands, beside those of its steps
pub record LemmaLaws : Type 0 where
  pub steps : StepLaws
  pub fit : NodesFitEarlier
  pub mean : NodesMeanOperators
  pub wide : NodesAreWide

pub trust_steps : StepLaws → TrustSteps
trust_steps laws = record {
  filter = filter_step laws;
  select = select_step laws;
  concat = concat_step laws;
  join = join_step laws;
  group = group_step laws;
  distinct = distinct_step laws;
}

-- over earlier nodes that are the same for the party, of these widths
module _ (laws : StepLaws) (party : ℕ) (known : List Known) (one other : List (List (List ℕ))) (file other_file : List (List ℕ)) (widths : List ℕ) (wide : (s : ℕ) → s < length widths → length (known_at known s).columns ≡ width_at widths s)
    (earlier : (s : ℕ) → s < length widths → SameIfKnown party (known_at known s) (rows_of one s) (rows_of other s)) where
  shape_step : (width : ℕ) (shape : Operator) → FitsEarlier no_rows widths width shape → ((r : Relation) → shape ≡ operators.Relation r → SameIfKnown party (known_relation r) file other_file)
      → SameIfKnown party (known_node shape known) (node_rows shape file one) (node_rows shape other_file other)
  shape_step width (operators.Relation r) fits files = files r refl
  shape_step width (operators.Filter f) fits files = filter_step laws party (known_at known f.source) f.tests (rows_of one f.source) (rows_of other f.source) (earlier f.source fits.source)
  shape_step width (operators.Select s) fits files = select_step laws party (known_at known s.source) s.items (rows_of one s.source) (rows_of other s.source) (earlier s.source fits.source)
  shape_step width (operators.Concat c) fits files =
      concat_step laws party width c.sources (known_at known) (rows_of one) (rows_of other) (λ k d below. wide (get_or c.sources k d) (fits.sources k d below) ∙ fits.same k d below)
      (λ k d below. earlier (get_or c.sources k d) (fits.sources k d below))
  shape_step width (operators.Join j) fits files =
      join_step laws party (known_at known j.left) (known_at known j.right) j.keys (rows_of one j.left) (rows_of other j.left) (rows_of one j.right) (rows_of other j.right) (earlier j.left fits.left) (earlier j.right fits.right)
  shape_step width (operators.Group g) fits files = group_step laws party (known_at known g.source) g.keys g.aggregates (rows_of one g.source) (rows_of other g.source) (earlier g.source fits.source)
  shape_step width (operators.Distinct d) fits files = distinct_step laws party (known_at known d.source) (rows_of one d.source) (rows_of other d.source) (earlier d.source fits.source)

same_bag : {xs ys : List (List ℕ)} → xs ≡ ys → SameBag xs ys
same_bag e = record { counts = λ row. ap (count_of row) e }

past_end : (nodes : List Node) (i : ℕ) → slice_get nodes i ≡ None → length nodes ≤ i
past_end [] i none = omega arith
past_end (n ∷ nodes) zero none = absurd cc
past_end (n ∷ nodes) (suc i) none = let past = past_end nodes i none in omega arith

no_node : (nodes : List Node) (i : ℕ) → slice_get nodes i ≡ None → known_at (known_nodes nodes) i ≡ nobody
no_node nodes i none =
    let past = past_end nodes i none in
    let many = known_count nodes in
    get_or_past (known_nodes nodes) i nobody (omega arith)

-- a node of a graph, over any world of it
module _ (laws : LemmaLaws) (graph : Content) (is_graph : IsGraph graph) (i : ℕ) (n : Node) (at : slice_get graph.nodes i ≡ Some n) (world : List (List (List ℕ))) (is_world : IsWorldOf graph.nodes world) where
  over : IsNodeOver graph world i n
  over = record { is_graph = is_graph; is_world = is_world; is_node = at }

  meant : rows_of (meanings graph.nodes world) i ≡ node_rows n.shape (file_rows graph.nodes world i) (take i (meanings graph.nodes world))
  meant = laws.mean graph world i n over

  -- a relation's file is as wide as its sets
  file_wide : (r : Relation) → n.shape ≡ operators.Relation r → AllWide (length (known_at (known_nodes graph.nodes) i).columns) (file_rows graph.nodes world i)
  file_wide r is =
      let file : rows_of (meanings graph.nodes world) i ≡ file_rows graph.nodes world i = meant ∙ ap (λ shape. node_rows shape (file_rows graph.nodes world i) (take i (meanings graph.nodes world))) is in
      subst (λ w. AllWide w (file_rows graph.nodes world i)) (sym (known_width laws.fit graph is_graph i n at)) (subst (AllWide (length n.columns)) file (laws.wide graph world i n over))

module _ (laws : LemmaLaws) (graph : Content) (party : ℕ) (world other : List (List (List ℕ))) (is_graph : IsGraph graph) (is_world : IsWorldOf graph.nodes world) (is_other : IsWorldOf graph.nodes other)
    (agree : FilesAgree graph.nodes (known_nodes graph.nodes) party world other) where
  abbrev IsSame : ℕ → Type 0
  IsSame node = SameIfKnown party (known_at (known_nodes graph.nodes) node) (rows_of (meanings graph.nodes world) node) (rows_of (meanings graph.nodes other) node)

  module _ (i : ℕ) (n : Node) (at : slice_get graph.nodes i ≡ Some n) where
    -- a relation: its own file is the same list, and of another's the trusted part is the same bag
    relation_same : (r : Relation) → n.shape ≡ operators.Relation r → SameIfKnown party (known_relation r) (file_rows graph.nodes world i) (file_rows graph.nodes other i)
    relation_same r is =
        let known = known_at (known_nodes graph.nodes) i in
        let here : known ≡ known_relation r = known_here graph.nodes i n at ∙ ap (λ shape. known_node shape (take i (known_nodes graph.nodes))) is in
        let written : IsRelation graph.nodes i r = record { node = n; at = at; is = is } in
        let same : SameIfKnown party known (file_rows graph.nodes world i) (file_rows graph.nodes other i) = λ knows. record {
          wide = file_wide laws graph is_graph i n at world is_world r is;
          wide_too = file_wide laws graph is_graph i n at other is_other r is;
          bag = elim (cases_eq r.owner party) [
            | inl own ↦ same_bag (ap (map (cut (known_columns party known))) (agree.own i r written own))
            | inr another ↦ agree.trusted i r written another knows
          ];
        } in
        subst (λ (k : Known). SameIfKnown party k (file_rows graph.nodes world i) (file_rows graph.nodes other i)) here same

    node_same : ((s : ℕ) → s < i → IsSame s) → IsSame i
    node_same earlier =
        let all = known_nodes graph.nodes in
        let one_rows = meanings graph.nodes world in
        let other_rows = meanings graph.nodes other in
        let widths = widths_before graph.nodes i in
        let sources : (s : ℕ) → s < length widths → SameIfKnown party (known_at (take i all) s) (rows_of (take i one_rows) s) (rows_of (take i other_rows) s) = λ s lower.
        let source = known_source laws.fit graph is_graph i n at s lower in
        let before : s < i = source.0 in
        let one_taken = get_or-take i one_rows s [] before in
        let other_taken = get_or-take i other_rows s [] before in
        subst (λ k. SameIfKnown party k (rows_of (take i one_rows) s) (rows_of (take i other_rows) s)) (sym source.1)
        (subst (λ rows. SameIfKnown party (known_at all s) rows (rows_of (take i other_rows) s)) (sym one_taken)
        (subst (λ rows. SameIfKnown party (known_at all s) (rows_of one_rows s) rows) (sym other_taken) (earlier s before))) in
        let step = shape_step laws.steps party (take i all) (take i one_rows) (take i other_rows) (file_rows graph.nodes world i) (file_rows graph.nodes other i) widths (source_width laws.fit graph is_graph i n at) sources
        (length n.columns) n.shape (widths_fit laws.fit graph is_graph i n at) relation_same in
        subst (λ k. SameIfKnown party k (rows_of one_rows i) (rows_of other_rows i)) (sym (known_here graph.nodes i n at))
        (subst (λ rows. SameIfKnown party (known_node n.shape (take i all)) rows (rows_of other_rows i)) (sym (meant laws graph is_graph i n at world is_world))
        (subst (λ rows. SameIfKnown party (known_node n.shape (take i all)) (node_rows n.shape (file_rows graph.nodes world i) (take i one_rows)) rows) (sym (meant laws graph is_graph i n at other is_other)) step))

  same_at : (node : ℕ) (found : Option Node) → slice_get graph.nodes node ≡ found → ((s : ℕ) → s < node → IsSame s) → IsSame node
  same_at node None at earlier knows = absurd (in_none party (subst (KnowsRows party) (no_node graph.nodes node at) knows))
  same_at node (Some n) at earlier knows = node_same node n at earlier knows

  same_below : (count node : ℕ) → node < count → IsSame node
  same_below zero node below knows = absurd (omega arith)
  same_below (suc count) node below knows = same_at node (slice_get graph.nodes node) refl (λ s lower. same_below count s (omega arith)) knows

pub trust_lemma : LemmaLaws → TrustLemma
trust_lemma laws graph party world other is_graph is_world is_other agree node = same_below laws graph party world other is_graph is_world is_other agree (suc node) node (omega arith)
