-- The sets of a graph's nodes come from those of the earlier nodes.
use Rattle.std.proofs.Common.{◌≡◌, ℕ, zero, suc, ◌+◌, ◌<◌, ◌≤◌, List, [], ◌∷◌, ◌++◌, Some, map, length, take, get_or, refl, sym, ◌∙◌, ap, subst, arith, add-zero, zero-add}
use Rattle.std.specs.Prelude.{slice_get}
use Rattle.std.proofs.lemmas.List.{append_assoc, append-nil, get_or-map, get_or_append_left, get_or_push, get_or-take, length-append, length-map, length-take-le, length_push, take_at}
use Rattle.std.proofs.lemmas.List.Elements.{All-nil}
use Rattle.std.proofs.lemmas.Option.{get_or_from_slice_get, same_Some, slice_get-get_or, slice_get_within}
use Rattle.query_graph.specs.Content.{Content}
use Rattle.query_graph.specs.IsGraph.{FitsSources, IsGraph}
use Rattle.query_graph.specs.declared.node.Node.{Node}
use Rattle.query_graph.specs.declared.operator.Group.{Group}
use Rattle.query_graph.specs.declared.operator.Join.{Join}
use Rattle.query_graph.specs.declared.operator.Operator.{Operator}
use Rattle.query_graph.specs.declared.operator.Operator.TheVariants as operators
use Rattle.query_graph.specs.Parties.{common_parties, with_party}
use Rattle.plain_operators.specs.Columns.{other_columns}
use Rattle.plain_operators.specs.Operators.{left_keys, right_keys}
use Rattle.plain_meaning.specs.Fits.{FitsEarlier, width_at, widths_before}
use Rattle.plain_meaning.specs.Laws.{NodesFitEarlier}
use Rattle.trust_sets.specs.declared.known.Known.{Known}
use Rattle.trust_sets.specs.Known.{aggregate_set, distinct_set, grouped_set, item_set, joined_set, known_at, known_behind, known_filter, known_join, known_group, known_node, known_nodes, met_with, nobody, other_sets}
use Rattle.trust_sets.specs.Laws.{KeysAreKnown, KnowsColumn, KnowsParts, KnowsRows, KnowsSides, NodesKnowFromEarlier}
use Rattle.trust_sets.proofs.ConcatStep.{concat_wide}
use Rattle.trust_sets.proofs.Needs.{what_rows_need}

-- what comes behind the earlier sets
behind : (nodes : List Node) (earlier : List Known) → (rest : List Known) × (known_behind earlier nodes ≡ earlier ++ rest) × (length rest ≡ length nodes)
behind [] earlier = ([], sym (append-nil earlier), refl)
behind (n ∷ nodes) earlier =
    let new = known_node n.shape earlier in
    let more = behind nodes (earlier ++ new ∷ []) in
    (new ∷ more.0, more.1 ∙ append_assoc earlier (new ∷ []) more.0, ap suc more.2)

from_earlier : (nodes : List Node) (earlier : List Known) (k : ℕ) (n : Node) → slice_get nodes k ≡ Some n
    → let all : List Known = known_behind earlier nodes in known_at all (length earlier + k) ≡ known_node n.shape (take (length earlier + k) all)
from_earlier [] earlier k n at = absurd cc
from_earlier (m ∷ nodes) earlier zero n at =
    let new = known_node m.shape earlier in
    let more = behind nodes (earlier ++ new ∷ []) in
    let all = known_behind earlier (m ∷ nodes) in
    let is : all ≡ earlier ++ (new ∷ more.0) = more.1 ∙ append_assoc earlier (new ∷ []) more.0 in
    let here : known_at all (length earlier) ≡ new = ap (λ l. known_at l (length earlier)) more.1 ∙ get_or_append_left (earlier ++ new ∷ []) more.0 nobody (length earlier) (omega (arith, length_push earlier new)) ∙ get_or_push earlier new nobody (length earlier) refl in
    let front : take (length earlier) all ≡ earlier = ap (take (length earlier)) is ∙ take_at earlier (new ∷ more.0) (length earlier) refl in
    let same : m ≡ n = same_Some m n at in
    let whole : known_at all (length earlier) ≡ known_node n.shape (take (length earlier) all) = here ∙ (λ i. known_node (same i).shape (sym front i)) in
    subst (λ i. known_at all i ≡ known_node n.shape (take i all)) (sym (add-zero (length earlier))) whole
from_earlier (m ∷ nodes) earlier (suc k) n at =
    let new = known_node m.shape earlier in
    let all = known_behind (earlier ++ new ∷ []) nodes in
    let moved : length (earlier ++ new ∷ []) + k ≡ length earlier + suc k = omega (arith, length_push earlier new) in
    subst (λ i. known_at all i ≡ known_node n.shape (take i all)) moved (from_earlier nodes (earlier ++ new ∷ []) k n at)

pub known_count : (nodes : List Node) → length (known_nodes nodes) ≡ length nodes
known_count nodes = let all = behind nodes [] in ap length all.1 ∙ all.2

pub known_here : (nodes : List Node) (i : ℕ) (n : Node) → slice_get nodes i ≡ Some n → known_at (known_nodes nodes) i ≡ known_node n.shape (take i (known_nodes nodes))
known_here nodes i n at = subst (λ k. known_at (known_nodes nodes) k ≡ known_node n.shape (take k (known_nodes nodes))) (zero-add i) (from_earlier nodes [] i n at)

-- a file without rows
abbrev pub no_rows : List (List (List ℕ))
no_rows = [] ∷ []

-- as many columns as the operator makes, where the earlier sets are those of nodes of these widths
module _ (known : List Known) (widths : List ℕ) (earlier : (s : ℕ) → s < length widths → length (known_at known s).columns ≡ width_at widths s) where
  shape_wide : (nodes : List Node) (i : ℕ) (n : Node) (shape : Operator) → FitsSources nodes i n shape → FitsEarlier no_rows widths (length n.columns) shape → length (known_node shape known).columns ≡ length n.columns
  shape_wide nodes i n (operators.Relation r) sources fits = length-map r.trusted (λ set. with_party set r.owner) ∙ sources.trusted
  shape_wide nodes i n (operators.Filter f) sources fits =
      let source = known_at known f.source in
      length-map source.columns (λ set. common_parties set (known_filter source f.tests).rows) ∙ earlier f.source fits.source ∙ fits.same
  shape_wide nodes i n (operators.Select s) sources fits = length-map s.items (item_set (known_at known s.source)) ∙ fits.same
  shape_wide nodes i n (operators.Concat c) sources fits =
      let some = sources.some in
      concat_wide (length n.columns) (known_at known) c.sources (omega arith) (λ k d below. earlier (get_or c.sources k d) (fits.sources k d below) ∙ fits.same k d below)
  shape_wide nodes i n (operators.Join j) sources fits =
      let left = known_at known j.left in
      let right = known_at known j.right in
      let rows = joined_set left right j.keys in
      let lefts = other_sets left (left_keys j.keys) rows in
      let rights = other_sets right (right_keys j.keys) rows in
      let left_many : length lefts ≡ length (other_columns (left_keys j.keys) (width_at widths j.left)) = length-map (other_columns (left_keys j.keys) (length left.columns)) (met_with left rows) ∙ ap (λ w. length (other_columns (left_keys j.keys) w)) (earlier j.left fits.left) in
      let right_many : length rights ≡ length (other_columns (right_keys j.keys) (width_at widths j.right)) = length-map (other_columns (right_keys j.keys) (length right.columns)) (met_with right rows) ∙ ap (λ w. length (other_columns (right_keys j.keys) w)) (earlier j.right fits.right) in
      length-append (map (λ key. rows) j.keys) (lefts ++ rights) ∙ (λ k. length-map j.keys (λ key. rows) k + (length-append lefts rights ∙ (λ l. left_many l + right_many l)) k) ∙ fits.same
  shape_wide nodes i n (operators.Group g) sources fits =
      let source = known_at known g.source in
      let rows = grouped_set source g.keys in
      length-append (map (λ key. rows) g.keys) (map (aggregate_set source rows) g.aggregates)
      ∙ (λ k. length-map g.keys (λ key. rows) k + length-map g.aggregates (aggregate_set source rows) k) ∙ fits.same
  shape_wide nodes i n (operators.Distinct d) sources fits =
      let source = known_at known d.source in
      length-map source.columns (λ set. distinct_set source) ∙ earlier d.source fits.source ∙ fits.same

-- the widths of the first nodes
length-widths_before : (nodes : List Node) (i : ℕ) → i ≤ length nodes → length (widths_before nodes i) ≡ i
length-widths_before nodes i short = length-map (take i nodes) (λ n. length n.columns) ∙ length-take-le i nodes short

width_before : (nodes : List Node) (i : ℕ) → i ≤ length nodes → (s : ℕ) (n : Node) → s < i → slice_get nodes s ≡ Some n → width_at (widths_before nodes i) s ≡ length n.columns
width_before nodes i short s n earlier e =
    let inside : s < length (take i nodes) = omega (arith, length-take-le i nodes short, earlier) in
    get_or-map (λ n. length n.columns) (take i nodes) s n 0 inside ∙ ap (λ n. length n.columns) (get_or-take i nodes s n earlier ∙ get_or_from_slice_get nodes s n n e)

module _ (fit : NodesFitEarlier) (graph : Content) (is_graph : IsGraph graph) where
  -- what an operator asks of the widths of the earlier nodes
  pub widths_fit : (i : ℕ) (n : Node) → slice_get graph.nodes i ≡ Some n → FitsEarlier no_rows (widths_before graph.nodes i) (length n.columns) n.shape
  widths_fit i n at = fit graph i n no_rows is_graph at (λ is. record { some = omega arith; wide = All-nil (λ row. length row ≡ length n.columns) })

  -- an earlier source is found among the earlier sets
  pub known_source : (i : ℕ) (n : Node) → slice_get graph.nodes i ≡ Some n → (s : ℕ) → s < length (widths_before graph.nodes i) → (s < i) × (known_at (take i (known_nodes graph.nodes)) s ≡ known_at (known_nodes graph.nodes) s)
  known_source i n at s lower =
      let inside = slice_get_within graph.nodes i n at in
      let long = length-widths_before graph.nodes i (omega arith) in
      let before : s < i = omega arith in
      (before, get_or-take i (known_nodes graph.nodes) s nobody before)

  -- with as many columns as the source
  sources_wide : (i : ℕ) (n : Node) → slice_get graph.nodes i ≡ Some n → ((s : ℕ) (m : Node) → s < i → slice_get graph.nodes s ≡ Some m → length (known_at (known_nodes graph.nodes) s).columns ≡ length m.columns)
      → (s : ℕ) → s < length (widths_before graph.nodes i) → length (known_at (take i (known_nodes graph.nodes)) s).columns ≡ width_at (widths_before graph.nodes i) s
  sources_wide i n at earlier s lower =
      let inside = slice_get_within graph.nodes i n at in
      let source = known_source i n at s lower in
      let before : s < i = source.0 in
      let m = get_or graph.nodes s n in
      let found : slice_get graph.nodes s ≡ Some m = slice_get-get_or graph.nodes s n (omega arith) in
      ap (λ (k : Known). length k.columns) source.1 ∙ earlier s m before found ∙ sym (width_before graph.nodes i (omega arith) s m before found)

  width_below : (count i : ℕ) → i < count → (n : Node) → slice_get graph.nodes i ≡ Some n → length (known_at (known_nodes graph.nodes) i).columns ≡ length n.columns
  width_below zero i below n at = absurd (omega arith)
  width_below (suc count) i below n at =
      let earlier = sources_wide i n at (λ s m before found. width_below count s (omega arith) m found) in
      ap (λ (k : Known). length k.columns) (known_here graph.nodes i n at)
      ∙ shape_wide (take i (known_nodes graph.nodes)) (widths_before graph.nodes i) earlier graph.nodes i n n.shape (is_graph.nodes i n at).sources (widths_fit i n at)

  pub known_width : (i : ℕ) (n : Node) → slice_get graph.nodes i ≡ Some n → length (known_at (known_nodes graph.nodes) i).columns ≡ length n.columns
  known_width i n at = width_below (suc i) i (omega arith) n at

  pub source_width : (i : ℕ) (n : Node) → slice_get graph.nodes i ≡ Some n → (s : ℕ) → s < length (widths_before graph.nodes i)
      → length (known_at (take i (known_nodes graph.nodes)) s).columns ≡ width_at (widths_before graph.nodes i) s
  source_width i n at s lower = sources_wide i n at (λ s m before found. known_width s m found) s lower

  joined_keys : (party i : ℕ) (n : Node) (j : Join) → slice_get graph.nodes i ≡ Some n → n.shape ≡ operators.Join j → KnowsRows party (known_at (known_nodes graph.nodes) i)
      → KnowsSides party (known_at (known_nodes graph.nodes) j.left) (known_at (known_nodes graph.nodes) j.right) j.keys
  joined_keys party i n j at is known =
      let all = known_nodes graph.nodes in
      let fits = subst (FitsEarlier no_rows (widths_before graph.nodes i) (length n.columns)) is (widths_fit i n at) in
      let left = known_source i n at j.left fits.left in
      let right = known_source i n at j.right fits.right in
      let here : known_at all i ≡ known_join (known_at all j.left) (known_at all j.right) j.keys = known_here graph.nodes i n at ∙ ap (λ shape. known_node shape (take i all)) is ∙ (λ k. known_join (left.1 k) (right.1 k) j.keys) in
      what_rows_need.joined party (known_at all j.left) (known_at all j.right) j.keys (subst (KnowsRows party) here known)

  grouped_keys : (party i : ℕ) (n : Node) (g : Group) → slice_get graph.nodes i ≡ Some n → n.shape ≡ operators.Group g → KnowsRows party (known_at (known_nodes graph.nodes) i)
      → KnowsParts party (known_at (known_nodes graph.nodes) g.source) (KnowsColumn party (known_at (known_nodes graph.nodes) g.source)) g.keys
  grouped_keys party i n g at is known =
      let all = known_nodes graph.nodes in
      let fits = subst (FitsEarlier no_rows (widths_before graph.nodes i) (length n.columns)) is (widths_fit i n at) in
      let source = known_source i n at g.source fits.source in
      let here : known_at all i ≡ known_group (known_at all g.source) g.keys g.aggregates = known_here graph.nodes i n at ∙ ap (λ shape. known_node shape (take i all)) is ∙ ap (λ k. known_group k g.keys g.aggregates) source.1 in
      what_rows_need.grouped party (known_at all g.source) g.keys (subst (KnowsRows party) here known)

pub nodes_know_from_earlier : NodesFitEarlier → NodesKnowFromEarlier
nodes_know_from_earlier fit = record { count = known_count; each = known_here; wide = known_width fit }

pub keys_are_known : NodesFitEarlier → KeysAreKnown
keys_are_known fit = record { joined = joined_keys fit; grouped = grouped_keys fit }
