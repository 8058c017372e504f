-- The rows of a node's parts add up to its own.
use Rattle.std.proofs.Common.{◌≡◌, ◌≢◌, ℕ, zero, suc, ◌+◌, ◌<◌, ◌≤◌, List, [], ◌∷◌, Option, Some, None, length, map, take, sum_by, refl, sym, ◌∙◌, ap, arith}
use Rattle.std.specs.Prelude.{slice_get}
use Rattle.std.specs.List.{All, flat_map}
use Rattle.std.specs.Option.{option_map_or}
use Rattle.std.proofs.lemmas.List.{get_or-take, get_or_past}
use Rattle.std.proofs.lemmas.List.Elements.{All-head, All-tail}
use Rattle.std.proofs.lemmas.List.Sums.{sum-map, sum_by-append, sum_by-cons}
use Rattle.query_graph.specs.declared.node.Node.{Node}
use Rattle.query_graph.specs.declared.operator.Operator.{Operator}
use Rattle.query_graph.specs.declared.operator.Operator.TheVariants as operators
use Rattle.query_graph.specs.Content.{Content}
use Rattle.query_graph.specs.IsGraph.{FitsSources, IsGraph, rows_at}
use Rattle.query_graph.specs.NodeSizes.{IsNodeOf, NodesAreWritten, NodesHaveSizes, node_size}
use Rattle.query_graph.specs.Observers.{at_most_of, sources_of}
use Rattle.query_graph.specs.Sizes.{bounded}
use Rattle.rewrites.specs.declared.part.Part.{Part}
use Rattle.rewrites.specs.declared.part.PartPlace.{PartPlace}
use Rattle.rewrites.specs.Laws.{PartsAddUp, SplitNodesAreUnbounded}
use Rattle.rewrites.specs.Parts.{node_parts, node_place, parts_at, parts_of, placed, source_parts}
use Rattle.rewrites.proofs.PartCases.{IsPushed, not_one, not_placed, parts_here, unplaced_split}
use Rattle.rewrites.proofs.Values.{values_count}

pub past_end : (nodes : List Node) (i : ℕ) → slice_get nodes i ≡ None → length nodes ≤ i
past_end [] i none = omega arith
past_end (n ∷ nodes) zero none = absurd cc
past_end (n ∷ nodes) (suc i) none = let past = past_end nodes i none in omega arith

abbrev pub rows_in : List Part → ℕ
rows_in parts = sum_by (λ (part : Part). part.rows) parts

module _ (nodes : List Node) (i : ℕ) (parts : List (List Part)) (earlier : (s : ℕ) → s < i → rows_in (parts_at parts s) ≡ rows_at nodes s) where
  sources_sum : (sources : List ℕ) → All (λ s. s < i) sources → rows_in (flat_map (parts_at (take i parts)) sources) ≡ sum_by (rows_at nodes) sources
  sources_sum [] lower = refl
  sources_sum (s ∷ sources) lower =
      let below = All-head (λ s. s < i) s sources lower in
      let here : rows_in (parts_at (take i parts) s) ≡ rows_at nodes s = ap rows_in (get_or-take i parts s [] below) ∙ earlier s below in
      let rest = sources_sum sources (All-tail (λ s. s < i) s sources lower) in
      sum_by-append (λ (part : Part). part.rows) (parts_at (take i parts) s) (flat_map (parts_at (take i parts)) sources) ∙ (λ k. here k + rest k) ∙ sym (sum_by-cons (rows_at nodes) s sources)

  one_source : (s : ℕ) → sum_by (rows_at nodes) (s ∷ []) ≡ rows_at nodes s
  one_source s = let cut = sum_by-cons (rows_at nodes) s [] in omega arith

  pub pushed_sum : (shape : Operator) → IsPushed shape → at_most_of shape ≡ None → All (λ s. s < i) (sources_of shape) → rows_in (source_parts shape (take i parts)) ≡ node_size shape (map (rows_at nodes) (sources_of shape))
  pushed_sum (operators.Relation r) pushed free lower = absurd pushed
  pushed_sum (operators.Filter f) pushed free lower = sources_sum (f.source ∷ []) lower ∙ one_source f.source ∙ sym (ap (λ bound. bounded bound (rows_at nodes f.source)) free)
  pushed_sum (operators.Select s) pushed free lower = sources_sum (s.source ∷ []) lower ∙ one_source s.source
  pushed_sum (operators.Concat c) pushed free lower = sources_sum c.sources lower ∙ sym (sum-map (rows_at nodes) c.sources)
  pushed_sum (operators.Join j) pushed free lower = absurd pushed
  pushed_sum (operators.Group g) pushed free lower = absurd pushed
  pushed_sum (operators.Distinct d) pushed free lower = absurd pushed

-- an operator with several parts has no bound, where nodes with several parts have none
unbounded : (shape : Operator) (parts : List Part) → IsPushed shape → node_place shape parts ≡ None → (length parts ≢ 1 → at_most_of shape ≡ None) → at_most_of shape ≡ None
unbounded (operators.Relation r) parts pushed none free = absurd pushed
unbounded (operators.Filter f) parts pushed none free = free (not_one parts (not_placed (operators.Filter f) parts none))
unbounded (operators.Select s) parts pushed none free = refl
unbounded (operators.Concat c) parts pushed none free = refl
unbounded (operators.Join j) parts pushed none free = absurd pushed
unbounded (operators.Group g) parts pushed none free = absurd pushed
unbounded (operators.Distinct d) parts pushed none free = absurd pushed

pub record SizeLaws : Type 0 where
  pub written : NodesAreWritten
  pub sizes : NodesHaveSizes

-- a pushed operator has a source
some_sources : (nodes : List Node) (i : ℕ) (n : Node) (shape : Operator) → FitsSources nodes i n shape → IsPushed shape → 0 < length (sources_of shape)
some_sources nodes i n (operators.Relation r) fits pushed = absurd pushed
some_sources nodes i n (operators.Filter f) fits pushed = omega arith
some_sources nodes i n (operators.Select s) fits pushed = omega arith
some_sources nodes i n (operators.Concat c) fits pushed = let some = fits.some in omega arith
some_sources nodes i n (operators.Join j) fits pushed = absurd pushed
some_sources nodes i n (operators.Group g) fits pushed = absurd pushed
some_sources nodes i n (operators.Distinct d) fits pushed = absurd pushed

module _ (laws : SizeLaws) (graph : Content) (is_graph : IsGraph graph) (free : SplitNodesAreUnbounded graph.nodes) where
  abbrev AddsUp : ℕ → Type 0
  AddsUp i = rows_in (parts_at (parts_of graph.nodes) i) ≡ rows_at graph.nodes i

  adds_here : (i : ℕ) (n : Node) → slice_get graph.nodes i ≡ Some n → ((s : ℕ) → s < i → AddsUp s) → rows_in (parts_at (parts_of graph.nodes) i) ≡ n.rows
  adds_here i n at earlier = by (node_place n.shape (source_parts n.shape (take i (parts_of graph.nodes)))) refl
    where
      by : (place : Option PartPlace) → node_place n.shape (source_parts n.shape (take i (parts_of graph.nodes))) ≡ place → rows_in (parts_at (parts_of graph.nodes) i) ≡ n.rows
      by (Some place) is = ap rows_in (parts_here graph.nodes i n at) ∙ ap (λ p. rows_in (placed n.rows p (source_parts n.shape (take i (parts_of graph.nodes))))) is ∙ omega arith
      by None is =
          let split = unplaced_split graph.nodes i n at is in
          let all = source_parts n.shape (take i (parts_of graph.nodes)) in
          let node : IsNodeOf graph i n = record { is_graph = is_graph; is_node = at } in
          let bound = unbounded n.shape all split.pushed is (λ many. free i n at (λ one. many (sym (ap (λ l. length l) split.same) ∙ one))) in
          ap rows_in split.same ∙ pushed_sum graph.nodes i (parts_of graph.nodes) earlier n.shape split.pushed bound (laws.written.sources graph i n node)
          ∙ sym (laws.sizes.rows graph i n node (some_sources graph.nodes i n n.shape (is_graph.nodes i n at).sources split.pushed))

  adds_at : (i : ℕ) (found : Option Node) → slice_get graph.nodes i ≡ found → ((s : ℕ) → s < i → AddsUp s) → AddsUp i
  adds_at i None at earlier =
      let many = values_count node_parts graph.nodes in
      let past = past_end graph.nodes i at in
      ap rows_in (get_or_past (parts_of graph.nodes) i [] (omega arith)) ∙ sym (ap (λ (o : Option Node). option_map_or (λ n. n.rows) o 0) at)
  adds_at i (Some n) at earlier = adds_here i n at earlier ∙ sym (ap (λ (o : Option Node). option_map_or (λ n. n.rows) o 0) at)

  adds_below : (count i : ℕ) → i < count → AddsUp i
  adds_below zero i below = absurd (omega arith)
  adds_below (suc count) i below = adds_at i (slice_get graph.nodes i) refl (λ s lower. adds_below count s (omega arith))

pub parts_add_up : SizeLaws → PartsAddUp
parts_add_up laws graph i n node free = adds_here laws graph node.is_graph free i n node.is_node (λ s lower. adds_below laws graph node.is_graph free i s lower)
