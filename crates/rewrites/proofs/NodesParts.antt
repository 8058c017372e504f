-- Each node of a graph has parts, and is up or not.
use Rattle.std.proofs.Common.{◌≡◌, ℕ, zero, suc, ◌+◌, ◌<◌, ◌≤◌, List, [], ◌∷◌, Option, Some, None, length, get_or, refl, sym, ◌∙◌, ap, subst, arith}
use Rattle.std.specs.List.{All, flat_map}
use Rattle.std.proofs.lemmas.List.{get_or-take, length-append}
use Rattle.std.proofs.lemmas.List.Elements.{All-head}
use Rattle.std.proofs.lemmas.Option.{slice_get-get_or, slice_get_within}
use Rattle.query_graph.specs.declared.node.Node.{Node}
use Rattle.query_graph.specs.declared.operator.Operator.{Operator}
use Rattle.query_graph.specs.declared.operator.Operator.TheVariants as operators
use Rattle.query_graph.specs.Content.{Content}
use Rattle.query_graph.specs.IsGraph.{FitsSources}
use Rattle.query_graph.specs.NodeSizes.{IsNodeOf, NodesAreWritten}
use Rattle.query_graph.specs.Observers.{sources_of}
use Rattle.rewrites.specs.declared.part.Part.{Part}
use Rattle.rewrites.specs.declared.part.PartPlace.{PartPlace}
use Rattle.rewrites.specs.Laws.{NodesHaveParts}
use Rattle.rewrites.specs.Parts.{node_parts, node_place, parts_at, parts_of, placed, source_parts}
use Rattle.rewrites.specs.Rewritten.{rewritten_of}
use Rattle.rewrites.specs.Up.{up_from}
use Rattle.rewrites.proofs.PartCases.{IsPushed, is_pushed, parts_here}
use Rattle.rewrites.proofs.Values.{taken_at, values_count}

up_count : (graph : Content) (parts : List (List Part)) (first : ℕ) (nodes : List Node) → length (up_from graph parts first nodes) ≡ length nodes
up_count graph parts first [] = refl
up_count graph parts first (n ∷ nodes) = ap suc (up_count graph parts (first + 1) nodes)

pub parts_count : (graph : Content) → length (rewritten_of graph).parts ≡ length graph.nodes
parts_count graph = values_count node_parts graph.nodes

pub ups_count : (graph : Content) → length (rewritten_of graph).up ≡ length graph.nodes
ups_count graph = up_count graph (parts_of graph.nodes) 0 graph.nodes

-- a filter, select or concat has a first source
first_source : (nodes : List Node) (i : ℕ) (n : Node) (shape : Operator) → FitsSources nodes i n shape → IsPushed shape → (s : ℕ) × (last : List ℕ) × (sources_of shape ≡ s ∷ last)
first_source nodes i n (operators.Relation r) fits pushed = absurd pushed
first_source nodes i n (operators.Filter f) fits pushed = (f.source, [], refl)
first_source nodes i n (operators.Select s) fits pushed = (s.source, [], refl)
first_source nodes i n (operators.Concat c) fits pushed = by c.sources fits.some
  where
    by : (sources : List ℕ) → 2 ≤ length sources → (s : ℕ) × (last : List ℕ) × (sources ≡ s ∷ last)
    by [] some = absurd (omega arith)
    by (s ∷ last) some = (s, last, refl)
first_source nodes i n (operators.Join j) fits pushed = absurd pushed
first_source nodes i n (operators.Group g) fits pushed = absurd pushed
first_source nodes i n (operators.Distinct d) fits pushed = absurd pushed

module _ (written : NodesAreWritten) (graph : Content) where
  from_sources : (i : ℕ) (n : Node) → IsNodeOf graph i n → parts_at (parts_of graph.nodes) i ≡ node_parts n (parts_of graph.nodes)
  from_sources i n node =
      let parts = parts_of graph.nodes in
      let same = taken_at i parts parts_at (λ s below. get_or-take i parts s [] below) (sources_of n.shape) (written.sources graph i n node) in
      parts_here graph.nodes i n node.is_node ∙ ap (λ l. placed n.rows (node_place n.shape l) l) same

  some_below : (count i : ℕ) → i < count → (n : Node) → IsNodeOf graph i n → 1 ≤ length (parts_at (parts_of graph.nodes) i)
  some_below zero i below n node = absurd (omega arith)
  some_below (suc count) i below n node =
      let inside = slice_get_within graph.nodes i n node.is_node in
      let earlier : (s : ℕ) → s < i → 1 ≤ length (parts_at (parts_of graph.nodes) s) = λ s lower.
      some_below count s (omega arith) (get_or graph.nodes s n) (record { is_graph = node.is_graph; is_node = slice_get-get_or graph.nodes s n (omega arith) }) in
      subst (λ l. 1 ≤ length l) (sym (from_sources i n node)) (by (node_place n.shape (source_parts n.shape (parts_of graph.nodes))) refl earlier)
    where
      by : (place : Option PartPlace) → node_place n.shape (source_parts n.shape (parts_of graph.nodes)) ≡ place → ((s : ℕ) → s < i → 1 ≤ length (parts_at (parts_of graph.nodes) s))
          → 1 ≤ length (placed n.rows (node_place n.shape (source_parts n.shape (parts_of graph.nodes))) (source_parts n.shape (parts_of graph.nodes)))
      by (Some place) is each = subst (λ p. 1 ≤ length (placed n.rows p (source_parts n.shape (parts_of graph.nodes)))) (sym is) (omega arith)
      by None is each =
          let parts = parts_of graph.nodes in
          let first = first_source graph.nodes i n n.shape (node.is_graph.nodes i n node.is_node).sources (is_pushed n.shape (source_parts n.shape parts) is) in
          let lower = All-head (λ s. s < i) first.0 first.1 (subst (All (λ s. s < i)) first.2 (written.sources graph i n node)) in
          let some = each first.0 lower in
          let long = ap (λ sources. length (flat_map (parts_at parts) sources)) first.2 ∙ length-append (parts_at parts first.0) (flat_map (parts_at parts) first.1) in
          subst (λ p. 1 ≤ length (placed n.rows p (source_parts n.shape parts))) (sym is) (omega arith)

  pub some_parts : (i : ℕ) (n : Node) → IsNodeOf graph i n → 1 ≤ length (parts_at (parts_of graph.nodes) i)
  some_parts i n node = some_below (suc i) i (omega arith) n node

pub nodes_have_parts : NodesAreWritten → NodesHaveParts
nodes_have_parts written = record {
  parts = parts_count;
  up = ups_count;
  some = λ graph i n node. some_parts written graph i n node;
  from_sources = λ graph i n node. from_sources written graph i n node;
}
