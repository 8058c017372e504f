-- One node more, in the walk that places nodes.
use Rattle.std.proofs.Common.{◌≡◌, ℕ, ◌+◌, ◌<◌, ◌≤◌, cond, List, [], ◌∷◌, ◌++◌, Some, length, drop, get_or, ◌∙◌, ap, arith}
use Rattle.std.specs.List.{All}
use Rattle.std.proofs.lemmas.List.{drop_more}
use Rattle.std.proofs.lemmas.List.Elements.{All-head}
use Rattle.query_graph.specs.declared.node.Node.{Node}
use Rattle.trust_sets.specs.declared.known.Known.{Known}
use Rattle.rewrites.specs.Opened.{source_of}
use Rattle.rewrites.specs.Parts.{parts_at}
use Rattle.rewrites.specs.Rewritten.{Rewritten}
use Rattle.places.specs.declared.place.PlaceFault.TheVariants.{AtMost}
use Rattle.places.specs.Bounds.{first_uncounted, flags_from, is_counted, node_flags, places_from}
use Rattle.places.specs.Place.{node_place}

module _ (known : List Known) (rewritten : Rewritten) (nodes : List Node) (number : ℕ) (n : Node) (below : number < length nodes) (at : get_or nodes number n ≡ n) where
  here : drop number nodes ≡ n ∷ drop (number + 1) nodes
  here = drop_more nodes number n below ∙ ap (λ m. m ∷ drop (number + 1) nodes) at

  pub places_more : places_from known rewritten number (drop number nodes) ≡ node_place known rewritten number n.shape ∷ places_from known rewritten (number + 1) (drop (number + 1) nodes)
  places_more = ap (places_from known rewritten number) here

  pub uncounted_more : first_uncounted known rewritten number (drop number nodes)
      ≡ cond (is_counted n.shape (node_place known rewritten number n.shape) (parts_at rewritten.parts (source_of n.shape))) (first_uncounted known rewritten (number + 1) (drop (number + 1) nodes)) (Some (AtMost n.line number))
  uncounted_more = ap (first_uncounted known rewritten number) here

  pub flags_more : flags_from known rewritten number (drop number nodes)
      ≡ node_flags number n.shape (node_place known rewritten number n.shape) (parts_at rewritten.parts (source_of n.shape)) ++ flags_from known rewritten (number + 1) (drop (number + 1) nodes)
  flags_more = ap (flags_from known rewritten number) here

-- the source of an operator is an earlier node, or the first one is taken where it has none
pub source_within : (sources : List ℕ) (i : ℕ) → All (λ s. s < i) sources → get_or sources 0 0 ≤ i
source_within [] i lower = omega arith
source_within (s ∷ sources) i lower = let below = All-head (λ s. s < i) s sources lower in omega arith
