use Rattle.std.proofs.Common.{◌≡◌, ℕ, ◌+◌, ◌<◌, List, [], ◌∷◌, ◌++◌, Some, length, take, sym, ap, ◌∙◌, arith}
use Rattle.std.specs.Prelude.{slice_get}
use Rattle.std.proofs.lemmas.List.{take_more}
use Rattle.std.proofs.lemmas.Option.{get_or_from_slice_get, slice_get-get_or, slice_get_within}
use Rattle.query_graph.specs.Observers.{sources_of}
use Rattle.rewrites.proofs.nodes.sources.Goals as goal
use Rattle.rewrites.proofs.nodes.sources.Goals.{in-Some+in_ok-push, in_default}

one_more : (xs : List ℕ) (i x : ℕ) → Some x ≡ slice_get xs i → take (i + 1) xs ≡ take i xs ++ x ∷ []
one_more xs i x at = take_more xs i x (slice_get_within xs i x (sym at)) ∙ ap (λ y. take i xs ++ y ∷ []) (get_or_from_slice_get xs i x x (sym at))

pub loop-index-preserved : goal.loop-index-preserved
loop-index-preserved c =
    let sources = sources_of c.args.shape.now in
    let index = c.loop-index.index in
    elim c.match-source.branch [
      | in-Some+in_ok-push w ↦ ap (λ v. v.items) w.sources-is ∙ w.in_ok-push.ensures.items ∙ ap (λ l. l ++ w.in-Some.source ∷ []) c.loop-index.invariant ∙ sym (one_more sources index w.in-Some.source w.in-Some.ensures)
      | in_default w ↦ let inside : index < length sources = omega (arith, c.source_count-index-end.ensures, c.loop-index-test.true) in let some = slice_get-get_or sources index 0 inside in absurd cc
    ]
