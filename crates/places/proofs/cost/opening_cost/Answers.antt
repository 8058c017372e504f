use Rattle.std.proofs.Common.{◌≡◌, ℕ, ◌+◌, ◌*◌, ◌<◌, List, Some, length, take, sum_by, sym, ap, ◌∙◌, arith}
use Rattle.std.specs.Prelude.{slice_get}
use Rattle.std.proofs.lemmas.List.Sums.{sum_by_more}
use Rattle.std.proofs.lemmas.Option.{get_or_from_slice_get, slice_get-get_or, slice_get_within}
use Rattle.query_graph.specs.NodeSizes.{width_at}
use Rattle.query_graph.specs.Observers.{sources_of}
use Rattle.rewrites.specs.Parts.{parts_at}
use Rattle.places.specs.Cost.{joint_rows}
use Rattle.places.proofs.cost.opening_cost.Goals as goal
use Rattle.places.proofs.cost.opening_cost.Goals.{in-Some, in_default}

one_more : (f : ℕ → ℕ) (xs : List ℕ) (i x : ℕ) → Some x ≡ slice_get xs i → sum_by f (take (i + 1) xs) ≡ sum_by f (take i xs) + f x
one_more f xs i x at = sum_by_more f xs i x (slice_get_within xs i x (sym at)) ∙ ap (λ y. sum_by f (take i xs) + f y) (get_or_from_slice_get xs i x x (sym at))

pub loop-index-preserved : goal.loop-index-preserved
loop-index-preserved c =
    let sources = sources_of c.args.shape.now in
    let index = c.loop-index.index in
    let f = λ (s : ℕ). joint_rows (parts_at c.args.rewritten.now.parts s) * width_at c.args.nodes.now s in
    elim c.match-source.branch [
      | in-Some w ↦ record {
        so_far = w.cost-is ∙ (λ k. c.loop-index.invariant.so_far k + w.opened_source-cost.ensures.cost k) ∙ sym (one_more f sources index w.in-Some.source w.in-Some.ensures);
        few = (let before = c.loop-index.invariant.few in let more = w.opened_source-cost.ensures.few in let is = w.cost-is in omega arith);
      }
      | in_default w ↦ let inside : index < length sources = omega (arith, c.source_count-index-end.ensures, c.loop-index-test.true) in let some = slice_get-get_or sources index 0 inside in absurd cc
    ]
