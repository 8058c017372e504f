use Rattle.std.proofs.Common.{[], ◌∷◌, ◌++◌, sym, ◌∙◌, arith}
use Rattle.std.proofs.lemmas.List.FromFn.{map-range_with_len_more}
use Rattle.shared_ops.specs.Groups.{earlier_place}
use Rattle.shared_ops.proofs.seen.earlier_places.Goals as goal

pub loop-place-preserved : goal.loop-place-preserved
loop-place-preserved c =
    let place = c.loop-place.place in
    c.in_ok-push.ensures.items ∙ (λ i. c.loop-place.invariant i ++ c.earlier_place.ensures i ∷ []) ∙ sym (map-range_with_len_more (earlier_place c.args.rows) 0 place place (omega arith))
