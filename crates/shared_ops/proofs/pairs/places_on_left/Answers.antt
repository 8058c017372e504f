use Rattle.std.proofs.Common.{◌/◌, [], ◌∷◌, ◌++◌, sym, ap, ◌∙◌}
use Rattle.shared_ops.proofs.Elements.{mapped_more}
use Rattle.shared_ops.proofs.pairs.places_on_left.Goals as goal

pub loop-place-preserved : goal.loop-place-preserved
loop-place-preserved c =
    c.in_ok-push.ensures.items ∙ ap (λ l. l ++ c.loop-place.place / c.args.right ∷ []) c.loop-place.invariant ∙ sym (mapped_more (λ p. p / c.args.right) c.loop-place.place)
