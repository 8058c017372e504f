use Rattle.std.proofs.Common.{◌∙◌, arith}
use Rattle.std.proofs.lemmas.List.{ext_get_or}
use Rattle.tapes.proofs.marking.none_twice.Goals as goal

pub returns-clause-same : goal.returns-clause-same
returns-clause-same c =
    ext_get_or 0 c.unmark.new.places c.args.places.now (c.unmark.auto.places ∙ c.mark-apart.auto.places)
    (λ k h. c.unmark.ensures k (omega arith) ∙ c.mark-apart.ensures.kept k (omega arith))
