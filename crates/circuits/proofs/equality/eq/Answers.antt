use Rattle.std.proofs.Common.{ap, ◌∙◌}
use Rattle.std.specs.Prelude.{bit_and}
use Rattle.lanes.specs.Lanes.{lanewise1}
use Rattle.wires.specs.Environment.{words}
use Rattle.circuits.proofs.LaneValues.{equality_is}
use Rattle.circuits.proofs.equality.eq.Goals as goal

pub returns-clause-ok : goal.returns-clause-ok
returns-clause-ok g c =
    let fits = g.met.W.Wires.fits in
    let folded = c.in_ok-folded.ensures.ok in
    let new = c.in_ok-new.ensures.ok in
    record {
      made = new.made;
      lanes = new.lanes ∙ folded.lanes;
      value = λ v possible.
          let middle = c.mask.ensures.grows.within v possible in
          let first = c.fold_shared.ensures.grows.within v middle in
          new.value v possible
          ∙ ap (lanewise1 (λ x. bit_and x 1)) (folded.value v middle)
          ∙ equality_is c.word_laws.ensures.bits (words v c.args.left) (words v c.args.right)
          (fits c.args.wires.now v c.args.left first c.requires.left).below
          (fits c.args.wires.now v c.args.right first c.requires.right).below;
    }
