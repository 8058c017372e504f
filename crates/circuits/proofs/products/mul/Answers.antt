use Rattle.std.proofs.Common.{ap, ◌∙◌}
use Rattle.lanes.specs.CarrySave.{saved_terms}
use Rattle.lanes.specs.Lanes.{lanewise}
use Rattle.lanes.specs.Sums.{sum_word}
use Rattle.wires.specs.Environment.{words}
use Rattle.circuits.proofs.LaneValues.{product_is}
use Rattle.circuits.proofs.products.mul.Goals as goal

pub returns-clause-ok : goal.returns-clause-ok
returns-clause-ok g c =
    let fits = g.met.W.Wires.fits in
    let terms = c.in_ok-terms.ensures in
    let new = c.in_ok-new.ensures.ok in
    record {
      made = new.made;
      lanes = new.lanes ∙ terms.sum.lanes;
      value = λ v possible.
          let middle = c.add.ensures.grows.within v possible in
          let first = c.terms_saved.ensures.grows.within v middle in
          let left = words v c.args.left in
          let right = words v c.args.right in
          new.value v possible
          ∙ ap (λ xs. lanewise sum_word xs (words v c.in_ok-terms.terms.carry)) (terms.sum.value v middle)
          ∙ ap (lanewise sum_word (lanewise (λ x y. (saved_terms 62 x y).sum) left right)) (terms.carry.value v middle)
          ∙ product_is c.word_laws.ensures.bits left right (fits c.args.wires.now v c.args.left first c.requires.left).below (fits c.args.wires.now v c.args.right first c.requires.right).below;
    }
