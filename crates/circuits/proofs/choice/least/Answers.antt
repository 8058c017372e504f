use Rattle.std.proofs.Common.{ap, ◌∙◌}
use Rattle.wires.specs.Environment.{words}
use Rattle.circuits.specs.Values.{chosen_lanes}
use Rattle.circuits.proofs.LaneValues.{least_is}
use Rattle.circuits.proofs.choice.least.Goals as goal

pub returns-clause-ok : goal.returns-clause-ok
returns-clause-ok g c =
    let less = c.in_ok-less.ensures.ok in
    let new = c.in_ok-new.ensures.ok in
    record {
      made = new.made;
      lanes = new.lanes ∙ less.lanes;
      value = λ v possible.
          new.value v possible
          ∙ ap (λ flags. chosen_lanes flags (words v c.args.left) (words v c.args.right)) (less.value v (c.mux.ensures.grows.within v possible))
          ∙ least_is (words v c.args.left) (words v c.args.right);
    }
