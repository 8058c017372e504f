use Rattle.lanes.specs.Lanes.{lanewise}
use Rattle.std.specs.Prelude.{bit_or}
use Rattle.wires.specs.Environment.{words}
use Rattle.circuits.proofs.LaneValues.{or_is}
use Rattle.circuits.proofs.Restated.{restated}
use Rattle.circuits.proofs.bits.or.Goals as goal

pub returns-clause-ok : goal.returns-clause-ok
returns-clause-ok g c =
    restated _ _ _ _ _ (λ v. lanewise bit_or (words v c.args.left) (words v c.args.right)) c.in_ok-new.ensures.ok (λ v possible. or_is (words v c.args.left) (words v c.args.right))
