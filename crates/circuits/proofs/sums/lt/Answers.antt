use Rattle.lanes.specs.Lanes.{lanewise}
use Rattle.lanes.specs.Sums.{less_word}
use Rattle.wires.specs.Environment.{words}
use Rattle.circuits.proofs.LaneValues.{less_is}
use Rattle.circuits.proofs.Restated.{restated}
use Rattle.circuits.proofs.sums.lt.Goals as goal

pub returns-clause-ok : goal.returns-clause-ok
returns-clause-ok g c =
    let fits = g.met.W.Wires.fits in
    let before = c.last_carry.ensures.grows.within in
    restated _ _ _ _ _ (λ v. lanewise less_word (words v c.args.left) (words v c.args.right)) c.in_ok-new.ensures.ok
    (λ v possible. less_is c.word_laws.ensures.bits (words v c.args.left) (words v c.args.right)
    (fits c.args.wires.now v c.args.left (before v possible) c.requires.left).below
    (fits c.args.wires.now v c.args.right (before v possible) c.requires.right).below)
