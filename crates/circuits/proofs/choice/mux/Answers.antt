use Rattle.wires.specs.Environment.{words}
use Rattle.circuits.proofs.LaneValues.{choice_is}
use Rattle.circuits.proofs.Restated.{restated}
use Rattle.circuits.specs.Values.{chosen_lanes}
use Rattle.circuits.proofs.choice.mux.Goals as goal

pub returns-clause-ok : goal.returns-clause-ok
returns-clause-ok g c =
    let fits = g.met.W.Wires.fits in
    let before = c.choose.ensures.grows.within in
    restated _ _ _ _ _ (λ v. chosen_lanes (words v c.args.flag) (words v c.args.one) (words v c.args.zero)) c.in_ok-new.ensures.ok
    (λ v possible. choice_is c.word_laws.ensures.flags (words v c.args.flag) (words v c.args.one) (words v c.args.zero)
    (fits c.args.wires.now v c.args.one (before v possible) c.requires.one).below
    (fits c.args.wires.now v c.args.zero (before v possible) c.requires.zero).below)
