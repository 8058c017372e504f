use Rattle.lowering.proofs.Isolating.{showing_isolates}
use Rattle.lowering.proofs.laws.showing_answers_isolates.Goals as goal

pub returns : goal.returns
returns c = showing_isolates c.bags_are_equivalence.ensures c.padded_fits.ensures c.agreeing_worlds_look_same.ensures c.twin_of_alike.ensures
