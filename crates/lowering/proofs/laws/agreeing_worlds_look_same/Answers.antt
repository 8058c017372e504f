use Rattle.lowering.proofs.Agreeing.{worlds_look_same}
use Rattle.lowering.proofs.laws.agreeing_worlds_look_same.Goals as goal

pub returns : goal.returns
returns c = worlds_look_same c.opened_of_bags.ensures
