use Rattle.conclave_top.proofs.Rest as rest
use Rattle.conclave_top.proofs.laws.leaves_the_rest.Goals as goal

pub returns : goal.returns
returns c = rest.leaves_the_rest c.texts_have_graphs.ensures
