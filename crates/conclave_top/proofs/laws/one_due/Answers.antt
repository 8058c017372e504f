use Rattle.conclave_top.proofs.Dues as dues
use Rattle.conclave_top.proofs.laws.one_due.Goals as goal

pub returns : goal.returns
returns c = dues.one_due c.one_reading.ensures c.texts_have_graphs.ensures c.made_laws.ensures.only c.differences_are_one.ensures
