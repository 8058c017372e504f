use Rattle.conclave_top.proofs.Exact as exact
use Rattle.conclave_top.proofs.laws.statuses_are_exact.Goals as goal

pub returns : goal.returns
returns c = exact.statuses_are_exact c.texts_have_graphs.ensures c.one_due.ensures c.taken_is_planned.ensures
