use Rattle.conclave_top.proofs.Exact as exact
use Rattle.conclave_top.proofs.laws.ready_is_done.Goals as goal

pub returns : goal.returns
returns c = exact.ready_is_done c.one_due.ensures c.taken_is_planned.ensures
