use Rattle.conclave_top.proofs.Exact as exact
use Rattle.conclave_top.proofs.laws.one_job.Goals as goal

pub returns : goal.returns
returns c = exact.one_job c.one_due.ensures
