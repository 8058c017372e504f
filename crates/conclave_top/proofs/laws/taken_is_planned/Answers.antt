use Rattle.conclave_top.proofs.Planned as planned
use Rattle.conclave_top.proofs.laws.taken_is_planned.Goals as goal

pub returns : goal.returns
returns c = planned.taken_is_planned c.one_reading.ensures c.texts_have_graphs.ensures c.one_job.ensures
