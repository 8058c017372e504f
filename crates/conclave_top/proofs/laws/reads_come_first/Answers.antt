use Rattle.conclave_top.proofs.Rest as rest
use Rattle.conclave_top.proofs.laws.reads_come_first.Goals as goal

pub returns : goal.returns
returns c = rest.reads_come_first
