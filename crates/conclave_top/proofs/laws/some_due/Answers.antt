use Rattle.conclave_top.proofs.SomeDues as dues
use Rattle.conclave_top.proofs.laws.some_due.Goals as goal

pub returns : goal.returns
returns c = dues.some_due c.one_reading.ensures c.texts_have_graphs.ensures c.made_laws.ensures.exist c.read_laws.ensures c.read_tables_fit.ensures
