use Rattle.table_laws.proofs.Fields.{fields_come_back}
use Rattle.table_laws.proofs.laws.fields_come_back.Goals as goal

pub returns : goal.returns
returns c = fields_come_back c.texts_come_back.ensures
