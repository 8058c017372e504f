use Rattle.table_laws.proofs.Files.{files_are_tables}
use Rattle.table_laws.proofs.laws.files_are_tables.Goals as goal

pub returns : goal.returns
returns c = files_are_tables
