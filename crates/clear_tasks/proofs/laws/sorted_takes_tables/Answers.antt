use Rattle.clear_tasks.proofs.Tables.{takes_tables}
use Rattle.clear_tasks.proofs.laws.sorted_takes_tables.Goals as goal

pub returns : goal.returns
returns c = takes_tables
