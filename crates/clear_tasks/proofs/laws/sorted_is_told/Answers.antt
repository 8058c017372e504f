use Rattle.clear_tasks.proofs.Tables.{is_told}
use Rattle.clear_tasks.proofs.laws.sorted_is_told.Goals as goal

pub returns : goal.returns
returns c = is_told
