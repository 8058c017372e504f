use Rattle.circuits.proofs.RunBlockLaws.{copies_of_one_run, last_fold}
use Rattle.circuits.proofs.laws.runs_of_one_block.Goals as goal

pub returns : goal.returns
returns c = record { last_fold = last_fold; copies = copies_of_one_run }
