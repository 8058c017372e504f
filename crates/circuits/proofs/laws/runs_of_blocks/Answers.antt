use Rattle.circuits.proofs.RunBlockLaws.{copies_of_blocks, folds_of_blocks}
use Rattle.circuits.proofs.laws.runs_of_blocks.Goals as goal

pub returns : goal.returns
returns c = record { folds = folds_of_blocks; copies = copies_of_blocks }
