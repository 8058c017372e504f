use Rattle.circuits.proofs.FoldValues.{combined_assoc, combined_comm, combined_neutral}
use Rattle.circuits.proofs.laws.folds_are_lawful.Goals as goal

pub returns : goal.returns
returns c = record { associates = combined_assoc; commutes = combined_comm; neutral = combined_neutral }
