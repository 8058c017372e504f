use Rattle.table_laws.proofs.Faults.{faults_are_first}
use Rattle.table_laws.proofs.laws.faults_are_first.Goals as goal

pub returns : goal.returns
returns c = faults_are_first
