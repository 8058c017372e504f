use Rattle.std.proofs.Common.{arith}
use Rattle.joint_machine.proofs.run.copy_words.Goals as goal

pub returns-clause-below : goal.returns-clause-below
returns-clause-below c = record { below = λ k. omega (arith, c.type_inv.words k) }
