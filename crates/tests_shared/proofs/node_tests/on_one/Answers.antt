use Rattle.plain_meaning.specs.Operators.{operator_of}
use Rattle.tests_shared.proofs.NodeJoints.{joint_of}
use Rattle.tests_shared.proofs.node_tests.on_one.Goals as goal

pub rows_of-requires : goal.rows_of-requires
rows_of-requires c = joint_of _ _ c.in_ok-made.made _ (operator_of c.in_ok-node.node.shape) c.in_ok-made.ensures.makes
