use Rattle.std.proofs.Common.{◌≡◌, ◌*◌, ◌≤◌, map, take}
use Rattle.plain_meaning.specs.Convert.{test_of}
use Rattle.shared_ops.specs.Costs.{tests_cost}
use Rattle.lowering.proofs.cost.tests_cost.Given as goal

abbrev pub invariant-loop-test : goal.invariant-loop-test
invariant-loop-test l = record {
  so_far : l.cost ≡ tests_cost (map test_of (take l.test-index l.tests));
  few : l.cost ≤ 14 * l.test-index;
}
