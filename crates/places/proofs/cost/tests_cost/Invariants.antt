use Rattle.std.proofs.Common.{◌≡◌, ◌*◌, ◌≤◌, sum_by, take}
use Rattle.places.specs.Cost.{test_cost}
use Rattle.places.proofs.cost.tests_cost.Given as goal

abbrev pub invariant-loop-test : goal.invariant-loop-test
invariant-loop-test l = record { so_far : l.cost ≡ sum_by test_cost (take l.test-index l.tests); few : l.cost ≤ 14 * l.test-index }
