use Rattle.std.proofs.Common.{◌≡◌, ◌+◌, length}
use Rattle.tests_shared.proofs.random_tests.random_rows.Given as goal

abbrev pub invariant-loop-more : goal.invariant-loop-more
invariant-loop-more l = length l.rows.items ≡ l._more + 1
