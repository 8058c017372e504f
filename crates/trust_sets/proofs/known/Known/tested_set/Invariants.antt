use Rattle.std.proofs.Common.{◌≡◌, drop}
use Rattle.std.specs.List.{fold}
use Rattle.trust_sets.specs.Known.{met_with_test}
use Rattle.trust_sets.proofs.known.Known.tested_set.Given as goal

-- what is left meets the set so far
abbrev pub invariant-loop-test : goal.invariant-loop-test
invariant-loop-test l = fold (met_with_test l.self) l.self.rows l.tests ≡ fold (met_with_test l.self) l.set (drop l.test-index l.tests)
