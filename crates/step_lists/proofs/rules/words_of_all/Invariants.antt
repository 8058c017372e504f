use Rattle.std.proofs.Common.{◌≡◌, ◌+◌, ◌*◌, ◌^◌, ◌≤◌, drop}
use Rattle.step_lists.specs.Rules.{words_of_all}
use Rattle.step_lists.proofs.rules.words_of_all.Given as goal

-- what is counted, with the sources that are left
abbrev pub invariant-loop-source : goal.invariant-loop-source
invariant-loop-source l =
    (l.count + words_of_all l.layout.now (drop l.source-index l.sources) ≡ words_of_all l.layout.now l.sources) × (l.count ≤ l.source-index * 2 ^ 32)
