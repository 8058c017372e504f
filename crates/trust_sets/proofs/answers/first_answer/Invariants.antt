use Rattle.std.proofs.Common.{ℕ, ◌<◌}
use Rattle.plain_meaning.specs.Plain.{rows_of_tables}
use Rattle.trust_sets.specs.Differs.{PlaceAgrees}
use Rattle.trust_sets.proofs.answers.first_answer.Given as goal

-- the outputs so far agree
abbrev pub invariant-loop-output : goal.invariant-loop-output
invariant-loop-output l = (place : ℕ) → place < l.output-index → PlaceAgrees l.graph l.party (rows_of_tables l.world) (rows_of_tables l.other) place
