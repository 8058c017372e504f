use Rattle.plain_meaning.specs.Plain.{rows_of_tables}
use Rattle.trust_sets.specs.Agreement.{TrustedPartAgrees}
use Rattle.trust_sets.proofs.Walk.{Walked}
use Rattle.trust_sets.proofs.files.first_trusted_part.Given as goal

abbrev pub invariant-loop-number : goal.invariant-loop-number
invariant-loop-number l = Walked l.nodes (TrustedPartAgrees l.nodes l.trust.known l.party (rows_of_tables l.world) (rows_of_tables l.other)) l.number l.file
