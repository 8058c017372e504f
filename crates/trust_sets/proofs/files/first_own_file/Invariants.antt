use Rattle.plain_meaning.specs.Plain.{rows_of_tables}
use Rattle.trust_sets.specs.Agreement.{OwnFileAgrees}
use Rattle.trust_sets.proofs.Walk.{Walked}
use Rattle.trust_sets.proofs.files.first_own_file.Given as goal

abbrev pub invariant-loop-number : goal.invariant-loop-number
invariant-loop-number l = Walked l.nodes (OwnFileAgrees l.nodes l.party (rows_of_tables l.world) (rows_of_tables l.other)) l.number l.file
