use Rattle.std.proofs.Common.{ap, sym, ◌∙◌}
use Rattle.std.specs.Prelude.{◌↔◌, IsTrue}
use Rattle.std.proofs.lemmas.Result.{IfOk-weaker}
use Rattle.query_graph.specs.Parties.{has}
use Rattle.plain_operators.specs.Cuts.{CutsAgree}
use Rattle.plain_meaning.specs.Plain.{rows_of_tables}
use Rattle.trust_sets.specs.Agreement.{known_columns}
use Rattle.trust_sets.specs.Differs.{OfRelation}
use Rattle.trust_sets.specs.Known.{known_at}
use Rattle.trust_sets.proofs.SameRows.{file_rows}
use Rattle.trust_sets.proofs.Walk.{TrustedAsked, trusted_part}
use Rattle.trust_sets.proofs.files.trusted_part_agrees.Goals as goal

pub returns-else-not-contains : goal.returns-else-not-contains
returns-else-not-contains c =
    let known = c.args.trust.now.known in
    let world = rows_of_tables c.args.world.now in
    let other = rows_of_tables c.args.other.now in
    let left = c.table-left.result.now.rows in
    let right = c.table-right.result.now.rows in
    let columns = known_columns c.args.party (known_at known c.args.node) in
    let knows = sym (c.contains.ensures ∙ ap (λ set. has set c.args.party) c.rows_of.ensures) ∙ c.if-not-contains.false in
    IfOk-weaker c.known_part_agrees.result
    (λ same. IsTrue same ↔ CutsAgree columns left right)
    (λ same. IsTrue same ↔ OfRelation (TrustedAsked known c.args.party world other c.args.node c.args.file) c.args.shape.now)
    (λ same. trusted_part known c.args.party world other c.args.node c.args.file c.in-Relation.written left right c.args.shape.now same c.in-Relation.is c.if-written-party.false knows (file_rows c.args.world.now c.args.file c.table-left.result.now c.table-left.ensures.file) (file_rows c.args.other.now c.args.file c.table-right.result.now c.table-right.ensures.file))
    c.known_part_agrees.ensures
