use Rattle.std.proofs.Common.{◌+◌, length, refl, ap, sym, ◌∙◌, subst, arith}
use Rattle.std.specs.Int.{from_bool}
use Rattle.std.proofs.lemmas.Bool.{both_ways}
use Rattle.std.proofs.lemmas.Option.{slice_get_read}
use Rattle.plain_meaning.specs.Plain.{rows_of_tables}
use Rattle.trust_sets.specs.Agreement.{TrustedPartAgrees}
use Rattle.trust_sets.proofs.Walk.{TrustedAsked, Walked, fails_here, file_here, files_few, walked_all, walked_more}
use Rattle.trust_sets.proofs.files.first_trusted_part.Goals as goal

pub trusted_part_agrees-requires-clause-world : goal.trusted_part_agrees-requires-clause-world
trusted_part_agrees-requires-clause-world c =
    let nodes = c.args.nodes.now in
    let number = c.loop-number.number in
    let node = c.index-nodes-number.result in
    let is = slice_get_read nodes (length nodes) number node refl c.loop-number-test.true c.index-nodes-number.is in
    file_here nodes (rows_of_tables c.args.world.now) number c.loop-number.file node c.requires.world is c.loop-number.invariant.files

pub trusted_part_agrees-requires-clause-other : goal.trusted_part_agrees-requires-clause-other
trusted_part_agrees-requires-clause-other c =
    let nodes = c.args.nodes.now in
    let number = c.loop-number.number in
    let node = c.index-nodes-number.result in
    let is = slice_get_read nodes (length nodes) number node refl c.loop-number-test.true c.index-nodes-number.is in
    file_here nodes (rows_of_tables c.args.other.now) number c.loop-number.file node c.requires.other is c.loop-number.invariant.files

pub returns-then-not-agrees : goal.returns-then-not-agrees
returns-then-not-agrees c =
    let nodes = c.args.nodes.now in
    let number = c.loop-number.number in
    let node = c.index-nodes-number.result in
    let is = slice_get_read nodes (length nodes) number node refl c.loop-number-test.true c.index-nodes-number.is in
    fails_here nodes (TrustedAsked c.args.trust.now.known c.args.party (rows_of_tables c.args.world.now) (rows_of_tables c.args.other.now)) number c.loop-number.file node c.loop-number.invariant is (λ asked. both_ways _ c.if-not-agrees.true (c.in_ok-agrees.ensures.1 asked))

pub overflow_add-file : goal.overflow_add-file
overflow_add-file c =
    let fits = files_few c.args.nodes.now c.loop-number.number c.loop-number.file c.is_relation.result (omega (arith, c.requires.few, c.loop-number-test.true)) c.loop-number.invariant.files in
    let added = c.from-file.ensures in
    omega arith

pub loop-number-preserved : goal.loop-number-preserved
loop-number-preserved c =
    let nodes = c.args.nodes.now in
    let number = c.loop-number.number in
    let node = c.index-nodes-number.result in
    let is = slice_get_read nodes (length nodes) number node refl c.loop-number-test.true c.index-nodes-number.is in
    let agrees = c.in_ok-agrees.ensures.0 c.if-not-agrees.false in
    let more = walked_more nodes (TrustedAsked c.args.trust.now.known c.args.party (rows_of_tables c.args.world.now) (rows_of_tables c.args.other.now)) number c.loop-number.file node c.loop-number.invariant is agrees in
    let added = c.from-file.ensures ∙ ap from_bool c.is_relation.ensures in
    subst (λ n. Walked nodes (TrustedPartAgrees nodes c.args.trust.now.known c.args.party (rows_of_tables c.args.world.now) (rows_of_tables c.args.other.now)) (number + 1) (c.loop-number.file + n)) (sym added) more

pub returns : goal.returns
returns c = walked_all c.args.nodes.now (TrustedAsked c.args.trust.now.known c.args.party (rows_of_tables c.args.world.now) (rows_of_tables c.args.other.now)) c.loop-number.number c.loop-number.file c.loop-number.invariant c.loop-number-test.false
