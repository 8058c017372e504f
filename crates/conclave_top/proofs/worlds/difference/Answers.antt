use Rattle.std.proofs.Common.{◌≡◌, None, subst, sym}
use Rattle.query_text.specs.Parties.{IsParty}
use Rattle.lowering.specs.Unbuilt.{unbuilt}
use Rattle.plain_meaning.specs.Plain.{rows_of_tables}
use Rattle.trust_sets.specs.Differs.{IsWithinBounds}
use Rattle.conclave_top.proofs.AuditEnds.{within_bounds}
use Rattle.conclave_top.proofs.PartyNumbers.{is_a_party}
use Rattle.conclave_top.proofs.worlds.difference.Goals as goal

pub agree-requires-clause-party : goal.agree-requires-clause-party
agree-requires-clause-party c = subst IsParty (sym c.number.ensures) (is_a_party c.args.party)

pub agree-requires-clause-within : goal.agree-requires-clause-within
agree-requires-clause-within c =
    λ none. subst (λ graph. IsWithinBounds graph.nodes (rows_of_tables c.args.worlds.now.first)) (sym c.graph.ensures) (within_bounds c.args.plan.now.graph (rows_of_tables c.args.worlds.now.first) c.list.ensures.built)

pub agree-requires-clause-other_within : goal.agree-requires-clause-other_within
agree-requires-clause-other_within c =
    λ none. subst (λ graph. IsWithinBounds graph.nodes (rows_of_tables c.args.worlds.now.second)) (sym c.graph.ensures) (within_bounds c.args.plan.now.graph (rows_of_tables c.args.worlds.now.second) c.list.ensures.built)
