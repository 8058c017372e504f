use Rattle.std.proofs.Common.{◌∙◌, ap, sym, subst}
use Rattle.std.specs.Prelude.{IsTrue}
use Rattle.step_lists.specs.Layout.{party_of}
use Rattle.step_lists.specs.Phases.{link}
use Rattle.step_lists.specs.Rules.{is_party}
use Rattle.conclave_top.proofs.PartyNumbers.{is_number, party_of_number, same_number}
use Rattle.conclave_top.proofs.views.words_from.Goals as goal

pub link-requires-clause-source : goal.link-requires-clause-source
link-requires-clause-source c = subst (λ n. IsTrue (is_party n)) (sym c.number.ensures) (is_number c.args.source)

pub link-requires-clause-target : goal.link-requires-clause-target
link-requires-clause-target c = subst (λ n. IsTrue (is_party n)) (sym c.number-2.ensures) (is_number c.args.target)

pub link-requires-clause-apart : goal.link-requires-clause-apart
link-requires-clause-apart c = λ same. c.requires (same_number c.args.source c.args.target (sym c.number.ensures ∙ same ∙ c.number-2.ensures))

pub returns : goal.returns
returns c =
    let links = c.args.run.now.links in
    c.link.ensures
    ∙ ap (λ p. link p (party_of c.number-2.result) links) (ap party_of c.number.ensures ∙ party_of_number c.args.source)
    ∙ ap (λ p. link c.args.source p links) (ap party_of c.number-2.ensures ∙ party_of_number c.args.target)
