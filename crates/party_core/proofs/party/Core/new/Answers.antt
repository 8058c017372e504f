use Rattle.std.proofs.Common.{◌≡◌, length, map, sym, ap, subst, ◌∙◌}
use Rattle.lanes.specs.Party.{next}
use Rattle.lanes.specs.Three.{at}
use Rattle.tapes.specs.Needs.{FitsNeeds}
use Rattle.step_lists.specs.Draws.{needs}
use Rattle.step_lists.specs.Layout.{starting}
use Rattle.step_lists.specs.Shapes.{word_lists}
use Rattle.party_core.proofs.Making.{made_held}
use Rattle.party_core.proofs.Progressing.{at_parties}
use Rattle.party_core.proofs.party.Core.new.Goals as goal

pub invariant_of-result : goal.invariant_of-result
invariant_of-result g c =
    let list = c.args.list.now in
    let v = c.party_of-party.result in
    let slots = word_lists c.args.slots in
    let long : map length slots ≡ at v list.first =
    c.in_ok-check_slots.ensures.fits ∙ c.deref.ensures.value ∙ c.first.ensures ∙ ap (λ p. at p list.first) (sym c.party_of-party.ensures) in
    let own = subst (λ ns. FitsNeeds ns c.args.own) (ap (at v) c.in_ok-schedule.ensures ∙ at_parties (λ p. needs p (starting list.first) list.steps) v) c.in_ok-check_tapes.ensures.own in
    let following = subst (λ ns. FitsNeeds ns c.args.following) (ap (at (next v)) c.in_ok-schedule.ensures ∙ at_parties (λ p. needs p (starting list.first) list.steps) (next v)) c.in_ok-check_tapes.ensures.following in
    made_held g.T.Task.accepts g.T.Task.answer list v slots c.args.own c.args.following c.new.result c.new-2.result c.start.result c.new.ensures c.new-2.ensures c.start.ensures long
    (c.move_laws.ensures.starts list v slots c.args.own c.args.following c.steps.ensures.well_formed long c.in_ok-check_slots.ensures.below own following)

pub returns-clause-reached : goal.returns-clause-reached
returns-clause-reached g c =
    let list = c.args.list.now in
    let v = c.party_of-party.result in
    let slots = word_lists c.args.slots in
    let long : map length slots ≡ at v list.first =
    c.in_ok-check_slots.ensures.fits ∙ c.deref.ensures.value ∙ c.first.ensures ∙ ap (λ p. at p list.first) (sym c.party_of-party.ensures) in
    let own = subst (λ ns. FitsNeeds ns c.args.own) (ap (at v) c.in_ok-schedule.ensures ∙ at_parties (λ p. needs p (starting list.first) list.steps) v) c.in_ok-check_tapes.ensures.own in
    let following = subst (λ ns. FitsNeeds ns c.args.following) (ap (at (next v)) c.in_ok-schedule.ensures ∙ at_parties (λ p. needs p (starting list.first) list.steps) (next v)) c.in_ok-check_tapes.ensures.following in
    (made_held g.T.Task.accepts g.T.Task.answer list v slots c.args.own c.args.following c.new.result c.new-2.result c.start.result c.new.ensures c.new-2.ensures c.start.ensures long
    (c.move_laws.ensures.starts list v slots c.args.own c.args.following c.steps.ensures.well_formed long c.in_ok-check_slots.ensures.below own following)).reached
