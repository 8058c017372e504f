use Rattle.std.proofs.Common.{sym, ap, ◌∙◌}
use Rattle.lanes.specs.Three.{at}
use Rattle.step_lists.specs.Part.{part_third, with_pairs}
use Rattle.step_lists.specs.Seen.{same_party}
use Rattle.step_lists.specs.Shapes.{word_lists}
use Rattle.party_core.proofs.Outcomes.{on_ok_so}
use Rattle.party_core.proofs.RevealStages.{not_shown, shown_to}
use Rattle.party_core.proofs.state.State.push_reveal.Goals as goal

pub returns-else-same_party-clause-done : goal.returns-else-same_party-clause-done
returns-else-same_party-clause-done c =
    let v = c.args.party in
    let g = c.args.portion.now in
    let x = c.in_ok-third.third in
    on_ok_so c.push_pairs.result
    (λ made answer l rows. not_shown v l c.args.self.now c.args.to c.args.moved.now c.args.shown.now g c.args.rows x rows answer c.push_pairs.new.self
    (sym (c.if-same_party.ensures ∙ ap (same_party v) c.party_of.ensures))
    (c.in_ok-third.ensures ∙ ap (part_third v c.args.rows g) c.in_ok-moving.ensures)
    (made ∙ ap (with_pairs c.args.self.now) c.into_pairs-else-same_party.ensures))
    c.push_pairs.ensures.pushed

pub returns-in_ok-slots-clause-done : goal.returns-in_ok-slots-clause-done
returns-in_ok-slots-clause-done c =
    let v = c.args.party in
    let g = c.args.portion.now in
    let x = c.in_ok-third.third in
    on_ok_so c.push_both.result
    (λ made answer l rows. shown_to v l c.args.self.now c.args.to c.args.moved.now c.args.shown.now g c.args.rows x rows answer c.push_both.new.self
    c.into_pairs.result.items c.received-got.result.now (word_lists c.in_ok-slots.slots)
    (sym (c.if-same_party.ensures ∙ ap (same_party v) c.party_of.ensures))
    (c.in_ok-third.ensures ∙ ap (part_third v c.args.rows g) c.in_ok-moving.ensures)
    c.into_pairs.ensures (c.received-got.ensures ∙ ap (λ p. at p x.received) c.next.ensures) c.in_ok-slots.ensures made)
    c.push_both.ensures.pushed
