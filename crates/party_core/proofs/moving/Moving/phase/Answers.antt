use Rattle.std.proofs.Common.{◌≡◌, sym, subst, ap, ◌∙◌}
use Rattle.std.specs.Prelude.{OnOk}
use Rattle.step_lists.specs.Seen.{same_party}
use Rattle.step_lists.specs.Part.{part_phase}
use Rattle.party_core.proofs.Third.{third_is}
use Rattle.party_core.proofs.moving.Moving.phase.Goals as goal

pub returns-else-same_party-2 : goal.returns-else-same_party-2
returns-else-same_party-2 c =
    let v = c.args.party in
    let j = c.args.j in
    let o = c.args.order.now in
    let third = third_is v j (sym c.if-same_party.ensures) (sym (c.if-same_party-2.ensures ∙ ap (same_party v) c.before-else-same_party.ensures)) in
    subst (λ p. OnOk c.phase_of_masks.result (c.phase_of_masks.new.self ≡ part_phase p j o c.args.rows c.args.self.now)) (sym third) (c.phase_of_masks.ensures o)
