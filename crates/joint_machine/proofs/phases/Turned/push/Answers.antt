use Rattle.std.proofs.Common.{◌≡◌, ◌∙◌}
use Rattle.lanes.specs.Lanes.{xors}
use Rattle.step_lists.specs.Phases.{there, back, reshared}
use Rattle.joint_machine.specs.Seen.{lists}
use Rattle.joint_machine.proofs.Turning.{reshared_is, one_more}
use Rattle.joint_machine.proofs.phases.Turned.push.Goals as goal

pub returns-clause-shares : goal.returns-clause-shares
returns-clause-shares c =
    let j = c.args.j in
    let o = c.args.order.now in
    let s = lists c.args.shares.now in
    let a = c.args.mask.now in
    let b = c.args.other.now in
    let sum : c.into_vec-sum.result.items ≡ xors (there j o s a) (back j o s b) =
    cc (c.into_vec-sum.ensures, c.in_ok-xor_words.ensures, c.deref-3.ensures.value, c.deref-4.ensures.value, c.in_ok-there.ensures.made, c.in_ok-back.ensures.made) in
    one_more c.args.self.now.shares.items c.push.new.self.items c.in_ok-reshare.field-0 (reshared j o s a b) c.in_ok-push.ensures.items
    (c.in_ok-reshare.ensures ∙ reshared_is j o s a b c.into_vec-sum.result.items sum)
