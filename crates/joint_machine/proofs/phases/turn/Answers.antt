use Rattle.std.proofs.Common.{◌≡◌, length, take, drop, map, ◌∙◌, ap, arith}
use Rattle.lanes.specs.declared.three.Three.{Three}
use Rattle.step_lists.specs.Phases.{reshared_all, there_all, back_all}
use Rattle.joint_machine.specs.Seen.{lists}
use Rattle.joint_machine.proofs.Turning.{row_at, masks_left, shares_more, there_more, back_more}
use Rattle.joint_machine.proofs.phases.turn.Goals as goal

pub push-requires-clause-shares : goal.push-requires-clause-shares
push-requires-clause-shares c =
    row_at (length c.args.order.now) c.args.shares.now c.loop-i.i c.index-shares-i.result c.requires.shares c.loop-i-test.true c.index-shares-i.is

pub loop-i-preserved : goal.loop-i-preserved
loop-i-preserved c =
    let n = length c.args.order.now in
    let ss = c.args.shares.now in
    let i = c.loop-i.i in
    let s = c.index-shares-i.result in
    let a = c.loop-i.masks.now in
    let b = c.loop-i.others.now in
    let x : c.split_at.result.0.now ≡ take n a = cc (c.split_at.ensures.front, c.len.ensures) in
    let y : c.split_at-in-loop-i.result.0.now ≡ take n b = cc (c.split_at-in-loop-i.ensures.front, c.len-in-loop-i.ensures) in
    let x' : c.split_at.result.1.now ≡ drop n a = cc (c.split_at.ensures.back, c.len.ensures) in
    let y' : c.split_at-in-loop-i.result.1.now ≡ drop n b = cc (c.split_at-in-loop-i.ensures.back, c.len-in-loop-i.ensures) in
    record {
      within = omega arith;
      masks = ap length x' ∙ masks_left (Three _) ss i n a c.loop-i-test.true c.loop-i.invariant.masks;
      others = ap length y' ∙ masks_left (Three _) ss i n b c.loop-i-test.true c.loop-i.invariant.others;
      shares =
          shares_more c.args.j c.args.order.now n ss i s a b c.split_at.result.0.now c.split_at-in-loop-i.result.0.now c.split_at.result.1.now c.split_at-in-loop-i.result.1.now
          (reshared_all c.args.j c.args.order.now n (map lists ss) c.args.mask.now c.args.other.now) (map lists c.loop-i.turned.shares.items) (map lists c.push.new.self.shares.items)
          c.loop-i-test.true c.index-shares-i.is x y x' y' c.in_ok-push.ensures.shares c.loop-i.invariant.shares;
      there =
          there_more c.args.j c.args.order.now n ss i s a c.split_at.result.0.now c.split_at.result.1.now
          (there_all c.args.j c.args.order.now n (map lists ss) c.args.mask.now) c.loop-i.turned.there.items c.push.new.self.there.items
          c.loop-i-test.true c.index-shares-i.is x x' c.in_ok-push.ensures.there c.loop-i.invariant.there;
      back =
          back_more c.args.j c.args.order.now n ss i s b c.split_at-in-loop-i.result.0.now c.split_at-in-loop-i.result.1.now
          (back_all c.args.j c.args.order.now n (map lists ss) c.args.other.now) c.loop-i.turned.back.items c.push.new.self.back.items
          c.loop-i-test.true c.index-shares-i.is y y' c.in_ok-push.ensures.back c.loop-i.invariant.back;
    }
