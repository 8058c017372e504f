use Rattle.std.proofs.Common.{◌≡◌, ◌≤◌, length, refl, ◌∙◌, arith}
use Rattle.std.proofs.lemmas.List.{take_all}
use Rattle.lanes.specs.declared.party.Party.TheVariants.{First, Second, Third}
use Rattle.lanes.specs.SharedAnd.{and_share}
use Rattle.joint_machine.specs.Seen.{slices}
use Rattle.joint_machine.proofs.AndLanes.{masked_long, masked_more}
use Rattle.joint_machine.proofs.masked.and_shares.Goals as goal

pub loop-i-preserved : goal.loop-i-preserved
loop-i-preserved c = record {
  first =
      rw (
        masked_more c.item_laws.ensures.lengths (length c.args.masks.now.first.now) c.loop-i.i c.args.s.now.first.now c.args.s.now.second.now c.args.t.now.first.now c.args.t.now.second.now c.args.masks.now.first.now c.args.masks.now.second.now
            c.requires.left.first c.requires.left.second c.requires.right.first c.requires.right.second c.requires.masks.first c.requires.masks.second c.loop-i-test.true,
        c.in_ok-push.ensures.items,
        c.loop-i.invariant.first,
        c.masked_lane.ensures,
      ) refl;
  second =
      rw (
        masked_more c.item_laws.ensures.lengths (length c.args.masks.now.first.now) c.loop-i.i c.args.s.now.second.now c.args.s.now.third.now c.args.t.now.second.now c.args.t.now.third.now c.args.masks.now.second.now c.args.masks.now.third.now
            c.requires.left.second c.requires.left.third c.requires.right.second c.requires.right.third c.requires.masks.second c.requires.masks.third c.loop-i-test.true,
        c.in_ok-push-2.ensures.items,
        c.loop-i.invariant.second,
        c.masked_lane-in-loop-i.ensures,
      ) refl;
  third =
      rw (
        masked_more c.item_laws.ensures.lengths (length c.args.masks.now.first.now) c.loop-i.i c.args.s.now.third.now c.args.s.now.first.now c.args.t.now.third.now c.args.t.now.first.now c.args.masks.now.third.now c.args.masks.now.first.now
            c.requires.left.third c.requires.left.first c.requires.right.third c.requires.right.first c.requires.masks.third c.requires.masks.first c.loop-i-test.true,
        c.in_ok-push-3.ensures.items,
        c.loop-i.invariant.third,
        c.masked_lane-in-loop-i-2.ensures,
      ) refl;
}

pub returns : goal.returns
returns c =
    let n = length c.args.masks.now.first.now in
    let i : n ≤ c.loop-i.i = c.loop-i-test.false in
    let l0 = masked_long c.item_laws.ensures.lengths n c.args.s.now.first.now c.args.s.now.second.now c.args.t.now.first.now c.args.t.now.second.now c.args.masks.now.first.now c.args.masks.now.second.now
    c.requires.left.first c.requires.left.second c.requires.right.first c.requires.right.second c.requires.masks.first c.requires.masks.second in
    let e0 : c.loop-i.first.items ≡ and_share First (slices c.args.s.now) (slices c.args.t.now) (slices c.args.masks.now) =
    c.loop-i.invariant.first ∙ take_all c.loop-i.i (and_share First (slices c.args.s.now) (slices c.args.t.now) (slices c.args.masks.now)) (omega arith) in
    let l1 = masked_long c.item_laws.ensures.lengths n c.args.s.now.second.now c.args.s.now.third.now c.args.t.now.second.now c.args.t.now.third.now c.args.masks.now.second.now c.args.masks.now.third.now
    c.requires.left.second c.requires.left.third c.requires.right.second c.requires.right.third c.requires.masks.second c.requires.masks.third in
    let e1 : c.loop-i.second.items ≡ and_share Second (slices c.args.s.now) (slices c.args.t.now) (slices c.args.masks.now) =
    c.loop-i.invariant.second ∙ take_all c.loop-i.i (and_share Second (slices c.args.s.now) (slices c.args.t.now) (slices c.args.masks.now)) (omega arith) in
    let l2 = masked_long c.item_laws.ensures.lengths n c.args.s.now.third.now c.args.s.now.first.now c.args.t.now.third.now c.args.t.now.first.now c.args.masks.now.third.now c.args.masks.now.first.now
    c.requires.left.third c.requires.left.first c.requires.right.third c.requires.right.first c.requires.masks.third c.requires.masks.first in
    let e2 : c.loop-i.third.items ≡ and_share Third (slices c.args.s.now) (slices c.args.t.now) (slices c.args.masks.now) =
    c.loop-i.invariant.third ∙ take_all c.loop-i.i (and_share Third (slices c.args.s.now) (slices c.args.t.now) (slices c.args.masks.now)) (omega arith) in
    cc
