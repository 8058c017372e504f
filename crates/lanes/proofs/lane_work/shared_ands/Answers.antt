use Rattle.std.proofs.Common.{refl, ◌∙◌, arith}
use Rattle.lanes.proofs.SharedAnd.{crosses_more, crosses_all}
use Rattle.lanes.proofs.lane_work.shared_ands.Goals as goal

pub loop-i-preserved : goal.loop-i-preserved
loop-i-preserved c =
    rw (
      crosses_more c.args.own.now c.args.next.now c.args.other_own.now c.args.other_next.now c.loop-i.i c.requires.next c.requires.other_own
          c.requires.other_next c.loop-i-test.true,
      c.in_ok-push.ensures.items,
      c.loop-i.invariant,
      c.shared_and.ensures,
    ) refl

pub returns : goal.returns
returns c =
    c.from_vec.ensures ∙ c.loop-i.invariant
    ∙ crosses_all c.args.own.now c.args.next.now c.args.other_own.now c.args.other_next.now c.loop-i.i c.requires.next c.requires.other_own
    c.requires.other_next (omega arith)
