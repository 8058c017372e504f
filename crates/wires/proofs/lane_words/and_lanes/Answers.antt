use Rattle.std.proofs.Common.{bit_and, arith}
use Rattle.std.proofs.lemmas.Grind.{common_steps}
use Rattle.wires.proofs.LaneLoops.{lanewise_more}
use Rattle.wires.proofs.lane_words.and_lanes.Goals as goal

pub loop-lane-preserved : goal.loop-lane-preserved
loop-lane-preserved c =
    let more = lanewise_more bit_and c.args.left.now c.args.right.now c.loop-lane.lane (omega arith) (omega arith) in
    grind (arith, common_steps, more, c.in_ok-push.ensures.items)
