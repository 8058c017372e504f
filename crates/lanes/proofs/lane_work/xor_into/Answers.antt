use Rattle.std.proofs.Common.{◌<◌, length, ◌∙◌, arith}
use Rattle.lanes.proofs.LaneLemmas.{xors_more, xors_unread, xors_all}
use Rattle.lanes.proofs.lane_work.xor_into.Goals as goal

pub loop-i-preserved : goal.loop-i-preserved
loop-i-preserved c =
    let within : c.loop-i.i < length c.args.target.now = c.loop-i-test.true in
    rw (c.loop-i.invariant, xors_unread c.args.target.now c.args.other.now c.loop-i.i c.requires within)
    (xors_more c.args.target.now c.args.other.now c.loop-i.i c.requires within)

pub returns : goal.returns
returns c =
    c.loop-i.invariant ∙ xors_all c.args.target.now c.args.other.now c.loop-i.i c.requires (omega arith)
