use Rattle.std.proofs.Common.{arith}
use Rattle.party_core.proofs.Leaving.{behind_step}
use Rattle.party_core.proofs.party.left_behind.Goals as goal

pub loop-next-preserved : goal.loop-next-preserved
loop-next-preserved g c =
    let list = c.args.list.now in
    let s = c.index.result.now in
    let e = c.left_in.ensures.step in
    let split = behind_step c.args.party c.args.source list c.loop-next.next s c.loop-next.stages e (c.loop-next.invariant.within s e) in
    record {
      sum = omega (arith, c.loop-next.invariant.sum, split, c.left_in.ensures.left, c.saturating_add-left.ensures);
      fits = omega (arith, c.saturating_add-left.ensures);
      within = λ s e. omega arith;
    }
