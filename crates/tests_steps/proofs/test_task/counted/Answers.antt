use Rattle.std.proofs.Common.{refl}
use Rattle.tests_steps.proofs.Counting.{counted_more}
use Rattle.tests_steps.proofs.test_task.counted.Goals as goal

pub loop-place-preserved : goal.loop-place-preserved
loop-place-preserved c = rw (counted_more c.loop-place.place, c.in_ok-push.ensures.items, c.loop-place.invariant) refl
