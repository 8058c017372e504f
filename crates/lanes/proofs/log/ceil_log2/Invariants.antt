use Rattle.std.proofs.Common.{ℕ, ◌<◌, ◌^◌}
use Rattle.lanes.proofs.log.ceil_log2.Given as goal

abbrev pub invariant-loop-level : goal.invariant-loop-level
invariant-loop-level l = (k : ℕ) → k < l.level → 2 ^ k < l.count
