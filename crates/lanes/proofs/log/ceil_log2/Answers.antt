use Rattle.std.proofs.Common.{sym, ◌*◌, ◌^◌, arith}
use Rattle.std.proofs.Math.Nat.{mod-le}
use Rattle.lanes.proofs.Logarithms.{log_counts_doublings}
use Rattle.lanes.proofs.log.ceil_log2.Goals as goal

pub returns-then-count-level : goal.returns-then-count-level
returns-then-count-level c = sym (log_counts_doublings c.args.count c.loop-level.level c.loop-level.invariant (omega (arith, mod-le (1 * 2 ^ c.loop-level.level) (2 ^ 64))))

pub returns : goal.returns
returns c = sym (log_counts_doublings c.args.count 64 (λ k h. c.loop-level.invariant k (omega arith)) (omega arith))
