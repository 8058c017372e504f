use Rattle.lanes.specs.Logarithm.{ceil_log2}
use Rattle.circuits.proofs.blocks.fold_blocks.Goals as goal

pub returns-in_err-new-in-Sum-clause-calls : goal.returns-in_err-new-in-Sum-clause-calls
returns-in_err-new-in-Sum-clause-calls g c = rw (c.in-Sum.is) (c.in_err-new-in-Sum.ensures.calls (ceil_log2 c.args.count) (c.log_laws.ensures.least.enough c.args.count))

pub returns-in_err-new-in-Sum-clause-wires : goal.returns-in_err-new-in-Sum-clause-wires
returns-in_err-new-in-Sum-clause-wires g c = rw (c.in-Sum.is) (c.in_err-new-in-Sum.ensures.wires (ceil_log2 c.args.count) (c.log_laws.ensures.least.enough c.args.count))

pub returns-in_err-new-in-Least-clause-calls : goal.returns-in_err-new-in-Least-clause-calls
returns-in_err-new-in-Least-clause-calls g c = rw (c.in-Least.is) (c.in_err-new-in-Least.ensures.calls (ceil_log2 c.args.count) (c.log_laws.ensures.least.enough c.args.count))

pub returns-in_err-new-in-Least-clause-wires : goal.returns-in_err-new-in-Least-clause-wires
returns-in_err-new-in-Least-clause-wires g c = rw (c.in-Least.is) (c.in_err-new-in-Least.ensures.wires (ceil_log2 c.args.count) (c.log_laws.ensures.least.enough c.args.count))

pub returns-in_err-new-in-Greatest-clause-calls : goal.returns-in_err-new-in-Greatest-clause-calls
returns-in_err-new-in-Greatest-clause-calls g c = rw (c.in-Greatest.is) (c.in_err-new-in-Greatest.ensures.calls (ceil_log2 c.args.count) (c.log_laws.ensures.least.enough c.args.count))

pub returns-in_err-new-in-Greatest-clause-wires : goal.returns-in_err-new-in-Greatest-clause-wires
returns-in_err-new-in-Greatest-clause-wires g c = rw (c.in-Greatest.is) (c.in_err-new-in-Greatest.ensures.wires (ceil_log2 c.args.count) (c.log_laws.ensures.least.enough c.args.count))

pub returns-in_err-new-in-Any-clause-calls : goal.returns-in_err-new-in-Any-clause-calls
returns-in_err-new-in-Any-clause-calls g c = rw (c.in-Any.is) (c.in_err-new-in-Any.ensures.calls (ceil_log2 c.args.count) (c.log_laws.ensures.least.enough c.args.count))

pub returns-in_err-new-in-Any-clause-wires : goal.returns-in_err-new-in-Any-clause-wires
returns-in_err-new-in-Any-clause-wires g c = rw (c.in-Any.is) (c.in_err-new-in-Any.ensures.wires (ceil_log2 c.args.count) (c.log_laws.ensures.least.enough c.args.count))

pub returns-in_ok-new-in-Sum-clause-calls : goal.returns-in_ok-new-in-Sum-clause-calls
returns-in_ok-new-in-Sum-clause-calls g c = rw (c.in-Sum.is) (c.in_ok-new-in-Sum.ensures.calls (ceil_log2 c.args.count) (c.log_laws.ensures.least.enough c.args.count))

pub returns-in_ok-new-in-Sum-clause-wires : goal.returns-in_ok-new-in-Sum-clause-wires
returns-in_ok-new-in-Sum-clause-wires g c = rw (c.in-Sum.is) (c.in_ok-new-in-Sum.ensures.wires (ceil_log2 c.args.count) (c.log_laws.ensures.least.enough c.args.count))

pub returns-in_ok-new-in-Least-clause-calls : goal.returns-in_ok-new-in-Least-clause-calls
returns-in_ok-new-in-Least-clause-calls g c = rw (c.in-Least.is) (c.in_ok-new-in-Least.ensures.calls (ceil_log2 c.args.count) (c.log_laws.ensures.least.enough c.args.count))

pub returns-in_ok-new-in-Least-clause-wires : goal.returns-in_ok-new-in-Least-clause-wires
returns-in_ok-new-in-Least-clause-wires g c = rw (c.in-Least.is) (c.in_ok-new-in-Least.ensures.wires (ceil_log2 c.args.count) (c.log_laws.ensures.least.enough c.args.count))

pub returns-in_ok-new-in-Greatest-clause-calls : goal.returns-in_ok-new-in-Greatest-clause-calls
returns-in_ok-new-in-Greatest-clause-calls g c = rw (c.in-Greatest.is) (c.in_ok-new-in-Greatest.ensures.calls (ceil_log2 c.args.count) (c.log_laws.ensures.least.enough c.args.count))

pub returns-in_ok-new-in-Greatest-clause-wires : goal.returns-in_ok-new-in-Greatest-clause-wires
returns-in_ok-new-in-Greatest-clause-wires g c = rw (c.in-Greatest.is) (c.in_ok-new-in-Greatest.ensures.wires (ceil_log2 c.args.count) (c.log_laws.ensures.least.enough c.args.count))

pub returns-in_ok-new-in-Any-clause-calls : goal.returns-in_ok-new-in-Any-clause-calls
returns-in_ok-new-in-Any-clause-calls g c = rw (c.in-Any.is) (c.in_ok-new-in-Any.ensures.calls (ceil_log2 c.args.count) (c.log_laws.ensures.least.enough c.args.count))

pub returns-in_ok-new-in-Any-clause-wires : goal.returns-in_ok-new-in-Any-clause-wires
returns-in_ok-new-in-Any-clause-wires g c = rw (c.in-Any.is) (c.in_ok-new-in-Any.ensures.wires (ceil_log2 c.args.count) (c.log_laws.ensures.least.enough c.args.count))
