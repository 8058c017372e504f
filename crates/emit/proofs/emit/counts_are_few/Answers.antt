use Rattle.std.proofs.Common.{arith}
use Rattle.emit.proofs.Counts.{few_calls}
use Rattle.emit.proofs.emit.counts_are_few.Goals as goal

pub returns-clause-ands : goal.returns-clause-ands
returns-clause-ands g c = c.ands_are_few.ensures c.args.list.now c.steps.ensures.well_formed c.registers.ensures.short

pub returns-clause-calls : goal.returns-clause-calls
returns-clause-calls g c = omega (arith, few_calls c.args.list.now, c.registers.ensures.count)
