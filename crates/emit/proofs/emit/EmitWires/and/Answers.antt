use Rattle.std.proofs.Common.{refl, arith}
use Rattle.emit.proofs.Counts.{added_ands, and_calls, and_count}
use Rattle.emit.proofs.Gates.{and_carries}
use Rattle.emit.proofs.Growing.{still_grows, step_grows}
use Rattle.emit.proofs.emit.EmitWires.and.Goals as goal

pub returns-in_err-new-clause-grows : goal.returns-in_err-new-clause-grows
returns-in_err-new-clause-grows g c = still_grows g.T.Task.answer c.args.self.now _ refl c.in_err-new.ensures.err

pub returns-clause-grows : goal.returns-clause-grows
returns-clause-grows g c = step_grows g.T.Task.answer c.args.self.now _ refl _ c.in_ok-new.new refl c.in_ok-new.ensures.ok

pub returns-clause-ok : goal.returns-clause-ok
returns-clause-ok g c = and_carries g.T.Task.answer c.args.self.now.list.now c.add.new.list c.in_ok-new.new c.args.left c.args.right c.requires.left c.requires.right c.in_ok-new.ensures.ok

pub returns-clause-count : goal.returns-clause-count
returns-clause-count g c =
    let e = added_ands c.args.self.now.list.now c.add.new.list _ c.in_ok-new.new c.in_ok-new.ensures.ok in
    omega (arith, e, c.counts_are_few.ensures.ands)

pub returns-clause-calls : goal.returns-clause-calls
returns-clause-calls g c =
    let e = and_calls c.args.self.now.list.now c.add.new.list _ _ c.in_ok-new.new c.in_ok-new.ensures.ok in
    omega (arith, e, c.counts_are_few.ensures.calls)

pub returns-clause-wires : goal.returns-clause-wires
returns-clause-wires g c = and_count c.args.self.now.list.now c.add.new.list _ _ c.in_ok-new.new c.in_ok-new.ensures.ok
