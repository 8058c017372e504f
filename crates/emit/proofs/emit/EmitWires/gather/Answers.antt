use Rattle.std.proofs.Common.{refl, ◌∙◌, arith}
use Rattle.emit.proofs.Counts.{added_ands, lin_count}
use Rattle.emit.proofs.Gates.{gather_carries}
use Rattle.emit.proofs.Growing.{still_grows, step_grows}
use Rattle.emit.proofs.emit.EmitWires.gather.Goals as goal

pub returns-in_err-numbers_of-clause-grows : goal.returns-in_err-numbers_of-clause-grows
returns-in_err-numbers_of-clause-grows g c = still_grows g.T.Task.answer c.args.self.now _ refl refl

pub returns-in_err-places-clause-grows : goal.returns-in_err-places-clause-grows
returns-in_err-places-clause-grows g c = still_grows g.T.Task.answer c.args.self.now _ refl refl

pub returns-in_err-new-clause-grows : goal.returns-in_err-new-clause-grows
returns-in_err-new-clause-grows g c = still_grows g.T.Task.answer c.args.self.now _ refl c.in_err-new.ensures.err

pub returns-clause-grows : goal.returns-clause-grows
returns-clause-grows g c = step_grows g.T.Task.answer c.args.self.now _ refl _ c.in_ok-new.new refl c.in_ok-new.ensures.ok

pub returns-clause-ok : goal.returns-clause-ok
returns-clause-ok g c = gather_carries g.T.Task.answer c.args.self.now.list.now c.add.new.list c.in_ok-new.new c.args.sources.now c.args.places.now _ _ (c.from_vec-sources.ensures ∙ c.in_ok-numbers_of.ensures) c.in_ok-places.ensures c.requires.made c.in_ok-new.ensures.ok

pub returns-clause-count : goal.returns-clause-count
returns-clause-count g c = let e = added_ands c.args.self.now.list.now c.add.new.list _ c.in_ok-new.new c.in_ok-new.ensures.ok in omega (arith, e)

pub returns-clause-wires : goal.returns-clause-wires
returns-clause-wires g c = lin_count c.args.self.now.list.now c.add.new.list _ c.in_ok-new.new c.in_ok-new.ensures.ok
