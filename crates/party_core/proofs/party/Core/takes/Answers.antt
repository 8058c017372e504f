use Rattle.std.proofs.Common.{sym, subst, arith}
use Rattle.party_core.specs.Holding.{layout_at}
use Rattle.party_core.proofs.Counting.{Few, few_taken}
use Rattle.party_core.proofs.Placed.{fine_place}
use Rattle.party_core.proofs.party.Core.takes.Goals as goal

pub returns-clause-first : goal.returns-clause-first
returns-clause-first g c =
    let h = rw (← c.self.view_is) at c.requires in
    let list = c.self.inside.list.now in
    let fine = fine_place g.T.Task.accepts list c.self.inside.steps c.args.step.now c.steps.ensures.well_formed h in
    let few = few_taken g.T.Task.accepts c.self.inside.party (layout_at list c.self.inside.steps) c.args.step.now c.step_rows-rows.result c.self.inside.stages fine (omega arith) in
    (subst Few (sym c.takes_at.ensures) few).0

pub returns-clause-second : goal.returns-clause-second
returns-clause-second g c =
    let h = rw (← c.self.view_is) at c.requires in
    let list = c.self.inside.list.now in
    let fine = fine_place g.T.Task.accepts list c.self.inside.steps c.args.step.now c.steps.ensures.well_formed h in
    let few = few_taken g.T.Task.accepts c.self.inside.party (layout_at list c.self.inside.steps) c.args.step.now c.step_rows-rows.result c.self.inside.stages fine (omega arith) in
    (subst Few (sym c.takes_at.ensures) few).1

pub returns-clause-third : goal.returns-clause-third
returns-clause-third g c =
    let h = rw (← c.self.view_is) at c.requires in
    let list = c.self.inside.list.now in
    let fine = fine_place g.T.Task.accepts list c.self.inside.steps c.args.step.now c.steps.ensures.well_formed h in
    let few = few_taken g.T.Task.accepts c.self.inside.party (layout_at list c.self.inside.steps) c.args.step.now c.step_rows-rows.result c.self.inside.stages fine (omega arith) in
    (subst Few (sym c.takes_at.ensures) few).2
