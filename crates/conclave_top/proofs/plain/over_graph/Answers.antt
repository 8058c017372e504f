use Rattle.std.proofs.Common.{rules, ◌≡◌, Some, None, subst, sym}
use Rattle.conclave_top.specs.Bounds.{first_bound}
use Rattle.conclave_top.specs.End.{Ended}
use Rattle.conclave_top.specs.Outside.{ports_at}
use Rattle.conclave_top.specs.Plain.{job_for}
use Rattle.conclave_top.proofs.plain.over_graph.Goals as goal

pub returns-in-Some : goal.returns-in-Some
returns-in-Some g c =
    let ports = ports_at g.F.Folder g.O.Sink c.args.files.now c.args.out.now in
    let bound : first_bound c.args.graph.now.nodes ≡ Some c.in-Some.line = search rules in
    subst (λ o. Ended (job_for (g.F.Folder.files c.args.files.now) c.args.graph.now o) ports ports c.unbuilt.result) (sym bound) (c.unbuilt.ensures ports)

pub returns-in-None : goal.returns-in-None
returns-in-None g c =
    let old = ports_at g.F.Folder g.O.Sink c.args.files.now c.args.out.now in
    let new = ports_at g.F.Folder g.O.Sink c.over_relations.new.files c.over_relations.new.out in
    let none : first_bound c.args.graph.now.nodes ≡ None = search rules in
    subst (λ o. Ended (job_for (g.F.Folder.files c.args.files.now) c.args.graph.now o) old new c.over_relations.result) (sym none) c.over_relations.ensures
