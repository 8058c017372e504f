use Rattle.std.proofs.Common.{subst}
use Rattle.conclave_top.specs.End.{Ended}
use Rattle.conclave_top.specs.Outside.{folder_at, ports_at, stream_at}
use Rattle.conclave_top.specs.Plain.{plain_job}
use Rattle.conclave_top.proofs.Ends.{ended_early, ended_on_graph}
use Rattle.conclave_top.proofs.plain.plain.Goals as goal

pub returns-in-Ok : goal.returns-in-Ok
returns-in-Ok g c =
    let files = g.F.Folder.files c.args.files.now in
    let mid = ports_at g.F.Folder g.O.Sink c.compile_file.new.files c.args.out.now in
    let new = ports_at g.F.Folder g.O.Sink c.over_graph.new.files c.over_graph.new.out in
    ended_on_graph files c.args.query.now (plain_job files) c.in-Ok.graph (folder_at g.F.Folder c.args.files.now) mid.folder mid.out new c.over_graph.result c.in-Ok.ensures.0 c.in-Ok.ensures.1
    (subst (λ fs. Ended (plain_job fs c.in-Ok.graph) mid new c.over_graph.result) c.in-Ok.ensures.1.files c.over_graph.ensures)

pub returns-in-Err : goal.returns-in-Err
returns-in-Err g c =
    ended_early (g.F.Folder.files c.args.files.now) c.args.query.now (plain_job (g.F.Folder.files c.args.files.now)) (folder_at g.F.Folder c.args.files.now)
    (folder_at g.F.Folder c.compile_file.new.files) (stream_at g.O.Sink c.args.out.now) c.in-Err.end c.in-Err.ensures
