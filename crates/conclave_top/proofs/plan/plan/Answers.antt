use Rattle.conclave_top.specs.Outside.{folder_at, ports_at, stream_at}
use Rattle.conclave_top.specs.PlanText.{plan_job}
use Rattle.conclave_top.proofs.Ends.{ended_early, ended_on_graph}
use Rattle.conclave_top.proofs.plan.plan.Goals as goal

pub returns-in-Ok : goal.returns-in-Ok
returns-in-Ok g c =
    ended_on_graph (g.F.Folder.files c.args.files.now) c.args.query.now plan_job c.in-Ok.graph (folder_at g.F.Folder c.args.files.now) (folder_at g.F.Folder c.compile_file.new.files)
    (stream_at g.O.Sink c.args.out.now) (ports_at g.F.Folder g.O.Sink c.over_graph.new.files c.over_graph.new.out) c.over_graph.result c.in-Ok.ensures.0 c.in-Ok.ensures.1 c.over_graph.ensures

pub returns-in-Err : goal.returns-in-Err
returns-in-Err g c =
    ended_early (g.F.Folder.files c.args.files.now) c.args.query.now plan_job (folder_at g.F.Folder c.args.files.now) (folder_at g.F.Folder c.compile_file.new.files)
    (stream_at g.O.Sink c.args.out.now) c.in-Err.end c.in-Err.ensures
