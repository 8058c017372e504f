use Rattle.std.proofs.Common.{rules, ◌≡◌, map, subst}
use Rattle.conclave_top.specs.Audit.{inside}
use Rattle.conclave_top.specs.End.{Reads}
use Rattle.conclave_top.specs.Job.{reading}
use Rattle.conclave_top.specs.Outside.{folder_at}
use Rattle.conclave_top.specs.Relations.{AreBytes, file_names}
use Rattle.conclave_top.proofs.worlds.read_world.Goals as goal

pub returns : goal.returns
returns g c =
    let nodes = map (λ node. node.now) c.args.relations.now in
    let old = folder_at g.F.Folder c.args.files.now in
    let new = folder_at g.F.Folder c.read_relations.new.files in
    let same : c.deref.result.now ≡ inside c.args.folder.now = search rules in
    subst (λ folder. Reads (reading (file_names folder nodes)) (λ bytes. AreBytes old.files folder nodes (map (λ b. b.items) bytes.items)) old new c.read_relations.result) same c.read_relations.ensures
