use Rattle.std.proofs.Common.{rules, ◌≡◌, ◌∙◌, length, map, string_bytes, subst}
use Rattle.outside.specs.Cause.{Rose}
use Rattle.conclave_top.specs.Effect.{HasRead, IsReading}
use Rattle.conclave_top.specs.Job.{reading}
use Rattle.conclave_top.specs.Outside.{folder_at}
use Rattle.conclave_top.specs.Relations.{AreHeld, file_names, file_of}
use Rattle.conclave_top.proofs.Ends.{failed_reading, memory_reading}
use Rattle.conclave_top.proofs.RelationFiles.{held_count, lent_names}
use Rattle.conclave_top.proofs.relations.read_relations.Goals as goal

pub returns-in-Err-Failed : goal.returns-in-Err-Failed
returns-in-Err-Failed g c =
    let nodes = map (λ node. node.now) c.args.relations.now in
    let old = folder_at g.F.Folder c.args.files.now in
    let new = folder_at g.F.Folder c.read_all.new.files in
    let named : map string_bytes c.deref.result.now ≡ map (λ node. file_of c.args.folder.now node.now) c.args.relations.now = search rules in
    let names : map string_bytes c.deref.result.now ≡ file_names c.args.folder.now nodes = named ∙ lent_names c.args.folder.now c.args.relations.now in
    let rose : Rose old.faults new.faults = search rules in
    failed_reading (reading (file_names c.args.folder.now nodes)) old new (subst (λ ns. IsReading ns old new) names c.read_all.ensures.cut) rose

pub returns : goal.returns
returns g c =
    let nodes = map (λ node. node.now) c.args.relations.now in
    let old = folder_at g.F.Folder c.args.files.now in
    let new = folder_at g.F.Folder c.read_all.new.files in
    let named : map string_bytes c.deref.result.now ≡ map (λ node. file_of c.args.folder.now node.now) c.args.relations.now = search rules in
    let names : map string_bytes c.deref.result.now ≡ file_names c.args.folder.now nodes = named ∙ lent_names c.args.folder.now c.args.relations.now in
    memory_reading (reading (file_names c.args.folder.now nodes)) old new (subst (λ ns. IsReading ns old new) names c.read_all.ensures.cut)

pub returns-in-Ok-read_all : goal.returns-in-Ok-read_all
returns-in-Ok-read_all g c =
    let nodes = map (λ node. node.now) c.args.relations.now in
    let files = g.F.Folder.files c.args.files.now in
    let old = folder_at g.F.Folder c.args.files.now in
    let new = folder_at g.F.Folder c.read_all.new.files in
    let bytes = c.in-Ok-read_all.bytes.items in
    let named : map string_bytes c.deref.result.now ≡ map (λ node. file_of c.args.folder.now node.now) c.args.relations.now = search rules in
    let names : map string_bytes c.deref.result.now ≡ file_names c.args.folder.now nodes = named ∙ lent_names c.args.folder.now c.args.relations.now in
    let counted : length bytes ≡ length c.deref.result.now = search rules in (
      record {
        held = subst (λ ns. AreHeld files ns (map (λ b. b.items) bytes)) names c.in-Ok-read_all.ensures.held;
        count = held_count c.args.folder.now c.args.relations.now c.deref.result.now bytes names counted;
      },
      subst (λ ns. HasRead ns old new) names c.in-Ok-read_all.ensures.read,
    )
