use Rattle.std.proofs.Common.{rules, ◌≡◌, ◌∙◌, [], length, map, ap, sym, subst}
use Rattle.std.proofs.lemmas.List.{length-map}
use Rattle.plain_meaning.specs.Fits.{relations}
use Rattle.conclave_top.specs.Effect.{HasRead}
use Rattle.conclave_top.specs.End.{Ended, EndedReading}
use Rattle.conclave_top.specs.Job.{reading}
use Rattle.conclave_top.specs.Outside.{folder_at, ports_at, stream_at}
use Rattle.conclave_top.specs.Plain.{tables_in}
use Rattle.conclave_top.specs.Relations.{AreBytes, file_names}
use Rattle.conclave_top.specs.Run.{relation_source, run_on}
use Rattle.conclave_top.specs.Stages.{over_tables_job}
use Rattle.conclave_top.proofs.StageEnds.{files_over, files_reading}
use Rattle.conclave_top.proofs.run.run_with.Goals as goal

pub over_files-requires-clause-as_many : goal.over_files-requires-clause-as_many
over_files-requires-clause-as_many g c =
    let lent : c.deref-in-Ok-read_relations.result.now ≡ c.deref.result.now = search rules in
    let bytes : c.deref-in-Ok-read_relations-2.result.now ≡ c.in-Ok-read_relations.bytes.items = search rules in
    ap length bytes ∙ sym (length-map c.in-Ok-read_relations.bytes.items (λ b. b.items)) ∙ c.in-Ok-read_relations.ensures.0.count ∙ length-map c.deref.result.now (λ node. node.now) ∙ ap length (sym lent)

pub returns-in-Ok-read_relations : goal.returns-in-Ok-read_relations
returns-in-Ok-read_relations g c =
    let plan = c.args.plan.now in
    let tapes = c.args.tapes.now in
    let files = g.F.Folder.files c.args.files.now in
    let old = folder_at g.F.Folder c.args.files.now in
    let mid = folder_at g.F.Folder c.read_relations.new.files in
    let out = stream_at g.O.Sink c.args.out.now in
    let new = ports_at g.F.Folder g.O.Sink c.over_files.new.files c.over_files.new.out in
    let bytes = map (λ b. b.items) c.in-Ok-read_relations.bytes.items in
    let same : map (λ node. node.now) c.deref.result.now ≡ relations plan.graph.nodes = search rules in
    let taken : c.deref-in-Ok-read_relations-2.result.now ≡ c.in-Ok-read_relations.bytes.items = search rules in
    let ports = ports_at g.F.Folder g.O.Sink c.read_relations.new.files c.args.out.now in
    let over : Ended (over_tables_job (g.F.Folder.files c.read_relations.new.files) tapes plan (run_on tapes plan) (tables_in plan.graph bytes)) ports new c.over_files.result =
    subst (λ bs. Ended (over_tables_job (g.F.Folder.files c.read_relations.new.files) tapes plan (run_on tapes plan) (tables_in plan.graph (map (λ b. b.items) bs))) ports new c.over_files.result) taken c.over_files.ensures in
    files_over files (relation_source [] plan.graph) tapes plan (run_on tapes plan) bytes old mid out new c.over_files.result
    (subst (λ ns. AreBytes files [] ns bytes) same c.in-Ok-read_relations.ensures.0) (subst (λ ns. HasRead (file_names [] ns) old mid) same c.in-Ok-read_relations.ensures.1)
    (subst (λ fs. Ended (over_tables_job fs tapes plan (run_on tapes plan) (tables_in plan.graph bytes)) ports new c.over_files.result) c.in-Ok-read_relations.ensures.1.files over)

pub returns : goal.returns
returns g c =
    let plan = c.args.plan.now in
    let old = folder_at g.F.Folder c.args.files.now in
    let new = folder_at g.F.Folder c.read_relations.new.files in
    let same : map (λ node. node.now) c.deref.result.now ≡ relations plan.graph.nodes = search rules in
    files_reading (g.F.Folder.files c.args.files.now) (relation_source [] plan.graph) c.args.tapes.now plan (run_on c.args.tapes.now plan) old new (stream_at g.O.Sink c.args.out.now) c.in-Err.end
    (subst (λ ns. EndedReading (reading (file_names [] ns)) old new c.in-Err.end) same c.in-Err.ensures)
