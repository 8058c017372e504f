use Rattle.std.proofs.Common.{rules, ◌≡◌, ◌∙◌, ◌++◌, length, map, ap, sym, subst}
use Rattle.std.proofs.lemmas.List.{length-map}
use Rattle.plain_meaning.specs.Fits.{relations}
use Rattle.conclave_top.specs.Audit.{audit_on, both, inside, worlds_source}
use Rattle.conclave_top.specs.Command.{asked_in}
use Rattle.conclave_top.specs.Effect.{HasRead}
use Rattle.conclave_top.specs.End.{Ended, EndedReading}
use Rattle.conclave_top.specs.Job.{reading}
use Rattle.conclave_top.specs.Outside.{folder_at, ports_at, stream_at}
use Rattle.conclave_top.specs.Relations.{AreBytes, file_names}
use Rattle.conclave_top.specs.Stages.{over_tables_job}
use Rattle.conclave_top.proofs.StageEnds.{files_over, files_reading}
use Rattle.conclave_top.proofs.audit.audit_with.Goals as goal

pub over_files-requires-clause-first : goal.over_files-requires-clause-first
over_files-requires-clause-first g c =
    let lent : c.deref-in-Ok-read_worlds.result.now ≡ c.deref.result.now = search rules in
    sym (length-map c.in-Ok-read_worlds.bytes.first.items (λ b. b.items)) ∙ c.in-Ok-read_worlds.ensures.0.0.count ∙ length-map c.deref.result.now (λ node. node.now) ∙ ap length (sym lent)

pub over_files-requires-clause-second : goal.over_files-requires-clause-second
over_files-requires-clause-second g c =
    let lent : c.deref-in-Ok-read_worlds.result.now ≡ c.deref.result.now = search rules in
    sym (length-map c.in-Ok-read_worlds.bytes.second.items (λ b. b.items)) ∙ c.in-Ok-read_worlds.ensures.0.1.count ∙ length-map c.deref.result.now (λ node. node.now) ∙ ap length (sym lent)

pub returns-in-Ok-read_worlds : goal.returns-in-Ok-read_worlds
returns-in-Ok-read_worlds g c =
    let plan = c.args.plan.now in
    let asked = asked_in c.args.asked.now in
    let source = worlds_source asked plan.graph in
    let files = g.F.Folder.files c.args.files.now in
    let old = folder_at g.F.Folder c.args.files.now in
    let mid = folder_at g.F.Folder c.read_worlds.new.files in
    let out = stream_at g.O.Sink c.args.out.now in
    let ports = ports_at g.F.Folder g.O.Sink c.read_worlds.new.files c.args.out.now in
    let new = ports_at g.F.Folder g.O.Sink c.over_files.new.files c.over_files.new.out in
    let first = map (λ b. b.items) c.in-Ok-read_worlds.bytes.first.items in
    let second = map (λ b. b.items) c.in-Ok-read_worlds.bytes.second.items in
    let same : map (λ node. node.now) c.deref.result.now ≡ relations plan.graph.nodes = search rules in
    let held = c.in-Ok-read_worlds.ensures.0 in
    files_over files source asked.tapes plan (audit_on asked plan) (first, second) old mid out new c.over_files.result
    (subst (λ ns. AreBytes files (inside asked.first) ns first) same held.0, subst (λ ns. AreBytes files (inside asked.second) ns second) same held.1)
    (subst (λ ns. HasRead (file_names (inside asked.first) ns ++ file_names (inside asked.second) ns) old mid) same c.in-Ok-read_worlds.ensures.1)
    (subst (λ fs. Ended (over_tables_job fs asked.tapes plan (audit_on asked plan) (source.read (first, second))) ports new c.over_files.result) c.in-Ok-read_worlds.ensures.1.files c.over_files.ensures)

pub returns : goal.returns
returns g c =
    let plan = c.args.plan.now in
    let asked = asked_in c.args.asked.now in
    let old = folder_at g.F.Folder c.args.files.now in
    let new = folder_at g.F.Folder c.read_worlds.new.files in
    let same : map (λ node. node.now) c.deref.result.now ≡ relations plan.graph.nodes = search rules in
    files_reading (g.F.Folder.files c.args.files.now) (worlds_source asked plan.graph) asked.tapes plan (audit_on asked plan) old new (stream_at g.O.Sink c.args.out.now) c.in-Err.end
    (subst (λ ns. EndedReading (reading (file_names (inside asked.first) ns ++ file_names (inside asked.second) ns)) old new c.in-Err.end) same c.in-Err.ensures)
