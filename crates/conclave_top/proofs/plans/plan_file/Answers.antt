use Rattle.std.proofs.Common.{rules, ◌≡◌, [], ◌∷◌, Err}
use Rattle.outside.specs.Cause.{Rose}
use Rattle.conclave_top.specs.Effect.{HasRead}
use Rattle.conclave_top.specs.End.{end_of}
use Rattle.conclave_top.specs.Job.{refusal}
use Rattle.conclave_top.specs.Outside.{folder_at}
use Rattle.conclave_top.specs.Plans.{Plans, plans}
use Rattle.conclave_top.specs.declared.end.Cause.TheVariants.{Refused}
use Rattle.conclave_top.proofs.Ends.{failed_reading}
use Rattle.conclave_top.proofs.Folders.{reading_all}
use Rattle.conclave_top.proofs.PlanEnds.{refused_plan}
use Rattle.conclave_top.proofs.plans.plan_file.Goals as goal

pub returns-in-Err-Failed : goal.returns-in-Err-Failed
returns-in-Err-Failed g c =
    let old = folder_at g.F.Folder c.args.files.now in
    let new = folder_at g.F.Folder c.read.new.self in
    let read : HasRead (c.args.query.now ∷ []) old new = record { files = search rules; calls = search rules; later = search rules } in
    let rose : Rose old.faults new.faults = search rules in
    failed_reading (refusal (g.F.Folder.files c.args.files.now) c.args.query.now plans) old new (reading_all (c.args.query.now ∷ []) old new read) rose

pub returns : goal.returns
returns g c =
    let files = g.F.Folder.files c.args.files.now in
    let old = folder_at g.F.Folder c.args.files.now in
    let new = folder_at g.F.Folder c.read.new.self in
    let read : HasRead (c.args.query.now ∷ []) old new = record { files = search rules; calls = search rules; later = search rules } in
    let is : Plans c.in-Ok.text.items (Err c.in-Err.stop) = search rules in
    let ends = refused_plan files c.args.query.now c.in-Ok.text.items c.in-Err.stop old new c.in-Ok.ensures.bytes read is in
    let same : c.end.result ≡ end_of Refused c.in-Err.stop = search rules in
    rw same ends
