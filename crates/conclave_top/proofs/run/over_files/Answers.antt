use Rattle.std.proofs.Common.{rules, ◌≡◌, ◌∙◌, [], Ok, Err, length, map, sym, ap, subst}
use Rattle.std.proofs.lemmas.List.{length-map}
use Rattle.plain_meaning.specs.Fits.{relations}
use Rattle.conclave_top.specs.declared.end.Cause.TheVariants.{Faulty}
use Rattle.conclave_top.specs.End.{Ended, end_of}
use Rattle.conclave_top.specs.Outside.{ports_at}
use Rattle.conclave_top.specs.Plain.{tables_in}
use Rattle.conclave_top.specs.Relations.{GivesTables, tables_of}
use Rattle.conclave_top.specs.Run.{run_on}
use Rattle.conclave_top.specs.Stages.{over_tables_job}
use Rattle.conclave_top.proofs.PlainTables.{files_are}
use Rattle.conclave_top.proofs.StageEnds.{faulty_end, said_of_tables}
use Rattle.conclave_top.proofs.run.over_files.Goals as goal

pub over_tables-requires-clause-files : goal.over_tables-requires-clause-files
over_tables-requires-clause-files g c =
    let nodes = map (λ node. node.now) c.args.nodes.now in
    let bytes = map (λ b. b.items) c.args.bytes.now in
    let graph = c.args.plan.now.graph in
    let read : tables_of [] (relations graph.nodes) bytes ≡ Ok c.in-Ok.tables.items = subst (λ ns. tables_of [] ns bytes ≡ Ok c.in-Ok.tables.items) c.requires.relations c.in-Ok.ensures in
    let count : length bytes ≡ length (relations graph.nodes) =
    length-map c.args.bytes.now (λ b. b.items) ∙ c.requires.as_many ∙ sym (length-map c.args.nodes.now (λ node. node.now)) ∙ ap length c.requires.relations in
    files_are c.read_tables_fit.ensures [] (relations graph.nodes) bytes c.in-Ok.tables.items count read

pub returns-in-Ok : goal.returns-in-Ok
returns-in-Ok g c =
    let plan = c.args.plan.now in
    let tapes = c.args.tapes.now in
    let bytes = map (λ b. b.items) c.args.bytes.now in
    let read : tables_of [] (relations plan.graph.nodes) bytes ≡ Ok c.in-Ok.tables.items = subst (λ ns. tables_of [] ns bytes ≡ Ok c.in-Ok.tables.items) c.requires.relations c.in-Ok.ensures in
    subst (λ a. Ended (over_tables_job (g.F.Folder.files c.args.files.now) tapes plan (run_on tapes plan) a) (ports_at g.F.Folder g.O.Sink c.args.files.now c.args.out.now)
    (ports_at g.F.Folder g.O.Sink c.over_tables.new.files c.over_tables.new.out) c.over_tables.result) (sym read) c.over_tables.ensures

pub returns-in-Err : goal.returns-in-Err
returns-in-Err g c =
    let plan = c.args.plan.now in
    let tapes = c.args.tapes.now in
    let bytes = map (λ b. b.items) c.args.bytes.now in
    let answer = tables_in plan.graph bytes in
    let gives : GivesTables (Err c.in-Err.stop) answer = subst (λ ns. GivesTables (Err c.in-Err.stop) (tables_of [] ns bytes)) c.requires.relations c.in-Err.ensures in
    let same : c.end.result ≡ end_of Faulty c.in-Err.stop = search rules in
    rw same (faulty_end (g.F.Folder.files c.args.files.now) tapes plan (run_on tapes plan) answer c.in-Err.stop (ports_at g.F.Folder g.O.Sink c.args.files.now c.args.out.now)
    (said_of_tables answer c.in-Err.stop gives))
