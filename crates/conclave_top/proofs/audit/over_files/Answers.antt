use Rattle.std.proofs.Common.{rules, ◌≡◌, ◌∙◌, Ok, Err, length, map, sym, ap, subst}
use Rattle.std.proofs.lemmas.List.{length-map}
use Rattle.plain_meaning.specs.Fits.{relations}
use Rattle.conclave_top.specs.declared.end.Cause.TheVariants.{Faulty}
use Rattle.conclave_top.specs.Audit.{GivesBoth, audit_on, both, inside}
use Rattle.conclave_top.specs.Command.{asked_in}
use Rattle.conclave_top.specs.End.{Ended, end_of}
use Rattle.conclave_top.specs.Outside.{ports_at}
use Rattle.conclave_top.specs.Relations.{tables_of}
use Rattle.conclave_top.specs.Stages.{over_tables_job}
use Rattle.conclave_top.proofs.AuditEnds.{both_ok, said_of_both}
use Rattle.conclave_top.proofs.PlainTables.{files_are}
use Rattle.conclave_top.proofs.StageEnds.{faulty_end}
use Rattle.conclave_top.proofs.audit.over_files.Goals as goal

pub over_tables-requires-clause-first : goal.over_tables-requires-clause-first
over_tables-requires-clause-first g c =
    let asked = asked_in c.args.asked.now in
    let nodes = map (λ node. node.now) c.args.nodes.now in
    let graph = c.args.plan.now.graph in
    let bytes = map (λ b. b.items) c.args.bytes.now.first.items in
    let tables = c.in-Ok.tables in
    let read = both_ok (tables_of (inside asked.first) nodes bytes) (tables_of (inside asked.second) nodes (map (λ b. b.items) c.args.bytes.now.second.items)) tables.first.items tables.second.items c.in-Ok.ensures in
    let count : length bytes ≡ length (relations graph.nodes) =
    length-map c.args.bytes.now.first.items (λ b. b.items) ∙ c.requires.first ∙ sym (length-map c.args.nodes.now (λ node. node.now)) ∙ ap length c.requires.relations in
    files_are c.read_tables_fit.ensures (inside asked.first) (relations graph.nodes) bytes tables.first.items count (subst (λ ns. tables_of (inside asked.first) ns bytes ≡ Ok tables.first.items) c.requires.relations read.0)

pub over_tables-requires-clause-second : goal.over_tables-requires-clause-second
over_tables-requires-clause-second g c =
    let asked = asked_in c.args.asked.now in
    let nodes = map (λ node. node.now) c.args.nodes.now in
    let graph = c.args.plan.now.graph in
    let bytes = map (λ b. b.items) c.args.bytes.now.second.items in
    let tables = c.in-Ok.tables in
    let read = both_ok (tables_of (inside asked.first) nodes (map (λ b. b.items) c.args.bytes.now.first.items)) (tables_of (inside asked.second) nodes bytes) tables.first.items tables.second.items c.in-Ok.ensures in
    let count : length bytes ≡ length (relations graph.nodes) =
    length-map c.args.bytes.now.second.items (λ b. b.items) ∙ c.requires.second ∙ sym (length-map c.args.nodes.now (λ node. node.now)) ∙ ap length c.requires.relations in
    files_are c.read_tables_fit.ensures (inside asked.second) (relations graph.nodes) bytes tables.second.items count (subst (λ ns. tables_of (inside asked.second) ns bytes ≡ Ok tables.second.items) c.requires.relations read.1)

pub returns-in-Ok : goal.returns-in-Ok
returns-in-Ok g c =
    let plan = c.args.plan.now in
    let asked = asked_in c.args.asked.now in
    let first = map (λ b. b.items) c.args.bytes.now.first.items in
    let second = map (λ b. b.items) c.args.bytes.now.second.items in
    let tables = c.in-Ok.tables in
    let read : both (tables_of (inside asked.first) (relations plan.graph.nodes) first) (tables_of (inside asked.second) (relations plan.graph.nodes) second) ≡ Ok (tables.first.items, tables.second.items) =
    subst (λ ns. both (tables_of (inside asked.first) ns first) (tables_of (inside asked.second) ns second) ≡ Ok (tables.first.items, tables.second.items)) c.requires.relations c.in-Ok.ensures in
    subst (λ a. Ended (over_tables_job (g.F.Folder.files c.args.files.now) asked.tapes plan (audit_on asked plan) a) (ports_at g.F.Folder g.O.Sink c.args.files.now c.args.out.now)
    (ports_at g.F.Folder g.O.Sink c.over_tables.new.files c.over_tables.new.out) c.over_tables.result) (sym read) c.over_tables.ensures

pub returns-in-Err : goal.returns-in-Err
returns-in-Err g c =
    let plan = c.args.plan.now in
    let asked = asked_in c.args.asked.now in
    let bytes = map (λ b. b.items) c.args.bytes.now.first.items in
    let more = map (λ b. b.items) c.args.bytes.now.second.items in
    let first = tables_of (inside asked.first) (relations plan.graph.nodes) bytes in
    let second = tables_of (inside asked.second) (relations plan.graph.nodes) more in
    let stop = c.in-Err.stop in
    let gives : GivesBoth (Err stop) first second =
    subst (λ ns. GivesBoth (Err stop) (tables_of (inside asked.first) ns bytes) (tables_of (inside asked.second) ns more)) c.requires.relations c.in-Err.ensures in
    let same : c.end.result ≡ end_of Faulty stop = search rules in
    rw same (faulty_end (g.F.Folder.files c.args.files.now) asked.tapes plan (audit_on asked plan) (both first second) stop (ports_at g.F.Folder g.O.Sink c.args.files.now c.args.out.now)
    (said_of_both first second stop gives))
