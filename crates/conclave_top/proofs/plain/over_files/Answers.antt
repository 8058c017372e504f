use Rattle.std.proofs.Common.{◌≡◌, ◌∙◌, [], Ok, length, map, sym, ap, subst}
use Rattle.std.proofs.lemmas.List.{length-map}
use Rattle.plain_meaning.specs.Fits.{relations}
use Rattle.conclave_top.specs.Relations.{tables_of}
use Rattle.conclave_top.proofs.PlainTables.{files_are}
use Rattle.conclave_top.proofs.plain.over_files.Goals as goal

pub over_tables-requires-clause-files : goal.over_tables-requires-clause-files
over_tables-requires-clause-files g c =
    let nodes = map (λ node. node.now) c.args.nodes.now in
    let bytes = map (λ b. b.items) c.args.bytes.now in
    let read : tables_of [] (relations c.args.graph.now.nodes) bytes ≡ Ok c.in-Ok.tables.items = subst (λ ns. tables_of [] ns bytes ≡ Ok c.in-Ok.tables.items) c.requires.relations c.in-Ok.ensures in
    let count : length bytes ≡ length (relations c.args.graph.now.nodes) =
    length-map c.args.bytes.now (λ b. b.items) ∙ c.requires.as_many ∙ sym (length-map c.args.nodes.now (λ node. node.now)) ∙ ap length c.requires.relations in
    files_are c.read_tables_fit.ensures [] (relations c.args.graph.now.nodes) bytes c.in-Ok.tables.items count read
