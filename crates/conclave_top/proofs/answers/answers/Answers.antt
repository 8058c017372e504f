use Rattle.std.proofs.Common.{rules, ◌≡◌, ◌∙◌, map, ap}
use Rattle.plain_meaning.specs.Meaning.{meanings}
use Rattle.plain_meaning.specs.Plain.{rows_of_tables}
use Rattle.conclave_top.proofs.PlainTables.{all_rows, all_tables}
use Rattle.conclave_top.proofs.answers.answers.Goals as goal

pub print_all-requires : goal.print_all-requires
print_all-requires c = search (rules, all_tables)

pub returns : goal.returns
returns c =
    let tables : c.as_slice.result.now ≡ c.in_ok-rows.rows.tables = search rules in
    let rows : map (λ t. t.rows) c.as_slice.result.now ≡ meanings c.args.graph.now.nodes (rows_of_tables c.in-Ok.world) =
    ap (map (λ t. t.rows)) tables ∙ all_rows c.args.graph.now.nodes (rows_of_tables c.in-Ok.world) c.in_ok-rows.rows.tables c.in_ok-rows.rows.over c.requires.unbounded c.in_ok-rows.ensures in
    rw (rows ∙ ap (λ files. meanings c.args.graph.now.nodes (rows_of_tables files)) c.in-Ok.ensures.ok.0) at c.print_all.ensures
