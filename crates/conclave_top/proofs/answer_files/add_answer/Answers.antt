use Rattle.std.proofs.Common.{rules, ◌≡◌, ◌∙◌, [], ◌∷◌, ◌++◌, length, Some, ap, sym, subst, string_bytes}
use Rattle.std.specs.Prelude.{slice_get}
use Rattle.std.specs.Option.{option_map_or}
use Rattle.bags.specs.Bag.{SameBag}
use Rattle.plain_meaning.specs.Meaning.{meanings, rows_of}
use Rattle.plain_meaning.specs.Plain.{rows_of_tables}
use Rattle.query_graph.specs.Content.{Content}
use Rattle.query_graph.specs.declared.node.Node.{Node}
use Rattle.tables.specs.Answer.{answer_of}
use Rattle.tables.specs.Content as table
use Rattle.conclave_top.specs.declared.run_files.Results.{Results}
use Rattle.conclave_top.specs.Lines.{answer_line}
use Rattle.conclave_top.specs.PartyFiles.{answer_file}
use Rattle.conclave_top.proofs.Answered.{answered_at, answered_one, table_bag}
use Rattle.conclave_top.proofs.answer_files.add_answer.Goals as goal

pub returns : goal.returns
returns c tables hold =
    let plan = c.args.plan.now in
    let nodes = plan.graph.nodes in
    let output = c.args.output.now in
    let party = c.args.party in
    let node = c.node_of-node.result.now in
    let rows = meanings nodes (rows_of_tables tables) in
    let given = c.in_ok-table.table in
    let file = c.in_ok-file.file in
    let text = c.in_ok-text.text in
    let line = c.in_ok-line.line in
    let old = c.args.results.now in
    let new : Results = record { writes = c.push.new.self; output = c.extend_from_slice.new.self } in
    let here : slice_get nodes output.node ≡ Some node = subst (λ (g : Content). slice_get g.nodes output.node ≡ Some node) c.graph.ensures c.node_of-node.ensures.node in
    let is = c.in_ok-table.ensures output c.requires.output in
    let columns : given.columns ≡ node.columns = ap (λ (t : table.Content). t.columns) is ∙ ap (λ o. option_map_or (λ (n : Node). n.columns) o []) here in
    let bag : SameBag given.rows (rows_of rows output.node) = subst (λ rs. SameBag rs (rows_of rows output.node)) (sym (ap (λ (t : table.Content). t.rows) is))
    (table_bag plan tables c.args.slots.now c.at.result.now c.args.number c.number.result output party hold c.requires.output c.requires.recipient c.at.ensures c.number.ensures) in
    let named : string_bytes file ≡ answer_file node party = search rules in
    let written : text.items ≡ answer_of given = search rules in
    let says : line.items ≡ answer_line (string_bytes file) (length given.rows) = search rules in
    let printed : c.extend_from_slice.new.self.items ≡ old.output.items ++ line.items = search rules in
    let pushed : c.push.new.self.items ≡ old.writes.items ++ (file, text) ∷ [] = search rules in
    answered_at rows output.node nodes node party old new here
    (answered_one c.answers_of_equal_bags.ensures c.bags_keep_rows.ensures node party (rows_of rows output.node) given file text line.items old new columns bag named written says printed pushed)
