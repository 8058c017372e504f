-- What is printed of nodes, one after the other.
use Rattle.std.proofs.Common.{◌≡◌, ℕ, ◌<◌, List, [], length, map, get_or, sym, ap, ◌∙◌, Some, slice_index_or}
use Rattle.std.specs.Prelude.{slice_get}
use Rattle.std.proofs.lemmas.Option.{slice_get-get_or}
use Rattle.std.proofs.lemmas.List.{get_or-map, length-map}
use Rattle.query_graph.specs.declared.node.Node.{Node}
use Rattle.tables.specs.Content as table
use Rattle.query_graph.specs.declared.node.Output.{Output}
use Rattle.conclave_top.specs.Answers.{AreNodeTables, answer, answer_at, output_text}

-- as many tables as nodes
pub as_many : (nodes : List Node) (tables : List table.Content) → AreNodeTables nodes tables → length tables ≡ length nodes
as_many nodes tables are = sym (length-map tables (λ (t : table.Content). t.columns)) ∙ ap length are ∙ length-map nodes (λ (n : Node). n.columns)

-- a table has its node's columns
pub columns_at : (nodes : List Node) (tables : List table.Content) (i : ℕ) (node : Node) (own : table.Content) → AreNodeTables nodes tables → i < length nodes → i < length tables
    → node ≡ get_or nodes i node → own ≡ get_or tables i own → own.columns ≡ node.columns
columns_at nodes tables i node own are within inside is has =
    ap (λ (t : table.Content). t.columns) has
    ∙ sym (get_or-map (λ (t : table.Content). t.columns) tables i own node.columns inside)
    ∙ ap (λ cs. get_or cs i node.columns) are
    ∙ get_or-map (λ (n : Node). n.columns) nodes i node node.columns within
    ∙ sym (ap (λ (n : Node). n.columns) is)

-- what is printed of an output is its node's name and its table
pub output_at : (nodes : List Node) (tables : List table.Content) (output : Output) (node : Node) (own : table.Content) → output.node < length nodes → output.node < length tables
    → node ≡ get_or nodes output.node node → own ≡ get_or tables output.node own
    → output_text nodes (map (λ (t : table.Content). t.rows) tables) output ≡ answer node own.rows
output_at nodes tables output node own within inside is has =
    let here : slice_get nodes output.node ≡ Some node = slice_get-get_or nodes output.node node within ∙ ap Some (sym is) in
    let rows : slice_index_or (map (λ (t : table.Content). t.rows) tables) output.node [] ≡ own.rows =
    get_or-map (λ (t : table.Content). t.rows) tables output.node own [] inside ∙ ap (λ (t : table.Content). t.rows) (sym has) in
    ap (answer_at (map (λ (t : table.Content). t.rows) tables) output.node) here ∙ ap (answer node) rows
