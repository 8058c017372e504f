use Rattle.std.proofs.Common.{◌≡◌, ℕ, ◌<◌, List, Some, length, map, get_or, refl, sym, ap, ◌∙◌, subst, arith, inl, inr, IfOk}
use Rattle.std.specs.Prelude.{slice_get, Result}
use Rattle.std.specs.List.{All}
use Rattle.std.proofs.lemmas.List.Elements.{All-contains, All-weaker}
use Rattle.std.proofs.lemmas.Option.{slice_get_read}
use Rattle.std.proofs.lemmas.Result.{IfOk-weaker}
use Rattle.words.specs.declared.column.Column.{Column}
use Rattle.tables.specs.Content as table
use Rattle.query_graph.specs.declared.node.Node.{Node}
use Rattle.query_graph.specs.Content.{Content}
use Rattle.query_graph.specs.Observers.{sources_of}
use Rattle.plain_operators.specs.Items.{holds_of, item_word}
use Rattle.plain_operators.specs.Operators.{kept_rows, rows_of_items}
use Rattle.plain_meaning.specs.Columns.{columns_at}
use Rattle.plain_meaning.specs.Convert.{item_of, test_of}
use Rattle.plain_meaning.specs.Plain.{table_of}
use Rattle.rewrites.specs.declared.part.Part.{Part}
use Rattle.rewrites.specs.Parts.{parts_at, parts_of}
use Rattle.rewrites.specs.PartRows.{part_rows}
use Rattle.rewrites.specs.PartTables.{AreTablesOf, place_of_part}
use Rattle.rewrites.specs.Rewritten.{Rewritten, rewritten_of}
use Rattle.rewrites.proofs.NodesParts.{parts_count}
use Rattle.rewrites.proofs.PartCases.{IsPushed}
use Rattle.rewrites.proofs.PartColumns.{columns_here, concat_columns, filter_tests, select_items, table_columns, table_rows, tables_few}
use Rattle.rewrites.proofs.PartTable.{concat_place, concat_rows, filter_inside, filter_rows, only_rows, pushed_here, select_inside, select_rows}
use Rattle.rewrites.proofs.table.+rows_of_part.Goals as goal

-- the node that was lent
found : (nodes lent : List Node) (tables : List table.Content) (i : ℕ) (n : Node) → AreTablesOf nodes tables → i < length tables → lent ≡ nodes → n ≡ get_or lent i n → slice_get nodes i ≡ Some n
found nodes lent tables i n are below same is = let few = tables_few nodes tables are in slice_get_read nodes (length nodes) i n refl (omega arith) (is ∙ ap (λ l. get_or l i n) same)

-- its parts as they were lent
counted : (graph : Content) (rewritten : Rewritten) (lent : List Part) (count i : ℕ) → rewritten ≡ rewritten_of graph → lent ≡ parts_at rewritten.parts i → count ≡ length lent → length (parts_at (parts_of graph.nodes) i) ≡ count
counted graph rewritten lent count i made same many = sym (many ∙ ap (λ l. length l) (same ∙ ap (λ (r : Rewritten). parts_at r.parts i) made))

inside : (graph : Content) (rewritten : Rewritten) (part i : ℕ) → rewritten ≡ rewritten_of graph → part < length (parts_at rewritten.parts i) → part < length (parts_at (parts_of graph.nodes) i)
inside graph rewritten part i made below = subst (λ (r : Rewritten). part < length (parts_at r.parts i)) made below

outside : (graph : Content) (rewritten : Rewritten) (part i : ℕ) → rewritten ≡ rewritten_of graph → part < length (parts_at (parts_of graph.nodes) i) → part < length (parts_at rewritten.parts i)
outside graph rewritten part i made below = subst (λ (r : Rewritten). part < length (parts_at r.parts i)) (sym made) below

-- of a table that is made
with_columns : {E : Type 0} (r : Result table.Content E) (made : table.Content) (columns : List Column) → IfOk r (λ t. t ≡ made) → made.columns ≡ columns → IfOk r (λ t. t.columns ≡ columns)
with_columns r made columns is same = IfOk-weaker r (λ t. t ≡ made) (λ t. t.columns ≡ columns) (λ t e. ap (λ (t : table.Content). t.columns) e ∙ same) is

with_rows : {E : Type 0} (r : Result table.Content E) (made : table.Content) (rows : List (List ℕ)) → IfOk r (λ t. t ≡ made) → made.rows ≡ rows → IfOk r (λ t. t.rows ≡ rows)
with_rows r made rows is same = IfOk-weaker r (λ t. t ≡ made) (λ t. t.rows ≡ rows) (λ t e. ap (λ (t : table.Content). t.rows) e ∙ same) is

other_columns : {E : Type 0} (r : Result table.Content E) (made columns : List Column) → IfOk r (λ t. t.columns ≡ made) → made ≡ columns → IfOk r (λ t. t.columns ≡ columns)
other_columns r made columns is same = IfOk-weaker r (λ t. t.columns ≡ made) (λ t. t.columns ≡ columns) (λ t e. e ∙ same) is

other_rows : {E : Type 0} (r : Result table.Content E) (made rows : List (List ℕ)) → IfOk r (λ t. t.rows ≡ made) → made ≡ rows → IfOk r (λ t. t.rows ≡ rows)
other_rows r made rows is same = IfOk-weaker r (λ t. t.rows ≡ made) (λ t. t.rows ≡ rows) (λ t e. e ∙ same) is

pub whole-requires : goal.whole-requires
whole-requires t c =
    let nodes = c.args.graph.now.nodes in
    let tables = c.args.tables.now in
    let n = c.index-found.result.now in
    let at = found nodes c.nodes.result.now.items tables c.args.node n c.requires.tables c.requires.node c.nodes.ensures.nodes c.index-found.ensures in
    ap (λ (t : table.Content). t.columns) c.index-tables-node.is ∙ table_columns nodes tables c.requires.tables c.args.node n c.index-tables-node.result c.requires.node at ∙ sym c.as_slice-columns.ensures.value

pub returns-then-len-eq1-clause-columns : goal.returns-then-len-eq1-clause-columns
returns-then-len-eq1-clause-columns t c =
    let nodes = c.args.graph.now.nodes in
    let n = c.index-found.result.now in
    let at = found nodes c.nodes.result.now.items c.args.tables.now c.args.node n c.requires.tables c.requires.node c.nodes.ensures.nodes c.index-found.ensures in
    with_columns c.whole.result (table_of c.as_slice-columns.result.now c.index-tables-node.result.rows) (columns_at nodes c.args.node) c.whole.ensures (c.as_slice-columns.ensures.value ∙ sym (columns_here nodes c.args.node n at))

pub returns-then-len-eq1-clause-rows : goal.returns-then-len-eq1-clause-rows
returns-then-len-eq1-clause-rows t c =
    λ rows are.
    let graph = c.args.graph.now in
    let tables = c.args.tables.now in
    let n = c.index-found.result.now in
    let at = found graph.nodes c.nodes.result.now.items tables c.args.node n c.requires.tables c.requires.node c.nodes.ensures.nodes c.index-found.ensures in
    let one = counted graph c.args.rewritten.now c.parts.result.now c.len.result c.args.node c.requires.made c.parts.ensures c.len.ensures ∙ c.if-len-eq1.true in
    let part = inside graph c.args.rewritten.now c.args.part c.args.node c.requires.made c.requires.part in
    let only = only_rows c.nodes_are_written.ensures graph c.nodes.ensures.graph c.args.node n at rows c.args.part one part in
    let here = ap (λ (t : table.Content). t.rows) c.index-tables-node.is ∙ table_rows tables rows c.args.node c.index-tables-node.result c.requires.node are in
    with_rows c.whole.result (table_of c.as_slice-columns.result.now c.index-tables-node.result.rows) (part_rows graph.nodes rows c.args.node c.args.part) c.whole.ensures (here ∙ sym only)

pub rows_of_part-requires : goal.rows_of_part-requires
rows_of_part-requires t c =
    let graph = c.args.graph.now in
    let n = c.index-found.result.now in
    let at = found graph.nodes c.nodes.result.now.items c.args.tables.now c.args.node n c.requires.tables c.requires.node c.nodes.ensures.nodes c.index-found.ensures in
    let many = counted graph c.args.rewritten.now c.parts.result.now c.len.result c.args.node c.requires.made c.parts.ensures c.len.ensures in
    let part = inside graph c.args.rewritten.now c.args.part c.args.node c.requires.made c.requires.part in
    let source = filter_inside c.nodes_are_written.ensures graph c.nodes.ensures.graph c.args.node n at (λ one. c.if-len-eq1.false (sym many ∙ one)) c.args.part part c.in-Filter.filter c.in-Filter.is in
    let lower = source.0 in
    (omega arith, (c.requires.made, (c.requires.tables, (omega (arith, c.requires.node), outside graph c.args.rewritten.now c.args.part c.in-Filter.filter.source c.requires.made source.1))))

pub filtered-requires-clause-tests : goal.filtered-requires-clause-tests
filtered-requires-clause-tests t c =
    let graph = c.args.graph.now in
    let n = c.index-found.result.now in
    let at = found graph.nodes c.nodes.result.now.items c.args.tables.now c.args.node n c.requires.tables c.requires.node c.nodes.ensures.nodes c.index-found.ensures in
    (filter_tests c.nodes_fit_earlier.ensures c.nodes_have_columns.ensures graph c.nodes.ensures.graph c.args.node n at c.in-Filter.filter c.in-Filter.is c.in_ok-source-in-Filter.source.columns c.in_ok-source-in-Filter.ensures.columns).0

pub filtered-requires-clause-same : goal.filtered-requires-clause-same
filtered-requires-clause-same t c =
    let graph = c.args.graph.now in
    let n = c.index-found.result.now in
    let at = found graph.nodes c.nodes.result.now.items c.args.tables.now c.args.node n c.requires.tables c.requires.node c.nodes.ensures.nodes c.index-found.ensures in
    (filter_tests c.nodes_fit_earlier.ensures c.nodes_have_columns.ensures graph c.nodes.ensures.graph c.args.node n at c.in-Filter.filter c.in-Filter.is c.in_ok-source-in-Filter.source.columns c.in_ok-source-in-Filter.ensures.columns).1
    ∙ sym (ap (λ l. length l) c.as_slice-columns.ensures.value)

pub rows_of_part-requires-in-Select : goal.rows_of_part-requires-in-Select
rows_of_part-requires-in-Select t c =
    let graph = c.args.graph.now in
    let n = c.index-found.result.now in
    let at = found graph.nodes c.nodes.result.now.items c.args.tables.now c.args.node n c.requires.tables c.requires.node c.nodes.ensures.nodes c.index-found.ensures in
    let many = counted graph c.args.rewritten.now c.parts.result.now c.len.result c.args.node c.requires.made c.parts.ensures c.len.ensures in
    let part = inside graph c.args.rewritten.now c.args.part c.args.node c.requires.made c.requires.part in
    let source = select_inside c.nodes_are_written.ensures graph c.nodes.ensures.graph c.args.node n at (λ one. c.if-len-eq1.false (sym many ∙ one)) c.args.part part c.in-Select.select c.in-Select.is in
    let lower = source.0 in
    (omega arith, (c.requires.made, (c.requires.tables, (omega (arith, c.requires.node), outside graph c.args.rewritten.now c.args.part c.in-Select.select.source c.requires.made source.1))))

pub selected-requires-clause-items : goal.selected-requires-clause-items
selected-requires-clause-items t c =
    let graph = c.args.graph.now in
    let n = c.index-found.result.now in
    let at = found graph.nodes c.nodes.result.now.items c.args.tables.now c.args.node n c.requires.tables c.requires.node c.nodes.ensures.nodes c.index-found.ensures in
    let many = counted graph c.args.rewritten.now c.parts.result.now c.len.result c.args.node c.requires.made c.parts.ensures c.len.ensures in
    let part = inside graph c.args.rewritten.now c.args.part c.args.node c.requires.made c.requires.part in
    let source = select_inside c.nodes_are_written.ensures graph c.nodes.ensures.graph c.args.node n at (λ one. c.if-len-eq1.false (sym many ∙ one)) c.args.part part c.in-Select.select c.in-Select.is in
    (select_items c.nodes_fit_earlier.ensures c.nodes_have_columns.ensures graph c.nodes.ensures.graph c.args.node n at c.in-Select.select c.in-Select.is source.0 c.in_ok-source-in-Select.source.columns c.in_ok-source-in-Select.ensures.columns).0

pub selected-requires-clause-same : goal.selected-requires-clause-same
selected-requires-clause-same t c =
    let graph = c.args.graph.now in
    let n = c.index-found.result.now in
    let at = found graph.nodes c.nodes.result.now.items c.args.tables.now c.args.node n c.requires.tables c.requires.node c.nodes.ensures.nodes c.index-found.ensures in
    let many = counted graph c.args.rewritten.now c.parts.result.now c.len.result c.args.node c.requires.made c.parts.ensures c.len.ensures in
    let part = inside graph c.args.rewritten.now c.args.part c.args.node c.requires.made c.requires.part in
    let source = select_inside c.nodes_are_written.ensures graph c.nodes.ensures.graph c.args.node n at (λ one. c.if-len-eq1.false (sym many ∙ one)) c.args.part part c.in-Select.select c.in-Select.is in
    (select_items c.nodes_fit_earlier.ensures c.nodes_have_columns.ensures graph c.nodes.ensures.graph c.args.node n at c.in-Select.select c.in-Select.is source.0 c.in_ok-source-in-Select.source.columns c.in_ok-source-in-Select.ensures.columns).1
    ∙ sym (ap (λ l. length l) c.as_slice-columns.ensures.value)

pub place_of_part-source-requires : goal.place_of_part-source-requires
place_of_part-source-requires t c =
    let graph = c.args.graph.now in
    let n = c.index-found.result.now in
    let i = c.args.node in
    let at = found graph.nodes c.nodes.result.now.items c.args.tables.now i n c.requires.tables c.requires.node c.nodes.ensures.nodes c.index-found.ensures in
    let lower = subst (λ shape. All (λ s. s < i) (sources_of shape)) c.in-Concat.is (c.nodes_are_written.ensures.sources graph i n (record { is_graph = c.nodes.ensures.graph; is_node = at })) in
    let few = tables_few graph.nodes c.args.tables.now c.requires.tables in
    let long = ap (λ (r : Rewritten). length r.parts) c.requires.made ∙ parts_count graph in
    let Within : ℕ → Type 0 = λ s. s < length c.args.rewritten.now.parts in
    subst (λ l. All Within l) (sym c.as_slice.ensures.value) (All-weaker (λ s. s < i) Within (λ s below. omega (arith, c.requires.node)) c.in-Concat.concat.sources lower)

pub rows_of_part-requires-in-Concat : goal.rows_of_part-requires-in-Concat
rows_of_part-requires-in-Concat t c =
    let graph = c.args.graph.now in
    let n = c.index-found.result.now in
    let at = found graph.nodes c.nodes.result.now.items c.args.tables.now c.args.node n c.requires.tables c.requires.node c.nodes.ensures.nodes c.index-found.ensures in
    let many = counted graph c.args.rewritten.now c.parts.result.now c.len.result c.args.node c.requires.made c.parts.ensures c.len.ensures in
    let part = inside graph c.args.rewritten.now c.args.part c.args.node c.requires.made c.requires.part in
    let lies = concat_place c.nodes_are_written.ensures graph c.nodes.ensures.graph c.args.node n at (λ one. c.if-len-eq1.false (sym many ∙ one)) c.args.part part c.in-Concat.concat c.in-Concat.is in
    let is = c.place_of_part-source.ensures ∙ (λ k. place_of_part (c.requires.made k).parts (c.as_slice.ensures.value k) c.args.part) in
    let lower = subst (λ (p : ℕ × ℕ). p.0 < c.args.node) (sym is) lies.lower in
    let within = subst (λ (p : ℕ × ℕ). p.1 < length (parts_at (parts_of graph.nodes) p.0)) (sym is) lies.within in
    (omega arith, (c.requires.made, (c.requires.tables, (omega (arith, c.requires.node), outside graph c.args.rewritten.now c.place_of_part-source.result.1 c.place_of_part-source.result.0 c.requires.made within))))

pub whole-requires-in-Relation : goal.whole-requires-in-Relation
whole-requires-in-Relation t c =
    let nodes = c.args.graph.now.nodes in
    let tables = c.args.tables.now in
    let n = c.index-found.result.now in
    let at = found nodes c.nodes.result.now.items tables c.args.node n c.requires.tables c.requires.node c.nodes.ensures.nodes c.index-found.ensures in
    ap (λ (t : table.Content). t.columns) c.index-tables-node-in-Relation.is ∙ table_columns nodes tables c.requires.tables c.args.node n c.index-tables-node-in-Relation.result c.requires.node at ∙ sym c.as_slice-columns.ensures.value

pub returns-in_ok-source-in-Filter-clause-columns : goal.returns-in_ok-source-in-Filter-clause-columns
returns-in_ok-source-in-Filter-clause-columns t c =
    let nodes = c.args.graph.now.nodes in
    let n = c.index-found.result.now in
    let at = found nodes c.nodes.result.now.items c.args.tables.now c.args.node n c.requires.tables c.requires.node c.nodes.ensures.nodes c.index-found.ensures in
    with_columns c.filtered.result (table_of c.as_slice-columns.result.now (kept_rows (map holds_of (map test_of c.in-Filter.filter.tests)) c.in_ok-source-in-Filter.source.rows)) (columns_at nodes c.args.node) c.filtered.ensures (c.as_slice-columns.ensures.value ∙ sym (columns_here nodes c.args.node n at))

pub returns-in_ok-source-in-Filter-clause-rows : goal.returns-in_ok-source-in-Filter-clause-rows
returns-in_ok-source-in-Filter-clause-rows t c =
    λ rows are.
    let graph = c.args.graph.now in
    let n = c.index-found.result.now in
    let at = found graph.nodes c.nodes.result.now.items c.args.tables.now c.args.node n c.requires.tables c.requires.node c.nodes.ensures.nodes c.index-found.ensures in
    let many = counted graph c.args.rewritten.now c.parts.result.now c.len.result c.args.node c.requires.made c.parts.ensures c.len.ensures in
    let of_source = filter_rows c.nodes_are_written.ensures graph c.nodes.ensures.graph c.args.node n at rows c.args.part (λ one. c.if-len-eq1.false (sym many ∙ one)) c.in-Filter.filter c.in-Filter.is in
    let source = c.in_ok-source-in-Filter.ensures.rows rows are in
    with_rows c.filtered.result (table_of c.as_slice-columns.result.now (kept_rows (map holds_of (map test_of c.in-Filter.filter.tests)) c.in_ok-source-in-Filter.source.rows)) (part_rows graph.nodes rows c.args.node c.args.part) c.filtered.ensures (ap (kept_rows (map holds_of (map test_of c.in-Filter.filter.tests))) source ∙ sym of_source)

pub returns-in_ok-source-in-Select-clause-columns : goal.returns-in_ok-source-in-Select-clause-columns
returns-in_ok-source-in-Select-clause-columns t c =
    let nodes = c.args.graph.now.nodes in
    let n = c.index-found.result.now in
    let at = found nodes c.nodes.result.now.items c.args.tables.now c.args.node n c.requires.tables c.requires.node c.nodes.ensures.nodes c.index-found.ensures in
    with_columns c.selected.result (table_of c.as_slice-columns.result.now (rows_of_items (map item_word (map item_of c.in-Select.select.items)) c.in_ok-source-in-Select.source.rows)) (columns_at nodes c.args.node) c.selected.ensures (c.as_slice-columns.ensures.value ∙ sym (columns_here nodes c.args.node n at))

pub returns-in_ok-source-in-Select-clause-rows : goal.returns-in_ok-source-in-Select-clause-rows
returns-in_ok-source-in-Select-clause-rows t c =
    λ rows are.
    let graph = c.args.graph.now in
    let n = c.index-found.result.now in
    let at = found graph.nodes c.nodes.result.now.items c.args.tables.now c.args.node n c.requires.tables c.requires.node c.nodes.ensures.nodes c.index-found.ensures in
    let many = counted graph c.args.rewritten.now c.parts.result.now c.len.result c.args.node c.requires.made c.parts.ensures c.len.ensures in
    let of_source = select_rows c.nodes_are_written.ensures graph c.nodes.ensures.graph c.args.node n at rows c.args.part (λ one. c.if-len-eq1.false (sym many ∙ one)) c.in-Select.select c.in-Select.is in
    let source = c.in_ok-source-in-Select.ensures.rows rows are in
    with_rows c.selected.result (table_of c.as_slice-columns.result.now (rows_of_items (map item_word (map item_of c.in-Select.select.items)) c.in_ok-source-in-Select.source.rows)) (part_rows graph.nodes rows c.args.node c.args.part) c.selected.ensures (ap (rows_of_items (map item_word (map item_of c.in-Select.select.items))) source ∙ sym of_source)

pub returns-in-Concat-clause-columns : goal.returns-in-Concat-clause-columns
returns-in-Concat-clause-columns t c =
    let graph = c.args.graph.now in
    let n = c.index-found.result.now in
    let at = found graph.nodes c.nodes.result.now.items c.args.tables.now c.args.node n c.requires.tables c.requires.node c.nodes.ensures.nodes c.index-found.ensures in
    let many = counted graph c.args.rewritten.now c.parts.result.now c.len.result c.args.node c.requires.made c.parts.ensures c.len.ensures in
    let part = inside graph c.args.rewritten.now c.args.part c.args.node c.requires.made c.requires.part in
    let lies = concat_place c.nodes_are_written.ensures graph c.nodes.ensures.graph c.args.node n at (λ one. c.if-len-eq1.false (sym many ∙ one)) c.args.part part c.in-Concat.concat c.in-Concat.is in
    let is = c.place_of_part-source.ensures ∙ (λ k. place_of_part (c.requires.made k).parts (c.as_slice.ensures.value k) c.args.part) in
    let all = concat_columns c.nodes_fit_earlier.ensures c.nodes_have_columns.ensures graph c.nodes.ensures.graph c.args.node n at c.in-Concat.concat c.in-Concat.is in
    let source = (place_of_part (parts_of graph.nodes) c.in-Concat.concat.sources c.args.part).0 in
    let same = All-contains (λ s. columns_at graph.nodes s ≡ n.columns) c.in-Concat.concat.sources source all lies.among in
    other_columns c.rows_of_part-in-Concat.result (columns_at graph.nodes c.place_of_part-source.result.0) (columns_at graph.nodes c.args.node) c.rows_of_part-in-Concat.ensures.columns
    (ap (λ (p : ℕ × ℕ). columns_at graph.nodes p.0) is ∙ same ∙ sym (columns_here graph.nodes c.args.node n at))

pub returns-in-Concat-clause-rows : goal.returns-in-Concat-clause-rows
returns-in-Concat-clause-rows t c =
    λ rows are.
    let graph = c.args.graph.now in
    let n = c.index-found.result.now in
    let at = found graph.nodes c.nodes.result.now.items c.args.tables.now c.args.node n c.requires.tables c.requires.node c.nodes.ensures.nodes c.index-found.ensures in
    let many = counted graph c.args.rewritten.now c.parts.result.now c.len.result c.args.node c.requires.made c.parts.ensures c.len.ensures in
    let part = inside graph c.args.rewritten.now c.args.part c.args.node c.requires.made c.requires.part in
    let of_source = concat_rows c.nodes_are_written.ensures graph c.nodes.ensures.graph c.args.node n at rows c.args.part (λ one. c.if-len-eq1.false (sym many ∙ one)) part c.in-Concat.concat c.in-Concat.is in
    let is = c.place_of_part-source.ensures ∙ (λ k. place_of_part (c.requires.made k).parts (c.as_slice.ensures.value k) c.args.part) in
    other_rows c.rows_of_part-in-Concat.result (part_rows graph.nodes rows c.place_of_part-source.result.0 c.place_of_part-source.result.1) (part_rows graph.nodes rows c.args.node c.args.part) (c.rows_of_part-in-Concat.ensures.rows rows are)
    (ap (λ (p : ℕ × ℕ). part_rows graph.nodes rows p.0 p.1) is ∙ sym of_source)

pub returns-in-Relation-clause-columns : goal.returns-in-Relation-clause-columns
returns-in-Relation-clause-columns t c =
    let nodes = c.args.graph.now.nodes in
    let n = c.index-found.result.now in
    let at = found nodes c.nodes.result.now.items c.args.tables.now c.args.node n c.requires.tables c.requires.node c.nodes.ensures.nodes c.index-found.ensures in
    with_columns c.whole-in-Relation.result (table_of c.as_slice-columns.result.now c.index-tables-node-in-Relation.result.rows) (columns_at nodes c.args.node) c.whole-in-Relation.ensures (c.as_slice-columns.ensures.value ∙ sym (columns_here nodes c.args.node n at))

pub returns-in-Relation-clause-rows : goal.returns-in-Relation-clause-rows
returns-in-Relation-clause-rows t c =
    λ rows are.
    let graph = c.args.graph.now in
    let n = c.index-found.result.now in
    let at = found graph.nodes c.nodes.result.now.items c.args.tables.now c.args.node n c.requires.tables c.requires.node c.nodes.ensures.nodes c.index-found.ensures in
    let many = counted graph c.args.rewritten.now c.parts.result.now c.len.result c.args.node c.requires.made c.parts.ensures c.len.ensures in
    let pushed = pushed_here c.nodes_are_written.ensures graph c.nodes.ensures.graph c.args.node n at (λ one. c.if-len-eq1.false (sym many ∙ one)) in
    elim c.in-Relation.is [
      | inl r ↦ absurd (subst IsPushed r.1 pushed)
      | inr rest ↦ elim rest [
        | inl j ↦ absurd (subst IsPushed j.1 pushed)
        | inr rest ↦ elim rest [ inl g ↦ absurd (subst IsPushed g.1 pushed) | inr d ↦ absurd (subst IsPushed d.1 pushed) ]
      ]
    ]
