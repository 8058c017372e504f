-- The invariant of a graph with one statement more.
use Rattle.std.proofs.Common.{◌≡◌, ℕ, ◌+◌, ◌*◌, ◌<◌, true, [], ◌∷◌, ◌++◌, Some, None, length, sym, ap, ◌∙◌, subst, arith, length-append}
use Rattle.query_text.specs.Grammar.{Fits}
use Rattle.query_text.specs.declared.statement.Body.{Body}
use Rattle.query_graph.specs.declared.draft.Draft.TheInside.{Inside}
use Rattle.query_graph.specs.declared.node.Node.{Node}
use Rattle.query_graph.specs.declared.node.Output.{Output}
use Rattle.query_graph.specs.Build.{fault_of, node_of, output_of, with_node, with_output}
use Rattle.query_graph.specs.Draft.{IsBuilt, IsDraft, content_of}
use Rattle.query_graph.specs.Sizes.{cells, cells_of, declared_rows, sizes_fit}
use Rattle.query_graph.specs.Columns.{columns_of}
use Rattle.query_graph.proofs.Grown.{graph_with_node, graph_with_output}
use Rattle.query_graph.proofs.Invariant.{cells_of-append, narrow-append, sizes_within}

-- with the node of a statement that has no fault
pub built_node : (before after : Inside) (n : Node) (rows width line : ℕ) (body : Body) → IsBuilt before → Fits body → fault_of (content_of before) line body ≡ None
    → output_of before.nodes line body ≡ None → sizes_fit before.nodes body ≡ true → length before.nodes < 4294967295
    → n ≡ node_of before.nodes line body → after.nodes ≡ before.nodes ++ n ∷ [] → after.outputs.items ≡ before.outputs.items
    → after.cells ≡ before.cells + rows * (width + 1) → rows ≡ declared_rows before.nodes body → width ≡ length (columns_of before.nodes body) → IsBuilt after
built_node before after n high width line body built real passes none fits few is pushed same counts high_is width_is =
    let rows : n.rows ≡ declared_rows before.nodes body = ap (λ (m : Node). m.rows) is in
    let columns : n.columns ≡ columns_of before.nodes body = ap (λ (m : Node). m.columns) is in
    let counted : after.cells ≡ before.cells + cells n.rows (length n.columns)
    = counts ∙ (ap (λ r. before.cells + r * (width + 1)) (high_is ∙ sym rows) ∙ ap (λ w. before.cells + n.rows * (w + 1)) (width_is ∙ sym (ap length columns))) in
    let within = sizes_within before.nodes body fits in
    let wide = ap length columns in
    let sum = cells_of-append before.nodes n in
    let content : content_of after ≡ with_node (content_of before) (node_of before.nodes line body)
    = λ i. record { nodes = (pushed ∙ ap (λ m. before.nodes ++ m ∷ []) is) i; outputs = same i } in
    record {
      graph = subst IsDraft (sym content) (graph_with_node (content_of before) line body built.graph real passes none few);
      counted = rw pushed (rw sum (counted ∙ ap (λ c. c + cells n.rows (length n.columns)) built.counted));
      few_cells = rw counted (rw built.counted (rw rows (rw wide within.1)));
      few = rw pushed (omega (arith, few, length-append before.nodes (n ∷ [])));
      narrow = rw pushed (narrow-append before.nodes n built.narrow (rw wide within.0));
    }

-- and with its output
pub built_output : (before after : Inside) (o : Output) (line : ℕ) (body : Body) → IsBuilt before → Fits body → fault_of (content_of before) line body ≡ None
    → output_of before.nodes line body ≡ Some o → after.nodes ≡ before.nodes → after.outputs.items ≡ before.outputs.items ++ o ∷ []
    → after.cells ≡ before.cells → IsBuilt after
built_output before after o line body built real passes some same pushed counted =
    let content : content_of after ≡ with_output (content_of before) o = λ i. record { nodes = same i; outputs = pushed i } in
    record {
      graph = subst IsDraft (sym content) (graph_with_output (content_of before) line body o built.graph real passes some);
      counted = counted ∙ (built.counted ∙ ap cells_of (sym same));
      few_cells = rw counted built.few_cells;
      few = rw same built.few;
      narrow = rw same built.narrow;
    }
