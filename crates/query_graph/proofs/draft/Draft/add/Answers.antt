use Rattle.std.proofs.Common.{◌≡◌, refl, sym, ap, ◌∙◌, arith}
use Rattle.std.specs.Prelude.{length}
use Rattle.query_graph.specs.Draft.{content_of}
use Rattle.query_graph.proofs.Builds.{built_node, built_output}
use Rattle.query_graph.proofs.Grown.{no_fault}
use Rattle.query_graph.proofs.Invariant.{cells_fit}
use Rattle.query_graph.proofs.draft.Draft.add.Goals as goal

pub overflow_mul-cells : goal.overflow_mul-cells
overflow_mul-cells c =
    let width : c.len-2.result ≡ length c.in_ok-columns.columns.items = grind arith in
    (cells_fit c.self.inside.nodes c.args.body.now c.self.inside.cells c.from.result c.len-2.result c.self.invariant.counted c.in_ok-names.ensures.sizes
    (c.from.ensures ∙ c.declared_rows-rows.ensures) (width ∙ ap length c.in_ok-columns.ensures)).0

pub overflow_add-cells-2 : goal.overflow_add-cells-2
overflow_add-cells-2 c =
    let width : c.len-2.result ≡ length c.in_ok-columns.columns.items = grind arith in
    (cells_fit c.self.inside.nodes c.args.body.now c.self.inside.cells c.from.result c.len-2.result c.self.invariant.counted c.in_ok-names.ensures.sizes
    (c.from.ensures ∙ c.declared_rows-rows.ensures) (width ∙ ap length c.in_ok-columns.ensures)).1

pub invariant_of-self-2 : goal.invariant_of-self-2
invariant_of-self-2 c =
    let width : c.len-2.result ≡ length c.in_ok-columns.columns.items = grind arith in
    let outputs = c.as_slice-outputs.ensures.value in
    let passes = no_fault (content_of c.self.inside) c.args.line c.args.body.now c.in_ok-check_known.ensures (rw outputs at c.in_ok-names.ensures.rules) in
    built_node c.self.inside _ c.in_ok-node.node c.from.result c.len-2.result c.args.line c.args.body.now c.self.invariant c.requires.fits passes
    (sym c.in_default.ensures) c.in_ok-names.ensures.sizes (grind arith) c.in_ok-node.ensures
    c.in_ok-push-2.ensures.added refl refl (c.from.ensures ∙ c.declared_rows-rows.ensures) (width ∙ ap length c.in_ok-columns.ensures)

pub invariant_of-self-in-Some : goal.invariant_of-self-in-Some
invariant_of-self-in-Some c =
    let outputs = c.as_slice-outputs.ensures.value in
    let passes = no_fault (content_of c.self.inside) c.args.line c.args.body.now c.in_ok-check_known.ensures (rw outputs at c.in_ok-names.ensures.rules) in
    built_output c.self.inside _ c.in-Some.output c.args.line c.args.body.now c.self.invariant c.requires.fits passes
    (sym c.in-Some.ensures) refl c.in_ok-push.ensures.items refl
