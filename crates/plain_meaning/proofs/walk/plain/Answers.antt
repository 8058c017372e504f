use Rattle.std.proofs.Common.{◌≡◌, ◌+◌, ◌<◌, ◌≤◌, [], Some, cond, drop, length, map, get_or, subst, sym, ap, ◌∙◌, arith}
use Rattle.tables.specs.Content.{Content}
use Rattle.plain_meaning.specs.Fits.{FitsEarlier, widths_of}
use Rattle.plain_meaning.specs.Meaning.{node_rows}
use Rattle.plain_meaning.specs.Plain.{IsPlain, listed}
use Rattle.plain_meaning.proofs.FitsNode.{fits_node}
use Rattle.plain_meaning.proofs.Steps.{Walks, here, next, walked_first, walked_on, walked_over}
use Rattle.plain_meaning.proofs.walk.plain.Goals as goal
use Rattle.plain_meaning.proofs.walk.plain.Goals.{then-is_relation, else-is_relation}

pub node_table-requires : goal.node_table-requires
node_table-requires c =
    let nodes = c.args.graph.now.nodes in
    let world = map (λ t. t.rows) c.args.world.now in
    let number = c.loop-number.number in
    let n = c.node-item.result in
    let walked = c.loop-number.invariant in
    let same : c.deref-node-items.result.now ≡ nodes = c.deref-node-items.ensures.value ∙ c.nodes.ensures.nodes in
    let at : get_or nodes number n ≡ n = ap (λ l. get_or l number n) (sym same) ∙ sym c.node-item.is in
    let below : number < length nodes = subst (λ l. number < length l) same c.loop-number-test.true in
    let short : number ≤ length nodes = omega arith in
    let tables = c.loop-number.tables.items in
    let found = here nodes world number tables c.loop-number.relation walked n below at in
    let fits = fits_node nodes number tables short walked.columns (drop c.loop-number.relation world) n (walked_first nodes world number tables c.loop-number.relation walked n below at) (c.nodes.ensures.graph.nodes number n found) in
    subst (λ l. FitsEarlier (drop c.loop-number.relation world) (widths_of l) (length n.columns) n.shape) (sym c.deref.ensures.value) fits

pub returns-then-is_over : goal.returns-then-is_over
returns-then-is_over c =
    let nodes = c.args.graph.now.nodes in
    let world = map (λ t. t.rows) c.args.world.now in
    let number = c.loop-number.number in
    let relation = c.loop-number.relation in
    let n = c.node-item.result in
    let same : c.deref-node-items.result.now ≡ nodes = c.deref-node-items.ensures.value ∙ c.nodes.ensures.nodes in
    let at : get_or nodes number n ≡ n = ap (λ l. get_or l number n) (sym same) ∙ sym c.node-item.is in
    let below : number < length nodes = subst (λ l. number < length l) same c.loop-number-test.true in
    let tables = c.loop-number.tables.items in
    let table = c.in_ok-table.table in
    let made : table.rows ≡ listed n.shape (node_rows n.shape (get_or (drop relation world) 0 []) (map (λ t. t.rows) tables)) =
    ap (λ (t : Content). t.rows) c.in_ok-table.ensures ∙ ap (λ l. listed n.shape (node_rows n.shape (get_or (drop relation world) 0 []) (map (λ t. t.rows) l))) c.deref.ensures.value in
    let plain = walked_over nodes world number tables relation c.loop-number.invariant n below at table made (sym c.is_over.ensures ∙ c.if-is_over.true) in
    subst (λ l. IsPlain nodes world l (Some number)) (sym c.from_vec.ensures) plain

pub loop-number-preserved : goal.loop-number-preserved
loop-number-preserved c =
    let nodes = c.args.graph.now.nodes in
    let world = map (λ t. t.rows) c.args.world.now in
    let number = c.loop-number.number in
    let relation = c.loop-number.relation in
    let n = c.node-item.result in
    let same : c.deref-node-items.result.now ≡ nodes = c.deref-node-items.ensures.value ∙ c.nodes.ensures.nodes in
    let at : get_or nodes number n ≡ n = ap (λ l. get_or l number n) (sym same) ∙ sym c.node-item.is in
    let below : number < length nodes = subst (λ l. number < length l) same c.loop-number-test.true in
    let tables = c.loop-number.tables.items in
    let table = c.in_ok-table.table in
    let made : table.rows ≡ listed n.shape (node_rows n.shape (get_or (drop relation world) 0 []) (map (λ t. t.rows) tables)) =
    ap (λ (t : Content). t.rows) c.in_ok-table.ensures ∙ ap (λ l. listed n.shape (node_rows n.shape (get_or (drop relation world) 0 []) (map (λ t. t.rows) l))) c.deref.ensures.value in
    let more = walked_on nodes world number tables relation c.loop-number.invariant n below at table (ap (λ (t : Content). t.columns) c.in_ok-table.ensures) made (sym c.is_over.ensures ∙ c.if-is_over.false) in
    let moved : c.if-is_relation.relation ≡ next n.shape relation = elim c.if-is_relation.branch [
      | then-is_relation w ↦ w.relation-is ∙ ap (λ b. cond b (relation + 1) relation) (sym w.if-is_relation.true ∙ c.is_relation.ensures)
      | else-is_relation w ↦ w.relation-is ∙ ap (λ b. cond b (relation + 1) relation) (sym w.if-is_relation.false ∙ c.is_relation.ensures)
    ] in
    subst (λ r. Walks nodes world (number + 1) c.push.new.self.items r) (sym moved) (subst (λ l. Walks nodes world (number + 1) l (next n.shape relation)) (sym c.in_ok-push.ensures.items) more)
