use Rattle.std.proofs.Common.{◌≡◌, ℕ, zero, suc, ◌<◌, List, [], ◌∷◌, Some, length, refl, sym, ap, ◌∙◌, arith}
use Rattle.std.specs.Prelude.{slice_get}
use Rattle.query_graph.specs.declared.node.Node.{Node}
use Rattle.rewrites.specs.Rewritten.{Rewritten}
use Rattle.rewrites.specs.Up.{is_up_at}
use Rattle.places.proofs.opened.opened.Goals as goal

-- the node with a number within
found : (nodes : List Node) (i : ℕ) → i < length nodes → (n : Node) × (slice_get nodes i ≡ Some n)
found [] i below = absurd (omega arith)
found (n ∷ nodes) zero below = (n, refl)
found (n ∷ nodes) (suc i) below = found nodes i (omega arith)

pub returns-clause-opened : goal.returns-clause-opened
returns-clause-opened c =
    let graph = c.args.graph.now in
    let below = c.loop-nodes.below in
    let node = found graph.nodes below c.loop-nodes.invariant.within in
    let told = sym (ap (λ (r : Rewritten). is_up_at r.up below) c.requires.made) ∙ sym c.is_up.ensures ∙ c.loop-nodes-test.false in
    sym (c.loop-nodes.invariant.same ∙ c.opened_by_sources.ensures.itself graph below node.0 (record { is_graph = c.nodes-nodes.ensures.graph; is_node = node.1 }) told)
