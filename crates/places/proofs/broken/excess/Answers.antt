use Rattle.std.proofs.Common.{map, sym, ◌∙◌, arith}
use Rattle.tables.specs.Content.{Content}
use Rattle.trust_sets.specs.Known.{known_nodes}
use Rattle.places.proofs.FirstBroken.{flag_first, flag_passed, flag_reached, flag_within, flags_passed}
use Rattle.places.proofs.broken.excess.Goals as goal

pub is_broken-requires-clause-node : goal.is_broken-requires-clause-node
is_broken-requires-clause-node c =
    let graph = c.args.graph.now in
    flag_within graph (known_nodes graph.nodes) c.args.rewritten.now (map (λ (t : Content). t.rows) c.args.world.now) c.args.places.now c.deref-flag-items.result.now c.requires.checked (c.deref-flag-items.ensures.value ∙ c.flags.ensures)
    c.loop-flag.flag-index _ c.loop-flag-test.true

pub is_broken-requires-clause-reached : goal.is_broken-requires-clause-reached
is_broken-requires-clause-reached c =
    let graph = c.args.graph.now in
    flag_reached graph (known_nodes graph.nodes) c.args.rewritten.now (map (λ (t : Content). t.rows) c.args.world.now) c.args.places.now c.deref-flag-items.result.now c.requires.checked (c.deref-flag-items.ensures.value ∙ c.flags.ensures)
    c.in_ok-rows.rows.tables c.in_ok-rows.rows.over c.in_ok-rows.ensures c.loop-flag.flag-index _ c.loop-flag-test.true c.loop-flag.invariant

pub returns-then-branch : goal.returns-then-branch
returns-then-branch c =
    let graph = c.args.graph.now in
    let world = map (λ (t : Content). t.rows) c.args.world.now in
    flag_first graph (known_nodes graph.nodes) c.args.rewritten.now world c.args.places.now c.deref-flag-items.result.now c.requires.checked (c.deref-flag-items.ensures.value ∙ c.flags.ensures)
    c.loop-flag.flag-index _ c.loop-flag-test.true c.loop-flag.invariant (sym (c.in_ok-is_broken.ensures world c.in_ok-rows.ensures) ∙ c.if-branch.true)

pub loop-flag-preserved : goal.loop-flag-preserved
loop-flag-preserved c =
    let graph = c.args.graph.now in
    let world = map (λ (t : Content). t.rows) c.args.world.now in
    flag_passed graph (known_nodes graph.nodes) c.args.rewritten.now world c.args.places.now c.deref-flag-items.result.now c.requires.checked (c.deref-flag-items.ensures.value ∙ c.flags.ensures)
    c.loop-flag.flag-index _ c.loop-flag-test.true c.loop-flag.invariant (sym (c.in_ok-is_broken.ensures world c.in_ok-rows.ensures) ∙ c.if-branch.false)

pub returns : goal.returns
returns c =
    let graph = c.args.graph.now in
    flags_passed graph (known_nodes graph.nodes) c.args.rewritten.now (map (λ (t : Content). t.rows) c.args.world.now) c.args.places.now c.deref-flag-items.result.now c.requires.checked (c.deref-flag-items.ensures.value ∙ c.flags.ensures)
    c.loop-flag.flag-index (omega (arith, c.loop-flag-test.false)) c.loop-flag.invariant
