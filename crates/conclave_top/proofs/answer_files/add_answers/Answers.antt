use Rattle.std.proofs.Common.{rules, ◌≡◌, ◌∙◌, ◌≤◌, length, take, ap, sym, subst}
use Rattle.std.specs.Prelude.{slice_get}
use Rattle.std.specs.List.{flat_map}
use Rattle.std.proofs.lemmas.List.{take_all}
use Rattle.std.proofs.lemmas.Option.{slice_get-get_or}
use Rattle.plain_meaning.specs.Meaning.{meanings}
use Rattle.plain_meaning.specs.Plain.{rows_of_tables}
use Rattle.query_graph.specs.Content.{Content}
use Rattle.conclave_top.specs.Added.{AreAnswered}
use Rattle.conclave_top.specs.AnswerFiles.{answers_to}
use Rattle.conclave_top.proofs.Answered.{answered_next, answered_nothing}
use Rattle.conclave_top.proofs.answer_files.add_answers.Goals as goal

pub loop-number-init : goal.loop-number-init
loop-number-init c tables hold = answered_nothing c.args.results.now

pub add_output-requires : goal.add_output-requires
add_output-requires c =
    let outputs = c.args.plan.now.graph.outputs in
    let items = c.deref-output-items.result.now in
    let same : items ≡ outputs = c.deref-output-items.ensures.value ∙ c.outputs.ensures.outputs ∙ ap (λ (g : Content). g.outputs) c.graph.ensures in
    let number : c.in-Ok.number ≡ c.loop-number.number = search rules in
    ap (slice_get outputs) number ∙ ap (λ os. slice_get os c.loop-number.number) (sym same) ∙ slice_get-get_or items c.loop-number.number _ c.loop-number-test.true

pub loop-number-preserved : goal.loop-number-preserved
loop-number-preserved c tables hold =
    let nodes = c.args.plan.now.graph.nodes in
    let outputs = c.args.plan.now.graph.outputs in
    let items = c.deref-output-items.result.now in
    let same : items ≡ outputs = c.deref-output-items.ensures.value ∙ c.outputs.ensures.outputs ∙ ap (λ (g : Content). g.outputs) c.graph.ensures in
    answered_next (answers_to nodes (meanings nodes (rows_of_tables tables))) outputs items c.loop-number.number _ c.args.results.now c.loop-number.results c.add_output.new.results same c.loop-number-test.true
    (c.loop-number.invariant tables hold) (c.in_ok-add_output.ensures tables hold)

pub returns : goal.returns
returns c tables hold =
    let nodes = c.args.plan.now.graph.nodes in
    let outputs = c.args.plan.now.graph.outputs in
    let items = c.deref-output-items.result.now in
    let same : items ≡ outputs = c.deref-output-items.ensures.value ∙ c.outputs.ensures.outputs ∙ ap (λ (g : Content). g.outputs) c.graph.ensures in
    let past : length items ≤ c.loop-number.number = search rules in
    let all : take c.loop-number.number outputs ≡ outputs = take_all c.loop-number.number outputs (subst (λ os. length os ≤ c.loop-number.number) same past) in
    subst (λ os. AreAnswered (flat_map (answers_to nodes (meanings nodes (rows_of_tables tables))) os) c.args.results.now c.loop-number.results) all (c.loop-number.invariant tables hold)
