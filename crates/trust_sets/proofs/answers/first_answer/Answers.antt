use Rattle.std.proofs.Common.{◌≡◌, ℕ, ◌<◌, List, Some, length, map, get_or, refl, sym, ap, ◌∙◌, subst, arith, below_more}
use Rattle.std.specs.Prelude.{slice_get}
use Rattle.std.proofs.lemmas.Bool.{both_ways}
use Rattle.std.proofs.lemmas.Option.{slice_get-get_or}
use Rattle.tables.specs.Content as table
use Rattle.query_graph.specs.declared.node.Output.{Output}
use Rattle.query_graph.specs.Parties.{no_party}
use Rattle.plain_meaning.specs.Plain.{rows_of_tables}
use Rattle.trust_sets.specs.Differs.{PlaceAgrees}
use Rattle.trust_sets.proofs.NodeTables.{place_agrees}
use Rattle.trust_sets.proofs.answers.first_answer.Goals as goal

abbrev no_output : Output
no_output = record { line = 0; node = 0; recipients = no_party }

found : (items outputs : List Output) (place : ℕ) → items ≡ outputs → place < length items → slice_get outputs place ≡ Some (get_or items place no_output)
found items outputs place same inside = subst (λ l. slice_get l place ≡ Some (get_or items place no_output)) same (slice_get-get_or items place no_output inside)

pub returns-then-not-agrees : goal.returns-then-not-agrees
returns-then-not-agrees c =
    let graph = c.args.graph.now in
    let items = c.deref-output-items.result.now in
    let place = c.loop-output.output-index in
    let same : items ≡ graph.outputs = c.deref-output-items.ensures.value ∙ c.outputs.ensures.outputs in
    let inside : place < length items = c.loop-output-test.true in
    let is = found items graph.outputs place same inside in
    let below = subst (λ l. (get_or l place no_output).node < length graph.nodes) (sym same) (c.outputs.ensures.graph.outputs place no_output (subst (λ l. place < length l) same inside)).node in
    let rows = λ (tables : List table.Content). map (λ t. t.rows) tables in
    let agree = place_agrees graph c.args.party (rows_of_tables c.args.world.now) (rows_of_tables c.args.other.now) c.as_slice.result.now c.as_slice-in-loop-output.result.now place (get_or items place no_output) is below
    (ap rows c.as_slice.ensures.value ∙ c.in_ok-tables.ensures.rows) (ap rows c.as_slice-in-loop-output.ensures.value ∙ c.in_ok-others.ensures.rows) in
    record {
      place = place;
      output = get_or items place no_output;
      at = is;
      is = refl;
      first = record { earlier = c.loop-output.invariant; fails = λ agrees. both_ways _ c.if-not-agrees.true (c.in_ok-agrees.ensures.1 (agree.1 agrees)) };
    }

pub loop-output-preserved : goal.loop-output-preserved
loop-output-preserved c =
    let graph = c.args.graph.now in
    let items = c.deref-output-items.result.now in
    let place = c.loop-output.output-index in
    let same : items ≡ graph.outputs = c.deref-output-items.ensures.value ∙ c.outputs.ensures.outputs in
    let inside : place < length items = c.loop-output-test.true in
    let is = found items graph.outputs place same inside in
    let below = subst (λ l. (get_or l place no_output).node < length graph.nodes) (sym same) (c.outputs.ensures.graph.outputs place no_output (subst (λ l. place < length l) same inside)).node in
    let rows = λ (tables : List table.Content). map (λ t. t.rows) tables in
    let agree = place_agrees graph c.args.party (rows_of_tables c.args.world.now) (rows_of_tables c.args.other.now) c.as_slice.result.now c.as_slice-in-loop-output.result.now place (get_or items place no_output) is below
    (ap rows c.as_slice.ensures.value ∙ c.in_ok-tables.ensures.rows) (ap rows c.as_slice-in-loop-output.ensures.value ∙ c.in_ok-others.ensures.rows) in
    below_more (PlaceAgrees graph c.args.party (rows_of_tables c.args.world.now) (rows_of_tables c.args.other.now)) place c.loop-output.invariant (agree.0 (c.in_ok-agrees.ensures.0 c.if-not-agrees.false))

pub returns : goal.returns
returns c =
    let outputs = c.args.graph.now.outputs in
    let same : c.deref-output-items.result.now ≡ outputs = c.deref-output-items.ensures.value ∙ c.outputs.ensures.outputs in
    λ place default inside.
    let long = ap length same in
    let past = c.loop-output-test.false in
    c.loop-output.invariant place (omega arith) (get_or outputs place default) (slice_get-get_or outputs place default inside)
