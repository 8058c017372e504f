use Rattle.std.specs.Prelude.{slice_get}
use Rattle.plain_meaning.specs.Meaning.{meanings}
use Rattle.plain_meaning.specs.Plain.{rows_of_tables}
use Rattle.conclave_top.proofs.Answered.{answered_recipients}
use Rattle.conclave_top.proofs.answer_files.add_output.Goals as goal

pub returns : goal.returns
returns c tables hold =
    let nodes = c.args.plan.now.graph.nodes in
    let output = c.args.output.now in
    answered_recipients (meanings nodes (rows_of_tables tables)) output.recipients output.node (slice_get nodes output.node) c.args.results.now c.add_if_to.new.results c.add_if_to-2.new.results c.add_if_to-3.new.results
    (c.in_ok-add_if_to.ensures tables hold) (c.in_ok-add_if_to-2.ensures tables hold) (c.in_ok-add_if_to-3.ensures tables hold)
