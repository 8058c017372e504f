use Rattle.std.proofs.Common.{rules, ◌≡◌, true}
use Rattle.std.specs.Prelude.{slice_get}
use Rattle.lanes.specs.Party.{number_of}
use Rattle.plain_meaning.specs.Meaning.{meanings}
use Rattle.plain_meaning.specs.Plain.{rows_of_tables}
use Rattle.query_graph.specs.Parties.{has}
use Rattle.conclave_top.proofs.Answered.{answered_recipient}
use Rattle.conclave_top.proofs.answer_files.add_if_to.Goals as goal

pub returns : goal.returns
returns c tables hold =
    let nodes = c.args.plan.now.graph.nodes in
    let output = c.args.output.now in
    let one : has output.recipients (number_of c.args.party) ≡ true = search rules in
    answered_recipient (meanings nodes (rows_of_tables tables)) output.recipients c.args.party output.node (slice_get nodes output.node) c.args.results.now c.add_answer.new.results one (c.in_ok-add_answer.ensures tables hold)
