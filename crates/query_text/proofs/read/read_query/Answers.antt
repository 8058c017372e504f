use Rattle.query_text.proofs.WholeText.{answer_found, answer_only, answer_fault, answer_place}
use Rattle.query_text.proofs.read.read_query.Goals as goal

pub returns-clause-found : goal.returns-clause-found
returns-clause-found c = answer_found c.tokens_are_real.ensures c.args.bytes.now c.read.result c.read.ensures.exact

pub returns-clause-only : goal.returns-clause-only
returns-clause-only c = answer_only c.args.bytes.now c.read.result c.read.ensures.exact

pub returns-clause-fault : goal.returns-clause-fault
returns-clause-fault c = answer_fault c.tokens_are_real.ensures c.args.bytes.now c.read.result c.read.ensures.exact

pub returns-clause-place : goal.returns-clause-place
returns-clause-place c = answer_place c.tokens_are_real.ensures c.args.bytes.now c.read.result c.read.ensures.exact
