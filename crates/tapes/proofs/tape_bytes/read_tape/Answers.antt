use Rattle.tapes.proofs.OneAnswer.{one_answer}
use Rattle.tapes.proofs.tape_bytes.read_tape.Goals as goal

pub returns-clause-exact : goal.returns-clause-exact
returns-clause-exact c = λ right h. one_answer c.args.needs.now c.args.bytes.now c.read_draws.result right c.read_draws.ensures h
