use Rattle.query_tokens.specs.Lines.{lines_of}
use Rattle.query_text.proofs.TextTheorem.{read_fit}
use Rattle.query_text.proofs.read.read.Goals as goal

pub invariant_of-result : goal.invariant_of-result
invariant_of-result c = read_fit c.tokens_are_real.ensures (lines_of c.args.text.now) c.in_ok-statements.statements c.in_ok-statements.ensures
