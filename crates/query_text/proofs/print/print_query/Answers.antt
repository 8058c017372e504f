use Rattle.std.proofs.Common.{◌≡◌, subst, arith}
use Rattle.std.proofs.lemmas.Grind.{common_steps}
use Rattle.query_text.specs.Grammar.{AreStatements}
use Rattle.query_text.specs.Printing.{printed_query}
use Rattle.query_text.proofs.PrintedText.{printed_again}
use Rattle.query_text.proofs.print.print_query.Goals as goal

pub returns-clause-again : goal.returns-clause-again
returns-clause-again c = λ size.
    let written : c.loop-statement.text.items ≡ printed_query c.args.query.now = grind (arith, common_steps) in
    printed_again c.reads_back.ensures c.loop-statement.text.items c.args.query.now (subst AreStatements c.query.view_is c.query.invariant) written size
