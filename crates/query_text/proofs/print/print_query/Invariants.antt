use Rattle.std.proofs.Common.{◌≡◌, ◌++◌, drop}
use Rattle.query_text.specs.Printing.{printed_query}
use Rattle.query_text.proofs.print.print_query.Given as goal

abbrev pub invariant-loop-statement : goal.invariant-loop-statement
invariant-loop-statement l = l.text.items ++ printed_query (drop l.statement-index l.query) ≡ printed_query l.query
