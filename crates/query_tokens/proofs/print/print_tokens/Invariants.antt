use Rattle.std.proofs.Common.{◌≡◌, ◌++◌, drop, map}
use Rattle.query_tokens.specs.Lexemes.{token_of}
use Rattle.query_tokens.specs.Print.{printed_behind, printed}
use Rattle.query_tokens.proofs.print.print_tokens.Given as goal

abbrev pub invariant-loop-token : goal.invariant-loop-token
invariant-loop-token l =
    l.text.items ++ printed_behind (token_of l.last) (map token_of (drop l.token-index l.rest)) ≡ l.fn.text.items ++ printed (map token_of l.fn.tokens)
