use Rattle.std.proofs.Common.{◌≡◌, ◌++◌, drop}
use Rattle.query_text.specs.Separators.{separator_token}
use Rattle.query_text.specs.Spelling.{led}
use Rattle.query_text.proofs.token_list.TokenList.led.Given as goal

abbrev pub invariant-loop-part : goal.invariant-loop-part
invariant-loop-part g l =
    l.self ++ led (separator_token l.separator) g.P.Spelled.spelled (drop l.part-index l.parts)
    ≡ l.fn.self ++ led (separator_token l.separator) g.P.Spelled.spelled l.parts
