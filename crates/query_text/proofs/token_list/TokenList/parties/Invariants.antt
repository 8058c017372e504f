use Rattle.std.proofs.Common.{◌≡◌, ◌++◌, drop}
use Rattle.query_text.specs.Spelling.{parties}
use Rattle.query_text.proofs.token_list.TokenList.parties.Given as goal

abbrev pub invariant-loop-number : goal.invariant-loop-number
invariant-loop-number l = l.self ++ parties (drop l.number-index l.numbers) ≡ l.fn.self ++ parties l.numbers
