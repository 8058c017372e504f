use Rattle.std.proofs.Common.{◌≡◌, ◌++◌, drop}
use Rattle.std.specs.List.{flat_map}
use Rattle.query_text.specs.Spelling.{one_name}
use Rattle.query_text.proofs.token_list.TokenList.sources.Given as goal

abbrev pub invariant-loop-name : goal.invariant-loop-name
invariant-loop-name l = l.self ++ flat_map one_name (drop l.name-index l.names) ≡ l.fn.self ++ flat_map one_name l.names
