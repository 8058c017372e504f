use Rattle.std.proofs.Common.{◌≡◌, ◌++◌, ◌^◌, ◌≤◌, drop, length}
use Rattle.std.specs.List.{All}
use Rattle.places.specs.Places.{nodes_words, words_from}
use Rattle.places.proofs.total.words_of.Given as goal

abbrev pub invariant-loop-number : goal.invariant-loop-number
invariant-loop-number l = record {
  so_far : nodes_words l.graph l.trust.known l.rewritten ≡ l.words.items ++ words_from l.graph.nodes l.trust.known l.rewritten l.number (drop l.number l.graph.nodes);
  few : All (λ word. word ≤ 2 ^ 120) l.words.items;
  count : length l.words.items ≡ l.number;
}
