use Rattle.std.proofs.Common.{◌≡◌, ◌<◌, ◌^◌, ◌++◌, take, ℕ}
use Rattle.std.specs.Prelude.{All}
use Rattle.tables.proofs.table.push_words.Given as goal

-- the words so far stand behind those before, and there is room for the rest
abbrev pub invariant-loop-word : goal.invariant-loop-word
invariant-loop-word l = record {
  added : l.cells.items ≡ l.initial.cells.items ++ take l.word-index l.row;
  words : All (λ (word : ℕ). word < 2 ^ 64) (take l.word-index l.row);
  room : l.cells.cap ≡ l.initial.cells.cap;
}
