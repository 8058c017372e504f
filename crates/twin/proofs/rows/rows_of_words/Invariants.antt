use Rattle.std.proofs.Common.{◌≡◌, [], ◌∷◌, map, take}
use Rattle.twin.proofs.rows.rows_of_words.Given as goal

abbrev pub invariant-loop-word : goal.invariant-loop-word
invariant-loop-word l = map (λ row. row.items) l.rows.items ≡ map (λ word. word ∷ []) (take l.word-index l.words)
