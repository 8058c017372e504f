-- A fold of words from the first on is the fold from the neutral word.
use Rattle.std.specs.Prelude.{◌≡◌, ◌<◌, ℕ, List, length}
use Rattle.std.specs.List.{fold}
use Rattle.lanes.specs.Folds.{words_folded}
use Rattle.lanes.specs.Word.{AreWords}
use Rattle.circuits.specs.declared.folds.Fold.{Fold}
use Rattle.circuits.specs.Folds.{combined_word, neutral_word}

-- over words, of which there is one at least, both folds are one
abbrev pub FoldsFromNeutral : Type 0
FoldsFromNeutral = (kind : Fold) (xs : List ℕ) → AreWords xs → 0 < length xs → words_folded (combined_word kind) xs ≡ fold (combined_word kind) (neutral_word kind) xs
