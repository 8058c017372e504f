-- Words that are read in bulk.
use Rattle.std.specs.Prelude.{◌≡◌, ◌↔◌, ◌≤◌, ℕ, List, ◌++◌, length, map, drop, replicate, Some, IsSome}
use Rattle.tapes.specs.declared.draw.Draw.{Draw}
use Rattle.tapes.specs.declared.draw.Draw.TheVariants.{Word}
use Rattle.tapes.specs.declared.draw.Need.{Need}
use Rattle.tapes.specs.declared.draw.Need.TheVariants.{Word as NeedsWord}
use Rattle.tapes.specs.Needs.{FitsNeeds}
use Rattle.tapes.specs.Reading.{first_words, leading_words}

-- the first n words: which they are, when there are so many, and that draws which fit n words and more have them
pub record WordsInBulk : Type 0 where
  pub told : (n : ℕ) (draws : List Draw) (words : List ℕ) → first_words n draws ≡ Some words ↔ ((length words ≡ n) × (draws ≡ map (λ w. Word w) words ++ drop n draws))
  pub lead : (n : ℕ) (draws : List Draw) → IsSome (first_words n draws) ↔ (n ≤ leading_words draws)
  pub fit : (n : ℕ) (needs : List Need) (draws : List Draw) → FitsNeeds (replicate n NeedsWord ++ needs) draws
      → (words : List ℕ) × ((first_words n draws ≡ Some words) × FitsNeeds needs (drop n draws))
