-- Shapes of padded tables: so many columns and the valid words, each of so many words.
use Rattle.std.specs.Prelude.{ℕ, ◌+◌, Bool, false, ◌&&◌, ◌==◌, List, [], ◌∷◌, length}
use Rattle.std.specs.List.{list_all}
use Rattle.step_lists.specs.Layout.{count_in}
use Rattle.step_lists.specs.declared.step.Shape.{Shape}
use Rattle.step_lists.specs.declared.step.Shape.TheVariants as shapes

abbrev pub is_words_of : ℕ → Shape → Bool
is_words_of n (shapes.Words k) = k == n
is_words_of n (shapes.OrderOf k) = false

abbrev pub is_table : ℕ → ℕ → List Shape → Bool
is_table columns rows ss = (length ss == columns + 1) && list_all (is_words_of rows) ss

-- how many words the first slot has
abbrev pub rows_of_shapes : List Shape → ℕ
rows_of_shapes [] = 0
rows_of_shapes (s ∷ ss) = count_in s
