-- The words of a joined row by the numbers of its columns.
use Rattle.std.proofs.Common.{◌≡◌, ℕ, ◌+◌, ◌-◌, ◌<◌, List, ◌++◌, length, get_or, ◌∙◌, ap, arith}
use Rattle.std.proofs.lemmas.List.{get_or-append_right, get_or-map, get_or_append_left, length-map}
use Rattle.plain_operators.specs.Columns.{cut, other_columns, others, word_at}
use Rattle.plain_operators.specs.JoinedColumns.{JoinedColumns}
use Rattle.plain_operators.specs.Operators.{left_keys, right_keys}

-- a word of a row cut to some columns
cut_word : (columns row : List ℕ) (k : ℕ) → k < length columns → word_at k (cut columns row) ≡ word_at (get_or columns k 0) row
cut_word columns row k inside = get_or-map (λ column. word_at column row) columns k 0 0 inside

-- a word of the second of two lists
second_word : (xs ys : List ℕ) (n k : ℕ) → length xs ≡ n → word_at (n + k) (xs ++ ys) ≡ word_at k ys
second_word xs ys n k long = let at : n + k - n ≡ k = omega arith in get_or-append_right xs ys n (n + k) 0 long (omega arith) ∙ ap (λ j. get_or ys j 0) at

module _ (keys : List (ℕ × ℕ)) (left right : List ℕ) where
  first_long : length (cut (left_keys keys) left) ≡ length keys
  first_long = length-map (left_keys keys) (λ column. word_at column left) ∙ length-map keys (λ key. key.0)

  second_long : length (others (left_keys keys) left) ≡ length (other_columns (left_keys keys) (length left))
  second_long = length-map (other_columns (left_keys keys) (length left)) (λ column. word_at column left)

pub joined_columns : JoinedColumns
joined_columns = record {
  keys = λ keys left right k inside.
      (let long = first_long keys left right in
      let many = length-map keys (λ key. key.0) in
      get_or_append_left (cut (left_keys keys) left) (others (left_keys keys) left ++ others (right_keys keys) right) 0 k (omega (arith, long)) ∙ cut_word (left_keys keys) left k (omega (arith, many)));
  lefts = λ keys left right k inside.
      (let long = second_long keys left right in
      second_word (cut (left_keys keys) left) (others (left_keys keys) left ++ others (right_keys keys) right) (length keys) k (first_long keys left right)
      ∙ get_or_append_left (others (left_keys keys) left) (others (right_keys keys) right) 0 k (omega (arith, long)) ∙ cut_word (other_columns (left_keys keys) (length left)) left k inside);
  rights = λ keys left right k inside.
      (let others_left = other_columns (left_keys keys) (length left) in
      second_word (cut (left_keys keys) left) (others (left_keys keys) left ++ others (right_keys keys) right) (length keys) (length others_left + k) (first_long keys left right)
      ∙ second_word (others (left_keys keys) left) (others (right_keys keys) right) (length others_left) k (second_long keys left right) ∙ cut_word (other_columns (right_keys keys) (length right)) right k inside);
}
