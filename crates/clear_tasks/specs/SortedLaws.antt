-- What `Sorted` gives has the shapes of a table.
use Rattle.std.proofs.Common.{◌≡◌, ℕ, ◌+◌, ◌<◌, List, [], ◌∷◌, length, take, ◌∙◌, ap, subst, arith, length-append}
use Rattle.std.specs.Prelude.{IsTrue}
use Rattle.std.specs.List.{AllByRecursion}
use Rattle.std.proofs.lemmas.List.FromFn.{length-map-range_with_len}
use Rattle.bags.specs.Sorted.{row_cmp, sorted}
use Rattle.lanes.specs.Word.{AreWords}
use Rattle.padded.specs.Table.{column_at, pad, padded_column, padded_columns, padded_valid, rows_in}
use Rattle.step_lists.specs.Shapes.{HasLength, HaveShapes, IsInput}
use Rattle.step_lists.specs.declared.step.Shape.{Shape}
use Rattle.clear_tasks.specs.Sorted.{sorted_accepts, sorted_answer}
use Rattle.clear_tasks.specs.TableShapes.{is_table, rows_of_shapes}
use Rattle.clear_tasks.specs.TableWords.{TableFits, all_inside, all_sorted, all_taken, all_weaker, both, pad_fits, rows_words, table_fits, table_given}

pad_long : (columns count : ℕ) (rows : List (List ℕ)) → length (pad columns count rows) ≡ columns + 1
pad_long columns count rows =
    length-append (padded_columns columns count rows) (padded_valid count rows ∷ []) ∙ ap (λ n. n + 1) (length-map-range_with_len (padded_column count rows) 0 columns)

answer_fits : (columns n : ℕ) (xs : List (List ℕ)) → TableFits columns n xs → TableFits columns n (sorted_answer columns xs)
answer_fits columns n xs h = record {
  long = pad_long columns (length (column_at xs columns)) (sorted (rows_in (take columns xs) (column_at xs columns)));
  all = subst (λ m. AllByRecursion (HasLength m) (sorted_answer columns xs)) count fits;
}
  where
    inside : columns < length xs
    inside = omega (arith, h.long)

    count : length (column_at xs columns) ≡ n
    count = (all_inside (HasLength n) xs columns [] inside h.all).long

    words : AllByRecursion AreWords (take columns xs)
    words = all_taken AreWords columns xs (all_weaker (HasLength n) AreWords xs (λ x f. f.below) h.all)

    fits : AllByRecursion (HasLength (length (column_at xs columns))) (sorted_answer columns xs)
    fits =
        pad_fits columns (length (column_at xs columns)) (sorted (rows_in (take columns xs) (column_at xs columns)))
        (all_sorted AreWords row_cmp (rows_in (take columns xs) (column_at xs columns)) (rows_words (take columns xs) (column_at xs columns) words))

pub sorted_shaped : (columns : ℕ) (takes gives : List Shape) (xs : List (List ℕ)) → IsTrue (sorted_accepts columns takes gives) → HaveShapes takes xs
    → HaveShapes gives (sorted_answer columns xs)
sorted_shaped columns takes gives xs a h =
    let n = rows_of_shapes takes in
    let p = both (is_table columns n takes) (is_table columns n gives) a in
    table_given columns n gives (sorted_answer columns xs) p.1 (answer_fits columns n xs (table_fits columns n takes xs p.0 h))

-- words that it takes are so many columns and the valid words
pub sorted_input : (columns : ℕ) (xs : List (List ℕ)) → IsInput (sorted_accepts columns) xs → length xs ≡ columns + 1
sorted_input columns xs h =
    let n = rows_of_shapes h.takes in
    (table_fits columns n h.takes xs (both (is_table columns n h.takes) (is_table columns n h.gives) h.accepted).0 h.shaped).long
