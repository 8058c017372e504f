-- The shapes and the words of a whole table.
use Rattle.std.proofs.Common.{◌≡◌, ℕ, zero, suc, ◌+◌, Bool, true, List, [], ◌∷◌, ◌++◌, length, take, refl, ap, ◌∙◌, add-one}
use Rattle.std.specs.Prelude.{◌&&◌, ◌==◌, replicate}
use Rattle.std.specs.List.{list_all}
use Rattle.std.proofs.Math.Seq.{get_or-append_seam, take-append_seam}
use Rattle.std.proofs.lemmas.Bool.{eq-eqb}
use Rattle.std.proofs.lemmas.List.{length-replicate}
use Rattle.padded.specs.Table.{column_at, rows_in, told}
use Rattle.step_lists.specs.declared.step.Shape.{Shape}
use Rattle.step_lists.specs.declared.step.Shape.TheVariants.{Words}
use Rattle.clear_tasks.specs.Laws.{SortedIsTold, SortedTakesTables}
use Rattle.clear_tasks.specs.TableShapes.{is_table, is_words_of, rows_of_shapes}

both_true : (a b : Bool) → a ≡ true → b ≡ true → (a && b) ≡ true
both_true a b h k = ap (λ c. c && b) h ∙ k

all_of : {A : Type 0} (p : A → Bool) (n : ℕ) (x : A) → p x ≡ true → list_all p (replicate n x) ≡ true
all_of p zero x h = refl
all_of p (suc n) x h = both_true (p x) (list_all p (replicate n x)) h (all_of p n x h)

is_a_table : (columns count : ℕ) → is_table columns count (replicate (columns + 1) (Words count)) ≡ true
is_a_table columns count =
    let shapes = replicate (columns + 1) (Words count) in
    both_true (length shapes == columns + 1) (list_all (is_words_of count) shapes) (eq-eqb (length shapes) (columns + 1) (length-replicate (columns + 1) (Words count)))
    (all_of (is_words_of count) (columns + 1) (Words count) (eq-eqb count count refl))

pub takes_tables : SortedTakesTables
takes_tables columns count =
    let shapes = replicate (columns + 1) (Words count) in
    let rows : rows_of_shapes shapes ≡ count = ap (λ n. rows_of_shapes (replicate n (Words count))) (add-one columns) in
    let table : is_table columns (rows_of_shapes shapes) shapes ≡ true = ap (λ n. is_table columns n shapes) rows ∙ is_a_table columns count in
    both_true (is_table columns (rows_of_shapes shapes) shapes) (is_table columns (rows_of_shapes shapes) shapes) table table

pub is_told : SortedIsTold
is_told columns valid =
    ap (λ cs. told (length columns) (length (column_at (columns ++ valid ∷ []) (length columns))) (rows_in cs (column_at (columns ++ valid ∷ []) (length columns)))) (take-append_seam columns (valid ∷ []))
    ∙ ap (λ v. told (length columns) (length v) (rows_in columns v)) (get_or-append_seam columns valid [] [])
