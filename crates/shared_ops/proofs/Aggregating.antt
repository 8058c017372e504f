-- An aggregate over flagged rows is the fold of its masked words.
use Rattle.std.proofs.Common.{◌≡◌, ℕ, ◌^◌, ◌<◌, Bool, true, false, cond, List, [], ◌∷◌, map, length, get_or, refl, sym, ap, ◌∙◌, subst, arith}
use Rattle.std.specs.Prelude.{All}
use Rattle.std.specs.List.{filter, fold}
use Rattle.std.proofs.Math.ListN.{get_or-map}
use Rattle.std.proofs.lemmas.List.{length-map}
use Rattle.lanes.specs.Folds.{words_folded}
use Rattle.lanes.specs.Word.{AreWords}
use Rattle.circuits.specs.FoldLaws.{FoldsFromNeutral}
use Rattle.circuits.specs.declared.folds.Fold.TheVariants as folds
use Rattle.plain_operators.specs.Columns.{word_at}
use Rattle.plain_operators.specs.declared.aggregate.Aggregate.{Aggregate}
use Rattle.plain_operators.specs.declared.aggregate.Aggregate.TheVariants.{Sum, Count, Least, Greatest}
use Rattle.plain_operators.specs.Folds.{AggregatesAreFolds, folded_by, folded_column, folded_from}
use Rattle.plain_operators.specs.Operators.{aggregated}
use Rattle.plain_operators.specs.Within.{IsAggregateOf}
use Rattle.tapes.specs.RowLaws.{row_across}
use Rattle.shared_ops.specs.Groups.{flagged_word}
use Rattle.shared_ops.proofs.Elements.{map_agree, map_map}
use Rattle.shared_ops.proofs.Filters.{each_of_map, length_filter}

-- the word that an aggregate folds of a row
abbrev entry : Aggregate → List ℕ → ℕ
entry (Sum column) row = word_at column row
entry Count row = 1
entry (Least column) row = word_at column row
entry (Greatest column) row = word_at column row

entries : (aggregate : Aggregate) (rows : List (List ℕ)) → map (entry aggregate) rows ≡ folded_column aggregate rows
entries (Sum column) rows = refl
entries Count rows = refl
entries (Least column) rows = refl
entries (Greatest column) rows = refl

stays_word : (aggregate : Aggregate) (x y : ℕ) → x < 2 ^ 64 → y < 2 ^ 64 → folded_by aggregate x y < 2 ^ 64
stays_word (Sum column) x y h k = omega arith
stays_word Count x y h k = omega arith
stays_word (Least column) x y h k = omega arith
stays_word (Greatest column) x y h k = omega arith

changes_nothing : (aggregate : Aggregate) (x : ℕ) → x < 2 ^ 64 → folded_by aggregate x (folded_from aggregate) ≡ x
changes_nothing (Sum column) x h = omega arith
changes_nothing Count x h = omega arith
changes_nothing (Least column) x h = omega arith
changes_nothing (Greatest column) x h = omega arith

is_word : (aggregate : Aggregate) → folded_from aggregate < 2 ^ 64
is_word (Sum column) = omega arith
is_word Count = omega arith
is_word (Least column) = omega arith
is_word (Greatest column) = omega arith

from_neutral : FoldsFromNeutral → (aggregate : Aggregate) (xs : List ℕ) → AreWords xs → 0 < length xs → words_folded (folded_by aggregate) xs ≡ fold (folded_by aggregate) (folded_from aggregate) xs
from_neutral law (Sum column) xs words some = law folds.Sum xs words some
from_neutral law Count xs words some = law folds.Sum xs words some
from_neutral law (Least column) xs words some = law folds.Least xs words some
from_neutral law (Greatest column) xs words some = law folds.Greatest xs words some

-- a word of a row stands in its column
pub word_across : (columns : List (List ℕ)) (column place : ℕ) → get_or (get_or columns column []) place 0 ≡ word_at column (row_across columns place)
word_across columns column place = sym (get_or-map (λ (words : List ℕ). get_or words place 0) columns column [])

flagged : (aggregate : Aggregate) (columns : List (List ℕ)) (b : Bool) (place : ℕ) → flagged_word aggregate columns (cond b 1 0) place ≡ cond b (entry aggregate (row_across columns place)) (folded_from aggregate)
flagged (Sum column) columns true place = word_across columns column place
flagged (Sum column) columns false place = refl
flagged Count columns true place = refl
flagged Count columns false place = refl
flagged (Least column) columns true place = word_across columns column place
flagged (Least column) columns false place = refl
flagged (Greatest column) columns true place = word_across columns column place
flagged (Greatest column) columns false place = refl

column_word : (columns : List (List ℕ)) → All AreWords columns → (column place : ℕ) → column < length columns → word_at column (row_across columns place) < 2 ^ 64
column_word columns words column place h = let P : ℕ → Type 0 = λ word. word < 2 ^ 64 in subst P (word_across columns column place) ((words column [] h).below place)

entry_word : (aggregate : Aggregate) (columns : List (List ℕ)) → All AreWords columns → IsAggregateOf (length columns) aggregate → (place : ℕ) → entry aggregate (row_across columns place) < 2 ^ 64
entry_word (Sum column) columns words fits place = column_word columns words column place fits
entry_word Count columns words fits place = omega arith
entry_word (Least column) columns words fits place = column_word columns words column place fits
entry_word (Greatest column) columns words fits place = column_word columns words column place fits

-- rows without a flag change no fold
unflagged : {X : Type 0} (op : ℕ → ℕ → ℕ) (e : ℕ) → ((x : ℕ) → x < 2 ^ 64 → op x e ≡ x) → ((x y : ℕ) → x < 2 ^ 64 → y < 2 ^ 64 → op x y < 2 ^ 64)
    → (b : X → Bool) (w : X → ℕ) → ((x : X) → w x < 2 ^ 64) → (xs : List X) (start : ℕ) → start < 2 ^ 64 → fold op start (map (λ x. cond (b x) (w x) e) xs) ≡ fold op start (map w (filter b xs))
unflagged op e nothing stays b w words [] start small = refl
unflagged op e nothing stays b w words (x ∷ xs) start small = by (b x) (λ n h. unflagged op e nothing stays b w words xs n h)
  where
    by : (c : Bool) → ((n : ℕ) → n < 2 ^ 64 → fold op n (map (λ z. cond (b z) (w z) e) xs) ≡ fold op n (map w (filter b xs)))
        → fold op (op start (cond c (w x) e)) (map (λ z. cond (b z) (w z) e) xs) ≡ fold op start (map w (cond c (x ∷ filter b xs) (filter b xs)))
    by true rest = rest (op start (w x)) (stays start (w x) small (words x))
    by false rest = ap (λ n. fold op n (map (λ z. cond (b z) (w z) e) xs)) (nothing start small) ∙ rest start small

chosen_small : (b : Bool) (x y : ℕ) → x < 2 ^ 64 → y < 2 ^ 64 → cond b x y < 2 ^ 64
chosen_small true x y h k = h
chosen_small false x y h k = k

pub aggregate_is : FoldsFromNeutral → AggregatesAreFolds → (aggregate : Aggregate) (columns : List (List ℕ)) → All AreWords columns → IsAggregateOf (length columns) aggregate
    → (b : ℕ → Bool) (places : List ℕ) → 0 < length places → length places < 2 ^ 64
    → words_folded (folded_by aggregate) (map (λ place. flagged_word aggregate columns (cond (b place) 1 0) place) places) ≡ aggregated aggregate (map (row_across columns) (filter b places))
aggregate_is law folds aggregate columns words fits b places some few =
    let op = folded_by aggregate in
    let e = folded_from aggregate in
    let w = λ (place : ℕ). entry aggregate (row_across columns place) in
    let small = entry_word aggregate columns words fits in
    let masked = λ (place : ℕ). cond (b place) (w place) e in
    let rows = map (row_across columns) (filter b places) in
    let fewer : length rows < 2 ^ 64 = omega (arith, length-map (filter b places) (row_across columns), length_filter b places, few) in
    ap (words_folded op) (map_agree (λ place. flagged_word aggregate columns (cond (b place) 1 0) place) masked places (λ k d h. flagged aggregate columns (b (get_or places k d)) (get_or places k d)))
    ∙ from_neutral law aggregate (map masked places) (record { below = each_of_map (λ n. n < 2 ^ 64) masked places (omega arith) (λ k d h. chosen_small (b (get_or places k d)) (w (get_or places k d)) e (small (get_or places k d)) (is_word aggregate)) })
    (omega (arith, length-map places masked, some))
    ∙ unflagged op e (changes_nothing aggregate) (stays_word aggregate) b w small places e (is_word aggregate)
    ∙ ap (fold op e) (sym (map_map (entry aggregate) (row_across columns) (filter b places)) ∙ entries aggregate rows)
    ∙ sym (folds.from_neutral aggregate rows fewer)
