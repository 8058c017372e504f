-- Steps along the columns of a source.
use Rattle.std.proofs.Common.{◌≡◌, ℕ, ◌+◌, ◌<◌, ◌==◌, ◌&&◌, not, Bool, true, false, cond, List, [], ◌∷◌, ◌++◌, Some, map, length, drop, refl, sym, ap, ◌∙◌, add-one, zero-add}
use Rattle.std.specs.List.{filter, list_any, range_with_len}
use Rattle.std.proofs.Math.Seq.{drop-cons}
use Rattle.std.proofs.lemmas.List.{append_assoc, map-append, map-id}
use Rattle.std.proofs.lemmas.List.Elements.{filter-append}
use Rattle.std.proofs.lemmas.List.FromFn.{map-range_with_len_more}
use Rattle.words.specs.declared.column.Column.{Column}
use Rattle.words.specs.declared.column.Kind.TheVariants.{Num}
use Rattle.query_graph.specs.declared.operator.Operator.{Operator}
use Rattle.query_graph.specs.declared.parties.Parties.{Parties}
use Rattle.query_graph.specs.Parties.{has}
use Rattle.plain_operators.specs.Columns.{other_columns}
use Rattle.trust_sets.specs.declared.known.Known.{Known}
use Rattle.trust_sets.specs.Known.{column_set, met_with}
use Rattle.trust_sets.specs.Faults.{is_needed, untrusted_column}

range_more : (n : ℕ) → range_with_len 0 (n + 1) ≡ range_with_len 0 n ++ n ∷ []
range_more n = sym (map-id (range_with_len 0 (n + 1))) ∙ map-range_with_len_more (λ (c : ℕ). c) 0 n n (zero-add n) ∙ ap (λ l. l ++ n ∷ []) (map-id (range_with_len 0 n))

-- the sets of one column more: of none where it is a key
pub other_sets_more : (source : Known) (keys : List ℕ) (rows : Parties) (column : ℕ)
    → map (met_with source rows) (other_columns keys (column + 1))
    ≡ map (met_with source rows) (other_columns keys column) ++ cond (not (list_any (λ key. key == column) keys)) (met_with source rows column ∷ []) []
other_sets_more source keys rows column =
    let p = λ (c : ℕ). not (list_any (λ key. key == c) keys) in
    let columns = filter p (range_with_len 0 column) in
    let more : other_columns keys (column + 1) ≡ columns ++ cond (p column) (column ∷ []) [] = ap (filter p) (range_more column) ∙ filter-append p (range_with_len 0 column) (column ∷ []) in
    ap (map (met_with source rows)) more ∙ map-append (met_with source rows) columns (cond (p column) (column ∷ []) []) ∙ ap (λ l. map (met_with source rows) columns ++ l) (one (p column))
  where
    one : (b : Bool) → map (met_with source rows) (cond b (column ∷ []) []) ≡ cond b (met_with source rows column ∷ []) []
    one true = refl
    one false = refl

-- lists added to one after the other
pub added_twice : {A : Type 0} (a b c xs ys zs : List A) → xs ≡ a → ys ≡ xs ++ b → zs ≡ ys ++ c → zs ≡ a ++ (b ++ c)
added_twice a b c xs ys zs p q r = r ∙ ap (λ l. l ++ c) (q ∙ ap (λ l. l ++ b) p) ∙ append_assoc a b c

no_column : Column
no_column = record { name = []; kind = Num }

-- the columns from one on: whether it is the first that is needed and not trusted
untrusted_step : (shape : Operator) (right : Bool) (source : Known) (party number : ℕ) (columns : List Column) → number < length columns
    → untrusted_column shape right source party number (drop number columns)
    ≡ cond (is_needed shape right number && not (has (column_set source number) party)) (Some number) (untrusted_column shape right source party (number + 1) (drop (number + 1) columns))
untrusted_step shape right source party number columns below =
    rw (drop-cons columns number no_column below, add-one) refl

pub untrusted_found : (shape : Operator) (right : Bool) (source : Known) (party number : ℕ) (columns : List Column) → number < length columns
    → is_needed shape right number ≡ true → has (column_set source number) party ≡ false
    → untrusted_column shape right source party number (drop number columns) ≡ Some number
untrusted_found shape right source party number columns below needed untrusted =
    let rest = untrusted_column shape right source party (number + 1) (drop (number + 1) columns) in
    untrusted_step shape right source party number columns below ∙ (λ i. cond (needed i && not (untrusted i)) (Some number) rest)

pub untrusted_trusted : (shape : Operator) (right : Bool) (source : Known) (party number : ℕ) (columns : List Column) → number < length columns
    → is_needed shape right number ≡ true → has (column_set source number) party ≡ true
    → untrusted_column shape right source party number (drop number columns) ≡ untrusted_column shape right source party (number + 1) (drop (number + 1) columns)
untrusted_trusted shape right source party number columns below needed trusted =
    let rest = untrusted_column shape right source party (number + 1) (drop (number + 1) columns) in
    untrusted_step shape right source party number columns below ∙ (λ i. cond (needed i && not (trusted i)) (Some number) rest)

pub untrusted_unneeded : (shape : Operator) (right : Bool) (source : Known) (party number : ℕ) (columns : List Column) → number < length columns
    → is_needed shape right number ≡ false
    → untrusted_column shape right source party number (drop number columns) ≡ untrusted_column shape right source party (number + 1) (drop (number + 1) columns)
untrusted_unneeded shape right source party number columns below unneeded =
    let rest = untrusted_column shape right source party (number + 1) (drop (number + 1) columns) in
    untrusted_step shape right source party number columns below ∙ (λ i. cond (unneeded i && not (has (column_set source number) party)) (Some number) rest)
