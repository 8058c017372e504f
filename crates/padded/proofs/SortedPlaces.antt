-- Places sorted by the rows that stand there, and the words of these rows.
use Rattle.std.proofs.Common.{◌≡◌, ℕ, ◌+◌, ◌<◌, List, Vec, Global, [], ◌∷◌, map, length, get_or, Ordering, sym, ap, ◌∙◌, arith}
use Rattle.std.specs.List.Sorted.{IsPermutation, IsSorted, IsSortedByKey}
use Rattle.std.proofs.lemmas.List.{get_or-map, length-map}
use Rattle.std.proofs.lemmas.List.Sorted.{IsPermutation-map}
use Rattle.bags.specs.Laws.{SortedIsUnique}
use Rattle.bags.specs.Sorted.{row_cmp, sorted}
use Rattle.tapes.specs.Align.{row_at}
use Rattle.tapes.specs.RowLaws.{row_across}
use Rattle.listed.specs.Lists.{owned}
use Rattle.padded.proofs.Elements.{map_map}

-- keys of elements that are in order by them are in order
keys_in_order : {X : Type 0} (key : X → List ℕ) (cmp : List ℕ → List ℕ → Ordering) (xs : List X) → IsSortedByKey key cmp xs → IsSorted cmp (map key xs)
keys_in_order key cmp [] up k d low high = absurd (omega arith)
keys_in_order key cmp (x ∷ xs) up k d low high =
    let long = length-map (x ∷ xs) key in
    let first : k < length (x ∷ xs) = omega (arith, long) in
    let second : k + 1 < length (x ∷ xs) = omega (arith, long) in
    rw (get_or-map key (x ∷ xs) k x d first, get_or-map key (x ∷ xs) (k + 1) x d second) (up k x low second)

pub sorted_places : SortedIsUnique → (key : ℕ → List ℕ) (before after : List ℕ) → IsPermutation before after → IsSortedByKey key row_cmp after
    → map key after ≡ sorted (map key before)
sorted_places unique key before after moved up = unique (map key before) (map key after) (IsPermutation-map key before after moved) (keys_in_order key row_cmp after up)

-- the word of a column in the row at the place of this number
pub word_there : (columns : List (Vec ℕ Global)) (column : ℕ) (found : Vec ℕ Global) (places : List ℕ) (number place : ℕ) → column < length columns
    → found ≡ get_or columns column found → number < length places → place ≡ get_or places number 0
    → get_or found.items place 0 ≡ get_or (row_at (map (row_across (owned columns)) places) number) column 0
word_there columns column found places number place inside is within at =
    let row = λ (p : ℕ). row_across (owned columns) p in
    let word = λ (v : Vec ℕ Global). get_or v.items place 0 in
    ap word is ∙ sym (get_or-map word columns column found 0 inside) ∙ ap (λ words. get_or words column 0) (sym (map_map (λ (words : List ℕ). get_or words place 0) (λ (v : Vec ℕ Global). v.items) columns))
    ∙ ap (λ p. get_or (row p) column 0) at ∙ ap (λ words. get_or words column 0) (sym (get_or-map row places number 0 [] within))
