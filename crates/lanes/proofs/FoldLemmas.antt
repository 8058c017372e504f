-- Folds of words.
use Rattle.std.proofs.Common.{◌≡◌, ℕ, ◌<◌, List, [], ◌∷◌, length, refl, sym, ◌∙◌, ap, arith}
use Rattle.std.specs.List.{fold}
use Rattle.std.proofs.lemmas.List.Sums.{fold-append}
use Rattle.lanes.specs.Folds.{Associates, Commutes, FoldFromFirst, FoldOfAppended, FoldOfZipped, words_folded}
use Rattle.lanes.specs.Lanes.{lanewise}

-- two pairs, taken together the other way
pairs : (op : ℕ → ℕ → ℕ) → Associates op → Commutes op → (a b x y : ℕ) → op (op a b) (op x y) ≡ op (op a x) (op b y)
pairs op assoc comm a b x y =
    assoc a b (op x y) ∙ ap (op a) (sym (assoc b x y) ∙ ap (λ n. op n y) (comm b x) ∙ assoc x b y) ∙ sym (assoc a x (op b y))

pub fold_zipped : (op : ℕ → ℕ → ℕ) → Associates op → Commutes op → (a b : ℕ) (xs ys : List ℕ) → length xs ≡ length ys
    → fold op (op a b) (lanewise op xs ys) ≡ op (fold op a xs) (fold op b ys)
fold_zipped op assoc comm a b [] [] e = refl
fold_zipped op assoc comm a b [] (y ∷ ys) e = absurd (omega arith)
fold_zipped op assoc comm a b (x ∷ xs) [] e = absurd (omega arith)
fold_zipped op assoc comm a b (x ∷ xs) (y ∷ ys) e =
    ap (λ n. fold op n (lanewise op xs ys)) (pairs op assoc comm a b x y) ∙ fold_zipped op assoc comm (op a x) (op b y) xs ys (omega arith)

folded_zipped : (op : ℕ → ℕ → ℕ) → Associates op → Commutes op → (xs ys : List ℕ) → length xs ≡ length ys → 0 < length xs
    → words_folded op (lanewise op xs ys) ≡ op (words_folded op xs) (words_folded op ys)
folded_zipped op assoc comm [] ys e some = absurd (omega arith)
folded_zipped op assoc comm (x ∷ xs) [] e some = absurd (omega arith)
folded_zipped op assoc comm (x ∷ xs) (y ∷ ys) e some = fold_zipped op assoc comm x y xs ys (omega arith)

pub fold_of_zipped : FoldOfZipped
fold_of_zipped = record { started = fold_zipped; from_first = folded_zipped }

pub fold_from_first : FoldFromFirst
fold_from_first op start [] some same = absurd (omega arith)
fold_from_first op start (x ∷ xs) some same = ap (λ n. fold op n xs) same

-- a fold with its start taken out
started_out : (op : ℕ → ℕ → ℕ) → Associates op → (a x : ℕ) (xs : List ℕ) → fold op (op a x) xs ≡ op a (fold op x xs)
started_out op assoc a x [] = refl
started_out op assoc a x (y ∷ ys) = ap (λ n. fold op n ys) (assoc a x y) ∙ started_out op assoc a (op x y) ys

pub fold_of_appended : FoldOfAppended
fold_of_appended op assoc [] ys some some_too = absurd (omega arith)
fold_of_appended op assoc (x ∷ xs) [] some some_too = absurd (omega arith)
fold_of_appended op assoc (x ∷ xs) (y ∷ ys) some some_too =
    fold-append op x xs (y ∷ ys) ∙ started_out op assoc (fold op x xs) y ys
