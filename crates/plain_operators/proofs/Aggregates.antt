-- Aggregates give the same for the same bag, and of appended rows they are combined.
use Rattle.std.proofs.Common.{◌≡◌, ℕ, ◌+◌, ◌-◌, ◌%◌, ◌^◌, ◌≤◌, min, max, List, [], ◌∷◌, ◌++◌, map, refl, ap, ◌∙◌, sym, arith}
use Rattle.std.specs.List.{fold, sum}
use Rattle.std.proofs.Math.Nat.{add-mod-mod, add_assoc, add_comm, max_comm, min_comm, mod-add-mod}
use Rattle.std.proofs.lemmas.List.{length-append, map-append}
use Rattle.std.proofs.lemmas.List.Sums.{fold-append, sum_by-append}
use Rattle.bags.specs.Bag.{SameBag, row_eq}
use Rattle.plain_operators.specs.Columns.{cut, word_at}
use Rattle.plain_operators.specs.declared.aggregate.Aggregate.{Aggregate}
use Rattle.plain_operators.specs.declared.aggregate.Aggregate.TheVariants.{Sum, Count, Least, Greatest}
use Rattle.plain_operators.specs.Operators.{aggregated, aggregates_of, grouped_row}
use Rattle.plain_operators.specs.Regroup.{AggregatesOfAppend}
use Rattle.plain_operators.proofs.BagFacts.{BagLaws}

pub min_assoc : (x y z : ℕ) → min (min x y) z ≡ min x (min y z)
min_assoc x y z = omega arith

pub max_assoc : (x y z : ℕ) → max (max x y) z ≡ max x (max y z)
max_assoc x y z = omega arith

-- a fold over a column by an operation whose operands may be regrouped and exchanged
fold_column : BagLaws → (op : ℕ → ℕ → ℕ) → ((x y z : ℕ) → op (op x y) z ≡ op x (op y z)) → ((x y : ℕ) → op x y ≡ op y x) → (start column : ℕ) {xs ys : List (List ℕ)} → SameBag xs ys
    → fold op start (map (word_at column) xs) ≡ fold op start (map (word_at column) ys)
fold_column laws op assoc comm start column {xs} {ys} h = laws.folds op assoc comm (map (word_at column) xs) (map (word_at column) ys) (laws.words.column (word_at column) xs ys h) start

pub aggregated-SameBag : BagLaws → (aggregate : Aggregate) {xs ys : List (List ℕ)} → SameBag xs ys → aggregated aggregate xs ≡ aggregated aggregate ys
aggregated-SameBag laws (Sum column) h = ap (λ n. n % 2 ^ 64) (fold_column laws (λ a x. a + x) add_assoc add_comm 0 column h)
aggregated-SameBag laws Count {xs} {ys} h = laws.keep.lengths xs ys h
aggregated-SameBag laws (Least column) h = fold_column laws min min_assoc min_comm (2 ^ 64 - 1) column h
aggregated-SameBag laws (Greatest column) h = fold_column laws max max_assoc max_comm 0 column h

pub aggregates_of-SameBag : BagLaws → (aggregates : List Aggregate) {xs ys : List (List ℕ)} → SameBag xs ys → aggregates_of aggregates xs ≡ aggregates_of aggregates ys
aggregates_of-SameBag laws [] h = refl
aggregates_of-SameBag laws (aggregate ∷ rest) h = λ i. aggregated-SameBag laws aggregate h i ∷ aggregates_of-SameBag laws rest h i

pub grouped_row-SameBag : BagLaws → (keys : List ℕ) (aggregates : List Aggregate) {xs ys : List (List ℕ)} → SameBag xs ys → (key : List ℕ) → grouped_row keys aggregates xs key ≡ grouped_row keys aggregates ys key
grouped_row-SameBag laws keys aggregates {xs} {ys} h key = ap (λ words. key ++ words) (aggregates_of-SameBag laws aggregates (laws.filters (λ row. row_eq (cut keys row) key) xs ys h))

fold_min_out : (start a : ℕ) (words : List ℕ) → fold min (min start a) words ≡ min a (fold min start words)
fold_min_out start a [] = omega arith
fold_min_out start a (w ∷ ws) =
    let moved : min (min start a) w ≡ min (min start w) a = omega arith in
    ap (λ s. fold min s ws) moved ∙ fold_min_out (min start w) a ws

fold_max_out : (start a : ℕ) (words : List ℕ) → fold max (max start a) words ≡ max a (fold max start words)
fold_max_out start a [] = omega arith
fold_max_out start a (w ∷ ws) =
    let moved : max (max start a) w ≡ max (max start w) a = omega arith in
    ap (λ s. fold max s ws) moved ∙ fold_max_out (max start w) a ws

pub fold_min_below : (start : ℕ) (words : List ℕ) → fold min start words ≤ start
fold_min_below start [] = omega arith
fold_min_below start (w ∷ ws) = let rest = fold_min_below (min start w) ws in omega arith

pub aggregates_of_append : AggregatesOfAppend
aggregates_of_append (Sum column) xs ys =
    let us = map (word_at column) xs in
    let vs = map (word_at column) ys in
    let total : sum (map (word_at column) (xs ++ ys)) ≡ sum us + sum vs = ap sum (map-append (word_at column) xs ys) ∙ sum_by-append (λ w. w) us vs in
    ap (λ n. n % 2 ^ 64) total ∙ sym (mod-add-mod (sum us) (2 ^ 64) (sum vs)) ∙ sym (add-mod-mod (sum us % 2 ^ 64) (sum vs) (2 ^ 64))
aggregates_of_append Count xs ys = length-append xs ys
aggregates_of_append (Least column) xs ys =
    let top = 2 ^ 64 - 1 in
    let us = map (word_at column) xs in
    let vs = map (word_at column) ys in
    let a = fold min top us in
    let below = fold_min_below top us in
    let start : a ≡ min top a = omega arith in
    ap (fold min top) (map-append (word_at column) xs ys) ∙ fold-append min top us vs ∙ ap (λ s. fold min s vs) start ∙ fold_min_out top a vs
aggregates_of_append (Greatest column) xs ys =
    let us = map (word_at column) xs in
    let vs = map (word_at column) ys in
    let a = fold max 0 us in
    let start : a ≡ max 0 a = omega arith in
    ap (fold max 0) (map-append (word_at column) xs ys) ∙ fold-append max 0 us vs ∙ ap (λ s. fold max s vs) start ∙ fold_max_out 0 a vs
