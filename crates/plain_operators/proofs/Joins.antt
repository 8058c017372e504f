-- Joins: the same bags on both sides give the same bag, and so does a right side in two parts.
use Rattle.std.proofs.Common.{◌≡◌, ℕ, List, ◌++◌, map, ap, ◌∙◌, refl}
use Rattle.std.specs.List.{filter}
use Rattle.std.proofs.lemmas.List.{map-append}
use Rattle.std.proofs.lemmas.List.Elements.{filter-append}
use Rattle.bags.specs.Bag.{SameBag}
use Rattle.bags.specs.Laws.{BagsOfFlatMap}
use Rattle.plain_operators.specs.Operators.{have_equal_keys, joined_row, joined_rows, joined_rows_of}
use Rattle.plain_operators.proofs.BagFacts.{BagLaws, bag_along, bag_of_parts, same_bag}

pub joined_rows_of-append : (keys : List (ℕ × ℕ)) (xs ys : List (List ℕ)) (left : List ℕ) → joined_rows_of keys (xs ++ ys) left ≡ joined_rows_of keys xs left ++ joined_rows_of keys ys left
joined_rows_of-append keys xs ys left =
    let p = have_equal_keys keys left in
    ap (map (joined_row keys left)) (filter-append p xs ys) ∙ map-append (joined_row keys left) (filter p xs) (filter p ys)

pub joined_rows_of-SameBag : BagLaws → (keys : List (ℕ × ℕ)) {xs ys : List (List ℕ)} → SameBag xs ys → (left : List ℕ) → SameBag (joined_rows_of keys xs left) (joined_rows_of keys ys left)
joined_rows_of-SameBag laws keys {xs} {ys} h left =
    let p = have_equal_keys keys left in
    laws.maps (joined_row keys left) (filter p xs) (filter p ys) (laws.filters p xs ys h)

pub joined_rows-SameBag : BagLaws → (keys : List (ℕ × ℕ)) {xs ys us vs : List (List ℕ)} → SameBag xs ys → SameBag us vs → SameBag (joined_rows keys xs us) (joined_rows keys ys vs)
joined_rows-SameBag laws keys {xs} {ys} {us} {vs} h k = laws.flat_maps (joined_rows_of keys us) (joined_rows_of keys vs) xs ys (joined_rows_of-SameBag laws keys k) h

pub joined_rows-append_right : BagsOfFlatMap → (keys : List (ℕ × ℕ)) (lefts xs ys : List (List ℕ)) → SameBag (joined_rows keys lefts (xs ++ ys)) (joined_rows keys lefts xs ++ joined_rows keys lefts ys)
joined_rows-append_right flat_maps keys lefts xs ys =
    let each = λ (left : List ℕ). same_bag (joined_rows_of-append keys xs ys left) in
    let parts = λ (left : List ℕ). joined_rows_of keys xs left ++ joined_rows_of keys ys left in
    bag_along (flat_maps (joined_rows_of keys (xs ++ ys)) parts lefts lefts each (same_bag refl)) (bag_of_parts (joined_rows_of keys xs) (joined_rows_of keys ys) lefts)
