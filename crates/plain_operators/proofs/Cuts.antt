-- Operators on rows of which only some columns are looked at.
use Rattle.std.proofs.Common.{◌≡◌, ℕ, ◌+◌, ◌-◌, ◌%◌, ◌^◌, min, max, nat_eq, Bool, true, false, cond, ◌&&◌, List, [], ◌∷◌, ◌++◌, map, length, refl, sym, ◌∙◌, ap, arith}
use Rattle.std.specs.List.{All, filter, flat_map, list_all}
use Rattle.std.proofs.lemmas.Bool.Decides.{nat_tests}
use Rattle.std.proofs.lemmas.List.{length-map, map-id}
use Rattle.std.proofs.Math.Nat.{add_assoc, add_comm, max_comm, min_comm}
use Rattle.std.proofs.lemmas.List.Elements.{All-filter, All-head, All-map, All-tail, All-weaker}
use Rattle.bags.specs.Bag.{SameBag, row_eq}
use Rattle.bags.specs.Images.{BagsOfTestedImages}
use Rattle.bags.specs.Laws.{BagsKeepRows, BagsOfAppend, BagsOfMap}
use Rattle.bags.specs.Words.{FoldOfWords, SameWords}
use Rattle.plain_operators.specs.Columns.{cut, word_at}
use Rattle.plain_operators.specs.declared.aggregate.Aggregate.{Aggregate}
use Rattle.plain_operators.specs.Sizes.{AllWide}
use Rattle.plain_operators.specs.Operators.{distinct_rows, grouped_row, grouped_rows, have_equal_keys, joined_row, joined_rows, joined_rows_of, key_lists, left_keys, right_keys, rows_of_items, rows_with}
use Rattle.plain_operators.specs.Cuts.{AggregatesOfCuts, CutsAgree, DependsOn, GroupDependsOn, JoinDependsOn, OperatorsOfCuts, SameCut}
use Rattle.plain_operators.proofs.Aggregates.{max_assoc, min_assoc}
use Rattle.plain_operators.proofs.BagFacts.{bag_along, same_bag}
use Rattle.plain_operators.proofs.DistinctRows.{All-distinct_rows, SameBag-distinct_rows}
use Rattle.plain_operators.proofs.Lists.{All-each, flat_map_same, map_agree, map-flat_map, map_map}
use Rattle.plain_operators.proofs.Sizes.{length-cut}

-- the laws of bags on which these stand
pub record CutLaws : Type 0 where
  pub keep : BagsKeepRows
  pub append : BagsOfAppend
  pub maps : BagsOfMap
  pub images : BagsOfTestedImages
  pub folds : FoldOfWords

-- rows of one width, as rows that pass a test
abbrev is_wide : ℕ → List ℕ → Bool
is_wide width row = nat_eq (length row) width

wide_passes : (width : ℕ) (row : List ℕ) → length row ≡ width → is_wide width row ≡ true
wide_passes width row long = grind (arith, nat_tests)

passes_wide : (width : ℕ) (row : List ℕ) → is_wide width row ≡ true → length row ≡ width
passes_wide width row passes = grind (arith, nat_tests)

all_pass : (width : ℕ) (rows : List (List ℕ)) → AllWide width rows → All (λ row. is_wide width row ≡ true) rows
all_pass width rows wide = All-weaker (λ row. length row ≡ width) (λ row. is_wide width row ≡ true) (wide_passes width) rows wide

map_in_pieces : {X : Type 0} (f : List ℕ → X) (xs : List (List ℕ)) → map f xs ≡ flat_map (λ x. f x ∷ []) xs
map_in_pieces f [] = refl
map_in_pieces f (x ∷ xs) = ap (λ l. f x ∷ l) (map_in_pieces f xs)

kept_in_pieces : (p : List ℕ → Bool) (f : List ℕ → List ℕ) (xs : List (List ℕ)) → map f (filter p xs) ≡ flat_map (λ x. cond (p x) (f x ∷ []) []) xs
kept_in_pieces p f [] = refl
kept_in_pieces p f (x ∷ xs) = by (p x) (kept_in_pieces p f xs)
  where
    by : (b : Bool) → map f (filter p xs) ≡ flat_map (λ y. cond (p y) (f y ∷ []) []) xs
        → map f (cond b (x ∷ filter p xs) (filter p xs)) ≡ cond b (f x ∷ []) [] ++ flat_map (λ y. cond (p y) (f y ∷ []) []) xs
    by true rest = ap (λ l. f x ∷ l) rest
    by false rest = rest

-- pieces that depend on the columns up to the bag
flat_cuts : CutLaws → (width : ℕ) (columns : List ℕ) (f : List ℕ → List (List ℕ)) {xs ys : List (List ℕ)} → ((a b : List ℕ) → length a ≡ width → length b ≡ width → cut columns a ≡ cut columns b → SameBag (f a) (f b))
    → SameCut width columns xs ys → SameBag (flat_map f xs) (flat_map f ys)
flat_cuts laws width columns f {xs} {ys} each same =
    laws.images.rows (is_wide width) (cut columns) f xs ys (λ a b p q e. each a b (passes_wide width a p) (passes_wide width b q) e) (all_pass width xs same.wide) (all_pass width ys same.wide_too) same.bag

-- a test that depends on the columns keeps rows with the same bag of cuts
kept_cuts : CutLaws → (width : ℕ) (columns : List ℕ) (p : List ℕ → Bool) {xs ys : List (List ℕ)} → DependsOn width columns p → SameCut width columns xs ys → SameCut width columns (filter p xs) (filter p ys)
kept_cuts laws width columns p {xs} {ys} depends same =
    let Q : List ℕ → Type 0 = λ row. length row ≡ width in
    let piece = λ (row : List ℕ). cond (p row) (cut columns row ∷ []) [] in
    record {
      wide = All-filter p Q xs same.wide;
      wide_too = All-filter p Q ys same.wide_too;
      bag = bag_along (same_bag (kept_in_pieces p (cut columns) xs))
          (bag_along (flat_cuts laws width columns piece (λ a b q r e. same_bag (λ i. cond (depends a b q r e i) (e i ∷ []) [])) same) (same_bag (sym (kept_in_pieces p (cut columns) ys))));
    }

-- several tests are one
all_depend : (width : ℕ) (columns : List ℕ) (tests : List (List ℕ → Bool)) → All (DependsOn width columns) tests → DependsOn width columns (λ row. list_all (λ test. test row) tests)
all_depend width columns [] all a b q r e = refl
all_depend width columns (test ∷ tests) all a b q r e =
    let first = All-head (DependsOn width columns) test tests all a b q r e in
    let rest = all_depend width columns tests (All-tail (DependsOn width columns) test tests all) a b q r e in
    λ i. first i && rest i

-- a function of rows that depends on the columns
mapped_cuts : CutLaws → (width : ℕ) (columns : List ℕ) (f : List ℕ → List ℕ) {xs ys : List (List ℕ)} → DependsOn width columns f → SameCut width columns xs ys → SameBag (map f xs) (map f ys)
mapped_cuts laws width columns f {xs} {ys} depends same =
    bag_along (same_bag (map_in_pieces f xs))
    (bag_along (flat_cuts laws width columns (λ row. f row ∷ []) (λ a b q r e. same_bag (ap (λ x. x ∷ []) (depends a b q r e))) same) (same_bag (sym (map_in_pieces f ys))))

word_cuts : CutLaws → (width : ℕ) (columns : List ℕ) (f : List ℕ → ℕ) {xs ys : List (List ℕ)} → DependsOn width columns f → SameCut width columns xs ys → SameWords (map f xs) (map f ys)
word_cuts laws width columns f {xs} {ys} depends same =
    laws.images.words (is_wide width) (cut columns) f xs ys (λ a b p q e. depends a b (passes_wide width a p) (passes_wide width b q) e) (all_pass width xs same.wide) (all_pass width ys same.wide_too) same.bag

-- pieces that are the same bag for each element of a list
pieces_on : CutLaws → {X : Type 0} (f g : X → List (List ℕ)) (xs : List X) → All (λ x. SameBag (f x) (g x)) xs → SameBag (flat_map f xs) (flat_map g xs)
pieces_on laws f g [] all = same_bag refl
pieces_on laws f g (x ∷ xs) all = laws.append.both (f x) (g x) (flat_map f xs) (flat_map g xs) (All-head (λ z. SameBag (f z) (g z)) x xs all) (pieces_on laws f g xs (All-tail (λ z. SameBag (f z) (g z)) x xs all))

items_cuts : CutLaws → (width : ℕ) (columns wanted : List ℕ) (items : List (List ℕ → ℕ)) (xs ys : List (List ℕ)) → DependsOn width columns (λ row. cut wanted (map (λ item. item row) items)) → SameCut width columns xs ys → CutsAgree wanted (rows_of_items items xs) (rows_of_items items ys)
items_cuts laws width columns wanted items xs ys depends same =
    let made = λ (row : List ℕ). map (λ (item : List ℕ → ℕ). item row) items in
    bag_along (same_bag (map_map (cut wanted) made xs)) (bag_along (mapped_cuts laws width columns (λ row. cut wanted (made row)) depends same) (same_bag (sym (map_map (cut wanted) made ys))))

-- the wanted columns of the joined rows of one left row
wanted_of : List (ℕ × ℕ) → List ℕ → List (List ℕ) → List ℕ → List (List ℕ)
wanted_of keys wanted rights left = map (λ right. cut wanted (joined_row keys left right)) (filter (have_equal_keys keys left) rights)

joined_wanted : (keys : List (ℕ × ℕ)) (wanted : List ℕ) (lefts rights : List (List ℕ)) → map (cut wanted) (joined_rows keys lefts rights) ≡ flat_map (wanted_of keys wanted rights) lefts
unfolding wanted_of
joined_wanted keys wanted lefts rights =
    map-flat_map (cut wanted) (joined_rows_of keys rights) lefts
    ∙ flat_map_same (λ left. map (cut wanted) (joined_rows_of keys rights left)) (wanted_of keys wanted rights) (λ left. map_map (cut wanted) (joined_row keys left) (filter (have_equal_keys keys left) rights)) lefts

module _ (laws : CutLaws) (keys : List (ℕ × ℕ)) (left_width right_width : ℕ) (left right wanted : List ℕ) (depends : JoinDependsOn keys left_width right_width left right wanted) where
  -- left rows with equal cuts have equal wanted rows
  same_left : DependsOn left_width left (cut (left_keys keys)) → (rights : List (List ℕ)) → All (λ row. length row ≡ right_width) rights
      → (a b : List ℕ) → length a ≡ left_width → length b ≡ left_width → cut left a ≡ cut left b → wanted_of keys wanted rights a ≡ wanted_of keys wanted rights b
  unfolding wanted_of
  same_left lefts_depend rights wide a b long long_too e =
      let kept : filter (have_equal_keys keys a) rights ≡ filter (have_equal_keys keys b) rights = ap (λ key. filter (λ row. row_eq key (cut (right_keys keys) row)) rights) (lefts_depend a b long long_too e) in
      let f = λ (row : List ℕ). cut wanted (joined_row keys a row) in
      let g = λ (row : List ℕ). cut wanted (joined_row keys b row) in
      let agree : All (λ row. f row ≡ g row) (filter (have_equal_keys keys a) rights) = All-weaker (λ row. length row ≡ right_width) (λ row. f row ≡ g row) (λ row fits. depends a b row row long long_too fits fits e refl)
      (filter (have_equal_keys keys a) rights) (All-filter (have_equal_keys keys a) (λ row. length row ≡ right_width) rights wide) in
      map_agree f g (filter (have_equal_keys keys a) rights) agree ∙ ap (map g) kept

  -- right rows with the same bag of cuts have the same bag of wanted rows
  same_right : DependsOn right_width right (cut (right_keys keys)) → (us vs : List (List ℕ)) → SameCut right_width right us vs → (a : List ℕ) → length a ≡ left_width → SameBag (wanted_of keys wanted us a) (wanted_of keys wanted vs a)
  unfolding wanted_of
  same_right rights_depend us vs same a long =
      let tested : DependsOn right_width right (have_equal_keys keys a) = λ u v fits fits_too e. ap (row_eq (cut (left_keys keys) a)) (rights_depend u v fits fits_too e) in
      let made : DependsOn right_width right (λ row. cut wanted (joined_row keys a row)) = λ u v fits fits_too e. depends a a u v long long fits fits_too refl e in
      mapped_cuts laws right_width right (λ row. cut wanted (joined_row keys a row)) made (kept_cuts laws right_width right (have_equal_keys keys a) tested same)

  joined_cuts : DependsOn left_width left (cut (left_keys keys)) → DependsOn right_width right (cut (right_keys keys)) → (xs ys us vs : List (List ℕ))
      → SameCut left_width left xs ys → SameCut right_width right us vs → CutsAgree wanted (joined_rows keys xs us) (joined_rows keys ys vs)
  joined_cuts lefts_depend rights_depend xs ys us vs same same_too =
      let moved = flat_cuts laws left_width left (wanted_of keys wanted us) (λ a b long long_too e. same_bag (same_left lefts_depend us same_too.wide a b long long_too e)) same in
      let replaced = pieces_on laws (wanted_of keys wanted us) (wanted_of keys wanted vs) ys
      (All-weaker (λ row. length row ≡ left_width) (λ row. SameBag (wanted_of keys wanted us row) (wanted_of keys wanted vs row)) (same_right rights_depend us vs same_too) ys same.wide_too) in
      bag_along (same_bag (joined_wanted keys wanted xs us)) (bag_along moved (bag_along replaced (same_bag (sym (joined_wanted keys wanted ys vs)))))

distinct_cuts : CutLaws → (width : ℕ) (columns : List ℕ) (xs ys : List (List ℕ)) → DependsOn width columns (λ row. row) → SameCut width columns xs ys → SameBag (distinct_rows xs) (distinct_rows ys)
distinct_cuts laws width columns xs ys depends same =
    let whole : SameBag (map (λ row. row) xs) (map (λ row. row) ys) = mapped_cuts laws width columns (λ row. row) depends same in
    SameBag-distinct_rows (bag_along (same_bag (sym (map-id xs))) (bag_along whole (same_bag (map-id ys))))

grouped_cuts : CutLaws → (keys : List ℕ) (aggregates : List Aggregate) (width : ℕ) (columns wanted : List ℕ) (xs ys : List (List ℕ)) → DependsOn width columns (cut keys) → GroupDependsOn (length keys) aggregates width columns wanted
    → SameCut width columns xs ys → CutsAgree wanted (grouped_rows keys aggregates xs) (grouped_rows keys aggregates ys)
grouped_cuts laws keys aggregates width columns wanted xs ys keyed depends same =
    let lists : SameBag (key_lists keys xs) (key_lists keys ys) = SameBag-distinct_rows (mapped_cuts laws width columns (cut keys) keyed same) in
    let f = λ (key : List ℕ). cut wanted (grouped_row keys aggregates xs key) in
    let g = λ (key : List ℕ). cut wanted (grouped_row keys aggregates ys key) in
    let P : List ℕ → Type 0 = λ key. length key ≡ length keys in
    let each : (key : List ℕ) → P key → f key ≡ g key = λ key long.
    depends key (rows_with keys xs key) (rows_with keys ys key) long (kept_cuts laws width columns (λ row. row_eq (cut keys row) key) (λ a b long long_too e. ap (λ own. row_eq own key) (keyed a b long long_too e)) same) in
    let long : All P (key_lists keys ys) = All-distinct_rows P (map (cut keys) ys) (All-map P (cut keys) ys (All-each (λ row. P (cut keys row)) (length-cut keys) ys)) in
    let agree = map_agree f g (key_lists keys ys) (All-weaker P (λ key. f key ≡ g key) each (key_lists keys ys) long) in
    bag_along (same_bag (map_map (cut wanted) (grouped_row keys aggregates xs) (key_lists keys xs)))
    (bag_along (laws.maps f (key_lists keys xs) (key_lists keys ys) lists) (same_bag (agree ∙ sym (map_map (cut wanted) (grouped_row keys aggregates ys) (key_lists keys ys)))))

pub operators_of_cuts : CutLaws → OperatorsOfCuts
operators_of_cuts laws = record {
  fewer = λ width columns wanted xs ys depends same. mapped_cuts laws width columns (cut wanted) depends same;
  kept = λ width columns tests xs ys all same. (let p = λ (row : List ℕ). list_all (λ (test : List ℕ → Bool). test row) tests in let rows : SameCut width columns (filter p xs) (filter p ys) = kept_cuts laws width columns p (all_depend width columns tests all) same in rows.bag);
  items = items_cuts laws;
  joined = λ keys left_width right_width left right wanted xs ys us vs lefts_depend rights_depend depends. joined_cuts laws keys left_width right_width left right wanted depends lefts_depend rights_depend xs ys us vs;
  distinct = distinct_cuts laws;
  grouped = grouped_cuts laws;
}

pub aggregates_of_cuts : CutLaws → AggregatesOfCuts
aggregates_of_cuts laws = record {
  counts = λ width columns xs ys same. sym (length-map xs (cut columns)) ∙ laws.keep.lengths (map (cut columns) xs) (map (cut columns) ys) same.bag ∙ length-map ys (cut columns);
  words = λ width columns column xs ys depends same.
      (let us = map (word_at column) xs in
      let vs = map (word_at column) ys in
      let words : SameWords us vs = word_cuts laws width columns (word_at column) depends same in
      (ap (λ n. n % 2 ^ 64) (laws.folds (λ a x. a + x) add_assoc add_comm us vs words 0), laws.folds min min_assoc min_comm us vs words (2 ^ 64 - 1), laws.folds max max_assoc max_comm us vs words 0));
}
