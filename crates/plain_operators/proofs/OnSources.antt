-- Operators on a list of sources.
use Rattle.std.proofs.Common.{◌≡◌, ℕ, zero, suc, ◌+◌, ◌*◌, ◌≤◌, List, [], ◌∷◌, map, length, get_or, sum, refl, sym, ◌∙◌, ap, subst, arith}
use Rattle.std.specs.List.{All, AllZip, flat_map, fold}
use Rattle.std.proofs.Math.Nat.{mul-le-mul}
use Rattle.std.proofs.lemmas.List.{length-map}
use Rattle.std.proofs.lemmas.List.Concat.{length-flat_map}
use Rattle.std.proofs.lemmas.List.Sums.{sum-map}
use Rattle.std.proofs.lemmas.List.Elements.{All-cons, All-head, All-nil, All-tail}
use Rattle.bags.specs.Bag.{SameBag}
use Rattle.bags.specs.Laws.{BagsOfConcat}
use Rattle.plain_operators.specs.declared.aggregate.Aggregate.{Aggregate}
use Rattle.plain_operators.specs.Items.{holds_of, item_word}
use Rattle.plain_operators.specs.Laws.{OperatorsKeepBags}
use Rattle.plain_operators.specs.OnSources.{Operator, OperatorKeepsBags, OperatorKeepsSize, OperatorKeepsWidth, Concat, Distinct, Filter, Group, Join, Select, group_of_rows, group_size, operator_rows, operator_size, source_rows}
use Rattle.plain_operators.specs.Sizes.{AllWide, OperatorCounts, OperatorsKeepWidths}
use Rattle.plain_operators.proofs.Lists.{All-flat_map}

-- ---- bags

no_rows : SameBag [] []
no_rows = record { counts = λ row. refl }

-- the sources with this number are the same bag
same_source : (xs ys : List (List (List ℕ))) → AllZip SameBag xs ys → (k : ℕ) → SameBag (source_rows xs k) (source_rows ys k)
same_source [] [] h k = no_rows
same_source [] (y ∷ ys) h k = absurd h
same_source (x ∷ xs) [] h k = absurd h
same_source (x ∷ xs) (y ∷ ys) h zero = h.0
same_source (x ∷ xs) (y ∷ ys) h (suc k) = same_source xs ys h.1 k

same_group : OperatorsKeepBags → (keys : List ℕ) (aggregates : List Aggregate) (xs ys : List (List ℕ)) → SameBag xs ys → SameBag (group_of_rows keys aggregates xs) (group_of_rows keys aggregates ys)
same_group laws [] aggregates xs ys h = subst (SameBag (group_of_rows [] aggregates xs)) (laws.whole aggregates xs ys h) (record { counts = λ row. refl })
same_group laws (key ∷ keys) aggregates xs ys h = laws.grouped (key ∷ keys) aggregates xs ys h

pub operator_keeps_bags : BagsOfConcat → OperatorsKeepBags → OperatorKeepsBags
operator_keeps_bags concats laws (Filter tests) xs ys h = laws.kept (map holds_of tests) (source_rows xs 0) (source_rows ys 0) (same_source xs ys h 0)
operator_keeps_bags concats laws (Select items) xs ys h = laws.items (map item_word items) (source_rows xs 0) (source_rows ys 0) (same_source xs ys h 0)
operator_keeps_bags concats laws Concat xs ys h = concats.each xs ys h
operator_keeps_bags concats laws (Join keys) xs ys h =
    laws.joined keys (source_rows xs 0) (source_rows ys 0) (source_rows xs 1) (source_rows ys 1) (same_source xs ys h 0) (same_source xs ys h 1)
operator_keeps_bags concats laws (Group keys aggregates) xs ys h = same_group laws keys aggregates (source_rows xs 0) (source_rows ys 0) (same_source xs ys h 0)
operator_keeps_bags concats laws Distinct xs ys h = laws.distinct (source_rows xs 0) (source_rows ys 0) (same_source xs ys h 0)

-- ---- widths

wide_source : (widths : List ℕ) (sources : List (List (List ℕ))) → AllZip AllWide widths sources → (k : ℕ) → AllWide (get_or widths k 0) (source_rows sources k)
wide_source [] [] h k = All-nil (λ row. length row ≡ 0)
wide_source [] (rows ∷ sources) h k = absurd h
wide_source (width ∷ widths) [] h k = absurd h
wide_source (width ∷ widths) (rows ∷ sources) h zero = h.0
wide_source (width ∷ widths) (rows ∷ sources) h (suc k) = wide_source widths sources h.1 k

alike_sources : (width : ℕ) (widths : List ℕ) (sources : List (List (List ℕ))) → All (λ w. w ≡ width) widths → AllZip AllWide widths sources → All (AllWide width) sources
alike_sources width [] [] alike h = All-nil (AllWide width)
alike_sources width [] (rows ∷ sources) alike h = absurd h
alike_sources width (w ∷ widths) [] alike h = absurd h
alike_sources width (w ∷ widths) (rows ∷ sources) alike h =
    let same = All-head (λ v. v ≡ width) w widths alike in
    All-cons (AllWide width) rows sources (subst (λ (v : ℕ). AllWide v rows) same h.0) (alike_sources width widths sources (All-tail (λ v. v ≡ width) w widths alike) h.1)

wide_group : OperatorsKeepWidths → (keys : List ℕ) (aggregates : List Aggregate) (rows : List (List ℕ)) → AllWide (length keys + length aggregates) (group_of_rows keys aggregates rows)
wide_group laws [] aggregates rows = subst (λ (n : ℕ). AllWide n (group_of_rows [] aggregates rows)) (omega arith) (laws.whole aggregates rows)
wide_group laws (key ∷ keys) aggregates rows = laws.grouped (key ∷ keys) aggregates rows

pub operator_keeps_width : OperatorsKeepWidths → OperatorKeepsWidth
operator_keeps_width laws (Filter tests) widths sources alike h = laws.kept (map holds_of tests) (get_or widths 0 0) (source_rows sources 0) (wide_source widths sources h 0)
operator_keeps_width laws (Select items) widths sources alike h =
    subst (λ (n : ℕ). AllWide n (operator_rows (Select items) sources)) (length-map items item_word) (laws.items (map item_word items) (source_rows sources 0))
operator_keeps_width laws Concat widths sources alike h =
    All-flat_map (λ row. length row ≡ get_or widths 0 0) (λ rows. rows) sources (alike_sources (get_or widths 0 0) widths sources alike h)
operator_keeps_width laws (Join keys) widths sources alike h =
    laws.joined keys (get_or widths 0 0) (get_or widths 1 0) (source_rows sources 0) (source_rows sources 1) (wide_source widths sources h 0) (wide_source widths sources h 1)
operator_keeps_width laws (Group keys aggregates) widths sources alike h = wide_group laws keys aggregates (source_rows sources 0)
operator_keeps_width laws Distinct widths sources alike h = laws.distinct (get_or widths 0 0) (source_rows sources 0) (wide_source widths sources h 0)

-- ---- sizes

size_of_source : (sources : List (List (List ℕ))) (k : ℕ) → length (source_rows sources k) ≡ get_or (map (λ rows. length rows) sources) k 0
size_of_source [] k = refl
size_of_source (rows ∷ sources) zero = refl
size_of_source (rows ∷ sources) (suc k) = size_of_source sources k

most_of_group : OperatorCounts → (keys : List ℕ) (aggregates : List Aggregate) (rows : List (List ℕ)) (size : ℕ) → length rows ≡ size → length (group_of_rows keys aggregates rows) ≤ group_size keys size
most_of_group laws [] aggregates rows size e = laws.whole aggregates rows
most_of_group laws (key ∷ keys) aggregates rows size e = let most = laws.grouped (key ∷ keys) aggregates rows in omega arith

most_rows : OperatorCounts → (operator : Operator) (sources : List (List (List ℕ))) → length (operator_rows operator sources) ≤ operator_size operator (map (λ rows. length rows) sources)
most_rows laws (Filter tests) sources = omega (arith, laws.kept (map holds_of tests) (source_rows sources 0), size_of_source sources 0)
most_rows laws (Select items) sources = omega (arith, laws.items (map item_word items) (source_rows sources 0), size_of_source sources 0)
most_rows laws Concat sources =
    let all : length (flat_map (λ (rows : List (List ℕ)). rows) sources) ≡ sum (map (λ rows. length rows) sources) = length-flat_map (λ (rows : List (List ℕ)). rows) sources ∙ sym (sum-map (λ (rows : List (List ℕ)). length rows) sources) in
    omega arith
most_rows laws (Join keys) sources =
    subst (λ (n : ℕ). length (operator_rows (Join keys) sources) ≤ n)
    (ap (λ n. n * length (source_rows sources 1)) (size_of_source sources 0) ∙ ap (λ n. get_or (map (λ rows. length rows) sources) 0 0 * n) (size_of_source sources 1))
    (laws.joined keys (source_rows sources 0) (source_rows sources 1))
most_rows laws (Group keys aggregates) sources = most_of_group laws keys aggregates (source_rows sources 0) (get_or (map (λ rows. length rows) sources) 0 0) (size_of_source sources 0)
most_rows laws Distinct sources = omega (arith, laws.distinct (source_rows sources 0), size_of_source sources 0)

risen : (sizes others : List ℕ) → AllZip (λ a b. a ≤ b) sizes others → (k : ℕ) → get_or sizes k 0 ≤ get_or others k 0
risen [] [] h k = omega arith
risen [] (y ∷ ys) h k = absurd h
risen (x ∷ xs) [] h k = absurd h
risen (x ∷ xs) (y ∷ ys) h zero = h.0
risen (x ∷ xs) (y ∷ ys) h (suc k) = risen xs ys h.1 k

risen_sum : (a b : ℕ) (sizes others : List ℕ) → a ≤ b → AllZip (λ x y. x ≤ y) sizes others → fold (λ n x. n + x) a sizes ≤ fold (λ n x. n + x) b others
risen_sum a b [] [] start h = start
risen_sum a b [] (y ∷ ys) start h = absurd h
risen_sum a b (x ∷ xs) [] start h = absurd h
risen_sum a b (x ∷ xs) (y ∷ ys) start h = let first = h.0 in risen_sum (a + x) (b + y) xs ys (omega arith) h.1

risen_group : (keys : List ℕ) (a b : ℕ) → a ≤ b → group_size keys a ≤ group_size keys b
risen_group [] a b h = omega arith
risen_group (key ∷ keys) a b h = h

size_rises : (operator : Operator) (sizes others : List ℕ) → AllZip (λ a b. a ≤ b) sizes others → operator_size operator sizes ≤ operator_size operator others
size_rises (Filter tests) sizes others h = risen sizes others h 0
size_rises (Select items) sizes others h = risen sizes others h 0
size_rises Concat sizes others h = risen_sum 0 0 sizes others (omega arith) h
size_rises (Join keys) sizes others h = mul-le-mul (risen sizes others h 0) (risen sizes others h 1)
size_rises (Group keys aggregates) sizes others h = risen_group keys (get_or sizes 0 0) (get_or others 0 0) (risen sizes others h 0)
size_rises Distinct sizes others h = risen sizes others h 0

pub operator_keeps_size : OperatorCounts → OperatorKeepsSize
operator_keeps_size laws = record { most = most_rows laws; rises = size_rises }
