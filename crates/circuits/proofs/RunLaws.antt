-- Runs of lanes: the laws on lists of words by which a scan of doubling reach folds them.
use Rattle.std.proofs.Common.{◌≡◌, ℕ, zero, suc, ◌+◌, ◌-◌, ◌*◌, ◌%◌, ◌<◌, ◌≤◌, ⊎_elim, inl, inr, min, true, false, cond, Bool, List, [], ◌∷◌, ◌++◌, length, map, get_or, refl, sym, ap, ◌∙◌, arith}
use Rattle.std.specs.Prelude.{◌⊎◌, bit_and, nat_eq, nat_le, Option, Some, None}
use Rattle.std.specs.List.{range_with_len}
use Rattle.std.proofs.Math.Seq.{get_or-append_seam}
use Rattle.std.proofs.lemmas.Bool.{cases_lt}
use Rattle.std.proofs.lemmas.Bool.Decides.{nat_tests}
use Rattle.std.proofs.lemmas.List.{get_or-map, get_or_append_left, length-map}
use Rattle.std.proofs.lemmas.List.FromFn.{fill_by_all, get_or-map-range_with_len, length-map-range_with_len}
use Rattle.std.proofs.lemmas.Nat.{and_mask}
use Rattle.lanes.specs.Lanes.{lanewise, lanewise1, picked}
use Rattle.lanes.specs.Sums.{chosen_word}
use Rattle.circuits.specs.declared.folds.Fold.{Fold}
use Rattle.circuits.specs.RunLoops.{further_folds, further_lanes, moved_lanes, near_folds, reaching_lanes, taken_word}
use Rattle.circuits.specs.Runs.{by_lane, fold_back, run_before, runs_copied, runs_folded}
use Rattle.circuits.specs.Values.{chosen_lanes}
use Rattle.circuits.proofs.LaneLists.{bit_cases, get_or-lanewise, get_or-picked, length-lanewise, length-picked}
use Rattle.circuits.proofs.FoldValues.{combined_assoc}

-- a word for each lane: its length, its words, and which list it is
pub length-by_lane : (f : ℕ → ℕ) (xs : List ℕ) → length (by_lane f xs) ≡ length xs
length-by_lane f xs = length-map-range_with_len f 0 (length xs)

pub get_or-by_lane : (f : ℕ → ℕ) (xs : List ℕ) (k : ℕ) → k < length xs → get_or (by_lane f xs) k 0 ≡ f k
get_or-by_lane f xs k inside = get_or-map-range_with_len f 0 (length xs) k k 0 inside (omega arith)

pub is_by_lane : (f : ℕ → ℕ) (ys xs : List ℕ) → length ys ≡ length xs → ((k : ℕ) → k < length xs → get_or ys k 0 ≡ f k) → ys ≡ by_lane f xs
is_by_lane f ys xs long h = fill_by_all f ys (length xs) 0 long h

-- a lane begins a run, or belongs to the run of the lane before
pub before_cases : (joined : List ℕ) (k : ℕ)
    → ((run_before joined (suc k) ≡ 0) × (get_or joined (suc k) 0 % 2 ≡ 0)) ⊎ ((run_before joined (suc k) ≡ suc (run_before joined k)) × (get_or joined (suc k) 0 % 2 ≡ 1))
unfolding run_before
before_cases joined k = ⊎_elim
    (λ (off : get_or joined (suc k) 0 % 2 ≡ 0). let no : nat_eq (get_or joined (suc k) 0 % 2) 1 ≡ false = grind (arith, nat_tests) in inl (ap (λ b. cond b (suc (run_before joined k)) 0) no, off))
    (λ (on : get_or joined (suc k) 0 % 2 ≡ 1). let yes : nat_eq (get_or joined (suc k) 0 % 2) 1 ≡ true = grind (arith, nat_tests) in inr (ap (λ b. cond b (suc (run_before joined k)) 0) yes, on))
    (bit_cases (get_or joined (suc k) 0 % 2) (omega arith))

pub none_before : (joined : List ℕ) → run_before joined 0 ≡ 0
unfolding run_before
none_before joined = refl

pub few_before : (joined : List ℕ) (k : ℕ) → run_before joined k ≤ k
few_before joined zero = omega (arith, none_before joined)
few_before joined (suc k) =
    let h = few_before joined k in
    ⊎_elim (λ begins. omega (arith, begins.0)) (λ goes_on. omega (arith, goes_on.0, h)) (before_cases joined k)

-- the lanes before an earlier lane of the run
earlier : (joined : List ℕ) (k m : ℕ) → m ≤ run_before joined k → run_before joined (k - m) ≡ run_before joined k - m
earlier joined zero m h =
    let at : 0 - m ≡ 0 = omega arith in
    let none : 0 ≡ run_before joined 0 - m = omega (arith, none_before joined) in
    ap (run_before joined) at ∙ none_before joined ∙ none
earlier joined (suc k) zero h =
    let at : suc k - 0 ≡ suc k = omega arith in
    let all : run_before joined (suc k) ≡ run_before joined (suc k) - 0 = omega arith in
    ap (run_before joined) at ∙ all
earlier joined (suc k) (suc m) h = ⊎_elim
    (λ begins. absurd (omega (arith, begins.0)))
    (λ goes_on.
    let at : suc k - suc m ≡ k - m = omega arith in
    let left : run_before joined k - m ≡ run_before joined (suc k) - suc m = omega (arith, goes_on.0) in
    ap (run_before joined) at ∙ earlier joined k m (omega (arith, goes_on.0)) ∙ left)
    (before_cases joined k)

-- a fold of neighbours is the fold of both
pub fold_joins : (op : ℕ → ℕ → ℕ) → ((x y z : ℕ) → op (op x y) z ≡ op x (op y z)) → (xs : List ℕ) (k d a : ℕ)
    → op (fold_back op xs (k - suc d) a) (fold_back op xs k d) ≡ fold_back op xs k (suc (a + d))
unfolding fold_back
fold_joins op assoc xs k d zero =
    let all : d ≡ 0 + d = omega arith in
    ap (λ m. fold_back op xs k (suc m)) all
fold_joins op assoc xs k d (suc a) =
    let at : k - suc d - suc a ≡ k - suc (suc (a + d)) = omega arith in
    let all : suc (a + d) ≡ suc a + d = omega arith in
    assoc (get_or xs (k - suc d - suc a) 0) (fold_back op xs (k - suc d) a) (fold_back op xs k d)
    ∙ ap (op (get_or xs (k - suc d - suc a) 0)) (fold_joins op assoc xs k d a)
    ∙ ap (λ i. op (get_or xs i 0) (fold_back op xs k (suc (a + d)))) at
    ∙ ap (λ m. fold_back op xs k (suc m)) all

-- a choice, lane by lane
length-chosen : (flags xs ys : List ℕ) → length flags ≡ length xs → length xs ≡ length ys → length (chosen_lanes flags xs ys) ≡ length ys
length-chosen [] [] ys h i = omega arith
length-chosen [] (x ∷ xs) ys h i = absurd (omega arith)
length-chosen (f ∷ flags) [] ys h i = absurd (omega arith)
length-chosen (f ∷ flags) (x ∷ xs) [] h i = absurd (omega arith)
length-chosen (f ∷ flags) (x ∷ xs) (y ∷ ys) h i = ap suc (length-chosen flags xs ys (omega arith) (omega arith))

get_or-chosen : (flags xs ys : List ℕ) (k : ℕ) → k < length flags → k < length xs → k < length ys
    → get_or (chosen_lanes flags xs ys) k 0 ≡ chosen_word (get_or flags k 0) (get_or xs k 0) (get_or ys k 0)
get_or-chosen [] xs ys k h i j = absurd (omega arith)
get_or-chosen (f ∷ flags) [] ys k h i j = absurd (omega arith)
get_or-chosen (f ∷ flags) (x ∷ xs) [] k h i j = absurd (omega arith)
get_or-chosen (f ∷ flags) (x ∷ xs) (y ∷ ys) zero h i j = refl
get_or-chosen (f ∷ flags) (x ∷ xs) (y ∷ ys) (suc k) h i j = get_or-chosen flags xs ys k (omega arith) (omega arith) (omega arith)

-- a flag word
abbrev pub word_of : Bool → ℕ
word_of t = cond t 1 0

abbrev pub flag_of : ℕ → ℕ → ℕ
flag_of d b = word_of (nat_le d b)

flag_on : (d b : ℕ) → d ≤ b → flag_of d b ≡ 1
flag_on d b h = let yes : nat_le d b ≡ true = grind (arith, nat_tests) in ap word_of yes

flag_off : (d b : ℕ) → b < d → flag_of d b ≡ 0
flag_off d b h = let no : nat_le d b ≡ false = grind (arith, nat_tests) in ap word_of no

-- a choice by a flag word
chosen_on : (flag x y : ℕ) → flag ≡ 1 → chosen_word flag x y ≡ x
chosen_on flag x y e = ap (λ f. chosen_word f x y) e

chosen_off : (flag x y : ℕ) → flag ≡ 0 → chosen_word flag x y ≡ y
chosen_off flag x y e = ap (λ f. chosen_word f x y) e

-- the words of moved lanes
pub get_or-moved : (d : ℕ) (xs : List ℕ) (k : ℕ) → k < length xs → get_or (moved_lanes d xs) k 0 ≡ get_or xs (k - d) 0
get_or-moved d xs k inside = get_or-by_lane (λ i. get_or xs (i - d) 0) xs k inside

-- a fold of runs so far before any level
pub folds_begin : (op : ℕ → ℕ → ℕ) (joined xs : List ℕ) → xs ≡ near_folds op 1 joined xs
unfolding fold_back
folds_begin op joined xs = is_by_lane _ xs xs refl (λ k inside. let none : 0 ≡ min (run_before joined k) (1 - 1) = omega arith in ap (fold_back op xs k) none)

-- one level more
pub folds_go_on : (op : ℕ → ℕ → ℕ) → ((x y z : ℕ) → op (op x y) z ≡ op x (op y z)) → (e : ℕ) (joined xs : List ℕ) → length joined ≡ length xs
    → chosen_lanes (reaching_lanes (suc e) joined) (lanewise op (moved_lanes (suc e) (near_folds op (suc e) joined xs)) (near_folds op (suc e) joined xs))
    (near_folds op (suc e) joined xs) ≡ near_folds op (suc e * 2) joined xs
folds_go_on op assoc e joined xs long =
    is_by_lane _ (chosen_lanes flags (lanewise op moved near) near) xs
    (length-chosen flags (lanewise op moved near) near (omega (arith, flags_long, both_long, near_long)) (omega (arith, both_long, near_long)) ∙ near_long)
    (λ k inside.
    get_or-chosen flags (lanewise op moved near) near k (omega (arith, flags_long)) (omega (arith, both_long)) (omega (arith, near_long))
    ∙ ⊎_elim (λ (less : run_before joined k < d). stays k inside less) (λ (more : d ≤ run_before joined k). joins k inside more) (cases_lt (run_before joined k) d))
  where
    d : ℕ
    d = suc e

    near : List ℕ
    near = near_folds op d joined xs

    moved : List ℕ
    moved = moved_lanes d near

    flags : List ℕ
    flags = reaching_lanes d joined

    near_long : length near ≡ length xs
    near_long = length-by_lane _ xs

    moved_long : length moved ≡ length xs
    moved_long = length-by_lane _ near ∙ near_long

    both_long : length (lanewise op moved near) ≡ length xs
    both_long = omega (arith, length-lanewise op moved near, moved_long, near_long)

    flags_long : length flags ≡ length xs
    flags_long = length-by_lane _ joined ∙ long

    near_at : (k : ℕ) → k < length xs → get_or near k 0 ≡ fold_back op xs k (min (run_before joined k) (d - 1))
    near_at k inside = get_or-by_lane _ xs k inside

    flag_at : (k : ℕ) → k < length xs → get_or flags k 0 ≡ flag_of d (run_before joined k)
    flag_at k inside = get_or-by_lane _ joined k (omega (arith, long))

    stays : (k : ℕ) → k < length xs → run_before joined k < d
        → chosen_word (get_or flags k 0) (get_or (lanewise op moved near) k 0) (get_or near k 0) ≡ fold_back op xs k (min (run_before joined k) (d * 2 - 1))
    stays k inside less =
        chosen_off (get_or flags k 0) _ _ (flag_at k inside ∙ flag_off d (run_before joined k) less)
        ∙ near_at k inside
        ∙ ap (fold_back op xs k) same
      where
        same : min (run_before joined k) (d - 1) ≡ min (run_before joined k) (d * 2 - 1)
        same = omega arith

    joins : (k : ℕ) → k < length xs → d ≤ run_before joined k
        → chosen_word (get_or flags k 0) (get_or (lanewise op moved near) k 0) (get_or near k 0) ≡ fold_back op xs k (min (run_before joined k) (d * 2 - 1))
    joins k inside more =
        chosen_on (get_or flags k 0) _ _ (flag_at k inside ∙ flag_on d (run_before joined k) more)
        ∙ get_or-lanewise op moved near k (omega (arith, moved_long)) (omega (arith, near_long))
        ∙ ap (λ x. op x (get_or near k 0)) (get_or-moved d near k (omega (arith, near_long)) ∙ near_at (k - d) (omega arith))
        ∙ ap (op (fold_back op xs (k - d) (min (run_before joined (k - d)) (d - 1)))) (near_at k inside ∙ ap (fold_back op xs k) all_of)
        ∙ fold_joins op assoc xs k e (min (run_before joined (k - d)) (d - 1))
        ∙ ap (fold_back op xs k) whole
      where
        whole : suc (min (run_before joined (k - d)) (d - 1) + e) ≡ min (run_before joined k) (d * 2 - 1)
        whole = omega (arith, earlier joined k d more)

        all_of : min (run_before joined k) (d - 1) ≡ e
        all_of = omega arith

-- after the last level
pub folds_end : (op : ℕ → ℕ → ℕ) (reach : ℕ) (joined xs : List ℕ) → length xs ≤ reach → near_folds op reach joined xs ≡ runs_folded op joined xs
folds_end op reach joined xs enough =
    is_by_lane _ (near_folds op reach joined xs) xs (length-by_lane _ xs)
    (λ k inside. get_or-by_lane _ xs k inside ∙ ap (fold_back op xs k) (all k inside))
  where
    all : (k : ℕ) → k < length xs → min (run_before joined k) (reach - 1) ≡ run_before joined k
    all k inside = omega (arith, few_before joined k)

-- flags of the next level
pub flags_go_on : (d : ℕ) (joined : List ℕ) → further_lanes d (reaching_lanes d joined) ≡ reaching_lanes (d * 2) joined
unfolding further_lanes
flags_go_on d joined =
    is_by_lane _ (lanewise bit_and flags moved) joined (omega (arith, length-lanewise bit_and flags moved, flags_long, moved_long))
    (λ k inside.
    get_or-lanewise bit_and flags moved k (omega (arith, flags_long)) (omega (arith, moved_long))
    ∙ ap (λ x. bit_and x (get_or moved k 0)) (flag_at k inside)
    ∙ ap (bit_and (flag_of d (run_before joined k))) (get_or-moved d flags k (omega (arith, flags_long)) ∙ flag_at (k - d) (omega arith))
    ∙ ⊎_elim (λ (less : run_before joined k < d). lacks k less) (λ (more : d ≤ run_before joined k). has k more) (cases_lt (run_before joined k) d))
  where
    flags : List ℕ
    flags = reaching_lanes d joined

    moved : List ℕ
    moved = moved_lanes d flags

    flags_long : length flags ≡ length joined
    flags_long = length-by_lane _ joined

    moved_long : length moved ≡ length joined
    moved_long = length-by_lane _ flags ∙ flags_long

    flag_at : (k : ℕ) → k < length joined → get_or flags k 0 ≡ flag_of d (run_before joined k)
    flag_at k inside = get_or-by_lane _ joined k inside

    lacks : (k : ℕ) → run_before joined k < d
        → bit_and (flag_of d (run_before joined k)) (flag_of d (run_before joined (k - d))) ≡ flag_of (d * 2) (run_before joined k)
    lacks k less = ⊎_elim
        (λ (low : run_before joined (k - d) < d).
        ap (λ x. bit_and x (flag_of d (run_before joined (k - d)))) (flag_off d (run_before joined k) less)
        ∙ ap (bit_and 0) (flag_off d (run_before joined (k - d)) low) ∙ sym (flag_off (d * 2) (run_before joined k) (omega arith)))
        (λ (high : d ≤ run_before joined (k - d)).
        ap (λ x. bit_and x (flag_of d (run_before joined (k - d)))) (flag_off d (run_before joined k) less)
        ∙ ap (bit_and 0) (flag_on d (run_before joined (k - d)) high) ∙ sym (flag_off (d * 2) (run_before joined k) (omega arith)))
        (cases_lt (run_before joined (k - d)) d)

    has : (k : ℕ) → d ≤ run_before joined k
        → bit_and (flag_of d (run_before joined k)) (flag_of d (run_before joined (k - d))) ≡ flag_of (d * 2) (run_before joined k)
    has k more =
        let back = earlier joined k d more in
        ⊎_elim
        (λ (low : run_before joined (k - d) < d).
        ap (λ x. bit_and x (flag_of d (run_before joined (k - d)))) (flag_on d (run_before joined k) more)
        ∙ ap (bit_and 1) (flag_off d (run_before joined (k - d)) low) ∙ sym (flag_off (d * 2) (run_before joined k) (omega (arith, back))))
        (λ (high : d ≤ run_before joined (k - d)).
        ap (λ x. bit_and x (flag_of d (run_before joined (k - d)))) (flag_on d (run_before joined k) more)
        ∙ ap (bit_and 1) (flag_on d (run_before joined (k - d)) high) ∙ sym (flag_on (d * 2) (run_before joined k) (omega (arith, back))))
        (cases_lt (run_before joined (k - d)) d)

-- the first flags, with a zero in the place of lane 0's
pub flags_begin : (n : ℕ) (joined : List ℕ) → length joined ≡ n
    → lanewise1 (λ x. bit_and x 1) (picked (map (λ k. cond (nat_eq k 0) n k) (range_with_len 0 n)) (joined ++ 0 ∷ [])) ≡ reaching_lanes 1 joined
flags_begin n joined long =
    is_by_lane _ (lanewise1 (λ x. bit_and x 1) taken) joined (length-map taken (λ x. bit_and x 1) ∙ taken_long ∙ sym long)
    (λ k inside. get_or-map (λ x. bit_and x 1) taken k 0 0 (omega (arith, taken_long)) ∙ ap (λ x. bit_and x 1) (taken_at k inside) ∙ each k inside)
  where
    places : List ℕ
    places = map (λ k. cond (nat_eq k 0) n k) (range_with_len 0 n)

    places_long : length places ≡ n
    places_long = length-map-range_with_len (λ k. cond (nat_eq k 0) n k) 0 n

    taken : List ℕ
    taken = picked places (joined ++ 0 ∷ [])

    taken_long : length taken ≡ n
    taken_long = length-picked places (joined ++ 0 ∷ []) ∙ places_long

    taken_at : (k : ℕ) → k < length joined → get_or taken k 0 ≡ get_or (joined ++ 0 ∷ []) (cond (nat_eq k 0) n k) 0
    taken_at k inside =
        get_or-picked places (joined ++ 0 ∷ []) k (omega (arith, places_long, long))
        ∙ ap (λ p. get_or (joined ++ 0 ∷ []) p 0) (get_or-map-range_with_len (λ j. cond (nat_eq j 0) n j) 0 n k k 0 (omega (arith, long)) (omega arith))

    each : (k : ℕ) → k < length joined → bit_and (get_or (joined ++ 0 ∷ []) (cond (nat_eq k 0) n k) 0) 1 ≡ flag_of 1 (run_before joined k)
    each zero inside =
        ap (λ p. bit_and (get_or (joined ++ 0 ∷ []) p 0) 1) (sym long) ∙ ap (λ x. bit_and x 1) (get_or-append_seam joined 0 [] 0)
        ∙ sym (flag_off 1 (run_before joined 0) (omega (arith, none_before joined)))
    each (suc k) inside =
        let no : nat_eq (suc k) 0 ≡ false = grind (arith, nat_tests) in
        ap (λ t. bit_and (get_or (joined ++ 0 ∷ []) (cond t n (suc k)) 0) 1) no
        ∙ ap (λ x. bit_and x 1) (get_or_append_left joined (0 ∷ []) 0 (suc k) inside) ∙ and_mask (get_or joined (suc k) 0) 1
        ∙ ⊎_elim (λ begins. begins.1 ∙ sym (flag_off 1 (run_before joined (suc k)) (omega (arith, begins.0))))
        (λ goes_on. goes_on.1 ∙ sym (flag_on 1 (run_before joined (suc k)) (omega (arith, goes_on.0)))) (before_cases joined k)

-- what a level does is associative
pub taken_assoc : (fold : Option Fold) (x y z : ℕ) → taken_word fold (taken_word fold x y) z ≡ taken_word fold x (taken_word fold y z)
taken_assoc None x y z = refl
taken_assoc (Some fold) x y z = combined_assoc fold x y z

-- to take the earlier word each time is to copy the first
pub copies_are : (joined xs : List ℕ) → runs_folded (λ x y. x) joined xs ≡ runs_copied joined xs
unfolding fold_back
copies_are joined xs =
    is_by_lane _ (runs_folded (λ x y. x) joined xs) xs (length-by_lane _ xs)
    (λ k inside. get_or-by_lane _ xs k inside ∙ first_word xs k (run_before joined k))
  where
    first_word : (ys : List ℕ) (k m : ℕ) → fold_back (λ x y. x) ys k m ≡ get_or ys (k - m) 0
    first_word ys k zero = let at : k ≡ k - 0 = omega arith in ap (λ i. get_or ys i 0) at
    first_word ys k (suc m) = refl

-- a pick from so many places before is a move
pub moved_is : (n by : ℕ) (xs : List ℕ) → length xs ≡ n → picked (map (λ k. k - by) (range_with_len 0 n)) xs ≡ moved_lanes by xs
moved_is n by xs long =
    let places_long = length-map-range_with_len (λ k. k - by) 0 n in
    is_by_lane _ (picked (map (λ k. k - by) (range_with_len 0 n)) xs) xs
    (length-picked (map (λ k. k - by) (range_with_len 0 n)) xs ∙ places_long ∙ sym long)
    (λ k inside. get_or-picked (map (λ k. k - by) (range_with_len 0 n)) xs k (omega (arith, places_long, long))
    ∙ ap (λ p. get_or xs p 0) (get_or-map-range_with_len (λ j. j - by) 0 n k k 0 (omega (arith, long)) (omega arith)))

-- the places of the first flags are those of the lanes and of the zero behind them
pub place_within : (n k : ℕ) → k < n → cond (nat_eq k 0) n k ≤ n
place_within n zero inside = omega arith
place_within n (suc k) inside =
    let no : nat_eq (suc k) 0 ≡ false = grind (arith, nat_tests) in
    let at : cond (nat_eq (suc k) 0) n (suc k) ≡ suc k = ap (λ t. cond t n (suc k)) no in
    omega (arith, at)

-- one level more, of any reach
pub reach_doubles : (op : ℕ → ℕ → ℕ) → ((x y z : ℕ) → op (op x y) z ≡ op x (op y z)) → (d : ℕ) (joined xs : List ℕ) → 0 < d → length joined ≡ length xs
    → further_folds op d (reaching_lanes d joined) (near_folds op d joined xs) ≡ near_folds op (d * 2) joined xs
unfolding further_folds
reach_doubles op assoc zero joined xs some long = absurd (omega arith)
reach_doubles op assoc (suc e) joined xs some long = folds_go_on op assoc e joined xs long

-- the earlier of two words in each lane
pub earlier_words : (xs ys : List ℕ) → length xs ≡ length ys → xs ≡ lanewise (λ x y. x) xs ys
earlier_words [] ys h = refl
earlier_words (x ∷ xs) [] h = absurd (omega arith)
earlier_words (x ∷ xs) (y ∷ ys) h = ap (λ rest. x ∷ rest) (earlier_words xs ys (omega arith))
