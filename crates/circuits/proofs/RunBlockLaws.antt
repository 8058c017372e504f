-- Runs over blocks of lanes that lie one after the other.
use Rattle.std.proofs.Common.{◌≡◌, ℕ, zero, suc, ◌+◌, ◌-◌, ◌%◌, ◌<◌, ◌≤◌, ⊎_elim, cond, List, [], ◌∷◌, ◌++◌, length, get_or, replicate, refl, sym, ap, ◌∙◌, arith, length-append}
use Rattle.std.specs.Prelude.{nat_eq}
use Rattle.std.proofs.lemmas.Bool.{cases_lt}
use Rattle.std.proofs.lemmas.List.{get_or-append_right, get_or-append-add, get_or-replicate, get_or_append_left, length-replicate}
use Rattle.lanes.specs.Folds.{words_folded}
use Rattle.circuits.specs.Laws.{BeginsRun, IsOneRun}
use Rattle.circuits.specs.Runs.{fold_back, run_before, runs_copied, runs_folded}
use Rattle.circuits.proofs.BlockLaws.{folded_list, folded_to}
use Rattle.circuits.proofs.RunLaws.{before_cases, copies_are, few_before, fold_joins, get_or-by_lane, is_by_lane, length-by_lane, none_before}

-- the lanes of its run before a lane of the first block
before_first : (js ks : List ℕ) (k : ℕ) → k < length js → run_before (js ++ ks) k ≡ run_before js k
unfolding run_before
before_first js ks zero inside = refl
before_first js ks (suc k) inside =
    ap (λ x. cond (nat_eq (x % 2) 1) (suc (run_before (js ++ ks) k)) 0) (get_or_append_left js ks 0 (suc k) inside)
    ∙ ap (λ m. cond (nat_eq (get_or js (suc k) 0 % 2) 1) (suc m) 0) (before_first js ks k (omega arith))

-- of the first lane of a block that begins a run, and of a later lane of it
before_start : (js ks : List ℕ) → BeginsRun ks → run_before (js ++ ks) (length js) ≡ 0
before_start [] ks begins = none_before ks
before_start (j ∷ js) ks begins =
    let at : get_or ((j ∷ js) ++ ks) (suc (length js)) 0 ≡ get_or ks (suc (length js) - suc (length js)) 0 = get_or-append_right (j ∷ js) ks (suc (length js)) (suc (length js)) 0 refl (omega arith) in
    let none : suc (length js) - suc (length js) ≡ 0 = omega arith in
    let off : get_or ((j ∷ js) ++ ks) (suc (length js)) 0 % 2 ≡ 0 = ap (λ x. x % 2) (at ∙ ap (λ k. get_or ks k 0) none) ∙ begins in
    ⊎_elim (λ starts. starts.0) (λ goes_on. absurd (omega (arith, goes_on.1, off))) (before_cases ((j ∷ js) ++ ks) (length js))

before_next : (js ks : List ℕ) (i : ℕ) → BeginsRun ks → run_before (js ++ ks) (length js + i) ≡ run_before ks i
unfolding run_before
before_next js ks zero begins =
    let at : length js + 0 ≡ length js = omega arith in
    ap (run_before (js ++ ks)) at ∙ before_start js ks begins
before_next js ks (suc i) begins =
    let at : length js + suc i ≡ suc (length js + i) = omega arith in
    let word : get_or (js ++ ks) (suc (length js + i)) 0 ≡ get_or ks (suc i) 0 = ap (λ k. get_or (js ++ ks) k 0) (sym at) ∙ get_or-append-add js ks (suc i) 0 in
    ap (run_before (js ++ ks)) at
    ∙ ap (λ x. cond (nat_eq (x % 2) 1) (suc (run_before (js ++ ks) (length js + i))) 0) word
    ∙ ap (λ m. cond (nat_eq (get_or ks (suc i) 0 % 2) 1) (suc m) 0) (before_next js ks i begins)

-- a fold over lanes of one block
fold_first : (op : ℕ → ℕ → ℕ) (xs ys : List ℕ) (k m : ℕ) → k < length xs → fold_back op (xs ++ ys) k m ≡ fold_back op xs k m
unfolding fold_back
fold_first op xs ys k zero inside = get_or_append_left xs ys 0 k inside
fold_first op xs ys k (suc m) inside =
    ap (λ x. op x (fold_back op (xs ++ ys) k m)) (get_or_append_left xs ys 0 (k - suc m) (omega arith))
    ∙ ap (op (get_or xs (k - suc m) 0)) (fold_first op xs ys k m inside)

fold_next : (op : ℕ → ℕ → ℕ) (xs ys : List ℕ) (i m : ℕ) → m ≤ i → fold_back op (xs ++ ys) (length xs + i) m ≡ fold_back op ys i m
unfolding fold_back
fold_next op xs ys i zero few = get_or-append-add xs ys i 0
fold_next op xs ys i (suc m) few =
    let at : length xs + i - suc m ≡ length xs + (i - suc m) = omega arith in
    ap (λ k. op (get_or (xs ++ ys) k 0) (fold_back op (xs ++ ys) (length xs + i) m)) at
    ∙ ap (λ x. op x (fold_back op (xs ++ ys) (length xs + i) m)) (get_or-append-add xs ys (i - suc m) 0)
    ∙ ap (op (get_or ys (i - suc m) 0)) (fold_next op xs ys i m (omega arith))

-- the folds of two blocks
pub folds_of_blocks : (op : ℕ → ℕ → ℕ) (js ks xs ys : List ℕ) → length js ≡ length xs → BeginsRun ks
    → runs_folded op (js ++ ks) (xs ++ ys) ≡ runs_folded op js xs ++ runs_folded op ks ys
folds_of_blocks op js ks xs ys long begins =
    sym (is_by_lane _ (first ++ second) (xs ++ ys) (length-append first second ∙ omega (arith, first_long, second_long, length-append xs ys)) each)
  where
    first : List ℕ
    first = runs_folded op js xs

    second : List ℕ
    second = runs_folded op ks ys

    first_long : length first ≡ length xs
    first_long = length-by_lane _ xs

    second_long : length second ≡ length ys
    second_long = length-by_lane _ ys

    in_first : (k : ℕ) → k < length xs → get_or (first ++ second) k 0 ≡ fold_back op (xs ++ ys) k (run_before (js ++ ks) k)
    in_first k inside =
        get_or_append_left first second 0 k (omega (arith, first_long))
        ∙ get_or-by_lane _ xs k inside
        ∙ sym (fold_first op xs ys k (run_before js k) inside)
        ∙ ap (fold_back op (xs ++ ys) k) (sym (before_first js ks k (omega arith)))

    in_second : (i : ℕ) → i < length ys → get_or (first ++ second) (length xs + i) 0 ≡ fold_back op (xs ++ ys) (length xs + i) (run_before (js ++ ks) (length xs + i))
    in_second i inside =
        let at : length xs + i - length xs ≡ i = omega arith in
        get_or-append_right first second (length xs) (length xs + i) 0 first_long (omega arith)
        ∙ ap (λ k. get_or second k 0) at
        ∙ get_or-by_lane _ ys i inside
        ∙ sym (fold_next op xs ys i (run_before ks i) (few_before ks i))
        ∙ ap (fold_back op (xs ++ ys) (length xs + i)) (sym (before_next js ks i begins) ∙ ap (λ n. run_before (js ++ ks) (n + i)) long)

    each : (k : ℕ) → k < length (xs ++ ys) → get_or (first ++ second) k 0 ≡ fold_back op (xs ++ ys) k (run_before (js ++ ks) k)
    each k inside = ⊎_elim
        (λ (less : k < length xs). in_first k less)
        (λ (more : length xs ≤ k).
        let at : length xs + (k - length xs) ≡ k = omega arith in
        ap (λ n. get_or (first ++ second) n 0) (sym at)
        ∙ in_second (k - length xs) (omega (arith, inside, length-append xs ys))
        ∙ ap (λ n. fold_back op (xs ++ ys) n (run_before (js ++ ks) n)) at)
        (cases_lt k (length xs))

-- the copies of two blocks
pub copies_of_blocks : (js ks xs ys : List ℕ) → length js ≡ length xs → BeginsRun ks
    → runs_copied (js ++ ks) (xs ++ ys) ≡ runs_copied js xs ++ runs_copied ks ys
copies_of_blocks js ks xs ys long begins =
    sym (copies_are (js ++ ks) (xs ++ ys))
    ∙ folds_of_blocks (λ x y. x) js ks xs ys long begins
    ∙ ap (λ zs. zs ++ runs_folded (λ x y. x) ks ys) (copies_are js xs)
    ∙ ap (λ zs. runs_copied js xs ++ zs) (copies_are ks ys)

-- in one run all earlier lanes are of the run
all_before : (joined : List ℕ) → IsOneRun joined → (k : ℕ) → k < length joined → run_before joined k ≡ k
all_before joined one zero inside = none_before joined
all_before joined one (suc k) inside = ⊎_elim
    (λ begins. absurd (omega (arith, begins.1, one (suc k) (omega arith) inside)))
    (λ goes_on. goes_on.0 ∙ ap suc (all_before joined one k (omega arith)))
    (before_cases joined k)

-- the fold of a lane with all before it
fold_of_all : (op : ℕ → ℕ → ℕ) → ((x y z : ℕ) → op (op x y) z ≡ op x (op y z)) → (xs : List ℕ) (k : ℕ) → fold_back op xs k k ≡ folded_to op (λ j. get_or xs j 0) k
unfolding fold_back
fold_of_all op assoc xs zero = refl
fold_of_all op assoc xs (suc k) =
    let at : suc k - 1 ≡ k = omega arith in
    let all : suc (k + 0) ≡ suc k = omega arith in
    ap (fold_back op xs (suc k)) (sym all)
    ∙ sym (fold_joins op assoc xs (suc k) 0 k)
    ∙ ap (λ n. op (fold_back op xs n k) (get_or xs (suc k) 0)) at
    ∙ ap (λ x. op x (get_or xs (suc k) 0)) (fold_of_all op assoc xs k)

pub last_fold : (op : ℕ → ℕ → ℕ) → ((x y z : ℕ) → op (op x y) z ≡ op x (op y z)) → (js xs : List ℕ) → length js ≡ length xs → IsOneRun js
    → get_or (runs_folded op js xs) (length xs - 1) 0 ≡ words_folded op xs
last_fold op assoc js [] long one = refl
last_fold op assoc js (x ∷ xs) long one =
    let last : length (x ∷ xs) - 1 ≡ length xs = omega arith in
    ap (λ k. get_or (runs_folded op js (x ∷ xs)) k 0) last
    ∙ get_or-by_lane (λ k. fold_back op (x ∷ xs) k (run_before js k)) (x ∷ xs) (length xs) (omega arith)
    ∙ ap (fold_back op (x ∷ xs) (length xs)) (all_before js one (length xs) (omega arith))
    ∙ fold_of_all op assoc (x ∷ xs) (length xs)
    ∙ sym (folded_list op x xs)

pub copies_of_one_run : (js xs : List ℕ) → length js ≡ length xs → IsOneRun js → runs_copied js xs ≡ replicate (length xs) (get_or xs 0 0)
copies_of_one_run js xs long one =
    sym (is_by_lane _ (replicate (length xs) (get_or xs 0 0)) xs (length-replicate (length xs) (get_or xs 0 0))
    (λ k inside.
    let none : k - run_before js k ≡ 0 = omega (arith, all_before js one k (omega arith)) in
    get_or-replicate (length xs) k (get_or xs 0 0) 0 inside ∙ ap (λ n. get_or xs n 0) (sym none)))
