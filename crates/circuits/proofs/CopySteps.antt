-- What the loop over copied columns keeps.
use Rattle.std.proofs.Common.{◌≡◌, ℕ, suc, ◌+◌, ◌*◌, ◌<◌, ◌≤◌, ⊎_elim, List, [], ◌∷◌, ◌++◌, length, refl, sym, ap, ◌∙◌, subst, arith, length-append}
use Rattle.std.specs.Prelude.{Some, slice_get, slice_index_or}
use Rattle.std.proofs.lemmas.Option.{slice_get-get_or}
use Rattle.std.proofs.Math.Nat.{add-mul, mul-le-mul_left, mul-le-mul_right, mul_assoc, mul_comm, one-mul}
use Rattle.wires.specs.Environment.{Environment, words}
use Rattle.wires.specs.Growth.{AreMade, Carries, Grows}
use Rattle.wires.specs.declared.wire.Wire.{Wire}
use Rattle.circuits.specs.Copies.{AreCopies, Copying}
use Rattle.circuits.specs.Runs.{runs_copied, runs_folded}
use Rattle.circuits.proofs.Levels.{grows_still, grows_then}
use Rattle.circuits.proofs.Restated.{carried_on}
use Rattle.circuits.proofs.RunLaws.{copies_are}
use Rattle.circuits.proofs.RunSteps.{pushed_cases}

pub copying_begins : {S : Type 0} (grown : S → S → Type 0) (possible : S → Environment → Type 0) (shape : S → List ℕ) (ands : S → ℕ)
    (first : S) (joined : Wire) (columns copies : List Wire) (n each : ℕ) → grown first first → copies ≡ []
    → Copying grown possible shape ands first first joined columns copies n each 0
copying_begins grown possible shape ands first joined columns copies n each still none =
    let P : List Wire → Type 0 = λ cs. Copying grown possible shape ands first first joined columns cs n each 0 in
    subst P (sym none) (record {
      grows = grows_still grown possible shape first still;
      so_far = record { each = λ k column copy is at. absurd (cc) };
      count = refl;
      spent = omega arith;
    })

pub copying_goes_on : {S : Type 0} (grown : S → S → Type 0) (possible : S → Environment → Type 0) (shape : S → List ℕ) (ands : S → ℕ)
    (first now next : S) (joined column new : Wire) (columns copies more : List Wire) (n n' each at : ℕ)
    → Copying grown possible shape ands first now joined columns copies n each at → Grows grown possible shape now next
    → Carries (possible next) (shape next) new n' (λ v. runs_folded (λ x y. x) (words v joined) (words v column)) → n' ≡ n
    → ands next ≤ ands now + each → slice_get columns at ≡ Some column → more ≡ copies ++ new ∷ []
    → Copying grown possible shape ands first next joined columns more n each (at + 1)
copying_goes_on grown possible shape ands first now next joined column new columns copies more n n' each at before grows made wide cost is pushed =
    let P : List Wire → Type 0 = λ cs. Copying grown possible shape ands first next joined columns cs n each (at + 1) in
    subst P (sym pushed) (record {
      grows = grows_then grown possible shape first now next before.grows grows;
      so_far = record {
        each = λ k other copy other_is copy_is. ⊎_elim
            (λ (old : slice_get copies k ≡ Some copy). carried_on grown possible shape now next copy n _ grows (before.so_far.each k other copy other_is old))
            (λ (last : (k ≡ length copies) × (new ≡ copy)).
            let same : Some other ≡ Some column = sym other_is ∙ ap (slice_get columns) (last.0 ∙ before.count) ∙ is in
            let column_is : column ≡ other = cc in
            let Q : Wire → Type 0 = λ w. Carries (possible next) (shape next) w n (λ v. runs_copied (words v joined) (words v other)) in
            let R : Wire → Type 0 = λ w. Carries (possible next) (shape next) new n (λ v. runs_copied (words v joined) (words v w)) in
            subst Q last.1 (subst R column_is (record {
              made = made.made;
              lanes = made.lanes ∙ wide;
              value = λ v possible_next. made.value v possible_next ∙ copies_are (words v joined) (words v column);
            })))
            (pushed_cases copies new copy k copy_is);
      };
      count = length-append copies (new ∷ []) ∙ omega (arith, before.count);
      spent =
          let all : (at + 1) * each ≡ at * each + each = add-mul at 1 each ∙ ap (λ k. at * each + k) (one-mul each) in
          omega (arith, before.spent, cost, all);
    })

-- the AND words of columns below the last
pub columns_cost : (at last each : ℕ) → at < last → at * each + each ≤ last * each
columns_cost at last each below =
    let h : suc at * each ≤ last * each = mul-le-mul_right each (omega arith) in
    omega (arith, h)

-- the AND words of the flags and of all copies
pub copies_cost : (before mid after c l l' n n' levels : ℕ) → mid ≤ before + levels * n → after ≤ mid + c * (l' * n') → l' ≡ l → n' ≡ n → l ≤ levels
    → after ≤ before + (c + 1) * levels * n
copies_cost before mid after c l l' n n' levels flags copies same_length same_lanes few =
    let told : c * (l' * n') ≡ c * (l * n) = ap (λ k. c * (k * n')) same_length ∙ ap (λ k. c * (l * k)) same_lanes in
    let most : l * n ≤ levels * n = mul-le-mul_right n few in
    let all : c * (l * n) ≤ c * (levels * n) = mul-le-mul_left c most in
    let split : (c + 1) * levels * n ≡ c * (levels * n) + levels * n = mul_assoc (c + 1) levels n ∙ add-mul c 1 (levels * n) ∙ ap (λ k. c * (levels * n) + k) (one-mul (levels * n)) in
    omega (arith, flags, copies, told, all, split)

-- the copies were made
pub copies_made : (possible : Environment → Type 0) (shape : List ℕ) (joined : Wire) (columns copies : List Wire) (n : ℕ)
    → AreCopies possible shape joined columns copies n → length copies ≡ length columns → AreMade shape copies
copies_made possible shape joined columns copies n h long k wire inside =
    (h.each k (slice_index_or columns k wire) (slice_index_or copies k wire)
    (slice_get-get_or columns k wire (omega arith)) (slice_get-get_or copies k wire inside)).made

-- so much for each column, with one column more, and below the last one
pub one_more_column : (at cost : ℕ) → (at + 1) * cost ≡ at * cost + cost
one_more_column at cost = omega arith

pub columns_within : (at last cost : ℕ) → at < last → at * cost + cost ≤ last * cost
columns_within at last cost below =
    let most : (at + 1) * cost ≤ last * cost = mul-le-mul_right cost (omega arith) in
    omega (arith, most, one_more_column at cost)

-- the AND calls and the wires of the flags and of copies
pub copies_within : (before mid after base each cost columns l l' levels : ℕ) → mid ≤ before + (base + each * levels) → after ≤ mid + columns * (cost * l') → l' ≡ l → l ≤ levels
    → after ≤ before + (base + (cost * columns + each) * levels)
copies_within before mid after base each cost columns l l' levels flags scans same few =
    let most : cost * columns * l' ≤ cost * columns * levels = mul-le-mul_left (cost * columns) (omega (arith, same)) in
    let turned : columns * (cost * l') ≡ cost * columns * l' = sym (mul_assoc columns cost l') ∙ ap (λ k. k * l') (mul_comm columns cost) in
    omega (arith, flags, scans, most, turned, add-mul (cost * columns) each levels)
