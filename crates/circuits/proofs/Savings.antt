-- What the terms of a product keep, as two words.
use Rattle.std.proofs.Common.{◌≡◌, ℕ, suc, ◌+◌, ◌*◌, ◌≤◌, List, sym, ap, ◌∙◌, add-one, arith}
use Rattle.std.proofs.Math.Nat.{add-mul}
use Rattle.lanes.specs.CarrySave.{saved_terms}
use Rattle.lanes.specs.Lanes.{lanewise}
use Rattle.wires.specs.Environment.{Environment, words}
use Rattle.wires.specs.Growth.{Carries, Grows, lanes_of}
use Rattle.wires.specs.declared.wire.Wire.{Wire}
use Rattle.circuits.specs.Loops.{Saving}
use Rattle.circuits.specs.Values.{saved_carries, saved_sums, term_lanes}
use Rattle.circuits.proofs.Levels.{grows_then}
use Rattle.circuits.proofs.LaneValues.{carries_step, sums_step}

-- the AND words of one more term
more_terms : (more n : ℕ) → (2 + 2 * (more + 1)) * n ≡ (2 + 2 * more) * n + 2 * n
more_terms more n = let split : 2 + 2 * (more + 1) ≡ 2 + 2 * more + 2 = omega arith in ap (λ k. k * n) split ∙ add-mul (2 + 2 * more) 2 n

-- the terms after one more
pub saving_goes_on : {S : Type 0} (grown : S → S → Type 0) (possible : S → Environment → Type 0) (shape : S → List ℕ) (ands : S → ℕ) (first now next : S)
    (left right sum carry new_sum new_carry : Wire) (n more : ℕ)
    → Saving grown possible shape ands first now left right sum carry n more
    → Grows grown possible shape now next
    → lanes_of (shape now) left ≡ n
    → Carries (possible next) (shape next) new_sum (lanes_of (shape now) left)
    (λ v. saved_sums (words v sum) (words v carry) (term_lanes (more + 2) (words v left) (words v right)))
    → Carries (possible next) (shape next) new_carry (lanes_of (shape now) left)
    (λ v. saved_carries (words v sum) (words v carry) (term_lanes (more + 2) (words v left) (words v right)))
    → ands next ≤ ands now + 2 * lanes_of (shape now) left
    → Saving grown possible shape ands first next left right new_sum new_carry n (more + 1)
saving_goes_on grown possible shape ands first now next left right sum carry new_sum new_carry n more before grows wide summed carried cost =
    let place : more + 2 ≡ suc (suc more) = omega arith in
    record {
      grows = grows_then grown possible shape first now next before.grows grows;
      sum = record {
        made = summed.made;
        lanes = summed.lanes ∙ wide;
        value = λ v possible_next.
            let earlier = grows.within v possible_next in
            let term = term_lanes (more + 2) (words v left) (words v right) in
            let sums = lanewise (λ x y. (saved_terms more x y).sum) (words v left) (words v right) in
            let carries = lanewise (λ x y. (saved_terms more x y).carry) (words v left) (words v right) in
            summed.value v possible_next
            ∙ ap (λ xs. saved_sums xs (words v carry) term) (before.sum.value v earlier)
            ∙ ap (λ xs. saved_sums sums xs term) (before.carry.value v earlier)
            ∙ ap (λ k. saved_sums sums carries (term_lanes k (words v left) (words v right))) place
            ∙ sums_step more (words v left) (words v right)
            ∙ ap (λ k. lanewise (λ x y. (saved_terms k x y).sum) (words v left) (words v right)) (sym (add-one more));
      };
      carry = record {
        made = carried.made;
        lanes = carried.lanes ∙ wide;
        value = λ v possible_next.
            let earlier = grows.within v possible_next in
            let term = term_lanes (more + 2) (words v left) (words v right) in
            let sums = lanewise (λ x y. (saved_terms more x y).sum) (words v left) (words v right) in
            let carries = lanewise (λ x y. (saved_terms more x y).carry) (words v left) (words v right) in
            carried.value v possible_next
            ∙ ap (λ xs. saved_carries xs (words v carry) term) (before.sum.value v earlier)
            ∙ ap (λ xs. saved_carries sums xs term) (before.carry.value v earlier)
            ∙ ap (λ k. saved_carries sums carries (term_lanes k (words v left) (words v right))) place
            ∙ carries_step more (words v left) (words v right)
            ∙ ap (λ k. lanewise (λ x y. (saved_terms k x y).carry) (words v left) (words v right)) (sym (add-one more));
      };
      spent = omega (arith, before.spent, cost, wide, more_terms more n);
    }
