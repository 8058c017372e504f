-- Growth step after step, and what a loop over levels keeps.
use Rattle.std.proofs.Common.{◌≡◌, ℕ, suc, ◌+◌, ◌*◌, ◌%◌, ◌^◌, ◌<◌, ◌≤◌, List, refl, sym, ap, ◌∙◌, add-one, arith}
use Rattle.std.proofs.Math.Nat.{mul-le-mul_right, pow-le-pow_right}
use Rattle.lanes.specs.Fold.{folded_word}
use Rattle.lanes.specs.Lanes.{lanewise1}
use Rattle.wires.specs.Environment.{Environment, words}
use Rattle.wires.specs.Growth.{Carries, Grows, IsMade, lanes_of}
use Rattle.wires.specs.declared.wire.Wire.{Wire}
use Rattle.circuits.specs.Loops.{Building}
use Rattle.circuits.specs.Values.{fold_lanes}
use Rattle.circuits.proofs.LaneValues.{fold_start, fold_step}

-- a state has grown from itself
pub grows_still : {S : Type 0} (grown : S → S → Type 0) (possible : S → Environment → Type 0) (shape : S → List ℕ) (s : S) → grown s s
    → Grows grown possible shape s s
grows_still grown possible shape s still = record {
  now = still;
  follows = λ t h. h;
  within = λ v h. h;
  keeps = record { count = omega arith; lanes = λ k h. refl };
}

-- growth after growth
pub grows_then : {S : Type 0} (grown : S → S → Type 0) (possible : S → Environment → Type 0) (shape : S → List ℕ) (a b c : S)
    → Grows grown possible shape a b → Grows grown possible shape b c → Grows grown possible shape a c
grows_then grown possible shape a b c first second = record {
  now = second.follows a first.now;
  follows = λ s h. second.follows s (first.follows s h);
  within = λ v h. first.within v (second.within v h);
  keeps = record {
    count = omega (arith, first.keeps.count, second.keeps.count);
    lanes = λ k h. second.keeps.lanes k (omega (arith, first.keeps.count)) ∙ first.keeps.lanes k h;
  };
}

-- four growths one after the other
pub grows_four : {S : Type 0} (grown : S → S → Type 0) (possible : S → Environment → Type 0) (shape : S → List ℕ) (a b c d e : S)
    → Grows grown possible shape a b → Grows grown possible shape b c → Grows grown possible shape c d → Grows grown possible shape d e → Grows grown possible shape a e
grows_four grown possible shape a b c d e first second third fourth =
    grows_then grown possible shape a c e (grows_then grown possible shape a b c first second) (grows_then grown possible shape c d e third fourth)

-- a level's number of places
pub places_of : (level : ℕ) → level < 6 → (1 * 2 ^ level % 2 ^ 32 ≡ 2 ^ level) × (2 ^ level ≤ 32)
places_of level below =
    let few : 2 ^ level ≤ 2 ^ 5 = pow-le-pow_right {n = 2} (omega arith) {i = level} {j = 5} (omega arith) in
    (omega (arith, few), omega (arith, few))

-- the AND words of levels below the last
pub level_cost : (level last n : ℕ) → level < last → level * n + n ≤ last * n
level_cost level last n below =
    let h : suc level * n ≤ last * n = mul-le-mul_right n (omega arith) in
    omega (arith, h)

-- the fold before its first level, and after one more
pub fold_begins : {S : Type 0} (grown : S → S → Type 0) (possible : S → Environment → Type 0) (shape : S → List ℕ) (ands : S → ℕ) (s : S) (wire : Wire)
    → grown s s → IsMade (shape s) wire
    → Building grown possible shape ands s s wire (lanes_of (shape s) wire) (λ v. lanewise1 (folded_word 0) (words v wire)) 0
fold_begins grown possible shape ands s wire still made = record {
  grows = grows_still grown possible shape s still;
  carries = record { made = made; lanes = refl; value = λ v is. fold_start (words v wire) };
  spent = omega arith;
}

pub fold_goes_on : {S : Type 0} (grown : S → S → Type 0) (possible : S → Environment → Type 0) (shape : S → List ℕ) (ands : S → ℕ) (first now next : S)
    (wire folded new : Wire) (n level places : ℕ)
    → Building grown possible shape ands first now folded n (λ v. lanewise1 (folded_word level) (words v wire)) level
    → Grows grown possible shape now next
    → Carries (possible next) (shape next) new (lanes_of (shape now) folded) (λ v. fold_lanes places (words v folded))
    → ands next ≤ ands now + lanes_of (shape now) folded → places ≡ 2 ^ level
    → Building grown possible shape ands first next new n (λ v. lanewise1 (folded_word (level + 1)) (words v wire)) (level + 1)
fold_goes_on grown possible shape ands first now next wire folded new n level places before grows made cost is =
    record {
      grows = grows_then grown possible shape first now next before.grows grows;
      carries = record {
        made = made.made;
        lanes = made.lanes ∙ before.carries.lanes;
        value = λ v possible_next.
            made.value v possible_next
            ∙ ap (fold_lanes places) (before.carries.value v (grows.within v possible_next))
            ∙ ap (λ p. fold_lanes p (lanewise1 (folded_word level) (words v wire))) is
            ∙ fold_step level (words v wire)
            ∙ ap (λ k. lanewise1 (folded_word k) (words v wire)) (sym (add-one level));
      };
      spent = omega (arith, before.spent, cost, before.carries.lanes);
    }
