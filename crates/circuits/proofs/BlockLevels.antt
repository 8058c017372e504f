-- How many levels a fold of blocks has, and what each of them takes.
use Rattle.std.proofs.Common.{◌≡◌, ℕ, zero, suc, ◌+◌, ◌-◌, ◌*◌, ◌/◌, ◌^◌, ◌<◌, ◌≤◌, List, length, ⊎_elim, ap, arith}
use Rattle.std.proofs.Math.Nat.{mul-add, mul-le-mul_left, mul-le-mul_right, mul-one}
use Rattle.std.proofs.lemmas.Bool.{cases_lt}
use Rattle.circuits.specs.BlockCosts.{sum_cost}
use Rattle.circuits.specs.Loops.{Within}

-- so many steps that halve are within so many levels
pub record HalvingLevels (levels left steps : ℕ) : Type 0 where
  pub rest : ℕ
  pub within : steps + rest ≤ levels
  pub reach : left ≤ 2 ^ rest

-- the levels of halving blocks: each step takes so many AND calls and wires
pub record HalvingSteps {S : Type 0} (shape : S → List ℕ) (and_calls : S → ℕ) (first now : S) (count left calls wires : ℕ) : Type 0 where
  pub steps : ℕ
  pub within : Within shape and_calls first now (calls * steps) (wires * steps)
  pub levels : (levels : ℕ) → count ≤ 2 ^ levels → HalvingLevels levels left steps

pub halving_begins : {S : Type 0} (shape : S → List ℕ) (and_calls : S → ℕ) (first : S) (count calls wires : ℕ) → HalvingSteps shape and_calls first first count count calls wires
halving_begins shape and_calls first count calls wires = record {
  steps = 0;
  within = record { called = omega arith; made = omega arith };
  levels = λ levels enough. record { rest = levels; within = omega arith; reach = enough };
}

-- a number that isn't reached by 2 ^ 0, and half of it
halved_reach : (left rest : ℕ) → 1 < left → left ≤ 2 ^ rest → (0 < rest) × (left - left / 2 ≤ 2 ^ (rest - 1))
halved_reach left zero some reach = absurd (omega arith)
halved_reach left (suc rest) some reach =
    let at : suc rest - 1 ≡ rest = omega arith in
    let twice : 2 ^ suc rest ≡ 2 * 2 ^ rest = omega arith in
    (omega arith, omega (arith, twice, ap (λ k. 2 ^ k) at))

pub halving_goes_on : {S : Type 0} (shape : S → List ℕ) (and_calls : S → ℕ) (first now next : S) (count left calls wires : ℕ)
    → HalvingSteps shape and_calls first now count left calls wires → and_calls next ≤ and_calls now + calls → length (shape next) ≤ length (shape now) + wires → 1 < left
    → HalvingSteps shape and_calls first next count (left - left / 2) calls wires
halving_goes_on shape and_calls first now next count left calls wires before called made some = record {
  steps = before.steps + 1;
  within = record {
    called = omega (arith, before.within.called, called, mul-add calls before.steps 1, mul-one calls);
    made = omega (arith, before.within.made, made, mul-add wires before.steps 1, mul-one wires);
  };
  levels = λ levels enough.
      let h = before.levels levels enough in
      let r = halved_reach left h.rest some h.reach in
      record { rest = h.rest - 1; within = omega (arith, h.within, r.0); reach = r.1 };
}

-- within all levels, with one block left
pub halving_within : {S : Type 0} (shape : S → List ℕ) (and_calls : S → ℕ) (first now : S) (count left calls wires levels : ℕ)
    → HalvingSteps shape and_calls first now count left calls wires → count ≤ 2 ^ levels → Within shape and_calls first now (calls * levels) (wires * levels)
halving_within shape and_calls first now count left calls wires levels h enough =
    let within : h.steps ≤ levels = omega (arith, (h.levels levels enough).within) in
    record {
      called = omega (arith, h.within.called, mul-le-mul_left calls within);
      made = omega (arith, h.within.made, mul-le-mul_left wires within);
    }

-- so many steps of thirds are within twice so many levels: two of them halve
pub data SavingLevels (levels left steps : ℕ) : Type 0 where
  whole : (rest : ℕ) → steps + 2 * rest ≤ 2 * levels → left ≤ 2 ^ rest → SavingLevels levels left steps
  between : (rest : ℕ) → steps + 2 * rest + 1 ≤ 2 * levels → left - left / 3 ≤ 2 ^ rest → SavingLevels levels left steps

pub record SavingSteps {S : Type 0} (shape : S → List ℕ) (and_calls : S → ℕ) (first now : S) (count left : ℕ) : Type 0 where
  pub steps : ℕ
  pub within : Within shape and_calls first now steps (12 * steps)
  pub some : 0 < left
  pub fewer : left ≤ count
  pub levels : (levels : ℕ) → count ≤ 2 ^ levels → SavingLevels levels left steps

pub saving_begins : {S : Type 0} (shape : S → List ℕ) (and_calls : S → ℕ) (first : S) (count : ℕ) → 0 < count → SavingSteps shape and_calls first first count count
saving_begins shape and_calls first count some = record {
  steps = 0;
  within = record { called = omega arith; made = omega arith };
  some = some;
  fewer = omega arith;
  levels = λ levels enough. whole levels (omega arith) enough;
}

one_level : (levels left steps : ℕ) → 2 < left → SavingLevels levels left steps → SavingLevels levels (left - left / 3) (steps + 1)
one_level levels left steps some (whole zero within reach) = absurd (omega arith)
one_level levels left steps some (whole (suc rest) within reach) =
    let twice : 2 ^ suc rest ≡ 2 * 2 ^ rest = omega arith in
    between rest (omega arith) (omega (arith, twice))
one_level levels left steps some (between rest within reach) = whole rest (omega arith) reach

last_level : (levels left steps : ℕ) → SavingLevels levels left steps → steps ≤ 2 * levels
last_level levels left steps (whole rest within reach) = omega arith
last_level levels left steps (between rest within reach) = omega arith

pub steps_go_on : {S : Type 0} (shape : S → List ℕ) (and_calls : S → ℕ) (first now next : S) (count left : ℕ)
    → SavingSteps shape and_calls first now count left → and_calls next ≤ and_calls now + 1 → length (shape next) ≤ length (shape now) + 12 → 2 < left
    → SavingSteps shape and_calls first next count (left - left / 3)
steps_go_on shape and_calls first now next count left before called made some = record {
  steps = before.steps + 1;
  within = record { called = omega (arith, before.within.called, called); made = omega (arith, before.within.made, made) };
  some = omega arith;
  fewer = omega (arith, before.fewer);
  levels = λ levels enough. one_level levels left before.steps some (before.levels levels enough);
}

pub saving_within : {S : Type 0} (shape : S → List ℕ) (and_calls : S → ℕ) (first now : S) (count left levels : ℕ)
    → SavingSteps shape and_calls first now count left → count ≤ 2 ^ levels → Within shape and_calls first now (2 * levels) (24 * levels)
saving_within shape and_calls first now count left levels h enough =
    let within = last_level levels left h.steps (h.levels levels enough) in
    record { called = omega (arith, h.within.called, within); made = omega (arith, h.within.made, within) }

-- the AND words of one more level of thirds, and of the last sum
pub thirds_spent : (width left third : ℕ) → third ≤ left → width * (left - third) + third * width ≡ width * left
thirds_spent width left third within =
    let all : left ≡ left - third + third = omega arith in
    let split : width * (left - third + third) ≡ width * (left - third) + width * third = mul-add width (left - third) third in
    omega (arith, split, ap (λ k. width * k) all)

-- so many blocks but two
but_two : (width more : ℕ) → width * suc (suc more) ≡ width * more + 2 * width
but_two width more = omega arith

pub level_within : (before now after width count left third : ℕ) → now + width * left ≤ before + width * count → after ≤ now + third * width → third ≤ left - 2 → 2 < left → left ≤ count
    → after ≤ before + sum_cost width count
level_within before now after width zero left third spent level few some fewer = absurd (omega arith)
level_within before now after width (suc zero) left third spent level few some fewer = absurd (omega arith)
level_within before now after width (suc (suc more)) left third spent level few some fewer =
    let most : (third + 2) * width ≤ left * width = mul-le-mul_right width (omega arith) in
    omega (arith, but_two width more, most)

pub sum_within : (before now after width count left : ℕ) → now + width * left ≤ before + width * count → after ≤ now + 7 * width * (left - 1) → 0 < left → left ≤ 2 → left ≤ count
    → after ≤ before + sum_cost width count
sum_within before now after width zero left spent last some few fewer = absurd (omega arith)
sum_within before now after width (suc zero) left spent last some few fewer =
    let one : left ≡ 1 = omega arith in
    omega (arith, ap (λ k. width * k) one, ap (λ k. 7 * width * (k - 1)) one)
sum_within before now after width (suc (suc more)) left spent last some few fewer =
    ⊎_elim
    (λ (less : left < 2). let one : left ≡ 1 = omega arith in omega (arith, but_two width more, ap (λ k. width * k) one, ap (λ k. 7 * width * (k - 1)) one))
    (λ (two : 2 ≤ left). let all : left ≡ 2 = omega arith in omega (arith, but_two width more, ap (λ k. width * k) all, ap (λ k. 7 * width * (k - 1)) all))
    (cases_lt left 2)
