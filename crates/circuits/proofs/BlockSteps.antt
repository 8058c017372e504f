-- What the fold of blocks keeps from level to level.
use Rattle.std.proofs.Common.{◌≡◌, ℕ, ◌+◌, ◌-◌, ◌*◌, ◌/◌, ◌<◌, ◌≤◌, List, length, refl, sym, ap, ◌∙◌, arith}
use Rattle.std.proofs.Math.Nat.{mul-add, mul-le-mul_left, mul-le-mul_right, mul-one}
use Rattle.wires.specs.Environment.{Environment, words}
use Rattle.wires.specs.Growth.{Carries, Grows, IsMade, lanes_of}
use Rattle.wires.specs.declared.wire.Wire.{Wire}
use Rattle.lanes.specs.CarrySave.{CarrySaveKeepsSum}
use Rattle.lanes.specs.Sums.{sum_word}
use Rattle.circuits.specs.Blocks.{blocks_folded, halves_folded, thirds_saved}
use Rattle.circuits.proofs.BlockLaws.{IsCommutativeSemigroup, halves_stay, one_block}
use Rattle.circuits.proofs.BlockLevels.{thirds_spent}
use Rattle.circuits.proofs.Levels.{grows_still, grows_then}
use Rattle.circuits.proofs.ThirdLaws.{thirds_stay}

-- so many blocks are left, whose fold is that of all blocks; so many AND words a block were spent on the others
pub record FoldingBlocks {S : Type 0} (grown : S → S → Type 0) (possible : S → Environment → Type 0) (shape : S → List ℕ) (ands : S → ℕ)
    (first now : S) (op : ℕ → ℕ → ℕ) (blocks folded : Wire) (count left width cost : ℕ) : Type 0 where
  pub grows : Grows grown possible shape first now
  pub made : IsMade (shape now) folded
  pub lanes : lanes_of (shape now) folded ≡ left * width
  pub value : (v : Environment) → possible now v → blocks_folded op left width (words v folded) ≡ blocks_folded op count width (words v blocks)
  pub some : 0 < left
  pub spent : ands now + cost * left ≤ ands first + cost * count

-- before the first level
pub folding_begins : {S : Type 0} (grown : S → S → Type 0) (possible : S → Environment → Type 0) (shape : S → List ℕ) (ands : S → ℕ)
    (first : S) (op : ℕ → ℕ → ℕ) (blocks : Wire) (count width cost : ℕ)
    → grown first first → IsMade (shape first) blocks → lanes_of (shape first) blocks ≡ count * width → 0 < count
    → FoldingBlocks grown possible shape ands first first op blocks blocks count count width cost
folding_begins grown possible shape ands first op blocks count width cost still made wide some = record {
  grows = grows_still grown possible shape first still;
  made = made;
  lanes = wide;
  value = λ v is. refl;
  some = some;
  spent = omega arith;
}

-- half of the blocks that are left are there
pub halves_within : (left width : ℕ) → 1 < left → left / 2 * width + left / 2 * width ≤ left * width
halves_within left width some =
    let most : (left / 2 + left / 2) * width ≤ left * width = mul-le-mul_right width (omega arith) in
    omega (arith, most)

-- the AND words of one level more
level_spent : (cost half width left : ℕ) → half ≤ left → cost * width * (left - half) + cost * (half * width) ≡ cost * width * left
level_spent cost half width left within =
    let all : left ≡ left - half + half = omega arith in
    let split : cost * width * (left - half + half) ≡ cost * width * (left - half) + cost * width * half = mul-add (cost * width) (left - half) half in
    omega (arith, split, ap (λ k. cost * width * k) all)

-- after one level more
pub folding_goes_on : {S : Type 0} (grown : S → S → Type 0) (possible : S → Environment → Type 0) (shape : S → List ℕ) (ands : S → ℕ)
    (first now next : S) (op : ℕ → ℕ → ℕ) (blocks folded new : Wire) (count left half width cost : ℕ)
    → IsCommutativeSemigroup op → ((v : Environment) → possible now v → length (words v folded) ≡ lanes_of (shape now) folded)
    → FoldingBlocks grown possible shape ands first now op blocks folded count left width (cost * width)
    → Grows grown possible shape now next
    → Carries (possible next) (shape next) new (lanes_of (shape now) folded - half * width) (λ v. halves_folded op (half * width) (words v folded))
    → ands next ≤ ands now + cost * (half * width) → half ≡ left / 2 → 1 < left
    → FoldingBlocks grown possible shape ands first next op blocks new count (left - half) width (cost * width)
folding_goes_on grown possible shape ands first now next op blocks folded new count left half width cost lawful long before grows made spent is some =
    let within : half ≤ left = omega arith in
    record {
      grows = grows_then grown possible shape first now next before.grows grows;
      made = made.made;
      lanes =
          let all : left ≡ left - half + half = omega arith in
          let split : (left - half + half) * width ≡ (left - half) * width + half * width = omega arith in
          omega (arith, made.lanes, before.lanes, split, ap (λ k. k * width) all);
      value = λ v possible_next.
          let possible_now = grows.within v possible_next in
          ap (blocks_folded op (left - half) width) (made.value v possible_next)
          ∙ halves_stay op lawful left half width (words v folded) (long v possible_now ∙ before.lanes) is some
          ∙ before.value v possible_now;
      some = omega arith;
      spent = omega (arith, before.spent, spent, level_spent cost half width left within);
    }

-- with one block left
pub folding_ends : {S : Type 0} (grown : S → S → Type 0) (possible : S → Environment → Type 0) (shape : S → List ℕ) (ands : S → ℕ)
    (first now : S) (op : ℕ → ℕ → ℕ) (blocks folded : Wire) (count left width cost : ℕ)
    → ((v : Environment) → possible now v → length (words v folded) ≡ lanes_of (shape now) folded)
    → FoldingBlocks grown possible shape ands first now op blocks folded count left width cost → left ≡ 1
    → Carries (possible now) (shape now) folded width (λ v. blocks_folded op count width (words v blocks))
folding_ends grown possible shape ands first now op blocks folded count left width cost long h last =
    let wide : lanes_of (shape now) folded ≡ width = h.lanes ∙ ap (λ k. k * width) last ∙ omega arith in
    record {
      made = h.made;
      lanes = wide;
      value = λ v is.
          one_block op width (words v folded) (long v is ∙ wide)
          ∙ ap (λ k. blocks_folded op k width (words v folded)) (sym last)
          ∙ h.value v is;
    }

-- all AND words, while at least one block is left
pub folding_cost : (before after cost count left : ℕ) → after + cost * left ≤ before + cost * count → 0 < left → 0 < count → after ≤ before + cost * (count - 1)
folding_cost before after cost count left spent some any =
    let all : count ≡ count - 1 + 1 = omega arith in
    let split : cost * (count - 1 + 1) ≡ cost * (count - 1) + cost = mul-add cost (count - 1) 1 ∙ ap (λ k. cost * (count - 1) + k) (mul-one cost) in
    let least : cost * 1 ≤ cost * left = mul-le-mul_left cost (omega arith) in
    omega (arith, spent, split, ap (λ k. cost * k) all, least, mul-one cost)

-- and where a level finds no memory
pub level_cost : (before now after cost width count left half : ℕ) → now + cost * width * left ≤ before + cost * width * count → after ≤ now + cost * (half * width)
    → half < left → 0 < count → after ≤ before + cost * width * (count - 1)
level_cost before now after cost width count left half spent level fewer any =
    folding_cost before after (cost * width) count (left - half) (omega (arith, spent, level, level_spent cost half width left (omega arith))) (omega arith) any

-- a third of the blocks that are left is there three times
pub thirds_within : (left width : ℕ) → 3 * (left / 3 * width) ≤ left * width
thirds_within left width =
    let most : (left / 3 + left / 3 + left / 3) * width ≤ left * width = mul-le-mul_right width (omega arith) in
    omega (arith, most)

-- after one level of thirds
pub thirds_go_on : {S : Type 0} (grown : S → S → Type 0) (possible : S → Environment → Type 0) (shape : S → List ℕ) (ands : S → ℕ)
    (first now next : S) (blocks folded new : Wire) (count left third width : ℕ)
    → CarrySaveKeepsSum → ((v : Environment) → possible now v → length (words v folded) ≡ lanes_of (shape now) folded)
    → FoldingBlocks grown possible shape ands first now sum_word blocks folded count left width width
    → Grows grown possible shape now next
    → Carries (possible next) (shape next) new (lanes_of (shape now) folded - third * width) (λ v. thirds_saved (third * width) (words v folded))
    → ands next ≤ ands now + third * width → third ≡ left / 3 → 2 < left
    → FoldingBlocks grown possible shape ands first next sum_word blocks new count (left - third) width width
thirds_go_on grown possible shape ands first now next blocks folded new count left third width law long before grows made spent is some =
    let within : third ≤ left = omega arith in
    record {
      grows = grows_then grown possible shape first now next before.grows grows;
      made = made.made;
      lanes =
          let all : left ≡ left - third + third = omega arith in
          let split : (left - third + third) * width ≡ (left - third) * width + third * width = omega arith in
          omega (arith, made.lanes, before.lanes, split, ap (λ k. k * width) all);
      value = λ v possible_next.
          let possible_now = grows.within v possible_next in
          ap (blocks_folded sum_word (left - third) width) (made.value v possible_next)
          ∙ thirds_stay law left third width (words v folded) (long v possible_now ∙ before.lanes) is some
          ∙ before.value v possible_now;
      some = omega arith;
      spent = omega (arith, before.spent, spent, thirds_spent width left third within);
    }
