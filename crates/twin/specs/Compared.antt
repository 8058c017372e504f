-- What is opened to the viewer in both worlds, compared.
use Rattle.std.specs.Prelude.{◌≡◌, ◌<◌, ◌^◌, ⊤, ℕ, Bool, true, List, [], ◌∷◌, length, map, slice_index}
use Rattle.bags.specs.Bag.{SameBag}
use Rattle.step_lists.specs.Machine.{Machine, shares}
use Rattle.joint_machine.specs.Ready.{HasRows, HaveRows, IsMade}
use Rattle.twin.specs.declared.fault.TwinFault.{TwinFault}
use Rattle.twin.specs.declared.fault.TwinFault.TheVariants.{NotAligned, Memory}

-- at step k different words, each a row of its own
pub record AreOtherWords (k : ℕ) (words others : List ℕ) (step : ℕ) (first second : List (List ℕ)) : Type 0 where
  pub step_is : step ≡ k
  pub differ : ¬ (words ≡ others)
  pub first_is : first ≡ map (λ w. w ∷ []) words
  pub second_is : second ≡ map (λ w. w ∷ []) others

abbrev pub IsWordsFault : ℕ → List ℕ → List ℕ → TwinFault → Type 0
IsWordsFault k words others (NotAligned step first second) = AreOtherWords k words others step first second
IsWordsFault k words others Memory = ⊤

-- of words that are told the viewer
abbrev pub IsToldFault : ℕ → Bool → List ℕ → List ℕ → TwinFault → Type 0
IsToldFault k told words others (NotAligned step first second) = (told ≡ true) × AreOtherWords k words others step first second
IsToldFault k told words others Memory = ⊤

-- at step k different bags of rows
pub record AreOtherRows (k : ℕ) (rows others : List (List ℕ)) (step : ℕ) (first second : List (List ℕ)) : Type 0 where
  pub step_is : step ≡ k
  pub differ : ¬ SameBag rows others
  pub first_is : first ≡ rows
  pub second_is : second ≡ others

-- of rows that the viewer is shown
abbrev pub IsRowsFault : ℕ → Bool → List (List ℕ) → List (List ℕ) → TwinFault → Type 0
IsRowsFault k shown rows others (NotAligned step first second) = (shown ≡ true) × AreOtherRows k rows others step first second
IsRowsFault k shown rows others Memory = ⊤

-- two registers of n rows
pub record AreFactors (m : Machine) (left right n : ℕ) : Type 0 where
  pub made_left : IsMade m left
  pub made_right : IsMade m right
  pub left_rows : HasRows n (shares m left)
  pub right_rows : HasRows n (shares m right)

-- registers of n rows in both machines, which are moved together
pub record AreMovable (x y : Machine) (n : ℕ) (moved : List ℕ) : Type 0 where
  pub some : 0 < length moved
  pub made_one : (k : ℕ) → k < length moved → IsMade x (slice_index moved k)
  pub made_other : (k : ℕ) → k < length moved → IsMade y (slice_index moved k)
  pub rows_one : HaveRows n (map (shares x) moved)
  pub rows_other : HaveRows n (map (shares y) moved)
  pub short : n < 2 ^ 32
