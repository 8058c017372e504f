-- What a machine must have for a step.
use Rattle.std.specs.Prelude.{◌≡◌, ℕ, ◌<◌, ◌≤◌, List, length, slice_index, slice_index_or}
use Rattle.std.specs.List.{flat_map}
use Rattle.lanes.specs.declared.party.Party.{Party}
use Rattle.lanes.specs.declared.three.Three.{Three}
use Rattle.lanes.specs.Three.{at}
use Rattle.step_lists.specs.declared.step.LinOp.{LinOp}
use Rattle.step_lists.specs.declared.step.LinOp.TheVariants.{Xor, Not, Left, Right, Mask, Spread, Gather}
use Rattle.step_lists.specs.Draws.{nothing}
use Rattle.step_lists.specs.Machine.{Machine, shares}

-- three lists of so many words each
pub record HasRows (n : ℕ) (s : Three (List ℕ)) : Type 0 where
  pub first : length s.first ≡ n
  pub second : length s.second ≡ n
  pub third : length s.third ≡ n

abbrev pub IsMade : Machine → ℕ → Type 0
IsMade m r = r < length m.registers

-- registers that were made, of lengths that go together
abbrev pub IsReadyLin : Machine → Party → LinOp → Type 0
IsReadyLin m p (Xor a b) = IsMade m a × IsMade m b × (length (at p (shares m a)) ≡ length (at p (shares m b)))
IsReadyLin m p (Not a) = IsMade m a
IsReadyLin m p (Left a by) = IsMade m a × (by ≤ 63)
IsReadyLin m p (Right a by) = IsMade m a × (by ≤ 63)
IsReadyLin m p (Mask a word) = IsMade m a
IsReadyLin m p (Spread a) = IsMade m a
IsReadyLin m p (Gather sources places) =
    ((k : ℕ) → k < length sources → IsMade m (slice_index sources k))
    × ((k : ℕ) → k < length places → slice_index places k < length (flat_map (λ r. at p (shares m r)) sources))

-- registers of so many words
abbrev pub HaveRows : ℕ → List (Three (List ℕ)) → Type 0
HaveRows n ss = (k : ℕ) → k < length ss → HasRows n (slice_index_or ss k nothing)
