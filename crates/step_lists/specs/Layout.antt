-- The layout that a list of steps has grown: the lengths of the registers, the shapes of each party's slots, and
-- how many flags there are.
use Rattle.std.specs.Prelude.{ℕ, suc, ◌==◌, List, [], ◌∷◌, ◌++◌, length, map, slice_index, slice_index_or, if◌then◌else◌}
use Rattle.lanes.specs.declared.party.Party.{Party}
use Rattle.lanes.specs.declared.party.Party.TheVariants.{First, Second, Third}
use Rattle.lanes.specs.declared.three.Three.{Three}
use Rattle.lanes.specs.Three.{at, put, each}
use Rattle.step_lists.specs.declared.step.Shape.{Shape}
use Rattle.step_lists.specs.declared.step.Shape.TheVariants as shapes
pub use Rattle.step_lists.specs.declared.step.LinOp.{LinOp}
pub use Rattle.step_lists.specs.declared.step.LinOp.TheVariants.{Xor, Not, Left, Right, Mask, Spread, Gather}
pub use Rattle.step_lists.specs.declared.step.Step.{Step}
pub use Rattle.step_lists.specs.declared.step.Step.TheVariants.{Const, Lin, And, Share, Reveal, Steer, Tell, Work, Flag}

-- steps over first slots of these lengths
pub record Steps (T : Type 0) : Type 0 where
  pub first : Three (List ℕ)
  pub steps : List (Step T)

pub record Layout : Type 0 where
  pub registers : List ℕ
  pub slots : Three (List Shape)
  pub flags : ℕ

-- the party of a number; numbers other than 1, 2 and 3 stand in no list
abbrev pub party_of : ℕ → Party
party_of n = if n == 1 then First else (if n == 2 then Second else Third)

-- before the first step
abbrev pub starting : Three (List ℕ) → Layout
starting first = record { registers = []; slots = each (λ ns. map shapes.Words ns) first; flags = 0 }

abbrev pub length_of : Layout → ℕ → ℕ
length_of l r = slice_index l.registers r

abbrev pub shape_of : Layout → Party → ℕ → Shape
shape_of l p s = slice_index_or (at p l.slots) s (shapes.Words 0)

-- how many words a slot of a shape has
abbrev pub count_in : Shape → ℕ
count_in (shapes.Words n) = n
count_in (shapes.OrderOf n) = n

-- how many words a slot has
abbrev pub words_in_slot : Layout → Party → ℕ → ℕ
words_in_slot l p s = count_in (shape_of l p s)

-- the rows of registers that are moved together: the length of the first
abbrev pub rows_moved : Layout → List ℕ → ℕ
rows_moved l [] = 0
rows_moved l (r ∷ rs) = length_of l r

-- the length of the register that an operation makes
abbrev pub lin_length : Layout → LinOp → ℕ
lin_length l (Xor a b) = length_of l a
lin_length l (Not a) = length_of l a
lin_length l (Left a by) = length_of l a
lin_length l (Right a by) = length_of l a
lin_length l (Mask a word) = length_of l a
lin_length l (Spread a) = length_of l a
lin_length l (Gather sources places) = length places

-- more registers of these lengths, and more slots of these shapes
abbrev pub with_lengths : Layout → List ℕ → Layout
with_lengths l more = record l { registers = l.registers ++ more }

abbrev pub with_shapes : Layout → Party → List Shape → Layout
with_shapes l p more = record l { slots = put p (at p l.slots ++ more) l.slots }

-- the layout behind a step
abbrev pub grown : {T : Type 0} → Layout → Step T → Layout
grown l (Const words) = with_lengths l (length words ∷ [])
grown l (Lin op) = with_lengths l (lin_length l op ∷ [])
grown l (And left right) = with_lengths l (length_of l left ∷ [])
grown l (Share party slot) = with_lengths l (words_in_slot l (party_of party) slot ∷ [])
grown l (Reveal to moved shown) =
    with_shapes (with_lengths l (map (length_of l) moved)) (party_of to) (map (λ k. shapes.Words (rows_moved l moved)) shown)
grown l (Steer by slot moved) = with_lengths l (map (length_of l) moved)
grown l (Tell source target slot) = with_shapes l (party_of target) (shape_of l (party_of source) slot ∷ [])
grown l (Work party task takes gives) = with_shapes l (party_of party) gives
grown l (Flag party slot) = record l { flags = suc l.flags }

-- the layout behind several steps
abbrev pub grown_by : {T : Type 0} → Layout → List (Step T) → Layout
grown_by l [] = l
grown_by l (s ∷ ss) = grown_by (grown l s) ss

-- the layout of a list
abbrev pub layout_of : {T : Type 0} → Steps T → Layout
layout_of list = grown_by (starting list.first) list.steps
