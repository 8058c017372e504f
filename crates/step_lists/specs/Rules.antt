-- The rules of a well-formed list.
use Rattle.std.specs.Prelude.{ℕ, ◌+◌, ◌^◌, Bool, true, false, not, ◌&&◌, ◌==◌, nat_lt, nat_le, List, [], ◌∷◌, length, map, IsTrue, ⊤}
use Rattle.std.specs.List.{list_all}
use Rattle.lanes.specs.Three.{at}
use Rattle.step_lists.specs.declared.step.Shape.{Shape}
use Rattle.step_lists.specs.declared.step.Shape.TheVariants as shapes
use Rattle.step_lists.specs.Layout.{LinOp, Xor, Not, Left, Right, Mask, Spread, Gather, Step, Const, Lin, And, Share, Reveal, Steer, Tell, Work, Flag, Steps, Layout, party_of, grown, starting, length_of, shape_of, rows_moved}

-- a party's number
abbrev pub is_party : ℕ → Bool
is_party p = nat_le 1 p && nat_le p 3

-- a register, and a slot, that was made before
abbrev pub is_register : Layout → ℕ → Bool
is_register l r = nat_lt r (length l.registers)

abbrev pub is_slot : Layout → ℕ → ℕ → Bool
is_slot l p s = is_party p && nat_lt s (length (at (party_of p) l.slots))

-- shapes of words, of one word, and of an order of n
abbrev pub is_words : Shape → Bool
is_words (shapes.Words n) = true
is_words (shapes.OrderOf n) = false

abbrev pub is_one_word : Shape → Bool
is_one_word (shapes.Words n) = n == 1
is_one_word (shapes.OrderOf n) = false

abbrev pub is_order_of : ℕ → Shape → Bool
is_order_of n (shapes.Words k) = false
is_order_of n (shapes.OrderOf k) = k == n

abbrev pub is_empty : {A : Type 0} → List A → Bool
is_empty xs = length xs == 0

-- registers of one length, and at least one
abbrev pub move_together : Layout → List ℕ → Bool
move_together l moved = not (is_empty moved) && list_all (λ r. is_register l r && (length_of l r == rows_moved l moved)) moved

-- how many words registers have, one after the other
abbrev pub words_of_all : Layout → List ℕ → ℕ
words_of_all l [] = 0
words_of_all l (r ∷ rs) = length_of l r + words_of_all l rs

abbrev pub fits_lin : Layout → LinOp → Bool
fits_lin l (Xor a b) = is_register l a && is_register l b && (length_of l a == length_of l b)
fits_lin l (Not a) = is_register l a
fits_lin l (Left a by) = is_register l a && nat_le by 63
fits_lin l (Right a by) = is_register l a && nat_le by 63
fits_lin l (Mask a word) = is_register l a
fits_lin l (Spread a) = is_register l a
fits_lin l (Gather sources places) =
    list_all (is_register l) sources && list_all (λ p. nat_lt p (words_of_all l sources)) places && nat_lt (length places) (2 ^ 32)

-- what a step names was made, and has the lengths and shapes that go with it
abbrev pub fits_layout : {T : Type 0} → (T → List Shape → List Shape → Bool) → Layout → Step T → Bool
fits_layout accepts l (Const words) = list_all (λ w. nat_lt w (2 ^ 64)) words && nat_lt (length words) (2 ^ 32)
fits_layout accepts l (Lin op) = fits_lin l op
fits_layout accepts l (And left right) = is_register l left && is_register l right && (length_of l left == length_of l right)
fits_layout accepts l (Share party slot) = is_slot l party slot && is_words (shape_of l (party_of party) slot)
fits_layout accepts l (Reveal to moved shown) =
    is_party to && move_together l moved && not (is_empty shown) && list_all (λ k. nat_lt k (length moved)) shown
fits_layout accepts l (Steer by slot moved) =
    is_slot l by slot && move_together l moved && is_order_of (rows_moved l moved) (shape_of l (party_of by) slot)
fits_layout accepts l (Tell source target slot) =
    is_slot l source slot && is_party target && not (source == target) && is_words (shape_of l (party_of source) slot)
fits_layout accepts l (Work party task takes gives) =
    is_party party && list_all (is_slot l party) takes && accepts task (map (shape_of l (party_of party)) takes) gives
fits_layout accepts l (Flag party slot) = is_slot l party slot && is_one_word (shape_of l (party_of party) slot)

-- fewer than 2 ^ 32 registers, slots of each party and flags
abbrev pub is_small : Layout → Bool
is_small l =
    nat_lt (length l.registers) (2 ^ 32)
    && nat_lt (length l.slots.first) (2 ^ 32) && nat_lt (length l.slots.second) (2 ^ 32) && nat_lt (length l.slots.third) (2 ^ 32)
    && nat_lt l.flags (2 ^ 32)

-- a step that may come next
abbrev pub is_fine : {T : Type 0} → (T → List Shape → List Shape → Bool) → Layout → Step T → Bool
is_fine accepts l s = fits_layout accepts l s && is_small (grown l s)

-- each step may come where it stands
abbrev pub AreFine : {T : Type 0} → (T → List Shape → List Shape → Bool) → Layout → List (Step T) → Type 0
AreFine accepts l [] = ⊤
AreFine accepts l (s ∷ ss) = IsTrue (is_fine accepts l s) × AreFine accepts (grown l s) ss

-- a well-formed list
pub record IsWellFormed {T : Type 0} (accepts : T → List Shape → List Shape → Bool) (list : Steps T) : Type 0 where
  pub small : IsTrue (is_small (starting list.first))
  pub fine : AreFine accepts (starting list.first) list.steps
