-- How many AND words a list has.
use Rattle.std.proofs.Common.{◌≡◌, ℕ, ◌+◌, ◌*◌, ◌^◌, ◌<◌, ◌≤◌, Bool, List, [], ◌∷◌, ◌++◌, length, map, arith}
use Rattle.std.specs.Prelude.{All, IsTrue}
use Rattle.std.specs.List.{sum_by}
use Rattle.std.proofs.lemmas.List.Elements.{All-head, All-tail}
use Rattle.std.proofs.lemmas.List.Sums.{sum_by-append, sum_by-cons}
use Rattle.step_lists.specs.declared.step.Shape.{Shape}
use Rattle.step_lists.specs.Layout.{Step, Const, Lin, And, Share, Reveal, Steer, Tell, Work, Flag, Layout, starting, grown, grown_by, layout_of, length_of, lin_length, party_of, words_in_slot}
use Rattle.step_lists.specs.Laws.{AndsAreFew}
use Rattle.step_lists.specs.Possible.{ands_behind, ands_of}
use Rattle.step_lists.specs.Rules.{AreFine, fits_layout, is_small}
use Rattle.step_lists.proofs.Listing.{below, both}
use Rattle.step_lists.proofs.Rooms.{small_parts}

-- the words of all registers
abbrev total : List ℕ → ℕ
total ns = sum_by (λ n. n) ns

more_total : (ns more : List ℕ) → total (ns ++ more) ≡ total ns + total more
more_total ns more = sum_by-append (λ n. n) ns more

one_total : (ns : List ℕ) (n : ℕ) → total (ns ++ n ∷ []) ≡ total ns + n
one_total ns n = let e = more_total ns (n ∷ []) in let f = sum_by-cons (λ n. n) n [] in omega (arith, e, f)

-- a step's AND words are words of the register that it makes
step_ands : {T : Type 0} (l : Layout) (s : Step T) → ands_of l s + total l.registers ≤ total (grown l s).registers
step_ands l (Const words) = omega (arith, one_total l.registers (length words))
step_ands l (Lin op) = omega (arith, one_total l.registers (lin_length l op))
step_ands l (And left right) = omega (arith, one_total l.registers (length_of l left))
step_ands l (Share party slot) = omega (arith, one_total l.registers (words_in_slot l (party_of party) slot))
step_ands l (Reveal to moved shown) = omega (arith, more_total l.registers (map (length_of l) moved))
step_ands l (Steer by slot moved) = omega (arith, more_total l.registers (map (length_of l) moved))
step_ands l (Tell source target slot) = omega arith
step_ands l (Work party task takes gives) = omega arith
step_ands l (Flag party slot) = omega arith

ands_made : {T : Type 0} (l : Layout) (ss : List (Step T)) → ands_behind l ss + total l.registers ≤ total (grown_by l ss).registers
ands_made l [] = omega arith
ands_made l (s ∷ ss) = omega (arith, step_ands l s, ands_made (grown l s) ss)

-- lengths below 2 ^ 32
few_words : (ns : List ℕ) → All (λ n. n < 2 ^ 32) ns → total ns + length ns ≤ 2 ^ 32 * length ns
few_words [] h = omega arith
few_words (n ∷ ns) h =
    let one = All-head (λ n. n < 2 ^ 32) n ns h in
    let rest = few_words ns (All-tail (λ n. n < 2 ^ 32) n ns h) in
    omega (arith, one, rest, sum_by-cons (λ n. n) n ns)

small_behind : {T : Type 0} (accepts : T → List Shape → List Shape → Bool) (l : Layout) (ss : List (Step T)) → IsTrue (is_small l) → AreFine accepts l ss
    → IsTrue (is_small (grown_by l ss))
small_behind accepts l [] h f = h
small_behind accepts l (s ∷ ss) h f = small_behind accepts (grown l s) ss (both (fits_layout accepts l s) (is_small (grown l s)) f.0).1 f.1

pub ands_are_few : {T : Type 0} (accepts : T → List Shape → List Shape → Bool) → AndsAreFew accepts
ands_are_few accepts list h short =
    let small = small_parts (layout_of list) (small_behind accepts (starting list.first) list.steps h.small h.fine) in
    let count = below (length (layout_of list).registers) (2 ^ 32) small.registers in
    let words = few_words (layout_of list).registers short in
    omega (arith, ands_made (starting list.first) list.steps, count, words)
