-- AND words, AND calls and registers behind one step more.
use Rattle.std.proofs.Common.{◌≡◌, ℕ, ◌+◌, ◌≤◌, cond, List, [], ◌∷◌, length, length-append, map, refl, ap, ◌∙◌, arith}
use Rattle.std.specs.Prelude.{count_by}
use Rattle.std.proofs.lemmas.List.Sums.{sum_by-append, sum_by-cons}
use Rattle.wires.specs.declared.wire.Wire.{Wire}
use Rattle.step_lists.specs.declared.step.LinOp.{LinOp}
use Rattle.step_lists.specs.declared.step.Step.{Step}
use Rattle.step_lists.specs.declared.step.Step.TheVariants.{Const, Lin, And, Share, Reveal, Steer, Tell, Work, Flag}
use Rattle.step_lists.specs.Layout.{Steps, Layout, starting, grown, grown_by, layout_of, length_of, lin_length, party_of, words_in_slot}
use Rattle.step_lists.specs.Possible.{ands_in, ands_of}
use Rattle.step_lists.specs.Prefixes.{ands-append}
use Rattle.emit.specs.Emit.{IsAdded, calls_in, is_and}
use Rattle.emit.proofs.Steps.{added_count}

pub added_ands : {T : Type 0} (a b : Steps T) (s : Step T) (wire : Wire) → IsAdded a b s wire → ands_in b ≡ ands_in a + ands_of (layout_of a) s
added_ands {T} a b s wire h =
    let all : ands_in b ≡ ands_in a + (ands_of (layout_of a) s + 0) = ap (λ (x : Steps T). ands_in x) h.is ∙ ands-append (starting a.first) a.steps (s ∷ []) in
    omega (arith, all)

pub and_calls : {T : Type 0} (a b : Steps T) (x y : ℕ) (wire : Wire) → IsAdded a b (And x y) wire → calls_in b ≡ calls_in a + 1
and_calls {T} a b x y wire h =
    let count = λ (s : Step T). cond (is_and s) 1 0 in
    let all : calls_in b ≡ calls_in a + count_by (is_and {T = T}) (And x y ∷ []) = ap (λ (l : Steps T). calls_in l) h.is ∙ sum_by-append count a.steps (And x y ∷ []) in
    omega (arith, all, sum_by-cons count (And x y) [])

-- an And makes a register, and so there are at most as many calls as registers
step_calls : {T : Type 0} (l : Layout) (s : Step T) → cond (is_and s) 1 0 + length l.registers ≤ length (grown l s).registers
step_calls l (Const words) = omega (arith, length-append l.registers (length words ∷ []))
step_calls l (Lin op) = omega (arith, length-append l.registers (lin_length l op ∷ []))
step_calls l (And x y) = omega (arith, length-append l.registers (length_of l x ∷ []))
step_calls l (Share p r) = omega (arith, length-append l.registers (words_in_slot l (party_of p) r ∷ []))
step_calls l (Reveal to moved shown) = omega (arith, length-append l.registers (map (length_of l) moved))
step_calls l (Steer p r moved) = omega (arith, length-append l.registers (map (length_of l) moved))
step_calls l (Tell source target r) = omega arith
step_calls l (Work p task takes gives) = omega arith
step_calls l (Flag p r) = omega arith

run_calls : {T : Type 0} (l : Layout) (ss : List (Step T)) → count_by is_and ss + length l.registers ≤ length (grown_by l ss).registers
run_calls l [] = omega arith
run_calls {T} l (s ∷ ss) =
    let here = sum_by-cons (λ (s : Step T). cond (is_and s) 1 0) s ss in
    omega (arith, here, step_calls l s, run_calls (grown l s) ss)

pub few_calls : {T : Type 0} (list : Steps T) → calls_in list ≤ length (layout_of list).registers
few_calls list = let e = run_calls (starting list.first) list.steps in omega (arith, e)

-- each step of a circuit makes one register
pub lin_count : {T : Type 0} (a b : Steps T) (op : LinOp) (wire : Wire) → IsAdded a b (Lin op) wire → length (layout_of b).registers ≡ length (layout_of a).registers + 1
lin_count a b op wire h = added_count a b (Lin op) wire (lin_length (layout_of a) op) refl h

pub and_count : {T : Type 0} (a b : Steps T) (x y : ℕ) (wire : Wire) → IsAdded a b (And x y) wire → length (layout_of b).registers ≡ length (layout_of a).registers + 1
and_count a b x y wire h = added_count a b (And x y) wire (length_of (layout_of a) x) refl h

pub constant_count : {T : Type 0} (a b : Steps T) (ws : List ℕ) (wire : Wire) → IsAdded a b (Const ws) wire → length (layout_of b).registers ≡ length (layout_of a).registers + 1
constant_count a b ws wire h = added_count a b (Const ws) wire (length ws) refl h
