use Rattle.std.proofs.Common.{◌≡◌, ◌<◌, ◌≤◌, ◌++◌, length, min, drop, refl, sym, ap, ◌∙◌, arith}
use Rattle.std.proofs.lemmas.List.{append_assoc, take_rest}
use Rattle.lanes.specs.Lanes.{xors}
use Rattle.party_core.proofs.Xoring.{xor_made, xor_rest}
use Rattle.party_core.proofs.lists.xored.Goals as goal

pub loop-i-preserved : goal.loop-i-preserved
loop-i-preserved c =
    let xs = c.args.left.now in
    let ys = c.args.right.now in
    let i = c.loop-i.i in
    let h : i < length xs = omega arith in
    let k : i < length ys = omega arith in
    record { within = omega arith; made = rw c.in_ok-push.ensures.items (xor_made xs ys c.loop-i.made.items i _ h k refl c.loop-i.invariant.made) }

pub returns : goal.returns
returns c =
    let xs = c.args.left.now in
    let ys = c.args.right.now in
    let made = c.loop-i.made.items in
    let n = c.min-both.result in
    let end : c.loop-i.i ≡ n = omega arith in
    let far : min (length xs) (length ys) ≤ n = omega arith in
    c.in_ok-extend_from_slice-2.ensures.items ∙ ap (λ t. c.extend_from_slice.new.self.items ++ t) (take_rest ys n)
    ∙ ap (λ t. t ++ drop n ys) (c.in_ok-extend_from_slice.ensures.items ∙ ap (λ t. made ++ t) (take_rest xs n)) ∙ append_assoc made (drop n xs) (drop n ys)
    ∙ sym (c.loop-i.invariant.made ∙ ap (λ i. made ++ xors (drop i xs) (drop i ys)) end ∙ ap (λ t. made ++ t) (xor_rest xs ys n far))
