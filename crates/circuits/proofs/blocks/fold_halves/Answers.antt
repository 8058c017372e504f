use Rattle.std.proofs.Common.{◌≡◌, ◌+◌, ◌*◌, ◌++◌, length, ap, ◌∙◌, arith}
use Rattle.std.specs.Prelude.{slice_range}
use Rattle.lanes.specs.Lanes.{lanewise}
use Rattle.wires.specs.Environment.{words}
use Rattle.circuits.specs.Blocks.{halves_folded}
use Rattle.circuits.specs.Folds.{combined_word}
use Rattle.circuits.proofs.blocks.fold_halves.Goals as goal

pub returns-clause-ok : goal.returns-clause-ok
unfolding halves_folded
returns-clause-ok g c =
    let op = combined_word c.args.fold in
    let middle = c.args.half * c.args.width in
    let first = c.in_ok-first.ensures.ok in
    let second = c.in_ok-second.ensures.ok in
    let folded = c.in_ok-folded.ensures.ok in
    let new = c.in_ok-new.ensures.ok in
    let kept = c.lanes_between-2.ensures.grows.keeps.lanes c.in_ok-first.first.0 first.made in
    record {
      made = new.made;
      lanes = omega (arith, new.lanes, folded.lanes, kept, first.lanes, c.lanes-lanes.ensures.lanes, c.requires.lanes);
      value = λ v possible.
          let after_fold = c.followed_by.ensures.grows.within v possible in
          let after_second = c.combine.ensures.grows.within v after_fold in
          let after_first = c.lanes_between-2.ensures.grows.within v after_second in
          let before = c.lanes_between.ensures.grows.within v after_first in
          let all = words v c.args.blocks in
          let long : c.lanes-lanes.result ≡ length all = omega (arith, (g.met.W.Wires.fits c.args.wires.now v c.args.blocks before c.requires.blocks).count, c.lanes-lanes.ensures.lanes) in
          let both = folded.value v after_fold
          ∙ ap (λ xs. lanewise op xs (words v c.in_ok-second.second)) (first.value v after_first)
          ∙ ap (lanewise op (slice_range all 0 middle)) (second.value v after_second) in
          new.value v possible
          ∙ ap (λ xs. xs ++ slice_range all (middle + middle) c.lanes-lanes.result) both
          ∙ ap (λ n. lanewise op (slice_range all 0 middle) (slice_range all middle (middle + middle)) ++ slice_range all (middle + middle) n) long;
    }
