use Rattle.std.proofs.Common.{◌≡◌, ◌+◌, ◌-◌, ◌<◌, ◌++◌, [], length, get_or, ap, ◌∙◌, arith, length-append}
use Rattle.std.specs.List.{range_with_len}
use Rattle.std.proofs.lemmas.List.{append-nil}
use Rattle.std.proofs.lemmas.List.FromFn.{length-range_with_len}
use Rattle.lanes.specs.Lanes.{picked}
use Rattle.wires.specs.Environment.{words}
use Rattle.circuits.proofs.BlockLaws.{all_is, between_within}
use Rattle.circuits.proofs.block_lanes.one_after_other.Goals as goal

pub gather-requires-clause-few : goal.gather-requires-clause-few
gather-requires-clause-few g c =
    let n = c.lanes.result + c.lanes-2.result in
    let same : c.as_slice.result.now ≡ range_with_len 0 (n - 0) = c.as_slice.ensures.value ∙ c.in_ok-places.ensures in
    omega (arith, ap length same, length-range_with_len 0 (n - 0), c.lanes.ensures.lanes, c.lanes-2.ensures.lanes, c.requires.few)

pub gather-requires-clause-places : goal.gather-requires-clause-places
gather-requires-clause-places g c k inside =
    let n = c.lanes.result + c.lanes-2.result in
    let same : c.as_slice.result.now ≡ range_with_len 0 (n - 0) = c.as_slice.ensures.value ∙ c.in_ok-places.ensures in
    let below : k < n - 0 = omega (arith, ap length same, length-range_with_len 0 (n - 0)) in
    omega (arith, ap (λ ps. get_or ps k 0) same, between_within 0 n k below, c.lanes.ensures.lanes, c.lanes-2.ensures.lanes)

pub returns-clause-ok : goal.returns-clause-ok
returns-clause-ok g c =
    let n = c.lanes.result + c.lanes-2.result in
    let same : c.as_slice.result.now ≡ range_with_len 0 (n - 0) = c.as_slice.ensures.value ∙ c.in_ok-places.ensures in
    let new = c.in_ok-new.ensures.ok in
    record {
      made = new.made;
      lanes = omega (arith, new.lanes, ap length same, length-range_with_len 0 (n - 0), c.lanes.ensures.lanes, c.lanes-2.ensures.lanes);
      value = λ v possible.
          let fits = g.met.W.Wires.fits in
          let before = c.gather.ensures.grows.within v possible in
          let first = words v c.args.first in
          let second = words v c.args.second in
          let first_long = (fits c.args.wires.now v c.args.first before c.requires.first).count in
          let second_long = (fits c.args.wires.now v c.args.second before c.requires.second).count in
          new.value v possible
          ∙ ap (λ ps. picked ps (first ++ (second ++ []))) same
          ∙ ap (λ xs. picked (range_with_len 0 (n - 0)) (first ++ xs)) (append-nil second)
          ∙ all_is n (first ++ second) (omega (arith, length-append first second, first_long, second_long, c.lanes.ensures.lanes, c.lanes-2.ensures.lanes));
    }
