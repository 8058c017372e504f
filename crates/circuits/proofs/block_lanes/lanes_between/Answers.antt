use Rattle.std.proofs.Common.{◌≡◌, ◌-◌, ◌<◌, length, get_or, refl, ap, ◌∙◌, arith}
use Rattle.std.specs.List.{range_with_len}
use Rattle.std.proofs.lemmas.List.{append-nil}
use Rattle.std.proofs.lemmas.List.FromFn.{length-range_with_len}
use Rattle.lanes.specs.Lanes.{picked}
use Rattle.wires.specs.Environment.{words}
use Rattle.circuits.proofs.BlockLaws.{between_is, between_within}
use Rattle.circuits.proofs.block_lanes.lanes_between.Goals as goal

pub gather-requires-clause-few : goal.gather-requires-clause-few
gather-requires-clause-few g c =
    let same : c.as_slice.result.now ≡ range_with_len c.args.from (c.args.to - c.args.from) = c.as_slice.ensures.value ∙ c.in_ok-places.ensures in
    omega (arith, ap length same, length-range_with_len c.args.from (c.args.to - c.args.from), c.requires.few)

pub gather-requires-clause-places : goal.gather-requires-clause-places
gather-requires-clause-places g c k inside =
    let same : c.as_slice.result.now ≡ range_with_len c.args.from (c.args.to - c.args.from) = c.as_slice.ensures.value ∙ c.in_ok-places.ensures in
    let below : k < c.args.to - c.args.from = omega (arith, ap length same, length-range_with_len c.args.from (c.args.to - c.args.from)) in
    omega (arith, ap (λ ps. get_or ps k 0) same, between_within c.args.from c.args.to k below, c.requires.to)

pub returns-clause-ok : goal.returns-clause-ok
returns-clause-ok g c =
    let same : c.as_slice.result.now ≡ range_with_len c.args.from (c.args.to - c.args.from) = c.as_slice.ensures.value ∙ c.in_ok-places.ensures in
    let new = c.in_ok-new.ensures.ok in
    record {
      made = new.made;
      lanes = new.lanes ∙ ap length same ∙ length-range_with_len c.args.from (c.args.to - c.args.from);
      value = λ v possible.
          let before = c.gather.ensures.grows.within v possible in
          let wide = (g.met.W.Wires.fits c.args.wires.now v c.args.wire before c.requires.made).count in
          new.value v possible
          ∙ simp append-nil refl
          ∙ ap (λ ps. picked ps (words v c.args.wire)) same
          ∙ between_is c.args.from c.args.to (words v c.args.wire) c.requires.from (omega (arith, wide, c.requires.to));
    }
