use Rattle.std.proofs.Common.{◌≡◌, ◌-◌, ◌<◌, length, map, get_or, refl, sym, ap, ◌∙◌, arith}
use Rattle.std.proofs.lemmas.List.{append-nil}
use Rattle.std.specs.List.{range_with_len}
use Rattle.std.proofs.lemmas.List.FromFn.{get_or-map-range_with_len, length-map-range_with_len}
use Rattle.lanes.specs.Lanes.{picked}
use Rattle.wires.specs.Environment.{words}
use Rattle.circuits.proofs.RunLaws.{moved_is}
use Rattle.circuits.proofs.run_flags.moved_along.Goals as goal

pub gather-requires-clause-few : goal.gather-requires-clause-few
gather-requires-clause-few g c =
    let same : c.as_slice.result.now ≡ map (λ k. k - c.args.by) (range_with_len 0 c.lanes.result) = c.as_slice.ensures.value ∙ c.in_ok-places.ensures in
    omega (arith, ap length same, length-map-range_with_len (λ k. k - c.args.by) 0 c.lanes.result, c.lanes.ensures.few)

pub gather-requires-clause-places : goal.gather-requires-clause-places
gather-requires-clause-places g c k inside =
    let same : c.as_slice.result.now ≡ map (λ k. k - c.args.by) (range_with_len 0 c.lanes.result) = c.as_slice.ensures.value ∙ c.in_ok-places.ensures in
    let within : k < c.lanes.result = omega (arith, ap length same, length-map-range_with_len (λ k. k - c.args.by) 0 c.lanes.result) in
    let place : get_or c.as_slice.result.now k 0 ≡ k - c.args.by = ap (λ ps. get_or ps k 0) same ∙ get_or-map-range_with_len (λ j. j - c.args.by) 0 c.lanes.result k k 0 within (omega arith) in
    omega (arith, place, within, c.lanes.ensures.lanes)

pub returns-clause-ok : goal.returns-clause-ok
returns-clause-ok g c =
    let same : c.as_slice.result.now ≡ map (λ k. k - c.args.by) (range_with_len 0 c.lanes.result) = c.as_slice.ensures.value ∙ c.in_ok-places.ensures in
    let new = c.in_ok-new.ensures.ok in
    record {
      made = new.made;
      lanes = new.lanes ∙ ap length same ∙ length-map-range_with_len (λ k. k - c.args.by) 0 c.lanes.result ∙ c.lanes.ensures.lanes;
      value = λ v possible.
          let before = c.gather.ensures.grows.within v possible in
          let wide = (g.met.W.Wires.fits c.args.wires.now v c.args.wire before c.requires).count in
          new.value v possible
          ∙ simp append-nil refl
          ∙ ap (λ ps. picked ps (words v c.args.wire)) same
          ∙ moved_is c.lanes.result c.args.by (words v c.args.wire) (wide ∙ sym c.lanes.ensures.lanes);
    }
