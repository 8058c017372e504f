use Rattle.std.proofs.Common.{◌≡◌, ◌<◌, cond, [], ◌∷◌, ◌++◌, length, map, get_or, sym, ap, ◌∙◌, arith}
use Rattle.std.specs.Prelude.{bit_and, nat_eq}
use Rattle.std.specs.List.{range_with_len}
use Rattle.std.proofs.lemmas.List.FromFn.{get_or-map-range_with_len, length-map-range_with_len}
use Rattle.lanes.specs.Lanes.{lanewise1, picked}
use Rattle.wires.specs.Environment.{words}
use Rattle.circuits.proofs.RunLaws.{flags_begin, place_within}
use Rattle.circuits.proofs.run_flags.first_flags.Goals as goal

pub gather-requires-clause-few : goal.gather-requires-clause-few
gather-requires-clause-few g c =
    let n = c.lanes.result in
    let same : c.as_slice.result.now ≡ map (λ k. cond (nat_eq k 0) n k) (range_with_len 0 n) = c.as_slice.ensures.value ∙ c.in_ok-places.ensures in
    omega (arith, ap length same, length-map-range_with_len (λ k. cond (nat_eq k 0) n k) 0 n, c.lanes.ensures.few)

pub gather-requires-clause-places : goal.gather-requires-clause-places
gather-requires-clause-places g c k inside =
    let n = c.lanes.result in
    let same : c.as_slice.result.now ≡ map (λ k. cond (nat_eq k 0) n k) (range_with_len 0 n) = c.as_slice.ensures.value ∙ c.in_ok-places.ensures in
    let within : k < n = omega (arith, ap length same, length-map-range_with_len (λ k. cond (nat_eq k 0) n k) 0 n) in
    let place : get_or c.as_slice.result.now k 0 ≡ cond (nat_eq k 0) n k = ap (λ ps. get_or ps k 0) same ∙ get_or-map-range_with_len (λ j. cond (nat_eq j 0) n j) 0 n k k 0 within (omega arith) in
    omega (arith, place, place_within n k within, c.lanes.ensures.lanes, c.constant.ensures.grows.keeps.lanes c.args.joined.0 c.requires, c.in_ok-zero.ensures.ok.lanes)

pub returns-clause-ok : goal.returns-clause-ok
returns-clause-ok g c =
    let n = c.lanes.result in
    let same : c.as_slice.result.now ≡ map (λ k. cond (nat_eq k 0) n k) (range_with_len 0 n) = c.as_slice.ensures.value ∙ c.in_ok-places.ensures in
    let zero = c.in_ok-zero.ensures.ok in
    let cleared = c.in_ok-cleared.ensures.ok in
    let new = c.in_ok-new.ensures.ok in
    record {
      made = new.made;
      lanes = new.lanes ∙ cleared.lanes ∙ ap length same ∙ length-map-range_with_len (λ k. cond (nat_eq k 0) n k) 0 n ∙ c.lanes.ensures.lanes;
      value = λ v possible.
          let third = c.mask.ensures.grows.within v possible in
          let second = c.gather.ensures.grows.within v third in
          let first = c.constant.ensures.grows.within v second in
          let wide = (g.met.W.Wires.fits c.args.wires.now v c.args.joined first c.requires).count in
          new.value v possible
          ∙ ap (lanewise1 (λ x. bit_and x 1)) (cleared.value v third)
          ∙ ap (λ zs. lanewise1 (λ x. bit_and x 1) (picked c.as_slice.result.now (words v c.args.joined ++ (zs ++ [])))) (zero.value v second)
          ∙ ap (λ ps. lanewise1 (λ x. bit_and x 1) (picked ps (words v c.args.joined ++ 0 ∷ []))) same
          ∙ flags_begin n (words v c.args.joined) (wide ∙ sym c.lanes.ensures.lanes);
    }
