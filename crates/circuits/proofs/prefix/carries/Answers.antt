use Rattle.std.proofs.Common.{◌^◌, ap, ◌∙◌}
use Rattle.lanes.specs.Lanes.{lanewise}
use Rattle.lanes.specs.Prefix.{half_products, lower_places, span_after}
use Rattle.wires.specs.Environment.{words}
use Rattle.circuits.specs.Values.{generates_lanes}
use Rattle.circuits.proofs.LaneValues.{generates_join}
use Rattle.circuits.proofs.prefix.carries.Goals as goal

pub returns-clause-ok : goal.returns-clause-ok
returns-clause-ok g c =
    let spans = c.in_ok-spans.ensures in
    let products = c.in_ok-products.ensures.ok in
    let new = c.in_ok-new.ensures.ok in
    let halves = c.halves_of-halves.result in
    let are = c.halves_of-halves.ensures.are in
    record {
      made = new.made;
      lanes = new.lanes ∙ c.products_of_halves.ensures.grows.keeps.lanes c.in_ok-spans.spans.generate.0 spans.generate.made ∙ spans.generate.lanes;
      value = λ v possible.
          let before_join = c.join_generate.ensures.grows.within v possible in
          let earlier = c.products_of_halves.ensures.grows.within v before_join in
          let left = words v c.args.left in
          let right = words v c.args.right in
          let gs = lanewise (λ x y. (span_after 5 x y).generate) left right in
          let ps = lanewise (λ x y. (span_after 5 x y).propagate) left right in
          new.value v possible
          ∙ ap (generates_lanes halves.places halves.lower (words v c.in_ok-spans.spans.generate)) (products.value v before_join)
          ∙ ap (λ xs. generates_lanes halves.places halves.lower xs (lanewise (half_products halves.level) xs (words v c.in_ok-spans.spans.propagate))) (spans.generate.value v earlier)
          ∙ ap (λ xs. generates_lanes halves.places halves.lower gs (lanewise (half_products halves.level) gs xs)) (spans.propagate.value v earlier)
          ∙ ap (λ k. generates_lanes k halves.lower gs (lanewise (half_products halves.level) gs ps)) are.places
          ∙ ap (λ m. generates_lanes (2 ^ halves.level) m gs (lanewise (half_products halves.level) gs ps)) are.lower
          ∙ ap (λ k. generates_lanes (2 ^ k) (lower_places k) gs (lanewise (half_products k) gs ps)) c.halves_of-halves.ensures.level
          ∙ generates_join 5 left right;
    }
