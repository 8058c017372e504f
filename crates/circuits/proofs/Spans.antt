-- What the levels of a prefix keep.
use Rattle.std.proofs.Common.{◌≡◌, ℕ, ◌+◌, ◌*◌, ◌^◌, ◌≤◌, List, sym, ap, ◌∙◌, add-one, arith}
use Rattle.lanes.specs.Lanes.{lanewise, lanewise1}
use Rattle.lanes.specs.Prefix.{half_products, lower_places, span_after, spread_down, upper_places}
use Rattle.wires.specs.Environment.{Environment, words}
use Rattle.wires.specs.Growth.{Carries, Grows, lanes_of}
use Rattle.wires.specs.declared.wire.Wire.{Wire}
use Rattle.circuits.specs.declared.halves.Halves.{Halves}
use Rattle.circuits.specs.Halves.{AreHalves}
use Rattle.circuits.specs.Loops.{Building, Spanning}
use Rattle.circuits.specs.Values.{generates_lanes, nearer_lanes, propagates_lanes}
use Rattle.circuits.proofs.Levels.{grows_then}
use Rattle.circuits.proofs.LaneValues.{generates_join, propagates_join, spread_step}

-- tops that are spread so far, one step further
pub spread_goes_on : {S : Type 0} (grown : S → S → Type 0) (possible : S → Environment → Type 0) (shape : S → List ℕ) (ands : S → ℕ) (first now next : S)
    (tops spread new : Wire) (n step places : ℕ)
    → Building grown possible shape ands first now spread n (λ v. lanewise1 (spread_down step) (words v tops)) 0
    → Grows grown possible shape now next
    → Carries (possible next) (shape next) new (lanes_of (shape now) spread) (λ v. nearer_lanes places (words v spread))
    → ands next ≡ ands now → places ≡ 2 ^ step
    → Building grown possible shape ands first next new n (λ v. lanewise1 (spread_down (step + 1)) (words v tops)) 0
spread_goes_on grown possible shape ands first now next tops spread new n step places before grows made count is =
    record {
      grows = grows_then grown possible shape first now next before.grows grows;
      carries = record {
        made = made.made;
        lanes = made.lanes ∙ before.carries.lanes;
        value = λ v possible_next.
            made.value v possible_next
            ∙ ap (nearer_lanes places) (before.carries.value v (grows.within v possible_next))
            ∙ ap (λ p. nearer_lanes p (lanewise1 (spread_down step) (words v tops))) is
            ∙ spread_step step (words v tops)
            ∙ ap (λ k. lanewise1 (spread_down k) (words v tops)) (sym (add-one step));
      };
      spent = omega (arith, before.spent, count);
    }

-- the spans after one more level
pub spans_go_on : {S : Type 0} (grown : S → S → Type 0) (possible : S → Environment → Type 0) (shape : S → List ℕ) (ands : S → ℕ) (first now next : S)
    (left right generate propagate generates propagates : Wire) (halves : Halves) (n level : ℕ)
    → Spanning grown possible shape ands first now left right generate propagate n level
    → AreHalves halves → halves.level ≡ level
    → Grows grown possible shape now next
    → Carries (possible next) (shape next) generates (lanes_of (shape now) generate)
    (λ v. generates_lanes halves.places halves.lower (words v generate) (lanewise (half_products halves.level) (words v generate) (words v propagate)))
    → Carries (possible next) (shape next) propagates (lanes_of (shape now) generate)
    (λ v. propagates_lanes halves.lower halves.upper (words v propagate) (lanewise (half_products halves.level) (words v generate) (words v propagate)))
    → ands next ≤ ands now + lanes_of (shape now) generate
    → Spanning grown possible shape ands first next left right generates propagates n (level + 1)
spans_go_on grown possible shape ands first now next left right generate propagate generates propagates halves n level before are is grows made handed cost =
    record {
      grows = grows_then grown possible shape first now next before.grows grows;
      generate = record {
        made = made.made;
        lanes = made.lanes ∙ before.generate.lanes;
        value = λ v possible_next.
            let earlier = grows.within v possible_next in
            let gs = lanewise (λ x y. (span_after level x y).generate) (words v left) (words v right) in
            let ps = lanewise (λ x y. (span_after level x y).propagate) (words v left) (words v right) in
            made.value v possible_next
            ∙ ap (λ xs. generates_lanes halves.places halves.lower xs (lanewise (half_products halves.level) xs (words v propagate))) (before.generate.value v earlier)
            ∙ ap (λ xs. generates_lanes halves.places halves.lower gs (lanewise (half_products halves.level) gs xs)) (before.propagate.value v earlier)
            ∙ ap (λ k. generates_lanes k halves.lower gs (lanewise (half_products halves.level) gs ps)) are.places
            ∙ ap (λ m. generates_lanes (2 ^ halves.level) m gs (lanewise (half_products halves.level) gs ps)) are.lower
            ∙ ap (λ k. generates_lanes (2 ^ k) (lower_places k) gs (lanewise (half_products k) gs ps)) is
            ∙ generates_join level (words v left) (words v right)
            ∙ ap (λ k. lanewise (λ x y. (span_after k x y).generate) (words v left) (words v right)) (sym (add-one level));
      };
      propagate = record {
        made = handed.made;
        lanes = handed.lanes ∙ before.generate.lanes;
        value = λ v possible_next.
            let earlier = grows.within v possible_next in
            let gs = lanewise (λ x y. (span_after level x y).generate) (words v left) (words v right) in
            let ps = lanewise (λ x y. (span_after level x y).propagate) (words v left) (words v right) in
            handed.value v possible_next
            ∙ ap (λ xs. propagates_lanes halves.lower halves.upper (words v propagate) (lanewise (half_products halves.level) xs (words v propagate))) (before.generate.value v earlier)
            ∙ ap (λ xs. propagates_lanes halves.lower halves.upper xs (lanewise (half_products halves.level) gs xs)) (before.propagate.value v earlier)
            ∙ ap (λ m. propagates_lanes m halves.upper ps (lanewise (half_products halves.level) gs ps)) are.lower
            ∙ ap (λ m. propagates_lanes (lower_places halves.level) m ps (lanewise (half_products halves.level) gs ps)) are.upper
            ∙ ap (λ k. propagates_lanes (lower_places k) (upper_places k) ps (lanewise (half_products k) gs ps)) is
            ∙ propagates_join level (words v left) (words v right)
            ∙ ap (λ k. lanewise (λ x y. (span_after k x y).propagate) (words v left) (words v right)) (sym (add-one level));
      };
      spent = omega (arith, before.spent, cost, before.generate.lanes);
    }

-- the wires of one more level
pub wires_of_level : (level : ℕ) → (level + 1) * (13 + (level + 1)) ≡ level * (13 + level) + (14 + 2 * level)
wires_of_level level = omega arith
