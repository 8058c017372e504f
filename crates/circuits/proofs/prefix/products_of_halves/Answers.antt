use Rattle.std.proofs.Common.{◌^◌, sym, ap, ◌∙◌, arith}
use Rattle.std.specs.Prelude.{bit_and}
use Rattle.lanes.specs.Lanes.{lanewise, lanewise1}
use Rattle.lanes.specs.Prefix.{spread_down, upper_places}
use Rattle.wires.specs.Environment.{words}
use Rattle.circuits.specs.Values.{tops_lanes, twice_lanes}
use Rattle.circuits.proofs.Levels.{grows_then, places_of}
use Rattle.circuits.proofs.LaneValues.{products_are}
use Rattle.circuits.proofs.Restated.{carried_on}
use Rattle.circuits.proofs.prefix.products_of_halves.Goals as goal

pub upper_twice-requires-clause-places : goal.upper_twice-requires-clause-places
upper_twice-requires-clause-places g c =
    let h = c.requires.halves in
    omega (arith, h.places, (places_of c.args.halves.level (omega (arith, h.few))).1)

pub tops_of_halves-requires-clause-places : goal.tops_of_halves-requires-clause-places
tops_of_halves-requires-clause-places g c =
    let h = c.requires.halves in
    omega (arith, h.places, (places_of c.args.halves.level (omega (arith, h.few))).1)

pub returns-clause-grows : goal.returns-clause-grows
returns-clause-grows g c =
    let w = g.W.Wires in
    grows_then w.grown w.possible w.shape c.args.wires.now c.tops_of_halves.new.wires c.and.new.self
    (grows_then w.grown w.possible w.shape c.args.wires.now c.upper_twice.new.wires c.tops_of_halves.new.wires c.upper_twice.ensures.grows c.tops_of_halves.ensures.grows)
    (grows_then w.grown w.possible w.shape c.tops_of_halves.new.wires c.spread_tops.new.wires c.and.new.self c.spread_tops.ensures.grows c.and.ensures.grows)

pub returns-clause-ok : goal.returns-clause-ok
returns-clause-ok g c =
    let w = g.W.Wires in
    let h = c.requires.halves in
    let halves = c.args.halves in
    let new = c.in_ok-new.ensures.ok in
    let after_tops = carried_on w.grown w.possible w.shape c.upper_twice.new.wires c.tops_of_halves.new.wires c.in_ok-twice.twice _ _ c.tops_of_halves.ensures.grows c.in_ok-twice.ensures.ok in
    let twice = carried_on w.grown w.possible w.shape c.tops_of_halves.new.wires c.spread_tops.new.wires c.in_ok-twice.twice _ _ c.spread_tops.ensures.grows after_tops in
    record {
      made = new.made;
      lanes = new.lanes ∙ twice.lanes ∙ sym c.requires.lanes;
      value = λ v possible.
          let before_and = c.and.ensures.grows.within v possible in
          let before_spread = c.spread_tops.ensures.grows.within v before_and in
          let gs = words v c.args.generate in
          let ps = words v c.args.propagate in
          new.value v possible
          ∙ ap (λ xs. lanewise bit_and xs (words v c.in_ok-spread.spread)) (twice.value v before_and)
          ∙ ap (lanewise bit_and (twice_lanes halves.places halves.upper ps))
          (c.in_ok-spread.ensures.ok.value v before_and ∙ ap (lanewise1 (spread_down halves.level)) (c.in_ok-tops.ensures.ok.value v before_spread))
          ∙ ap (λ n. lanewise bit_and (twice_lanes n halves.upper ps) (lanewise1 (spread_down halves.level) (tops_lanes n halves.top gs ps))) h.places
          ∙ ap (λ m. lanewise bit_and (twice_lanes (2 ^ halves.level) m ps) (lanewise1 (spread_down halves.level) (tops_lanes (2 ^ halves.level) halves.top gs ps))) h.upper
          ∙ ap (λ m. lanewise bit_and (twice_lanes (2 ^ halves.level) (upper_places halves.level) ps) (lanewise1 (spread_down halves.level) (tops_lanes (2 ^ halves.level) m gs ps))) h.top
          ∙ products_are halves.level gs ps;
    }
