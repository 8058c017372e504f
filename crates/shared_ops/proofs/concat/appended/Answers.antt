use Rattle.std.proofs.Common.{arith}
use Rattle.wires.specs.Environment.{all_words}
use Rattle.wires.specs.Growth.{total_lanes}
use Rattle.shared_ops.proofs.Appending.{all_lanes, picked_is, places_few, places_within}
use Rattle.shared_ops.proofs.Growing.{restated}
use Rattle.shared_ops.proofs.concat.appended.Goals as goal

pub gather-requires-clause-few : goal.gather-requires-clause-few
gather-requires-clause-few g c = omega (arith, places_few c.args.places.now (total_lanes (g.W.Wires.shape c.args.wires.now) c.args.parts.now) c.requires.places, c.requires.few)

pub gather-requires-clause-places : goal.gather-requires-clause-places
gather-requires-clause-places g c = places_within c.args.places.now (total_lanes (g.W.Wires.shape c.args.wires.now) c.args.parts.now) c.requires.places

pub returns-clause-ok : goal.returns-clause-ok
returns-clause-ok g c =
    let w = g.W.Wires in
    let old = c.args.wires.now in
    let parts = c.args.parts.now in
    let n = total_lanes (w.shape old) parts in
    let ok = c.in_ok-new.ensures in
    restated (w.possible c.gather.new.self) (w.shape c.gather.new.self) c.in_ok-new.new _ n _ _ (places_few c.args.places.now n c.requires.places) ok.ok
    (λ v now. picked_is c.args.places.now n (all_words v parts) c.requires.places
    (all_lanes (w.shape old) v parts (λ wire is. g.met.W.Wires.fits old v wire (ok.grows.within v now) is) c.requires.made))
