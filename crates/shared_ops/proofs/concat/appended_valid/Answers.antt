use Rattle.std.proofs.Common.{◌≡◌, ℕ, List, map, sym, ap, ◌∙◌, subst, arith}
use Rattle.std.specs.List.{range_with_len}
use Rattle.wires.specs.Environment.{all_words}
use Rattle.wires.specs.Growth.{AreMade, total_lanes}
use Rattle.wires.specs.declared.wire.Wire.{Wire}
use Rattle.shared_ops.specs.declared.joint.Joint.{Joint}
use Rattle.shared_ops.specs.Joint.{AreJoint, joint_count}
use Rattle.shared_ops.proofs.Appending.{parts_lanes, parts_made, valid_wide}
use Rattle.shared_ops.proofs.Growing.{restated}
use Rattle.shared_ops.proofs.concat.appended_valid.Goals as goal

-- the wires of valid words, as a list that is equal to theirs
made : (shape : List ℕ) (tables : List Joint) (parts : List Wire) → AreJoint shape tables → parts ≡ map (λ t. t.valid) tables → AreMade shape parts
made shape tables parts all is = subst (AreMade shape) (sym is) (parts_made shape (λ t. t.valid) tables (valid_wide shape tables all))

lanes : (shape : List ℕ) (tables : List Joint) (parts : List Wire) → AreJoint shape tables → parts ≡ map (λ t. t.valid) tables → total_lanes shape parts ≡ joint_count tables
lanes shape tables parts all is = ap (total_lanes shape) is ∙ parts_lanes shape (λ t. t.valid) tables (valid_wide shape tables all)

pub appended-requires-clause-made : goal.appended-requires-clause-made
appended-requires-clause-made g c = made (g.W.Wires.shape c.args.wires.now) c.args.tables.now c.as_slice.result.now c.requires.joint (c.as_slice.ensures.value ∙ c.in_ok-parts.ensures)

pub appended-requires-clause-places : goal.appended-requires-clause-places
appended-requires-clause-places g c =
    c.requires.places ∙ ap (range_with_len 0) (sym (lanes (g.W.Wires.shape c.args.wires.now) c.args.tables.now c.as_slice.result.now c.requires.joint (c.as_slice.ensures.value ∙ c.in_ok-parts.ensures)))

pub appended-requires-clause-few : goal.appended-requires-clause-few
appended-requires-clause-few g c =
    omega (arith, lanes (g.W.Wires.shape c.args.wires.now) c.args.tables.now c.as_slice.result.now c.requires.joint (c.as_slice.ensures.value ∙ c.in_ok-parts.ensures), c.requires.few)

pub returns-clause-ok : goal.returns-clause-ok
returns-clause-ok g c =
    let w = g.W.Wires in
    let is = c.as_slice.ensures.value ∙ c.in_ok-parts.ensures in
    restated (w.possible c.appended.new.wires) (w.shape c.appended.new.wires) c.in_ok-new.new _ (joint_count c.args.tables.now) _ _
    (lanes (w.shape c.args.wires.now) c.args.tables.now c.as_slice.result.now c.requires.joint is) c.in_ok-new.ensures.ok (λ v now. ap (all_words v) is)
