use Rattle.std.proofs.Common.{◌≡◌, ℕ, ◌<◌, List, map, length, get_or, sym, ap, ◌∙◌, subst, arith}
use Rattle.std.specs.Prelude.{All}
use Rattle.std.specs.List.{range_with_len}
use Rattle.wires.specs.Environment.{all_words}
use Rattle.wires.specs.Growth.{AreMade, total_lanes}
use Rattle.wires.specs.declared.wire.Wire.{Wire}
use Rattle.shared_ops.specs.declared.joint.Joint.{Joint}
use Rattle.shared_ops.specs.Joint.{AreJoint, column_wire, joint_count}
use Rattle.shared_ops.proofs.Appending.{column_wide, joint_on, parts_lanes, parts_made}
use Rattle.shared_ops.proofs.Growing.{restated, wiring_goes_on}
use Rattle.shared_ops.proofs.concat.appended_columns.Goals as goal

within : (tables : List Joint) (width column : ℕ) → All (λ t. length t.columns.items ≡ width) tables → column < width → All (λ t. column < length t.columns.items) tables
within tables width column all below k d h = let is : length (get_or tables k d).columns.items ≡ width = all k d h in omega arith

-- the wires of a column, as a list that is equal to theirs
made : (shape : List ℕ) (tables : List Joint) (parts : List Wire) (width column : ℕ) → AreJoint shape tables → All (λ t. length t.columns.items ≡ width) tables → column < width
    → parts ≡ map (column_wire column) tables → AreMade shape parts
made shape tables parts width column all wide below is =
    subst (AreMade shape) (sym is) (parts_made shape (column_wire column) tables (column_wide shape tables column all (within tables width column wide below)))

lanes : (shape : List ℕ) (tables : List Joint) (parts : List Wire) (width column : ℕ) → AreJoint shape tables → All (λ t. length t.columns.items ≡ width) tables → column < width
    → parts ≡ map (column_wire column) tables → total_lanes shape parts ≡ joint_count tables
lanes shape tables parts width column all wide below is =
    ap (total_lanes shape) is ∙ parts_lanes shape (column_wire column) tables (column_wide shape tables column all (within tables width column wide below))

pub appended-requires-clause-made : goal.appended-requires-clause-made
appended-requires-clause-made g c =
    let w = g.W.Wires in
    let now = joint_on w.grown w.possible w.shape c.args.wires.now c.loop-column.wires c.args.tables.now c.loop-column.invariant.0.grows c.requires.joint in
    made (w.shape c.loop-column.wires) c.args.tables.now c.as_slice.result.now c.args.width c.loop-column.column now c.requires.width c.loop-column-test.true (c.as_slice.ensures.value ∙ c.in_ok-parts.ensures)

pub appended-requires-clause-places : goal.appended-requires-clause-places
appended-requires-clause-places g c =
    let w = g.W.Wires in
    let now = joint_on w.grown w.possible w.shape c.args.wires.now c.loop-column.wires c.args.tables.now c.loop-column.invariant.0.grows c.requires.joint in
    c.requires.places
    ∙ ap (range_with_len 0) (sym (lanes (w.shape c.loop-column.wires) c.args.tables.now c.as_slice.result.now c.args.width c.loop-column.column now c.requires.width c.loop-column-test.true (c.as_slice.ensures.value ∙ c.in_ok-parts.ensures)))

pub appended-requires-clause-few : goal.appended-requires-clause-few
appended-requires-clause-few g c =
    let w = g.W.Wires in
    let now = joint_on w.grown w.possible w.shape c.args.wires.now c.loop-column.wires c.args.tables.now c.loop-column.invariant.0.grows c.requires.joint in
    omega (arith, lanes (w.shape c.loop-column.wires) c.args.tables.now c.as_slice.result.now c.args.width c.loop-column.column now c.requires.width c.loop-column-test.true (c.as_slice.ensures.value ∙ c.in_ok-parts.ensures), c.requires.few)

pub loop-column-preserved : goal.loop-column-preserved
loop-column-preserved g c =
    let w = g.W.Wires in
    let inv = c.loop-column.invariant.0 in
    let tables = c.args.tables.now in
    let column = c.loop-column.column in
    let now = joint_on w.grown w.possible w.shape c.args.wires.now c.loop-column.wires tables inv.grows c.requires.joint in
    let is = c.as_slice.ensures.value ∙ c.in_ok-parts.ensures in
    let total = lanes (w.shape c.loop-column.wires) tables c.as_slice.result.now c.args.width column now c.requires.width c.loop-column-test.true is in
    let here = restated (w.possible c.appended.new.wires) (w.shape c.appended.new.wires) c.in_ok-new.new _ (joint_count tables) _ _ total c.in_ok-new.ensures.ok (λ v is_now. ap (all_words v) is) in (
      wiring_goes_on w.grown w.possible w.shape w.ands c.args.wires.now c.loop-column.wires c.appended.new.wires c.loop-column.made.items c.push.new.self.items c.in_ok-new.new (joint_count tables) _ column 0 0 0
          inv c.in_ok-new.ensures.grows here (omega (arith, c.in_ok-new.ensures.cost)) c.in_ok-push.ensures.items (omega arith),
      omega (arith, c.loop-column.invariant.1, c.in_ok-new.ensures.calls),
    )
