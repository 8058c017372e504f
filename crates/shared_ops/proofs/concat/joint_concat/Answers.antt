use Rattle.std.proofs.Common.{List, map, ap, ◌∙◌, subst}
use Rattle.wires.specs.Environment.{all_words}
use Rattle.wires.specs.Growth.{Carries}
use Rattle.shared_ops.specs.declared.joint.Joint.{Joint}
use Rattle.shared_ops.specs.Joint.{column_wire, joint_count, joint_width}
use Rattle.shared_ops.specs.Wired.{AreWired}
use Rattle.shared_ops.proofs.OneBehindOther.{concat_makes}
use Rattle.shared_ops.proofs.concat.joint_concat.Goals as goal

pub returns-clause-makes : goal.returns-clause-makes
returns-clause-makes g c =
    let w = g.W.Wires in
    let old = c.args.wires.now in
    let mid = c.appended_columns.new.wires in
    let new = c.appended_valid.new.wires in
    let tables = c.args.tables.now.items in
    let made : Joint = record { columns = c.in_ok-columns.columns; valid = c.in_ok-valid.valid; rows = c.count_rows-rows.result } in
    let columns = subst (λ (ts : List Joint). AreWired (w.possible mid) (w.shape mid) made.columns.items (joint_count ts) (λ k v. all_words v (map (column_wire k) ts))) c.as_slice-3.ensures.value c.in_ok-columns.ensures.ok in
    let valid = subst (λ (ts : List Joint). Carries (w.possible new) (w.shape new) made.valid (joint_count ts) (λ v. all_words v (map (λ t. t.valid) ts))) c.as_slice-5.ensures.value c.in_ok-valid.ensures.ok in
    concat_makes w.grown w.possible w.shape old mid new made tables c.rows_of_appended.ensures c.bags_are_equivalence.ensures.itself (λ v wire now is. g.met.W.Wires.fits old v wire now is)
    c.requires.joint c.requires.alike (c.count_rows-rows.ensures ∙ ap joint_count c.as_slice.ensures.value)
    (c.in_ok-columns.ensures.width ∙ c.width_of-width.ensures ∙ ap joint_width c.as_slice-2.ensures.value)
    c.in_ok-columns.ensures.grows columns c.in_ok-valid.ensures.grows valid
