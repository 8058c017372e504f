use Rattle.std.proofs.Common.{◌≡◌, ℕ, ◌<◌, List, map, length, get_or, refl, sym, ap, ◌∙◌, subst, arith}
use Rattle.std.specs.Prelude.{All}
use Rattle.std.specs.List.{filter, list_all}
use Rattle.std.proofs.lemmas.List.{get_or-map, length-map}
use Rattle.bags.specs.Bag.{SameBag}
use Rattle.wires.specs.Environment.{Environment, words}
use Rattle.wires.specs.declared.wire.Wire.{Wire}
use Rattle.padded.specs.Table.{AreBits, rows_in}
use Rattle.plain_operators.specs.Items.{holds_of}
use Rattle.plain_operators.specs.Operators.{kept_rows}
use Rattle.plain_operators.specs.Within.{AreTestsOf}
use Rattle.shared_ops.specs.Joint.{IsWide, column_words, joint_rows, valid_words}
use Rattle.shared_ops.specs.Lanes.{valid_after}
use Rattle.shared_ops.proofs.Growing.{wide_on}
use Rattle.shared_ops.proofs.Passing.{all_bits_after, all_live, all_long}
use Rattle.shared_ops.proofs.filter.filter_by.Goals as goal

pub returns-clause-makes : goal.returns-clause-makes
returns-clause-makes g c =
    let w = g.W.Wires in
    let old = c.args.wires.now in
    let new = c.passing.new.wires in
    let t = c.args.table.now in
    let tests = c.args.tests.now in
    let ok = c.in_ok-valid.ensures in
    let valid = c.in_ok-valid.valid in
    let same_columns = c.in_ok-columns.ensures.items ∙ c.as_slice.ensures.value in
    let items = c.item_laws.ensures.items in
    let lengths = c.item_laws.ensures.lengths in
    let long : (v : Environment) → w.possible new v → All (λ column. length column ≡ t.rows) (column_words v t) = λ v now k d h.
    let inside : k < length t.columns.items = omega (arith, length-map t.columns.items (words v)) in
    let wire : Wire = get_or t.columns.items k t.valid in
    let is = c.requires.joint.columns k t.valid inside in
    ap length (get_or-map (words v) t.columns.items k t.valid d inside) ∙ (g.met.W.Wires.fits old v wire (ok.grows.within v now) is.made).count ∙ is.wide in
    let long_valid : (v : Environment) → w.possible new v → length (valid_words v t) ≡ t.rows = λ v now.
    (g.met.W.Wires.fits old v t.valid (ok.grows.within v now) c.requires.joint.valid.made).count ∙ c.requires.joint.valid.wide in
    let fits : (v : Environment) → AreTestsOf tests (length (column_words v t)) = λ v. subst (λ (n : ℕ). AreTestsOf tests n) (sym (length-map t.columns.items (words v))) c.requires.fits in
    record {
      joint = record {
        valid = record { made = ok.ok.made; wide = ok.ok.lanes };
        columns = subst (λ (ws : List Wire). All (IsWide (w.shape new) t.rows) ws) (sym same_columns) (λ k d h. wide_on w.grown w.possible w.shape old new (get_or t.columns.items k d) t.rows ok.grows (c.requires.joint.columns k d h));
      };
      rows = refl;
      wide = ap length same_columns;
      bits = λ v now given. subst AreBits (sym (ok.ok.value v now)) (all_bits_after items lengths t.rows (column_words v t) (long v now) tests (valid_words v t) given);
      bag = λ v now given.
          let after = valid_after tests t.rows (column_words v t) (valid_words v t) in
          let passes = λ (row : List ℕ). list_all (λ test. test row) (map holds_of tests) in
          let kept : rows_in (column_words v t) after ≡ filter passes (joint_rows v t) =
          c.rows_of_kept.ensures passes (column_words v t) (valid_words v t) after (all_long items lengths t.rows (column_words v t) (long v now) tests (valid_words v t) (long_valid v now) (fits v) ∙ sym (long_valid v now))
          (λ k h. all_live items lengths t.rows (column_words v t) (long v now) tests (valid_words v t) k given (fits v) (omega (arith, long_valid v now))) in
          let same : rows_in (map (words v) c.in_ok-columns.columns.items) (words v valid) ≡ kept_rows (map holds_of tests) (joint_rows v t) =
          (λ i. rows_in (map (words v) (same_columns i)) (ok.ok.value v now i)) ∙ kept in
          let made = rows_in (map (words v) c.in_ok-columns.columns.items) (words v valid) in
          subst (λ (rows : List (List ℕ)). SameBag made rows) same (c.bags_are_equivalence.ensures.itself made);
    }
