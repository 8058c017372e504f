use Rattle.std.proofs.Common.{◌≡◌, ℕ, ◌*◌, ◌/◌, ◌%◌, List, map, length, refl, sym, ◌∙◌, subst}
use Rattle.std.specs.List.{range_with_len}
use Rattle.bags.specs.Bag.{SameBag}
use Rattle.padded.specs.Table.{AreBits, rows_in}
use Rattle.plain_operators.specs.Operators.{have_equal_keys, joined_row, joined_rows}
use Rattle.wires.specs.Environment.{Environment, words}
use Rattle.shared_ops.specs.Joint.{column_words, joint_rows, valid_words}
use Rattle.shared_ops.specs.Pairs.{columns_of_pairs, match_words, rows_match, table_in}
use Rattle.shared_ops.proofs.Growing.{grows_then, wide_on}
use Rattle.shared_ops.proofs.Joining.{flags_are_bits, is_joined}
use Rattle.shared_ops.proofs.join.join_by.Goals as goal

pub returns-clause-grows : goal.returns-clause-grows
returns-clause-grows g c =
    let w = g.W.Wires in
    grows_then w.grown w.possible w.shape c.args.wires.now c.matched.new.wires c.joined_columns.new.wires c.matched.ensures.grows c.joined_columns.ensures.grows

pub returns-clause-makes : goal.returns-clause-makes
returns-clause-makes g c =
    let w = g.W.Wires in
    let old = c.args.wires.now in
    let mid = c.matched.new.wires in
    let new = c.joined_columns.new.wires in
    let left = c.args.left.now in
    let right = c.args.right.now in
    let keys = c.args.keys.now in
    let n = left.rows in
    let m = right.rows in
    let valid = c.in_ok-valid.valid in
    let columns = c.in_ok-columns.columns.items in
    let grows = c.in_ok-columns.ensures.grows in
    let matched = c.in_ok-valid.ensures.ok in
    let flags : (v : Environment) → w.possible new v → AreBits (valid_words v left) → AreBits (valid_words v right) → words v valid ≡ match_words keys (table_in v left) (table_in v right) n m =
    λ v now first second. matched.value v (grows.within v now) first second in
    record {
      joint = record { valid = wide_on w.grown w.possible w.shape mid new valid (n * m) grows matched.wide; columns = c.in_ok-columns.ensures.wide };
      rows = refl;
      wide = c.in_ok-columns.ensures.count;
      bits = λ v now given.
          subst AreBits (sym (flags v now given.0 given.1)) (flags_are_bits (λ p. rows_match keys (table_in v left) (table_in v right) (p / m) (p % m)) (range_with_len 0 (n * m)));
      bag = λ v now given.
          let before = c.in_ok-valid.ensures.grows.within v (grows.within v now) in
          let lefts = table_in v left in
          let rights = table_in v right in
          let n_is : n ≡ length (valid_words v left) = sym ((g.met.W.Wires.fits old v left.valid before c.requires.left.valid.made).count ∙ c.requires.left.valid.wide) in
          let m_is : m ≡ length (valid_words v right) = sym ((g.met.W.Wires.fits old v right.valid before c.requires.right.valid.made).count ∙ c.requires.right.valid.wide) in
          let made = rows_in (map (words v) columns) (words v valid) in
          let same : made ≡ joined_rows keys (joint_rows v left) (joint_rows v right) =
          (λ i. rows_in (c.in_ok-columns.ensures.value v now i) (flags v now given.0 given.1 i))
          ∙ (λ i. rows_in (columns_of_pairs keys (n_is i) (m_is i) (column_words v left) (column_words v right)) (match_words keys lefts rights (n_is i) (m_is i)))
          ∙ c.rows_of_pairs.ensures (have_equal_keys keys) (joined_row keys) lefts rights _ (is_joined c.item_laws.ensures.items c.table_laws.ensures keys lefts rights) in
          subst (λ (rows : List (List ℕ)). SameBag made rows) same (c.bags_are_equivalence.ensures.itself made);
    }
