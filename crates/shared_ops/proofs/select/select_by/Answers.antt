use Rattle.std.proofs.Common.{◌≡◌, ℕ, List, map, length, refl, sym, ap, ◌∙◌, subst, arith}
use Rattle.std.specs.Prelude.{All}
use Rattle.std.proofs.lemmas.List.{length-map}
use Rattle.bags.specs.Bag.{SameBag}
use Rattle.wires.specs.Environment.{words}
use Rattle.padded.specs.Table.{rows_in}
use Rattle.plain_operators.specs.Items.{item_word}
use Rattle.plain_operators.specs.Operators.{rows_of_items}
use Rattle.plain_operators.specs.Within.{AreItemsOf}
use Rattle.shared_ops.specs.Joint.{column_words, joint_rows, valid_words}
use Rattle.shared_ops.specs.Lanes.{item_lanes}
use Rattle.shared_ops.proofs.Growing.{wide_on, wired_wide, wired_words}
use Rattle.shared_ops.proofs.Items.{all_items, items_across}
use Rattle.shared_ops.proofs.Zeroing.{as_long}
use Rattle.shared_ops.proofs.select.select_by.Goals as goal

pub returns-clause-makes : goal.returns-clause-makes
returns-clause-makes g c =
    let w = g.W.Wires in
    let old = c.args.wires.now in
    let new = c.item_wires.new.wires in
    let t = c.args.table.now in
    let items = c.args.items.now in
    let ok = c.in_ok-columns.ensures in
    let made = c.in_ok-columns.columns.items in
    let joint = c.requires.joint in
    record {
      joint = record {
        valid = wide_on w.grown w.possible w.shape old new t.valid t.rows ok.grows joint.valid;
        columns = wired_wide (w.possible new) (w.shape new) made t.rows _ ok.ok;
      };
      rows = refl;
      wide = ok.count;
      bits = λ v now bits. bits;
      bag = λ v now bits.
          let before = ok.grows.within v now in
          let columns = column_words v t in
          let valid = valid_words v t in
          let count : length valid ≡ t.rows = (g.met.W.Wires.fits old v t.valid before joint.valid.made).count ∙ joint.valid.wide in
          let each = as_long (w.shape old) t.columns.items t.valid t.rows v (λ wire is. g.met.W.Wires.fits old v wire before is) joint.valid joint.columns in
          let long : All (λ column. length column ≡ t.rows) columns = λ k d h. each k d h ∙ count in
          let fits : AreItemsOf items (length columns) = subst (λ (n : ℕ). AreItemsOf items n) (sym (length-map t.columns.items (words v))) c.requires.fits in
          let others = map (λ item. item_lanes item t.rows columns) items in
          let are : map (words v) made ≡ others = wired_words (w.possible new) (w.shape new) made t.rows _ v ok.ok now ∙ all_items items t.rows columns (length made) ok.count in
          let of_row = λ (row : List ℕ). map (λ item. item row) (map item_word items) in
          let same : rows_in (map (words v) made) valid ≡ rows_of_items (map item_word items) (joint_rows v t) =
          ap (λ cs. rows_in cs valid) are
          ∙ c.rows_of_mapped.ensures of_row columns others valid (λ k h is. items_across c.item_laws.ensures.items t.rows columns long items k fits (omega (arith, count))) in
          subst (λ (rows : List (List ℕ)). SameBag (rows_in (map (words v) made) valid) rows) same (c.bags_are_equivalence.ensures.itself (rows_in (map (words v) made) valid));
    }
