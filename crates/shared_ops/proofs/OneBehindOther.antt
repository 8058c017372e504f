-- What tables one behind the other make.
use Rattle.std.proofs.Common.{◌≡◌, ℕ, List, map, length, get_or, sym, ap, ◌∙◌, subst}
use Rattle.std.specs.Prelude.{All}
use Rattle.std.specs.List.{flat_map, range_with_len}
use Rattle.bags.specs.Bag.{SameBag}
use Rattle.wires.specs.Environment.{Environment, all_words}
use Rattle.wires.specs.Growth.{Carries, Grows, HasLanes, IsMade, lanes_of}
use Rattle.wires.specs.declared.wire.Wire.{Wire}
use Rattle.padded.specs.Laws.{RowsOfAppended}
use Rattle.padded.specs.Table.{AreBits}
use Rattle.shared_ops.specs.declared.joint.Joint.{Joint}
use Rattle.shared_ops.specs.Joint.{AllBits, AreAlike, AreJoint, IsWide, Makes, column_wire, column_words, joint_count, joint_rows, joint_width, valid_words}
use Rattle.shared_ops.specs.Wired.{AreWired}
use Rattle.shared_ops.proofs.Appending.{all_bits, appended_rows}
use Rattle.shared_ops.proofs.Growing.{wide_on, wired_wide, wired_words}
use Rattle.shared_ops.proofs.Zeroing.{as_long}

pub concat_makes : {S : Type 0} (grown : S → S → Type 0) (possible : S → Environment → Type 0) (shape : S → List ℕ) (old mid new : S) (made : Joint) (tables : List Joint)
    → RowsOfAppended → ((rows : List (List ℕ)) → SameBag rows rows)
    → ((v : Environment) (wire : Wire) → possible old v → IsMade (shape old) wire → HasLanes v wire (lanes_of (shape old) wire))
    → AreJoint (shape old) tables → AreAlike tables → made.rows ≡ joint_count tables → length made.columns.items ≡ joint_width tables
    → Grows grown possible shape old mid → AreWired (possible mid) (shape mid) made.columns.items (joint_count tables) (λ k v. all_words v (map (column_wire k) tables))
    → Grows grown possible shape mid new → Carries (possible new) (shape new) made.valid (joint_count tables) (λ v. all_words v (map (λ t. t.valid) tables))
    → Makes (possible new) (shape new) made (joint_count tables) (joint_width tables) (λ v. AllBits v tables) (λ v. flat_map (joint_rows v) tables)
concat_makes grown possible shape old mid new made tables law itself fits joint alike rows wide first columns second valid =
    let many = made.columns.items in
    record {
      joint = record {
        valid = record { made = valid.made; wide = valid.lanes ∙ sym rows };
        columns = λ k d h.
            subst (λ (n : ℕ). IsWide (shape new) n (get_or many k d)) (sym rows)
            (wide_on grown possible shape mid new (get_or many k d) (joint_count tables) second (wired_wide (possible mid) (shape mid) many (joint_count tables) _ columns k d h));
      };
      rows = rows;
      wide = wide;
      bits = λ v now given. subst AreBits (sym (valid.value v now)) (all_bits v tables given);
      bag = λ v now given.
          let middle = second.within v now in
          let before = first.within v middle in
          let long : All (λ t. All (λ column. length column ≡ length (valid_words v t)) (column_words v t)) tables = λ k d h.
          let t = get_or tables k d in
          as_long (shape old) t.columns.items t.valid t.rows v (λ wire is. fits v wire before is) (joint k d h).valid (joint k d h).columns in
          let columns_are : column_words v made ≡ map (λ k. all_words v (map (column_wire k) tables)) (range_with_len 0 (joint_width tables)) =
          wired_words (possible mid) (shape mid) many (joint_count tables) _ v columns middle ∙ ap (λ n. map (λ k. all_words v (map (column_wire k) tables)) (range_with_len 0 n)) wide in
          let same : joint_rows v made ≡ flat_map (joint_rows v) tables = appended_rows law v tables (joint_width tables) (column_words v made) (valid_words v made) alike long columns_are (valid.value v now) in
          subst (λ (found : List (List ℕ)). SameBag (joint_rows v made) found) same (itself (joint_rows v made));
    }
