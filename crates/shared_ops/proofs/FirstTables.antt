-- What the flags of pairs and the first rows make: distinct rows, groups, and one row of a whole table.
use Rattle.std.proofs.Common.{◌≡◌, ℕ, ◌+◌, ◌*◌, ◌^◌, ◌<◌, List, [], ◌++◌, bit_or, map, length, get_or, refl, sym, ap, ◌∙◌, subst, arith, length-append}
use Rattle.std.specs.Prelude.{All}
use Rattle.std.specs.List.{range_with_len}
use Rattle.std.proofs.lemmas.List.{get_or-map, length-map, map-append}
use Rattle.std.proofs.lemmas.List.Elements.{All-append, All-map}
use Rattle.std.proofs.lemmas.List.FromFn.{fill_by_all}
use Rattle.lanes.specs.Items.{LaneItems}
use Rattle.lanes.specs.Table.{PlacesOfTable}
use Rattle.lanes.specs.Word.{AreWords}
use Rattle.bags.specs.Bag.{SameBag}
use Rattle.wires.specs.Environment.{Environment, words}
use Rattle.wires.specs.Growth.{Carries, Grows, HasLanes, IsMade, lanes_of}
use Rattle.wires.specs.declared.wire.Wire.{Wire}
use Rattle.circuits.specs.Blocks.{blocks_folded}
use Rattle.circuits.specs.FoldLaws.{FoldsFromNeutral}
use Rattle.padded.specs.Table.{AreBits, column_at, is_live, rows_in}
use Rattle.plain_operators.specs.declared.aggregate.Aggregate.{Aggregate}
use Rattle.plain_operators.specs.declared.aggregate.Aggregate.TheVariants.{Sum}
use Rattle.plain_operators.specs.Firsts.{DistinctOfFirsts, GroupOfFirsts, is_first}
use Rattle.plain_operators.specs.Folds.{AggregatesAreFolds}
use Rattle.plain_operators.specs.Operators.{distinct_rows, grouped_rows, whole_table_rows}
use Rattle.plain_operators.specs.Within.{AreAggregatesOf, HasColumns}
use Rattle.shared_ops.specs.declared.firsts.FirstRows.{FirstRows}
use Rattle.shared_ops.specs.declared.joint.Joint.{Joint}
use Rattle.shared_ops.specs.Firsts.{AreFirsts, keys_across}
use Rattle.shared_ops.specs.Groups.{aggregate_lanes, numbered_lanes, unseen_valid, with_themselves}
use Rattle.shared_ops.specs.Joint.{IsJoint, IsWide, Makes, column_wire, column_words, joint_rows, valid_words}
use Rattle.shared_ops.specs.Pairs.{IsMatched, match_words, table_in}
use Rattle.shared_ops.specs.Wired.{AreWired}
use Rattle.shared_ops.proofs.Elements.{map_agree, map_map}
use Rattle.shared_ops.proofs.Flags.{unseen_bits, unseen_first}
use Rattle.shared_ops.proofs.Grouping.{distinct_made, group_made}
use Rattle.shared_ops.proofs.Growing.{wide_on, wired_wide, wired_words}
use Rattle.shared_ops.proofs.GroupCosts.{rows_below_pairs}
use Rattle.shared_ops.proofs.WholeTable.{any_bits, any_valid, whole_made}

-- the flags of pairs stay such
matched_on : {S : Type 0} (grown : S → S → Type 0) (possible : S → Environment → Type 0) (shape : S → List ℕ) (old new : S) (keys : List (ℕ × ℕ)) (left right : Joint) (wire : Wire)
    → Grows grown possible shape old new → IsMatched (possible old) (shape old) keys left right wire → IsMatched (possible new) (shape new) keys left right wire
matched_on grown possible shape old new keys left right wire grows h = record {
  wide = wide_on grown possible shape old new wire (left.rows * right.rows) grows h.wide;
  value = λ v now. h.value v (grows.within v now);
}

-- rows that match none before them are first
pub firsts_are : {S : Type 0} (grown : S → S → Type 0) (possible : S → Environment → Type 0) (shape : S → List ℕ) (mid new : S) (keys : List ℕ) (t : Joint) (made : FirstRows) → LaneItems → PlacesOfTable
    → IsMatched (possible mid) (shape mid) (with_themselves keys) t t made.flags → Grows grown possible shape mid new
    → Carries (possible new) (shape new) made.valid t.rows (λ v. unseen_valid t.rows (words v t.valid) (words v made.flags)) → AreFirsts (possible new) (shape new) keys t made
firsts_are grown possible shape mid new keys t made items places flags grows valid =
    let matched = matched_on grown possible shape mid new (with_themselves keys) t t made.flags grows flags in
    let is : (v : Environment) → possible new v → AreBits (valid_words v t) → words v made.valid ≡ unseen_valid t.rows (words v t.valid) (match_words (with_themselves keys) (table_in v t) (table_in v t) t.rows t.rows) =
    λ v now given. valid.value v now ∙ ap (unseen_valid t.rows (words v t.valid)) (matched.value v now given given) in
    record {
      flags = matched;
      wide = record { made = valid.made; wide = valid.lanes };
      bits = λ v now given. subst AreBits (sym (is v now given)) (unseen_bits items places keys (table_in v t) t.rows given);
      first = λ v now given k h. ap (λ found. is_live found k) (is v now given) ∙ unseen_first items places keys (table_in v t) t.rows given k h;
    }

firsts_on : {S : Type 0} (grown : S → S → Type 0) (possible : S → Environment → Type 0) (shape : S → List ℕ) (old new : S) (keys : List ℕ) (t : Joint) (firsts : FirstRows)
    → Grows grown possible shape old new → AreFirsts (possible old) (shape old) keys t firsts → AreFirsts (possible new) (shape new) keys t firsts
firsts_on grown possible shape old new keys t firsts grows h = record {
  flags = matched_on grown possible shape old new (with_themselves keys) t t firsts.flags grows h.flags;
  wide = wide_on grown possible shape old new firsts.valid t.rows grows h.wide;
  bits = λ v now. h.bits v (grows.within v now);
  first = λ v now. h.first v (grows.within v now);
}

columns_on : {S : Type 0} (grown : S → S → Type 0) (possible : S → Environment → Type 0) (shape : S → List ℕ) (old new : S) (t : Joint) → Grows grown possible shape old new → IsJoint (shape old) t
    → All (IsWide (shape new) t.rows) t.columns.items
columns_on grown possible shape old new t grows joint k d h = wide_on grown possible shape old new (get_or t.columns.items k d) t.rows grows (joint.columns k d h)

module _ {S : Type 0} (grown : S → S → Type 0) (possible : S → Environment → Type 0) (shape : S → List ℕ)
    (fits : (s : S) (v : Environment) (wire : Wire) → possible s v → IsMade (shape s) wire → HasLanes v wire (lanes_of (shape s) wire)) where
  long : (s : S) (v : Environment) (wire : Wire) (n : ℕ) → possible s v → IsWide (shape s) n wire → length (words v wire) ≡ n
  long s v wire n now h = (fits s v wire now h.made).count ∙ h.wide

  of_words : (s : S) (v : Environment) (t : Joint) → possible s v → IsJoint (shape s) t → All AreWords (column_words v t)
  of_words s v t now joint = All-map AreWords (words v) t.columns.items (λ k d h. (fits s v (get_or t.columns.items k d) now (joint.columns k d h).made).below)

  pub distinct_makes : (old new : S) (made t : Joint) (firsts : FirstRows) → DistinctOfFirsts → ((rows : List (List ℕ)) → SameBag rows rows)
      → IsJoint (shape old) t → made.columns.items ≡ t.columns.items → made.valid ≡ firsts.valid → made.rows ≡ t.rows → Grows grown possible shape old new
      → AreFirsts (possible new) (shape new) (range_with_len 0 (length t.columns.items)) t firsts
      → Makes (possible new) (shape new) made t.rows (length t.columns.items) (λ v. AreBits (valid_words v t)) (λ v. distinct_rows (joint_rows v t))
  distinct_makes old new made t firsts law itself joint columns valid rows grows is = record {
    joint = record {
      valid = subst (λ (n : ℕ). IsWide (shape new) n made.valid) (sym rows) (subst (λ (wire : Wire). IsWide (shape new) t.rows wire) (sym valid) is.wide);
      columns = subst (λ (n : ℕ). All (IsWide (shape new) n) made.columns.items) (sym rows)
          (subst (λ (wires : List Wire). All (IsWide (shape new) t.rows) wires) (sym columns) (columns_on grown possible shape old new t grows joint));
    };
    rows = rows;
    wide = ap length columns;
    bits = λ v now given. subst (λ (wire : Wire). AreBits (words v wire)) (sym valid) (is.bits v now given);
    bag = λ v now given.
        let numbers : range_with_len 0 (length t.columns.items) ≡ range_with_len 0 (length (column_words v t)) = ap (range_with_len 0) (sym (length-map t.columns.items (words v))) in
        let same : joint_rows v made ≡ distinct_rows (joint_rows v t) =
        (λ i. rows_in (map (words v) (columns i)) (words v (valid i)))
        ∙ distinct_made law (table_in v t) (words v firsts.valid) t.rows (long old v t.valid t.rows (grows.within v now) joint.valid) (long new v firsts.valid t.rows now is.wide)
        (subst (λ (keys : List ℕ). (k : ℕ) → k < t.rows → is_live (words v firsts.valid) k ≡ is_first (is_live (valid_words v t)) (keys_across keys (column_words v t)) k) numbers (is.first v now given)) in
        subst (λ (found : List (List ℕ)). SameBag (joint_rows v made) found) same (itself (joint_rows v made));
  }

  -- the words of wires of aggregates
  aggregates_are : (s : S) (v : Environment) (made : List Wire) (aggregates : List Aggregate) (n m : ℕ) (flags : List ℕ) (columns : List (List ℕ)) (value : ℕ → Environment → List ℕ) → possible s v
      → length made ≡ length aggregates → AreWired (possible s) (shape s) made m value → ((k : ℕ) → value k v ≡ numbered_lanes k aggregates n m flags columns)
      → map (words v) made ≡ map (λ aggregate. aggregate_lanes aggregate n m flags columns) aggregates
  aggregates_are s v made aggregates n m flags columns value now count wired is =
      let lanes = λ (aggregate : Aggregate). aggregate_lanes aggregate n m flags columns in
      wired_words (possible s) (shape s) made m value v wired now
      ∙ ap (λ k. map (λ j. value j v) (range_with_len 0 k)) count
      ∙ map_agree (λ j. value j v) (λ j. lanes (get_or aggregates j (Sum 0))) (range_with_len 0 (length aggregates)) (λ k d h. is (get_or (range_with_len 0 (length aggregates)) k d))
      ∙ sym (map_map lanes (λ j. get_or aggregates j (Sum 0)) (range_with_len 0 (length aggregates)))
      ∙ ap (map lanes) (sym (fill_by_all (λ j. get_or aggregates j (Sum 0)) aggregates (length aggregates) (Sum 0) refl (λ k h. refl)))

  pub whole_makes : (old mid new : S) (made t : Joint) (aggregates : List Aggregate) → FoldsFromNeutral → AggregatesAreFolds → ((rows : List (List ℕ)) → SameBag rows rows)
      → IsJoint (shape old) t → AreAggregatesOf aggregates (length t.columns.items) → 0 < t.rows → t.rows < 2 ^ 64 → made.rows ≡ 1 → length made.columns.items ≡ length aggregates
      → Grows grown possible shape old mid → AreWired (possible mid) (shape mid) made.columns.items 1 (λ k v. numbered_lanes k aggregates t.rows 1 (words v t.valid) (column_words v t))
      → Grows grown possible shape mid new → Carries (possible new) (shape new) made.valid 1 (λ v. blocks_folded bit_or t.rows 1 (valid_words v t))
      → Makes (possible new) (shape new) made 1 (length aggregates) (λ v. AreBits (valid_words v t)) (λ v. whole_table_rows aggregates (joint_rows v t))
  whole_makes old mid new made t aggregates neutral folds itself joint of some few rows count first wired second valid = record {
    joint = record {
      valid = record { made = valid.made; wide = valid.lanes ∙ sym rows };
      columns = λ k d h.
          subst (λ (n : ℕ). IsWide (shape new) n (get_or made.columns.items k d)) (sym rows)
          (wide_on grown possible shape mid new (get_or made.columns.items k d) 1 second (wired_wide (possible mid) (shape mid) made.columns.items 1 _ wired k d h));
    };
    rows = rows;
    wide = count;
    bits = λ v now given. subst AreBits (sym (valid.value v now ∙ any_valid (valid_words v t) t.rows given)) (any_bits _);
    bag = λ v now given.
        let middle = second.within v now in
        let before = first.within v middle in
        let width : length t.columns.items ≡ length (column_words v t) = sym (length-map t.columns.items (words v)) in
        let same : joint_rows v made ≡ whole_table_rows aggregates (joint_rows v t) =
        (λ i. rows_in (aggregates_are mid v made.columns.items aggregates t.rows 1 (valid_words v t) (column_words v t) _ middle count wired (λ k. refl) i) (valid.value v now i))
        ∙ whole_made neutral folds aggregates (table_in v t) t.rows (long old v t.valid t.rows before joint.valid) given (of_words old v t before joint) (subst (AreAggregatesOf aggregates) width of) some few in
        subst (λ (found : List (List ℕ)). SameBag (joint_rows v made) found) same (itself (joint_rows v made));
  }

  -- the words of the wires of keys
  keys_are : (v : Environment) (t : Joint) (keys : List ℕ) → HasColumns keys (length t.columns.items) → map (words v) (map (λ key. column_wire key t) keys) ≡ map (column_at (column_words v t)) keys
  keys_are v t keys within =
      map_map (words v) (λ key. column_wire key t) keys
      ∙ map_agree (λ key. words v (column_wire key t)) (column_at (column_words v t)) keys (λ k d h. sym (get_or-map (words v) t.columns.items (get_or keys k d) t.valid [] (within k d h)))

  pub group_makes : (old mid new : S) (made t : Joint) (firsts : FirstRows) (keys : List ℕ) (aggregates : List Aggregate) (folded : List Wire)
      → GroupOfFirsts → FoldsFromNeutral → AggregatesAreFolds → PlacesOfTable → ((rows : List (List ℕ)) → SameBag rows rows)
      → IsJoint (shape old) t → HasColumns keys (length t.columns.items) → AreAggregatesOf aggregates (length t.columns.items) → t.rows * t.rows < 2 ^ 32
      → made.rows ≡ t.rows → made.valid ≡ firsts.valid → made.columns.items ≡ map (λ key. column_wire key t) keys ++ folded → length folded ≡ length aggregates
      → Grows grown possible shape old mid → AreFirsts (possible mid) (shape mid) keys t firsts
      → Grows grown possible shape mid new → AreWired (possible new) (shape new) folded t.rows (λ k v. numbered_lanes k aggregates t.rows t.rows (words v firsts.flags) (column_words v t))
      → Makes (possible new) (shape new) made t.rows (length keys + length aggregates) (λ v. AreBits (valid_words v t)) (λ v. grouped_rows keys aggregates (joint_rows v t))
  group_makes old mid new made t firsts keys aggregates folded group neutral folds places itself joint within of few rows valid columns count first before second wired =
      let is = firsts_on grown possible shape mid new keys t firsts second before in
      let behind : All (IsWide (shape new) t.rows) (map (λ key. column_wire key t) keys) =
      All-map (IsWide (shape new) t.rows) (λ key. column_wire key t) keys
      (λ k d h. wide_on grown possible shape mid new (column_wire (get_or keys k d) t) t.rows second (columns_on grown possible shape old mid t first joint (get_or keys k d) t.valid (within k d h))) in
      record {
        joint = record {
          valid = subst (λ (n : ℕ). IsWide (shape new) n made.valid) (sym rows) (subst (λ (wire : Wire). IsWide (shape new) t.rows wire) (sym valid) is.wide);
          columns = subst (λ (n : ℕ). All (IsWide (shape new) n) made.columns.items) (sym rows)
              (subst (λ (wires : List Wire). All (IsWide (shape new) t.rows) wires) (sym columns)
              (All-append (IsWide (shape new) t.rows) (map (λ key. column_wire key t) keys) folded behind (wired_wide (possible new) (shape new) folded t.rows _ wired)));
        };
        rows = rows;
        wide = ap length columns ∙ length-append (map (λ key. column_wire key t) keys) folded ∙ (λ i. length-map keys (λ key. column_wire key t) i + count i);
        bits = λ v now given. subst (λ (wire : Wire). AreBits (words v wire)) (sym valid) (is.bits v now given);
        bag = λ v now given.
            let start = first.within v (second.within v now) in
            let width : length t.columns.items ≡ length (column_words v t) = sym (length-map t.columns.items (words v)) in
            let small : t.rows < 2 ^ 64 = omega (arith, few, rows_below_pairs t.rows) in
            let flags = is.flags.value v now given given in
            let words_are : column_words v made ≡ map (column_at (column_words v t)) keys
            ++ map (λ aggregate. aggregate_lanes aggregate t.rows t.rows (match_words (with_themselves keys) (table_in v t) (table_in v t) t.rows t.rows) (column_words v t)) aggregates =
            ap (map (words v)) columns ∙ map-append (words v) (map (λ key. column_wire key t) keys) folded
            ∙ (λ i. keys_are v t keys within i
            ++ aggregates_are new v folded aggregates t.rows t.rows (match_words (with_themselves keys) (table_in v t) (table_in v t) t.rows t.rows) (column_words v t) _ now count wired
            (λ k. ap (λ found. numbered_lanes k aggregates t.rows t.rows found (column_words v t)) flags) i) in
            let same : joint_rows v made ≡ grouped_rows keys aggregates (joint_rows v t) =
            (λ i. rows_in (words_are i) (words v (valid i)))
            ∙ group_made group neutral folds places keys aggregates (table_in v t) t.rows (of_words old v t start joint) (subst (AreAggregatesOf aggregates) width of) small
            (words v firsts.valid) (long old v t.valid t.rows start joint.valid) (long new v firsts.valid t.rows now is.wide) (is.first v now given) in
            subst (λ (found : List (List ℕ)). SameBag (joint_rows v made) found) same (itself (joint_rows v made));
      }
