-- What a list stores, a longer list stores.
use Rattle.std.proofs.Common.{◌≡◌, ℕ, ◌+◌, ◌<◌, List, [], ◌∷◌, length, map, sym, ap, ◌∙◌, subst, arith}
use Rattle.std.specs.List.{All, AllZip}
use Rattle.std.proofs.lemmas.List.Elements.{recursion_from_All}
use Rattle.std.proofs.lemmas.Slice.Zip.{AllZip-long}
use Rattle.bags.specs.Bag.{SameBag}
use Rattle.clear_tasks.specs.ClearTask.{answer}
use Rattle.clear_tasks.specs.declared.task.ClearTask.{ClearTask}
use Rattle.lanes.specs.Three.{at}
use Rattle.lanes.specs.declared.party.Party.{Party}
use Rattle.padded.specs.Table.{AreBits, Table, table_rows}
use Rattle.query_graph.specs.IsGraph.{rows_at}
use Rattle.query_graph.specs.NodeSizes.{width_at}
use Rattle.query_graph.specs.declared.node.Node.{Node}
use Rattle.shared_ops.specs.Joint.{IsJoint, IsWide}
use Rattle.shared_ops.specs.declared.joint.Joint.{Joint}
use Rattle.step_lists.specs.Draws.{ThreeTapes}
use Rattle.step_lists.specs.Layout.{Layout, Steps, layout_of, party_of}
use Rattle.step_lists.specs.Open.{Open, SlotWords, open_of, register, slot}
use Rattle.step_lists.specs.Possible.{Possible, StandsIn}
use Rattle.step_lists.specs.Prefixes.{LayoutGrows, layout_prefix, possible_prefix, grows_prefix, register_prefix}
use Rattle.step_lists.specs.Shapes.{HasShape}
use Rattle.wires.specs.Environment.{words}
use Rattle.wires.specs.declared.wire.Wire.{Wire}
use Rattle.lowering.specs.Pieces.{HoldsNode, HoldsSame}
use Rattle.lowering.specs.Stored.{AreMade, AreRegisters, IsMade, IsShaped, IsSlotOf, Stores, table_in}
use Rattle.lowering.specs.declared.stored.Stored.{Stored}
use Rattle.lowering.specs.declared.stored.Stored.TheVariants.{Clear, Shared}
use Rattle.lowering.proofs.Elements.{map_range_same, map_all_same}

abbrev pub table : List (List ℕ) → List ℕ → Table
table columns valid = record { columns = columns; valid = valid }

pub tables : {c d : List (List ℕ)} {x y : List ℕ} → c ≡ d → x ≡ y → table c x ≡ table d y
tables {c} {d} {x} {y} e f = ap (λ z. table z x) e ∙ ap (λ z. table d z) f

-- ---- slots and registers stay made

slot_grown : (a b : Layout) → LayoutGrows a b → (p : Party) (n s : ℕ) → IsSlotOf a p n s → IsSlotOf b p n s
slot_grown a b g p n s h = record { inside = omega (arith, h.inside, g.slot_count p); shape = g.slots p s h.inside ∙ h.shape }

wide_grown : (a b : Layout) → LayoutGrows a b → (n : ℕ) (wire : Wire) → IsWide a.registers n wire → IsWide b.registers n wire
wide_grown a b g n wire h = record { made = omega (arith, h.made, g.count); wide = g.registers wire.0 h.made ∙ h.wide }

pub joint_grown : (a b : Layout) → LayoutGrows a b → (t : Joint) → IsJoint a.registers t → IsJoint b.registers t
joint_grown a b g t h = record { valid = wide_grown a b g t.rows t.valid h.valid; columns = λ k d i. wide_grown a b g t.rows _ (h.columns k d i) }

pub registers_grown : (a b : Layout) → LayoutGrows a b → (rows width : ℕ) (t : Joint) → AreRegisters a rows width t → AreRegisters b rows width t
registers_grown a b g rows width t h = record { joint = joint_grown a b g t h.joint; rows_are = h.rows_are; wide = h.wide }

made_by : (a b : Layout) → LayoutGrows a b → (rows width : ℕ) (s : Stored) → IsMade a rows width s → IsMade b rows width s
made_by a b g rows width (Clear party first) h = λ k i. slot_grown a b g (party_of party) rows (first + k) (h k i)
made_by a b g rows width (Shared t) h = registers_grown a b g rows width t h

pub made_grown : {T : Type 0} (a b : Steps T) (rows width : ℕ) (s : Stored) → StandsIn a b → IsMade (layout_of a) rows width s → IsMade (layout_of b) rows width s
made_grown a b rows width s front h = made_by (layout_of a) (layout_of b) (layout_prefix a b front) rows width s h

-- ---- and keep their words

module _ {T : Type 0} (answer : T → List (List ℕ) → List (List ℕ)) (a b : Steps T) (shaped : IsShaped answer a) (front : StandsIn a b) (slots : SlotWords) (ds : ThreeTapes) (p : Possible answer b slots ds) where
  slot_stays : (q : Party) (s : ℕ) → s < length (at q (layout_of a).slots) → slot (open_of answer b slots ds) q s ≡ slot (open_of answer a slots ds) q s
  slot_stays q s inside =
      let fits = shaped slots ds (possible_prefix answer a b slots ds front p) in
      let count = AllZip-long HasShape (at q (layout_of a).slots) (at q (open_of answer a slots ds).slots) (fits.slots q) in
      (grows_prefix answer a b slots ds front).slots q s (omega (arith, inside, count))

  wire_stays : (wire : Wire) → wire.0 < length (layout_of a).registers → words (register (open_of answer b slots ds)) wire ≡ words (register (open_of answer a slots ds)) wire
  wire_stays wire inside = register_prefix answer a b slots ds front p wire.0 inside

  pub columns_stay : (t : Joint) → IsJoint (layout_of a).registers t → map (words (register (open_of answer b slots ds))) t.columns.items ≡ map (words (register (open_of answer a slots ds))) t.columns.items
  columns_stay t h =
      map_all_same (IsWide (layout_of a).registers t.rows) (words (register (open_of answer b slots ds))) (words (register (open_of answer a slots ds))) t.columns.items
      (λ wire w. wire_stays wire w.made) (recursion_from_All (IsWide (layout_of a).registers t.rows) t.columns.items h.columns)

  pub valid_stays : (t : Joint) → IsJoint (layout_of a).registers t → words (register (open_of answer b slots ds)) t.valid ≡ words (register (open_of answer a slots ds)) t.valid
  valid_stays t h = wire_stays t.valid h.valid.made

  pub table_stays : (rows width : ℕ) (s : Stored) → IsMade (layout_of a) rows width s → table_in (open_of answer b slots ds) width s ≡ table_in (open_of answer a slots ds) width s
  table_stays rows width (Clear party first) h =
      tables (map_range_same (slot (open_of answer b slots ds) (party_of party)) (slot (open_of answer a slots ds) (party_of party)) first width
      (λ j i. slot_stays (party_of party) (first + j) (h j (omega (arith, i))).inside)) (slot_stays (party_of party) (first + width) (h width (omega arith)).inside)
  table_stays rows width (Shared t) h = tables (columns_stay t h.joint) (valid_stays t h.joint)

pub stores_grown : {T W : Type 0} (answer : T → List (List ℕ) → List (List ℕ)) (load : W → SlotWords) (a b : Steps T) (rows width : ℕ) (s : Stored) (meaning : W → List (List ℕ))
    → IsShaped answer a → StandsIn a b → Stores answer load a rows width s meaning → Stores answer load b rows width s meaning
stores_grown answer load a b rows width s meaning shaped front h = record {
  made = made_grown a b rows width s front h.made;
  bits = λ w ds p.
      subst (λ t. AreBits t.valid) (sym (table_stays answer a b shaped front (load w) ds p rows width s h.made)) (h.bits w ds (possible_prefix answer a b (load w) ds front p));
  bag = λ w ds p.
      subst (λ t. SameBag (table_rows t) (meaning w)) (sym (table_stays answer a b shaped front (load w) ds p rows width s h.made)) (h.bag w ds (possible_prefix answer a b (load w) ds front p));
}

-- ---- the same registers again

pub registers_again : (l : Layout) (rows width : ℕ) (t u : Joint) → u.columns.items ≡ t.columns.items → u.valid ≡ t.valid → u.rows ≡ t.rows → AreRegisters l rows width t → AreRegisters l rows width u
registers_again l rows width t u columns valid count h = record {
  joint = record {
    valid = subst (λ n. IsWide l.registers n u.valid) (sym count) (subst (IsWide l.registers t.rows) (sym valid) h.joint.valid);
    columns = subst (λ n. All (IsWide l.registers n) u.columns.items) (sym count) (subst (All (IsWide l.registers t.rows)) (sym columns) h.joint.columns);
  };
  rows_are = count ∙ h.rows_are;
  wide = ap length columns ∙ h.wide;
}

pub table_again : (o : Open) (width : ℕ) (t u : Joint) → u.columns.items ≡ t.columns.items → u.valid ≡ t.valid → table_in o width (Shared u) ≡ table_in o width (Shared t)
table_again o width t u columns valid = tables (ap (map (words (register o))) columns) (ap (words (register o)) valid)

-- ---- registers that hold what is stored hold it in a longer list

pub holds_grown : (a b : Steps ClearTask) (rows width : ℕ) (stored : Stored) (t : Joint) → IsShaped answer a → StandsIn a b → IsMade (layout_of a) rows width stored → HoldsSame a rows width stored t → HoldsSame b rows width stored t
holds_grown a b rows width stored t shaped front made h = record {
  made = registers_grown (layout_of a) (layout_of b) (layout_prefix a b front) rows width t h.made;
  same = λ slots ds p.
      table_stays answer a b shaped front slots ds p rows width (Shared t) h.made ∙ h.same slots ds (possible_prefix answer a b slots ds front p)
      ∙ sym (table_stays answer a b shaped front slots ds p rows width stored made);
}

pub all_hold : (nodes : List Node) (a b : Steps ClearTask) (parts : List Stored) → IsShaped answer a → StandsIn a b → AreMade nodes (layout_of a) parts → (sources : List ℕ) (tables : List Joint)
    → AllZip (HoldsNode nodes a parts) sources tables → AllZip (HoldsNode nodes b parts) sources tables
all_hold nodes a b parts shaped front made [] [] h = tt
all_hold nodes a b parts shaped front made [] (t ∷ ts) h = absurd h
all_hold nodes a b parts shaped front made (s ∷ ss) [] h = absurd h
all_hold nodes a b parts shaped front made (s ∷ ss) (t ∷ ts) h =
    ((h.0.0, h.0.1, holds_grown a b (rows_at nodes s) (width_at nodes s) h.0.0 t shaped front (made s h.0.0 h.0.1) h.0.2), all_hold nodes a b parts shaped front made ss ts h.1)

pub all_made : (nodes : List Node) (a b : Steps ClearTask) (parts : List Stored) → StandsIn a b → AreMade nodes (layout_of a) parts → AreMade nodes (layout_of b) parts
all_made nodes a b parts front made = λ s part is. made_grown a b (rows_at nodes s) (width_at nodes s) part front (made s part is)
