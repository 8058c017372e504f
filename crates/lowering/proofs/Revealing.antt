-- A table with zeros at each place without a row, and what opening it shows and leaves.
use Rattle.std.proofs.Common.{◌≡◌, ℕ, zero, suc, ◌+◌, ◌<◌, ◌≤◌, Bool, true, false, cond, List, [], ◌∷◌, ◌++◌, get_or, length, map, refl, sym, ap, ◌∙◌, subst, arith, length-append}
use Rattle.std.specs.List.{All, AllByRecursion, AllZip, range_with_len, slice_index}
use Rattle.std.proofs.lemmas.List.{get_or_append_left, get_or-append-add, length-map, map-append}
use Rattle.std.proofs.lemmas.List.Elements.{All-from_recursion, recursion_from_All}
use Rattle.std.proofs.lemmas.List.FromFn.{length-range_with_len}
use Rattle.std.proofs.lemmas.Slice.Zip.{AllZip-long}
use Rattle.bags.specs.Bag.{SameBag}
use Rattle.bags.specs.Laws.{BagsAreEquivalence}
use Rattle.clear_tasks.specs.ClearTask.{answer}
use Rattle.clear_tasks.specs.declared.task.ClearTask.{ClearTask}
use Rattle.lanes.specs.Three.{at, put}
use Rattle.lanes.specs.declared.party.Party.{Party}
use Rattle.lanes.specs.declared.party.Party.TheVariants.{First, Second, Third}
use Rattle.lanes.specs.declared.three.Three.{Three}
use Rattle.padded.specs.Laws.{OpenedOfBags, RowsOfOrdered, RowsOfZeroed}
use Rattle.padded.specs.Table.{AreBits, Table, opened_rows, rows_in, shown_rows, table_rows, zeroed_columns}
use Rattle.plain_meaning.specs.Meaning.{meanings, rows_of}
use Rattle.query_graph.specs.Content.{Content}
use Rattle.query_graph.specs.IsGraph.{rows_at}
use Rattle.query_graph.specs.NodeSizes.{width_at}
use Rattle.shared_ops.specs.Joint.{IsWide, column_words, valid_words}
use Rattle.shared_ops.specs.declared.joint.Joint.{Joint}
use Rattle.step_lists.specs.Draws.{ThreeTapes}
use Rattle.step_lists.specs.Laws.{RevealIsOneOrder, RevealOrder, drawn_behind}
use Rattle.step_lists.specs.Layout.{Layout, Steps, layout_of, party_of, rows_moved}
use Rattle.step_lists.specs.Open.{Open, item, open_of, open_step, register, slot, turned}
use Rattle.step_lists.specs.OpenFits.{OpenFits}
use Rattle.step_lists.specs.Possible.{Possible, StandsIn, behind}
use Rattle.step_lists.specs.Prefixes.{open-behind, possible_prefix}
use Rattle.step_lists.specs.Seen.{AreAlike, Rows, also, none, only, same_party, same_rows, seen_step, shown_of}
use Rattle.step_lists.specs.Shapes.{HasLength, HasShape}
use Rattle.step_lists.specs.declared.step.Shape.TheVariants as shapes
use Rattle.tapes.specs.Order.{applied}
use Rattle.tapes.specs.RowLaws.{columns_applied, rows_across}
use Rattle.wires.specs.Environment.{words}
use Rattle.wires.specs.declared.wire.Wire.{Wire}
use Rattle.lowering.specs.FirstSlots.{WorldOf, load_world}
use Rattle.lowering.specs.Lowered.{StoresNode}
use Rattle.lowering.specs.Pieces.{IsJoined, IsZeroed, opening_of, registers_of}
use Rattle.lowering.specs.Stored.{AreRegisters, IsShaped, IsSlotOf, table_in}
use Rattle.lowering.specs.declared.stored.Stored.{Stored}
use Rattle.lowering.specs.declared.stored.Stored.TheVariants.{Clear, Shared}
use Rattle.lowering.proofs.Elements.{map_map}
use Rattle.lowering.proofs.Holding.{holds_grown, stores_grown, table_stays, tables}
use Rattle.lowering.proofs.Relating.{map_get}
use Rattle.lowering.proofs.Sharing.{layout_more}

-- ---- words of registers

register_long : (ns : List ℕ) (xs : List (List ℕ)) (r : ℕ) → AllZip HasLength ns xs → r < length ns → length (get_or xs r []) ≡ get_or ns r 0
register_long [] xs r h i = absurd (omega arith)
register_long (n ∷ ns) [] r h i = absurd h
register_long (n ∷ ns) (x ∷ xs) zero h i = h.0.long
register_long (n ∷ ns) (x ∷ xs) (suc r) h i = register_long ns xs r h.1 (omega arith)

wire_long : (l : Layout) (o : Open) (n : ℕ) (wire : Wire) → OpenFits l o → IsWide l.registers n wire → length (words (register o) wire) ≡ n
wire_long l o n wire fits h = register_long l.registers o.registers wire.0 fits.registers h.made ∙ h.wide

wires_long : (l : Layout) (o : Open) (n : ℕ) (ws : List Wire) → OpenFits l o → AllByRecursion (IsWide l.registers n) ws → AllByRecursion (λ column. length column ≡ n) (map (words (register o)) ws)
wires_long l o n [] fits h = tt
wires_long l o n (w ∷ ws) fits h = (wire_long l o n w fits h.0, wires_long l o n ws fits h.1)

-- a table in registers is so many columns of so many words
record IsLong (n width : ℕ) (t : Table) : Type 0 where
  pub valid : length t.valid ≡ n
  pub columns : All (λ column. length column ≡ length t.valid) t.columns
  pub wide : length t.columns ≡ width

table_long : (l : Layout) (o : Open) (n width : ℕ) (t : Joint) → OpenFits l o → AreRegisters l n width t → IsLong n width (table_in o width (Shared t))
table_long l o n width t fits h = record {
  valid = valid;
  columns = subst (λ k. All (λ column. length column ≡ k) (map (words (register o)) t.columns.items)) (sym valid)
      (All-from_recursion (λ column. length column ≡ n) (map (words (register o)) t.columns.items)
      (wires_long l o n t.columns.items fits (subst (λ k. AllByRecursion (IsWide l.registers k) t.columns.items) h.rows_are (recursion_from_All (IsWide l.registers t.rows) t.columns.items h.joint.columns))));
  wide = length-map t.columns.items (words (register o)) ∙ h.wide;
}
  where
    valid : length (words (register o) t.valid) ≡ n
    valid = wire_long l o n t.valid fits (subst (λ k. IsWide l.registers k t.valid) h.rows_are h.joint.valid)

-- what is moved has the rows of its first register
rows_of_moved : (l : Layout) (n width : ℕ) (t : Joint) → AreRegisters l n width t → rows_moved l (registers_of t) ≡ n
rows_of_moved l n width t h = by t.columns.items (subst (λ k. AllByRecursion (IsWide l.registers k) t.columns.items) h.rows_are (recursion_from_All (IsWide l.registers t.rows) t.columns.items h.joint.columns))
    (h.joint.valid.wide ∙ h.rows_are)
  where
    by : (ws : List Wire) → AllByRecursion (IsWide l.registers n) ws → get_or l.registers t.valid.0 0 ≡ n → rows_moved l (map (λ w. w.0) ws ++ t.valid.0 ∷ []) ≡ n
    by [] k e = e
    by (w ∷ ws) k e = k.0.wide

-- the items of a list at all places
items_all : (xs : List (List ℕ)) (count : ℕ) → count ≡ length xs → map (item xs) (range_with_len 0 count) ≡ xs
items_all xs count e = ap (λ n. map (item xs) (range_with_len 0 n)) e ∙ map_get xs (item xs) 0 (λ k h. let z : 0 + k ≡ k = omega arith in ap (item xs) z)

module _ (o : Open) (t : Joint) (f : List ℕ → List ℕ) where
  -- the words of all registers of a table
  moved_are : map (λ r. f (register o r)) (registers_of t) ≡ map f (column_words (register o) t) ++ f (valid_words (register o) t) ∷ []
  moved_are =
      map-append (λ r. f (register o r)) (map (λ w. w.0) t.columns.items) (t.valid.0 ∷ [])
      ∙ ap (λ xs. xs ++ f (valid_words (register o) t) ∷ []) (map_map (λ (w : Wire). w.0) (λ r. f (register o r)) t.columns.items ∙ sym (map_map (words (register o)) f t.columns.items))

  moved_count : length (map (λ r. f (register o r)) (registers_of t)) ≡ length t.columns.items + 1
  moved_count = length-map (registers_of t) (λ r. f (register o r)) ∙ length-append (map (λ w. w.0) t.columns.items) (t.valid.0 ∷ []) ∙ ap (λ n. n + 1) (length-map t.columns.items (λ (w : Wire). w.0))

  -- all of them are shown
  shown_are : map (item (map (λ r. f (register o r)) (registers_of t))) (range_with_len 0 (length t.columns.items + 1)) ≡ map f (column_words (register o) t) ++ f (valid_words (register o) t) ∷ []
  shown_are = items_all (map (λ r. f (register o r)) (registers_of t)) (length t.columns.items + 1) (sym moved_count) ∙ moved_are

-- words under an order are bits where they are
bits_applied : (order valid : List ℕ) → AreBits valid → AreBits (applied order valid)
bits_applied order valid h = record { each = by order }
  where
    by : (o : List ℕ) (k : ℕ) → slice_index (applied o valid) k ≤ 1
    by [] k = omega arith
    by (x ∷ o) zero = h.each x
    by (x ∷ o) (suc k) = by o k

map_itself : (xs : List (List ℕ)) → map (λ (x : List ℕ). x) xs ≡ xs
map_itself [] = refl
map_itself (x ∷ xs) = ap (λ ys. x ∷ ys) (map_itself xs)

map_alike : (f g : List ℕ → List ℕ) (xs : List (List ℕ)) → ((x : List ℕ) → f x ≡ g x) → map f xs ≡ map g xs
map_alike f g [] same = refl
map_alike f g (x ∷ xs) same = ap (λ y. y ∷ map f xs) (same x) ∙ ap (λ ys. g x ∷ ys) (map_alike f g xs same)

at_put : {A : Type 0} (q : Party) (x : A) (s : Three A) → at q (put q x s) ≡ x
at_put First x s = refl
at_put Second x s = refl
at_put Third x s = refl

same_at : {A : Type 0} (x d : A) (ks : List ℕ) (k : ℕ) → k < length ks → get_or (map (λ (j : ℕ). x) ks) k d ≡ x
same_at x d [] k h = absurd (omega arith)
same_at x d (j ∷ ks) zero h = refl
same_at x d (j ∷ ks) (suc k) h = same_at x d ks k (omega arith)

-- ---- a table that may be opened

module _ (graph : Content) (number : ℕ) where
  abbrev n : ℕ
  n = rows_at graph.nodes number

  abbrev width : ℕ
  width = width_at graph.nodes number

  abbrev meaning : WorldOf graph.nodes → List (List ℕ)
  meaning w = rows_of (meanings graph.nodes w.rows) number

  abbrev Open_ : Steps ClearTask → WorldOf graph.nodes → ThreeTapes → Open
  Open_ list w ds = open_of answer list (load_world graph.nodes w) ds

  -- it stores the node, and opened it shows what is to be shown
  pub record IsOpenable (list : Steps ClearTask) (t : Joint) : Type 0 where
    pub stores : StoresNode graph list number (Shared t)
    pub shown : (w : WorldOf graph.nodes) (ds : ThreeTapes) → Possible answer list (load_world graph.nodes w) ds
        → SameBag (shown_rows (table_in (Open_ list w ds) width (Shared t)).columns (table_in (Open_ list w ds) width (Shared t)).valid) (opened_rows width n (meaning w))

  pub openable_grown : (a b : Steps ClearTask) (t : Joint) → IsShaped answer a → StandsIn a b → IsOpenable a t → IsOpenable b t
  openable_grown a b t shaped front h = record {
    stores = stores_grown answer (load_world graph.nodes) a b n width (Shared t) meaning shaped front h.stores;
    shown = λ w ds p.
        subst (λ (x : Table). SameBag (shown_rows x.columns x.valid) (opened_rows width n (meaning w))) (sym (table_stays answer a b shaped front (load_world graph.nodes w) ds p n width (Shared t) h.stores.made))
        (h.shown w ds (possible_prefix answer a b (load_world graph.nodes w) ds front p));
  }

  -- zeros at each place without a row
  module _ (zeroes : RowsOfZeroed) (same : OpenedOfBags) (bags : BagsAreEquivalence) (a m z : Steps ClearTask) (part : Stored) (t zeroed : Joint)
      (shaped_a : IsShaped answer a) (shaped_m : IsShaped answer m) (shaped_z : IsShaped answer z)
      (stored : StoresNode graph a number part) (joined : IsJoined a m n width part t) (zeros : IsZeroed m z n width t zeroed) where
    there : StoresNode graph m number part
    there = stores_grown answer (load_world graph.nodes) a m n width part meaning shaped_a joined.adds.front stored

    holds : (w : WorldOf graph.nodes) (ds : ThreeTapes) → Possible answer z (load_world graph.nodes w) ds → table_in (Open_ z w ds) width (Shared t) ≡ table_in (Open_ z w ds) width part
    holds w ds p = (holds_grown m z n width part t shaped_m zeros.adds.front there.made joined.holds).same (load_world graph.nodes w) ds p

    in_z : StoresNode graph z number part
    in_z = stores_grown answer (load_world graph.nodes) m z n width part meaning shaped_m zeros.adds.front there

    module _ (w : WorldOf graph.nodes) (ds : ThreeTapes) (p : Possible answer z (load_world graph.nodes w) ds) where
      abbrev v : ℕ → List ℕ
      v = register (Open_ z w ds)

      bits : AreBits (valid_words v t)
      bits = subst (λ (x : Table). AreBits x.valid) (sym (holds w ds p)) (in_z.bits w ds p)

      bag : SameBag (rows_in (column_words v t) (valid_words v t)) (meaning w)
      bag = subst (λ (x : Table). SameBag (table_rows x) (meaning w)) (sym (holds w ds p)) (in_z.bag w ds p)

      long : IsLong n width (table_in (Open_ z w ds) width (Shared t))
      long = table_long (layout_of z) (Open_ z w ds) n width t (shaped_z (load_world graph.nodes w) ds p) (holds_grown m z n width part t shaped_m zeros.adds.front there.made joined.holds).made

      zeroed_is : table_in (Open_ z w ds) width (Shared zeroed) ≡ record { columns = zeroed_columns (valid_words v t) (column_words v t); valid = valid_words v t }
      zeroed_is = tables (zeros.columns (load_world graph.nodes w) ds p bits) (ap (words v) zeros.valid)

      zeroed_bits : AreBits (table_in (Open_ z w ds) width (Shared zeroed)).valid
      zeroed_bits = subst (λ (x : Table). AreBits x.valid) (sym zeroed_is) bits

      zeroed_bag : SameBag (table_rows (table_in (Open_ z w ds) width (Shared zeroed))) (meaning w)
      zeroed_bag = subst (λ (x : Table). SameBag (table_rows x) (meaning w)) (sym zeroed_is)
          (subst (λ rows. SameBag rows (meaning w)) (sym (zeroes.same (column_words v t) (valid_words v t) long.columns)) bag)

      opened_bag : SameBag (shown_rows (zeroed_columns (valid_words v t) (column_words v t)) (valid_words v t)) (opened_rows width n (meaning w))
      opened_bag =
          bags.along _ _ _ (zeroes.opened (column_words v t) (valid_words v t) bits long.columns)
          (subst (λ k. SameBag (opened_rows k (length (valid_words v t)) (rows_in (column_words v t) (valid_words v t))) (opened_rows width n (meaning w))) (sym long.wide)
          (subst (λ k. SameBag (opened_rows width k (rows_in (column_words v t) (valid_words v t))) (opened_rows width n (meaning w))) (sym long.valid)
          (same width n (rows_in (column_words v t) (valid_words v t)) (meaning w) bag)))

      zeroed_shown : SameBag (shown_rows (table_in (Open_ z w ds) width (Shared zeroed)).columns (table_in (Open_ z w ds) width (Shared zeroed)).valid) (opened_rows width n (meaning w))
      zeroed_shown = subst (λ (x : Table). SameBag (shown_rows x.columns x.valid) (opened_rows width n (meaning w))) (sym zeroed_is) opened_bag

    pub zeroed_openable : IsOpenable z zeroed
    zeroed_openable = record { stores = record { made = zeros.made; bits = zeroed_bits; bag = zeroed_bag }; shown = zeroed_shown }

  -- ---- one opening

  module _ (one_order : RevealIsOneOrder answer) (ordered : RowsOfOrdered) (bags : BagsAreEquivalence) (b : Steps ClearTask) (party : ℕ) (t : Joint)
      (shaped : IsShaped answer b) (openable : IsOpenable b t) where
    abbrev opened_list : Steps ClearTask
    opened_list = behind b (opening_of party t ∷ [])

    abbrev q : Party
    q = party_of party

    front : StandsIn b opened_list
    front = record { more = opening_of party t ∷ []; is = refl }

    moved_rows : rows_moved (layout_of b) (registers_of t) ≡ n
    moved_rows = rows_of_moved (layout_of b) n width t openable.stores.made

    -- what it shows
    pub opening_shows : (w : WorldOf graph.nodes) (ds : ThreeTapes) → Possible answer b (load_world graph.nodes w) ds → (v : Party)
        → AreAlike (seen_step v (layout_of b) (Open_ b w ds) (opening_of party t)) (only (same_party v q) (Rows (opened_rows width n (meaning w))))
    opening_shows w ds p v = by (same_party v q)
      where
        long : IsLong n width (table_in (Open_ b w ds) width (Shared t))
        long = table_long (layout_of b) (Open_ b w ds) n width t (shaped (load_world graph.nodes w) ds p) openable.stores.made

        seen_is : shown_of (map (register (Open_ b w ds)) (registers_of t)) (range_with_len 0 (length t.columns.items + 1)) ≡ column_words (register (Open_ b w ds)) t ++ valid_words (register (Open_ b w ds)) t ∷ []
        seen_is = shown_are (Open_ b w ds) t (λ xs. xs) ∙ ap (λ cs. cs ++ valid_words (register (Open_ b w ds)) t ∷ []) (map_itself (column_words (register (Open_ b w ds)) t))

        bag : SameBag (rows_across (rows_moved (layout_of b) (registers_of t)) (shown_of (map (register (Open_ b w ds)) (registers_of t)) (range_with_len 0 (length t.columns.items + 1)))) (opened_rows width n (meaning w))
        bag =
            subst (λ xs. SameBag (rows_across (rows_moved (layout_of b) (registers_of t)) xs) (opened_rows width n (meaning w))) (sym seen_is)
            (subst (λ k. SameBag (rows_across k (column_words (register (Open_ b w ds)) t ++ valid_words (register (Open_ b w ds)) t ∷ [])) (opened_rows width n (meaning w))) (long.valid ∙ sym moved_rows)
            (openable.shown w ds p))

        by : (e : Bool) → AreAlike (only e (Rows (rows_across (rows_moved (layout_of b) (registers_of t)) (shown_of (map (register (Open_ b w ds)) (registers_of t)) (range_with_len 0 (length t.columns.items + 1)))))) (only e (Rows (opened_rows width n (meaning w))))
        by true = also (same_rows bag) none
        by false = none

    -- and what the party has then
    slots_are : (w : WorldOf graph.nodes) (ds : ThreeTapes) → Possible answer b (load_world graph.nodes w) ds
        → (order : List ℕ) → ((xs : List ℕ) → turned (drawn_behind b (opening_of party t) ds) xs ≡ applied order xs)
        → at q (Open_ opened_list w ds).slots ≡ at q (Open_ b w ds).slots ++ (columns_applied order (column_words (register (Open_ b w ds)) t) ++ applied order (valid_words (register (Open_ b w ds)) t) ∷ [])
    slots_are w ds p order turns =
        ap (λ (x : Open). at q x.slots) (open-behind answer b (opening_of party t ∷ []) (load_world graph.nodes w) ds)
        ∙ ap (λ e. at q (cond e (Open_ b w ds) (open_step answer (Open_ b w ds) (opening_of party t) (drawn_behind b (opening_of party t) ds))).slots) p.going
        ∙ at_put q _ (Open_ b w ds).slots
        ∙ ap (λ more. at q (Open_ b w ds).slots ++ more) (shown_are (Open_ b w ds) t (turned (drawn_behind b (opening_of party t) ds))
        ∙ ap (λ cs. cs ++ turned (drawn_behind b (opening_of party t) ds) (valid_words (register (Open_ b w ds)) t) ∷ []) (map_alike (turned (drawn_behind b (opening_of party t) ds)) (applied order) (column_words (register (Open_ b w ds)) t) turns)
        ∙ ap (λ x. columns_applied order (column_words (register (Open_ b w ds)) t) ++ x ∷ []) (turns (valid_words (register (Open_ b w ds)) t)))

    module _ (w : WorldOf graph.nodes) (ds : ThreeTapes) (p : Possible answer opened_list (load_world graph.nodes w) ds) where
      before : Possible answer b (load_world graph.nodes w) ds
      before = possible_prefix answer b opened_list (load_world graph.nodes w) ds front p

      one : RevealOrder (rows_moved (layout_of b) (registers_of t)) (drawn_behind b (opening_of party t) ds)
      one = one_order b party (registers_of t) (range_with_len 0 (length t.columns.items + 1)) (load_world graph.nodes w) ds p.fits

      abbrev columns : List (List ℕ)
      columns = column_words (register (Open_ b w ds)) t

      abbrev valid : List ℕ
      valid = valid_words (register (Open_ b w ds)) t

      long_b : IsLong n width (table_in (Open_ b w ds) width (Shared t))
      long_b = table_long (layout_of b) (Open_ b w ds) n width t (shaped (load_world graph.nodes w) ds before) openable.stores.made

      turned_wide : length (columns_applied one.order columns) ≡ width
      turned_wide = length-map columns (applied one.order) ∙ long_b.wide

      count : length (at q (Open_ b w ds).slots) ≡ length (at q (layout_of b).slots)
      count = (AllZip-long HasShape (at q (layout_of b).slots) (at q (Open_ b w ds).slots) ((shaped (load_world graph.nodes w) ds before).slots q))

      slot_is : (k : ℕ) → slot (Open_ opened_list w ds) q (length (at q (layout_of b).slots) + k) ≡ get_or (columns_applied one.order columns ++ applied one.order valid ∷ []) k []
      slot_is k =
          ap (λ xs. get_or xs (length (at q (layout_of b).slots) + k) []) (slots_are w ds before one.order one.turns)
          ∙ ap (λ m. get_or (at q (Open_ b w ds).slots ++ (columns_applied one.order columns ++ applied one.order valid ∷ [])) (m + k) []) (sym count)
          ∙ get_or-append-add (at q (Open_ b w ds).slots) (columns_applied one.order columns ++ applied one.order valid ∷ []) k []

      turned_is : table_in (Open_ opened_list w ds) width (Clear party (length (at q (layout_of b).slots))) ≡ record { columns = columns_applied one.order columns; valid = applied one.order valid }
      turned_is = tables
          (ap (λ m. map (slot (Open_ opened_list w ds) q) (range_with_len (length (at q (layout_of b).slots)) m)) (sym turned_wide)
          ∙ map_get (columns_applied one.order columns) (slot (Open_ opened_list w ds) q) (length (at q (layout_of b).slots))
          (λ k h. slot_is k ∙ get_or_append_left (columns_applied one.order columns) (applied one.order valid ∷ []) [] k h))
          (let e : width ≡ length (columns_applied one.order columns) + 0 = omega (arith, turned_wide) in
          slot_is width ∙ ap (λ m. get_or (columns_applied one.order columns ++ applied one.order valid ∷ []) m []) e
          ∙ get_or-append-add (columns_applied one.order columns) (applied one.order valid ∷ []) 0 [])

      turned_bits : AreBits (table_in (Open_ opened_list w ds) width (Clear party (length (at q (layout_of b).slots)))).valid
      turned_bits = subst (λ (x : Table). AreBits x.valid) (sym turned_is) (bits_applied one.order valid (openable.stores.bits w ds before))

      turned_bag : SameBag (table_rows (table_in (Open_ opened_list w ds) width (Clear party (length (at q (layout_of b).slots))))) (meaning w)
      turned_bag = subst (λ (x : Table). SameBag (table_rows x) (meaning w)) (sym turned_is)
          (bags.along _ _ _ (ordered one.order columns valid one.is_order (one.long ∙ moved_rows ∙ sym long_b.valid)) (openable.stores.bag w ds before))

    shapes_are : at q (layout_of opened_list).slots ≡ at q (layout_of b).slots ++ map (λ (j : ℕ). shapes.Words (rows_moved (layout_of b) (registers_of t))) (range_with_len 0 (length t.columns.items + 1))
    shapes_are = ap (λ l. at q l.slots) (layout_more b (opening_of party t)) ∙ at_put q _ (layout_of b).slots

    opened_made : (k : ℕ) → k ≤ width → IsSlotOf (layout_of opened_list) q n (length (at q (layout_of b).slots) + k)
    opened_made k h =
        let there = map (λ (j : ℕ). shapes.Words (rows_moved (layout_of b) (registers_of t))) (range_with_len 0 (length t.columns.items + 1)) in
        let many = length-range_with_len 0 (length t.columns.items + 1) in
        let wide = openable.stores.made.wide in
        record {
          inside =
              let e = ap length shapes_are in
              let f = length-append (at q (layout_of b).slots) there in
              let g = length-map (range_with_len 0 (length t.columns.items + 1)) (λ (j : ℕ). shapes.Words (rows_moved (layout_of b) (registers_of t))) in
              omega (arith, e, f, g, many, wide, h);
          shape =
              ap (λ xs. get_or xs (length (at q (layout_of b).slots) + k) (shapes.Words 0)) shapes_are
              ∙ get_or-append-add (at q (layout_of b).slots) there k (shapes.Words 0)
              ∙ same_at (shapes.Words (rows_moved (layout_of b) (registers_of t))) (shapes.Words 0) (range_with_len 0 (length t.columns.items + 1)) k (omega (arith, many, wide, h))
              ∙ ap shapes.Words moved_rows;
        }

    pub opening_stores : StoresNode graph opened_list number (Clear party (length (at q (layout_of b).slots)))
    opening_stores = record { made = opened_made; bits = turned_bits; bag = turned_bag }
