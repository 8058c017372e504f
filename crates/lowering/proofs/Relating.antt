-- The segment of a relation: its rows lie in its owner's first slots.
use Rattle.std.proofs.Common.{◌≡◌, ℕ, zero, suc, ◌+◌, ◌==◌, ◌<◌, ◌≤◌, Bool, true, false, cond, true≢false, List, [], ◌∷◌, ◌++◌, get_or, length, map, take, refl, sym, ap, ◌∙◌, subst, arith, append_assoc, length-append}
use Rattle.std.specs.Prelude.{IsTrue, Option, Some, slice_get}
use Rattle.std.specs.List.{AllZip, flat_map, range_with_len}
use Rattle.std.specs.Option.{option_map_or}
use Rattle.std.proofs.lemmas.List.{get_or_append_left, get_or-append-add, get_or-replicate, length-map, length-replicate}
use Rattle.bags.specs.Bag.{SameBag}
use Rattle.bags.specs.Laws.{BagsAreEquivalence}
use Rattle.clear_tasks.specs.ClearTask.{answer}
use Rattle.clear_tasks.specs.declared.task.ClearTask.{ClearTask}
use Rattle.emit.specs.Adds.{wants_nothing}
use Rattle.emit.specs.AddsLaws.{adds_nothing, adds_wider}
use Rattle.lanes.specs.Three.{at}
use Rattle.lanes.specs.declared.party.Party.{Party}
use Rattle.lanes.specs.declared.party.Party.TheVariants.{First, Second, Third}
use Rattle.lanes.specs.Party.{number_of}
use Rattle.padded.specs.Laws.{PaddedFits, RowsOfPadded}
use Rattle.padded.specs.Table.{AreBits, padded_columns, padded_valid, table_rows}
use Rattle.plain_meaning.specs.Fits.{AreRowsOf, IsWorldOf, relations}
use Rattle.plain_meaning.specs.Laws.{NodesMeanOperators, relations_before}
use Rattle.plain_meaning.specs.Meaning.{meanings, node_rows, rows_of}
use Rattle.query_graph.specs.Content.{Content}
use Rattle.query_graph.specs.IsGraph.{FitsSources, IsGraph, rows_at}
use Rattle.query_graph.specs.NodeSizes.{width_at}
use Rattle.query_graph.specs.Observers.{is_relation}
use Rattle.query_graph.specs.declared.node.Node.{Node}
use Rattle.query_graph.specs.declared.operator.Operator.{Operator}
use Rattle.query_graph.specs.declared.operator.Operator.TheVariants.{Relation, Filter, Select, Concat, Join, Group, Distinct}
use Rattle.query_text.specs.Parties.{IsParty}
use Rattle.step_lists.specs.Draws.{ThreeTapes}
use Rattle.step_lists.specs.Layout.{Steps, layout_of, party_of, starting}
use Rattle.step_lists.specs.Open.{open_of, opening, slot}
use Rattle.step_lists.specs.Prefixes.{grows_run, layout_run}
use Rattle.step_lists.specs.Rules.{is_party}
use Rattle.step_lists.specs.declared.step.Shape.TheVariants as shapes
use Rattle.lowering.specs.Costs.{node_cost}
use Rattle.lowering.specs.FirstSlots.{WorldOf, first_lengths, first_slot, first_slots, if_owned, lengths_of_relations, load_world, owner_of, relation_lengths, relation_slots, slots_of_relations}
use Rattle.lowering.specs.Lowered.{LowersNode, StoresNode}
use Rattle.lowering.specs.Segments.{is_of_node}
use Rattle.lowering.specs.Stored.{IsShaped, IsSlotOf, table_in}
use Rattle.lowering.specs.declared.stored.Stored.TheVariants.{Clear}
use Rattle.lowering.proofs.FirstFit.{owned_long, relations-here, relations-not}
use Rattle.lowering.proofs.Holding.{tables}

-- ---- owners

owner_fits : (nodes : List Node) (i : ℕ) (node : Node) (shape : Operator) → is_relation shape ≡ true → FitsSources nodes i node shape → IsParty (owner_of shape)
owner_fits nodes i node (Relation r) h k = k.owner
owner_fits nodes i node (Filter f) h k = absurd (true≢false (sym h))
owner_fits nodes i node (Select s) h k = absurd (true≢false (sym h))
owner_fits nodes i node (Concat c) h k = absurd (true≢false (sym h))
owner_fits nodes i node (Join j) h k = absurd (true≢false (sym h))
owner_fits nodes i node (Group g) h k = absurd (true≢false (sym h))
owner_fits nodes i node (Distinct d) h k = absurd (true≢false (sym h))

pub owner_is : (graph : Content) (i : ℕ) (node : Node) → IsGraph graph → slice_get graph.nodes i ≡ Some node → is_relation node.shape ≡ true → IsParty (owner_of node.shape)
owner_is graph i node is_graph is h = owner_fits graph.nodes i node node.shape h (is_graph.nodes i node is).sources

pub party_named : (n : ℕ) → IsParty n → number_of (party_of n) ≡ n
party_named zero h = absurd (omega (arith, h.0))
party_named (suc zero) h = refl
party_named (suc (suc zero)) h = refl
party_named (suc (suc (suc zero))) h = refl
party_named (suc (suc (suc (suc n)))) h = absurd (omega (arith, h.1))

pub party_true : (n : ℕ) → IsParty n → IsTrue (is_party n)
party_true zero h = absurd (omega (arith, h.0))
party_true (suc zero) h = refl
party_true (suc (suc zero)) h = refl
party_true (suc (suc (suc zero))) h = refl
party_true (suc (suc (suc (suc n)))) h = absurd (omega (arith, h.1))

same_number : (p : Party) → (number_of p == number_of p) ≡ true
same_number First = refl
same_number Second = refl
same_number Third = refl

owned : {A : Type 0} (p : Party) (node : Node) (xs : List A) → owner_of node.shape ≡ number_of p → if_owned p node xs ≡ xs
owned p node xs e = ap (λ n. cond (n == number_of p) xs []) e ∙ ap (λ (b : Bool). cond b xs []) (same_number p)

-- ---- a part of a list, at a place

pub record HasAt {A : Type 0} (xs : List A) (n : ℕ) (part : List A) : Type 0 where
  pub before : List A
  pub behind : List A
  pub is : xs ≡ before ++ (part ++ behind)
  pub count : length before ≡ n

has_first : {A : Type 0} (part rest : List A) → HasAt (part ++ rest) 0 part
has_first part rest = record { before = []; behind = rest; is = refl; count = refl }

has_later : {A : Type 0} (front xs part : List A) (n : ℕ) → HasAt xs n part → HasAt (front ++ xs) (length front + n) part
has_later front xs part n h = record {
  before = front ++ h.before;
  behind = h.behind;
  is = ap (λ ys. front ++ ys) h.is ∙ sym (append_assoc front h.before (part ++ h.behind));
  count = let e = length-append front h.before in omega (arith, e, h.count);
}

has_same : {A : Type 0} {xs ys : List A} {m n : ℕ} {part other : List A} → xs ≡ ys → m ≡ n → part ≡ other → HasAt xs m part → HasAt ys n other
has_same {A} {xs} {ys} {m} {n} {part} {other} e f g h = subst (HasAt ys n) g (subst (λ k. HasAt ys k part) f (subst (λ zs. HasAt zs m part) e h))

-- its elements
has_at : {A : Type 0} (xs part : List A) (n k : ℕ) (d : A) → k < length part → HasAt xs n part → get_or xs (n + k) d ≡ get_or part k d
has_at xs part n k d inside h =
    ap (λ ys. get_or ys (n + k) d) h.is ∙ ap (λ m. get_or (h.before ++ (part ++ h.behind)) (m + k) d) (sym h.count)
    ∙ get_or-append-add h.before (part ++ h.behind) k d ∙ get_or_append_left part h.behind d k inside

has_inside : {A : Type 0} (xs part : List A) (n k : ℕ) → k < length part → HasAt xs n part → n + k < length xs
has_inside xs part n k inside h =
    let e = ap length h.is in
    omega (arith, e, inside, h.count, length-append h.before (part ++ h.behind), length-append part h.behind)

-- ---- where a relation's lengths and its slots lie

relations_one : (node : Node) (nodes : List Node) (b : Bool) → is_relation node.shape ≡ b → relations (node ∷ nodes) ≡ cond b (node ∷ relations nodes) (relations nodes)
relations_one node nodes true e = relations-here node nodes e
relations_one node nodes false e = relations-not node nodes e

module _ (p : Party) where
  abbrev lengths_here : List Node → List ℕ
  lengths_here ns = flat_map (λ node. if_owned p node (relation_lengths node)) ns

  -- the lengths
  pub lengths_at : (nodes : List Node) (i : ℕ) (node : Node) → slice_get nodes i ≡ Some node → is_relation node.shape ≡ true → owner_of node.shape ≡ number_of p
      → HasAt (lengths_of_relations p nodes) (first_slot nodes i p) (relation_lengths node)
  lengths_at [] i node is r own = cc
  lengths_at (n ∷ nodes) zero node is r own =
      let e : n ≡ node = cc in
      let r_n : is_relation n.shape ≡ true = subst (λ m. is_relation m.shape ≡ true) (sym e) r in
      let own_n : owner_of n.shape ≡ number_of p = subst (λ m. owner_of m.shape ≡ number_of p) (sym e) own in
      has_same (ap (λ xs. xs ++ lengths_here (relations nodes)) (sym (owned p n (relation_lengths n) own_n)) ∙ ap lengths_here (sym (relations-here n nodes r_n))) refl (ap relation_lengths e)
      (has_first (relation_lengths n) (lengths_here (relations nodes)))
  lengths_at (n ∷ nodes) (suc i) node is r own = by (is_relation n.shape) refl (lengths_at nodes i node is r own)
    where
      by : (b : Bool) → is_relation n.shape ≡ b → HasAt (lengths_of_relations p nodes) (first_slot nodes i p) (relation_lengths node)
          → HasAt (lengths_of_relations p (n ∷ nodes)) (first_slot (n ∷ nodes) (suc i) p) (relation_lengths node)
      by true e h =
          has_same (ap lengths_here (sym (relations-here n nodes e)))
          (sym (length-append (if_owned p n (relation_lengths n)) (lengths_here (relations (take i nodes)))) ∙ ap (λ ns. length (lengths_here ns)) (sym (relations-here n (take i nodes) e))) refl
          (has_later (if_owned p n (relation_lengths n)) (lengths_of_relations p nodes) (relation_lengths node) (first_slot nodes i p) h)
      by false e h = has_same (ap lengths_here (sym (relations-not n nodes e))) (ap (λ ns. length (lengths_here ns)) (sym (relations-not n (take i nodes) e))) refl h

  -- a relation's rows in a world, and its slots
  pub record HasRelation (nodes : List Node) (i : ℕ) (node : Node) (world : List (List (List ℕ))) : Type 0 where
    pub rows_fit : AreRowsOf node (rows_of world (relations_before nodes i))
    pub slots_at : HasAt (slots_of_relations p (relations nodes) world) (first_slot nodes i p) (relation_slots node (rows_of world (relations_before nodes i)))

  abbrev InEach : List Node → ℕ → Node → Type 0
  InEach nodes i node = (world : List (List (List ℕ))) → IsWorldOf nodes world → HasRelation nodes i node world

  module _ (facts : PaddedFits) where
    owned_count : (node : Node) (rows : List (List ℕ)) → length (if_owned p node (relation_slots node rows)) ≡ length (if_owned p node (relation_lengths node))
    owned_count node rows = sym (length-map (if_owned p node (relation_slots node rows)) length) ∙ ap length (owned_long facts (owner_of node.shape == number_of p) node rows)

    pub relation_at : (nodes : List Node) (i : ℕ) (node : Node) (world : List (List (List ℕ))) → slice_get nodes i ≡ Some node → is_relation node.shape ≡ true → owner_of node.shape ≡ number_of p
        → IsWorldOf nodes world → HasRelation nodes i node world
    relation_at [] i node world is r own fits = cc
    relation_at (n ∷ nodes) zero node world is r own fits = by world (subst (λ ns. AllZip AreRowsOf ns world) (relations-here n nodes r_n) fits)
      where
        e : n ≡ node
        e = cc

        r_n : is_relation n.shape ≡ true
        r_n = subst (λ m. is_relation m.shape ≡ true) (sym e) r

        own_n : owner_of n.shape ≡ number_of p
        own_n = subst (λ m. owner_of m.shape ≡ number_of p) (sym e) own

        by : (world : List (List (List ℕ))) → AllZip AreRowsOf (n ∷ relations nodes) world → HasRelation (n ∷ nodes) zero node world
        by [] fits = absurd fits
        by (rows ∷ world) fits = record {
          rows_fit = subst (λ m. AreRowsOf m rows) e fits.0;
          slots_at = has_same
              (ap (λ xs. xs ++ slots_of_relations p (relations nodes) world) (sym (owned p n (relation_slots n rows) own_n)) ∙ ap (λ ns. slots_of_relations p ns (rows ∷ world)) (sym (relations-here n nodes r_n)))
              refl (ap (λ m. relation_slots m rows) e) (has_first (relation_slots n rows) (slots_of_relations p (relations nodes) world));
        }
    relation_at (n ∷ nodes) (suc i) node world is r own fits = by (λ others k. relation_at nodes i node others is r own k) (is_relation n.shape) refl
      where
        here : InEach nodes i node → (world : List (List (List ℕ))) → is_relation n.shape ≡ true → AllZip AreRowsOf (n ∷ relations nodes) world → HasRelation (n ∷ nodes) (suc i) node world
        here rest [] e fits = absurd fits
        here rest (rows ∷ world) e fits =
            let h = rest world fits.1 in
            let count : suc (relations_before nodes i) ≡ relations_before (n ∷ nodes) (suc i) = ap length (sym (relations-here n (take i nodes) e)) in
            let same : rows_of world (relations_before nodes i) ≡ rows_of (rows ∷ world) (relations_before (n ∷ nodes) (suc i)) = ap (rows_of (rows ∷ world)) count in
            record {
              rows_fit = subst (AreRowsOf node) same h.rows_fit;
              slots_at = has_same (ap (λ ns. slots_of_relations p ns (rows ∷ world)) (sym (relations-here n nodes e)))
                  (ap (λ m. m + first_slot nodes i p) (owned_count n rows) ∙ sym (length-append (if_owned p n (relation_lengths n)) (lengths_here (relations (take i nodes))))
                  ∙ ap (λ ns. length (lengths_here ns)) (sym (relations-here n (take i nodes) e)))
                  (ap (relation_slots node) same)
                  (has_later (if_owned p n (relation_slots n rows)) (slots_of_relations p (relations nodes) world) (relation_slots node (rows_of world (relations_before nodes i))) (first_slot nodes i p) h.slots_at);
            }

        by : InEach nodes i node → (b : Bool) → is_relation n.shape ≡ b → HasRelation (n ∷ nodes) (suc i) node world
        by rest true e = here rest world e (subst (λ ns. AllZip AreRowsOf ns world) (relations-here n nodes e) fits)
        by rest false e =
            let h = rest world (subst (λ ns. AllZip AreRowsOf ns world) (relations-not n nodes e) fits) in
            let count : relations_before nodes i ≡ relations_before (n ∷ nodes) (suc i) = ap length (sym (relations-not n (take i nodes) e)) in
            record {
              rows_fit = subst (λ k. AreRowsOf node (rows_of world k)) count h.rows_fit;
              slots_at = has_same (ap (λ ns. slots_of_relations p ns world) (sym (relations-not n nodes e))) (ap (λ ns. length (lengths_here ns)) (sym (relations-not n (take i nodes) e)))
                  (ap (λ k. relation_slots node (rows_of world k)) count) h.slots_at;
            }

-- ---- the slots of a list that begins with them

each_at : (nodes : List Node) (p : Party) → at p (starting (first_lengths nodes)).slots ≡ map shapes.Words (lengths_of_relations p nodes)
each_at nodes First = refl
each_at nodes Second = refl
each_at nodes Third = refl

words_at : (nodes : List Node) (world : List (List (List ℕ))) (p : Party) → at p (first_slots nodes world) ≡ slots_of_relations p (relations nodes) world
words_at nodes world First = refl
words_at nodes world Second = refl
words_at nodes world Third = refl

shape_at : (ns : List ℕ) (k : ℕ) → k < length ns → get_or (map shapes.Words ns) k (shapes.Words 0) ≡ shapes.Words (get_or ns k 0)
shape_at [] k h = absurd (omega arith)
shape_at (n ∷ ns) zero h = refl
shape_at (n ∷ ns) (suc k) h = shape_at ns k (omega arith)

-- words at places in a row are the list's
pub map_get : (xs : List (List ℕ)) (f : ℕ → List ℕ) (first : ℕ) → ((k : ℕ) → k < length xs → f (first + k) ≡ get_or xs k []) → map f (range_with_len first (length xs)) ≡ xs
map_get [] f first h = refl
map_get (x ∷ xs) f first h =
    let e : first + 0 ≡ first = omega arith in
    ap (λ y. y ∷ map f (range_with_len (first + 1) (length xs))) (ap f (sym e) ∙ h 0 (omega arith))
    ∙ ap (λ ys. x ∷ ys) (map_get xs f (first + 1) (λ k i. let s : (first + 1) + k ≡ first + suc k = omega arith in ap f s ∙ h (suc k) (omega (arith, i))))

relation_means : (shape : Operator) (file : List (List ℕ)) (earlier : List (List (List ℕ))) → is_relation shape ≡ true → node_rows shape file earlier ≡ file
relation_means (Relation r) file earlier h = refl
relation_means (Filter f) file earlier h = absurd (true≢false (sym h))
relation_means (Select s) file earlier h = absurd (true≢false (sym h))
relation_means (Concat c) file earlier h = absurd (true≢false (sym h))
relation_means (Join j) file earlier h = absurd (true≢false (sym h))
relation_means (Group g) file earlier h = absurd (true≢false (sym h))
relation_means (Distinct d) file earlier h = absurd (true≢false (sym h))

-- ---- the segment

module _ (facts : PaddedFits) (padded : RowsOfPadded) (bags : BagsAreEquivalence) (mean : NodesMeanOperators)
    (graph : Content) (is_graph : IsGraph graph) (i : ℕ) (node : Node) (is_node : slice_get graph.nodes i ≡ Some node) (relation : is_relation node.shape ≡ true)
    (list : Steps ClearTask) (shaped : IsShaped answer list) (begins : list.first ≡ first_lengths graph.nodes)
    (party first : ℕ) (owner : party ≡ owner_of node.shape) (is : first ≡ first_slot graph.nodes i (party_of party)) where
  abbrev p : Party
  p = party_of party

  own : owner_of node.shape ≡ number_of p
  own = sym owner ∙ sym (party_named party (subst IsParty (sym owner) (owner_is graph i node is_graph is_node relation)))

  node_size_is : rows_at graph.nodes i ≡ node.rows
  node_size_is = ap (λ (o : Option Node). option_map_or (λ n. n.rows) o 0) is_node

  node_width_is : width_at graph.nodes i ≡ length node.columns
  node_width_is = ap (λ (o : Option Node). option_map_or (λ n. length n.columns) o 0) is_node

  lengths : HasAt (lengths_of_relations p graph.nodes) first (relation_lengths node)
  lengths = has_same refl (sym is) refl (lengths_at p graph.nodes i node is_node relation own)

  slot_made : (k : ℕ) → k ≤ length node.columns → IsSlotOf (layout_of list) p node.rows (first + k)
  slot_made k h =
      let within : k < length (relation_lengths node) = omega (arith, h, length-replicate (length node.columns + 1) node.rows) in
      let inside = has_inside (lengths_of_relations p graph.nodes) (relation_lengths node) first k within lengths in
      let begin = ap (λ f. at p (starting f).slots) begins ∙ each_at graph.nodes p in
      let grows = layout_run (starting list.first) list.steps in
      let here : first + k < length (at p (starting list.first).slots) =
      let e = ap length begin in let f = length-map (lengths_of_relations p graph.nodes) shapes.Words in omega (arith, e, f, inside) in
      record {
        inside = let g = grows.slot_count p in omega (arith, here, g);
        shape = grows.slots p (first + k) here ∙ ap (λ xs. get_or xs (first + k) (shapes.Words 0)) begin ∙ shape_at (lengths_of_relations p graph.nodes) (first + k) inside
            ∙ ap shapes.Words (has_at (lengths_of_relations p graph.nodes) (relation_lengths node) first k 0 within lengths ∙ get_or-replicate (length node.columns + 1) k node.rows 0 (omega (arith, h)));
      }

  module _ (w : WorldOf graph.nodes) (ds : ThreeTapes) where
    abbrev rows : List (List ℕ)
    rows = rows_of w.rows (relations_before graph.nodes i)

    there : HasRelation p graph.nodes i node w.rows
    there = relation_at p facts graph.nodes i node w.rows is_node relation own w.fits

    slots_are : HasAt (at p (load_world graph.nodes w)) first (relation_slots node rows)
    slots_are = has_same (sym (words_at graph.nodes w.rows p)) (sym is) refl there.slots_at

    slot_is : (k : ℕ) → k < length (relation_slots node rows) → slot (open_of answer list (load_world graph.nodes w) ds) p (first + k) ≡ get_or (relation_slots node rows) k []
    slot_is k h =
        (grows_run answer (starting list.first) (opening (load_world graph.nodes w)) list.steps ds).slots p (first + k) (has_inside (at p (load_world graph.nodes w)) (relation_slots node rows) first k h slots_are)
        ∙ has_at (at p (load_world graph.nodes w)) (relation_slots node rows) first k [] h slots_are

    width_is : length (padded_columns (length node.columns) node.rows rows) ≡ length node.columns
    width_is = facts.width (length node.columns) node.rows rows

    slots_count : length (relation_slots node rows) ≡ length node.columns + 1
    slots_count = let e = length-append (padded_columns (length node.columns) node.rows rows) (padded_valid node.rows rows ∷ []) in omega (arith, e, width_is)

    columns_are : map (slot (open_of answer list (load_world graph.nodes w) ds) p) (range_with_len first (width_at graph.nodes i)) ≡ padded_columns (length node.columns) node.rows rows
    columns_are =
        ap (λ n. map (slot (open_of answer list (load_world graph.nodes w) ds) p) (range_with_len first n)) (node_width_is ∙ sym width_is)
        ∙ map_get (padded_columns (length node.columns) node.rows rows) (slot (open_of answer list (load_world graph.nodes w) ds) p) first
        (λ k h. slot_is k (omega (arith, h, slots_count, width_is)) ∙ get_or_append_left (padded_columns (length node.columns) node.rows rows) (padded_valid node.rows rows ∷ []) [] k h)

    valid_is : slot (open_of answer list (load_world graph.nodes w) ds) p (first + width_at graph.nodes i) ≡ padded_valid node.rows rows
    valid_is =
        let e : width_at graph.nodes i ≡ length (padded_columns (length node.columns) node.rows rows) + 0 = omega (arith, node_width_is, width_is) in
        slot_is (width_at graph.nodes i) (omega (arith, node_width_is, slots_count))
        ∙ ap (λ n. get_or (relation_slots node rows) n []) e
        ∙ get_or-append-add (padded_columns (length node.columns) node.rows rows) (padded_valid node.rows rows ∷ []) 0 []

    meaning : rows ≡ rows_of (meanings graph.nodes w.rows) i
    meaning = sym (mean graph w.rows i node (record { is_graph = is_graph; is_world = w.fits; is_node = is_node }) ∙ relation_means node.shape rows (take i (meanings graph.nodes w.rows)) relation)

    rows_are : table_rows (table_in (open_of answer list (load_world graph.nodes w) ds) (width_at graph.nodes i) (Clear party first)) ≡ rows_of (meanings graph.nodes w.rows) i
    rows_are = ap table_rows (tables columns_are valid_is) ∙ padded (length node.columns) node.rows rows there.rows_fit.wide there.rows_fit.few ∙ meaning

  relation_stores : StoresNode graph list i (Clear party first)
  relation_stores = record {
    made = λ k h. subst (λ n. IsSlotOf (layout_of list) p n (first + k)) (sym node_size_is) (slot_made k (omega (arith, h, node_width_is)));
    bits = λ w ds possible. subst AreBits (sym (valid_is w ds)) (facts.bits node.rows (rows w ds));
    bag = λ w ds possible. subst (λ rs. SameBag rs (rows_of (meanings graph.nodes w.rows) i)) (sym (rows_are w ds)) (bags.itself (rows_of (meanings graph.nodes w.rows) i));
  }

  pub lowers_relation : LowersNode graph list list i node (Clear party first)
  lowers_relation = record {
    adds = adds_wider answer (load_world graph.nodes) list list (is_of_node node) (is_of_node node) 0 (node_cost graph.nodes node) wants_nothing (λ s h. h) (omega arith) (adds_nothing answer (load_world graph.nodes) list (is_of_node node));
    shaped = shaped;
    stores = relation_stores;
  }
