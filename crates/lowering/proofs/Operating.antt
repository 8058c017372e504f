-- The segment of a node that is no relation.
use Rattle.std.proofs.Common.{◌≡◌, ℕ, zero, suc, ◌+◌, ◌<◌, Bool, true, false, cond, List, [], ◌∷◌, length, map, take, refl, sym, ap, ◌∙◌, subst, arith}
use Rattle.std.specs.Prelude.{IsTrue, Option, Some, None, slice_get}
use Rattle.std.specs.List.{AllByRecursion, AllZip}
use Rattle.std.specs.Option.{option_map_or}
use Rattle.std.proofs.lemmas.List.Elements.{All-from_recursion, recursion_from_All}
use Rattle.bags.specs.Bag.{SameBag}
use Rattle.bags.specs.Laws.{BagsAreEquivalence}
use Rattle.clear_tasks.specs.ClearTask.{answer}
use Rattle.clear_tasks.specs.declared.task.ClearTask.{ClearTask}
use Rattle.emit.specs.Adds.{Adds, is_circuit, wants_nothing}
use Rattle.emit.specs.AddsLaws.{adds_at, adds_then, adds_wider}
use Rattle.emit.specs.Emit.{opened}
use Rattle.padded.specs.Table.{AreBits, table_rows}
use Rattle.plain_meaning.specs.Laws.{NodesMeanOperators, relations_before}
use Rattle.plain_meaning.specs.Meaning.{meanings, rows_of}
use Rattle.plain_meaning.specs.Operators.{NodesAreOperators, operator_of}
use Rattle.plain_operators.specs.OnSources as on_sources
use Rattle.query_graph.specs.Content.{Content}
use Rattle.query_graph.specs.IsGraph.{IsGraph, rows_at}
use Rattle.query_graph.specs.NodeSizes.{NodesAreWritten, width_at}
use Rattle.query_graph.specs.Observers.{is_relation, sources_of}
use Rattle.query_graph.specs.declared.node.Node.{Node}
use Rattle.shared_ops.specs.Joint.{AllBits, joint_rows, valid_words}
use Rattle.shared_ops.specs.NodeLaws.{NodesFitTables}
use Rattle.shared_ops.specs.declared.joint.Joint.{Joint}
use Rattle.step_lists.specs.Draws.{ThreeTapes}
use Rattle.step_lists.specs.Layout.{Steps, layout_of}
use Rattle.step_lists.specs.Possible.{Possible, StandsIn}
use Rattle.step_lists.specs.Prefixes.{stands_trans}
use Rattle.step_lists.specs.declared.step.Step.{Step}
use Rattle.step_lists.specs.declared.step.Step.TheVariants.{Const, Lin, And, Share, Reveal, Steer, Tell, Work, Flag}
use Rattle.lowering.specs.Costs.{node_cost}
use Rattle.lowering.specs.FirstSlots.{WorldOf, load_world}
use Rattle.lowering.specs.Lowered.{LowersNode, StoresNode, StoresNodes}
use Rattle.lowering.specs.Pieces.{AreSources, HoldsNode, IsWorked}
use Rattle.lowering.specs.Segments.{is_of_node, is_on_shares}
use Rattle.lowering.specs.Stored.{AreMade, AreRegisters, IsShaped}
use Rattle.lowering.specs.Unbuilt.{first_written, is_written}
use Rattle.lowering.specs.Want.{shown_by_node}
use Rattle.lowering.specs.declared.stored.Stored.{Stored}
use Rattle.lowering.specs.declared.stored.Stored.TheVariants.{Shared}
use Rattle.lowering.proofs.Holding.{all_hold, all_made}
use Rattle.lowering.proofs.Segmenting.{node_grown}

-- ---- what is written on a node

pub node_unwritten : (nodes : List Node) (i : ℕ) (node : Node) → first_written nodes ≡ None → slice_get nodes i ≡ Some node → is_written node.shape ≡ false
node_unwritten [] i node h is = cc
node_unwritten (n ∷ nodes) i node h is = by (λ j k e. node_unwritten nodes j node e k) (is_written n.shape) refl i is
  where
    by : ((j : ℕ) → slice_get nodes j ≡ Some node → first_written nodes ≡ None → is_written node.shape ≡ false) → (b : Bool) → is_written n.shape ≡ b → (j : ℕ) → slice_get (n ∷ nodes) j ≡ Some node → is_written node.shape ≡ false
    by rest true e j k = let f = sym h ∙ ap (λ (b : Bool). cond b (Some n.line) (first_written nodes)) e in cc
    by rest false e zero k = let same : n ≡ node = cc in subst (λ m. is_written m.shape ≡ false) same e
    by rest false e (suc j) k = rest j k (sym (ap (λ (b : Bool). cond b (Some n.line) (first_written nodes)) e) ∙ h)

-- ---- the tables of the sources

pub sources_made : (nodes : List Node) (b : Steps ClearTask) (parts : List Stored) (ss : List ℕ) (ts : List Joint) → AllZip (HoldsNode nodes b parts) ss ts
    → AllZip (λ s t. AreRegisters (layout_of b) (rows_at nodes s) (width_at nodes s) t) ss ts
sources_made nodes b parts [] [] h = tt
sources_made nodes b parts [] (t ∷ ts) h = absurd h
sources_made nodes b parts (s ∷ ss) [] h = absurd h
sources_made nodes b parts (s ∷ ss) (t ∷ ts) h = (h.0.2.made, sources_made nodes b parts ss ts h.1)

module _ (graph : Content) (b : Steps ClearTask) (parts : List Stored) (stores : StoresNodes graph b parts) (w : WorldOf graph.nodes) (ds : ThreeTapes) (p : Possible answer b (load_world graph.nodes w) ds) where
  sources_bits : (ss : List ℕ) (ts : List Joint) → AllZip (HoldsNode graph.nodes b parts) ss ts → AllByRecursion (λ t. AreBits (valid_words (opened answer b (load_world graph.nodes w) ds) t)) ts
  sources_bits [] [] h = tt
  sources_bits [] (t ∷ ts) h = absurd h
  sources_bits (s ∷ ss) [] h = absurd h
  sources_bits (s ∷ ss) (t ∷ ts) h =
      (subst (λ x. AreBits x.valid) (sym (h.0.2.same (load_world graph.nodes w) ds p)) ((stores s h.0.0 h.0.1).bits w ds p), sources_bits ss ts h.1)

  sources_bags : (ss : List ℕ) (ts : List Joint) → AllZip (HoldsNode graph.nodes b parts) ss ts
      → AllZip SameBag (map (joint_rows (opened answer b (load_world graph.nodes w) ds)) ts) (map (rows_of (meanings graph.nodes w.rows)) ss)
  sources_bags [] [] h = tt
  sources_bags [] (t ∷ ts) h = absurd h
  sources_bags (s ∷ ss) [] h = absurd h
  sources_bags (s ∷ ss) (t ∷ ts) h =
      (subst (λ x. SameBag (table_rows x) (rows_of (meanings graph.nodes w.rows) s)) (sym (h.0.2.same (load_world graph.nodes w) ds p)) ((stores s h.0.0 h.0.1).bag w ds p), sources_bags ss ts h.1)

-- rows of earlier nodes among those of the first nodes
rows_taken : (rows : List (List (List ℕ))) (i s : ℕ) → s < i → rows_of (take i rows) s ≡ rows_of rows s
rows_taken rows zero s h = absurd (omega arith)
rows_taken [] (suc i) s h = refl
rows_taken (r ∷ rows) (suc i) zero h = refl
rows_taken (r ∷ rows) (suc i) (suc s) h = rows_taken rows i s (omega arith)

sources_taken : (rows : List (List (List ℕ))) (i : ℕ) (ss : List ℕ) → AllByRecursion (λ s. s < i) ss → map (rows_of (take i rows)) ss ≡ map (rows_of rows) ss
sources_taken rows i [] h = refl
sources_taken rows i (s ∷ ss) h = ap (λ x. x ∷ map (rows_of (take i rows)) ss) (rows_taken rows i s h.0) ∙ ap (λ xs. rows_of rows s ∷ xs) (sources_taken rows i ss h.1)

-- ---- steps of circuits and of shares may stand in the segment

circuit_may : {T : Type 0} (node : Node) → is_relation node.shape ≡ false → (s : Step T) → IsTrue (is_circuit s) → IsTrue (is_of_node node s)
circuit_may {T} node e s h = ap (λ (b : Bool). cond b false (is_on_shares s)) e ∙ on_shares s h
  where
    on_shares : (s : Step T) → IsTrue (is_circuit s) → IsTrue (is_on_shares s)
    on_shares (Const words) h = h
    on_shares (Lin op) h = h
    on_shares (And left right) h = h
    on_shares (Share party slot) h = refl
    on_shares (Reveal to moved shown) h = h
    on_shares (Steer by slot moved) h = h
    on_shares (Tell source target slot) h = h
    on_shares (Work party task takes gives) h = refl
    on_shares (Flag party slot) h = h

share_may : {T : Type 0} (node : Node) → is_relation node.shape ≡ false → (s : Step T) → IsTrue (is_on_shares s) → IsTrue (is_of_node node s)
share_may node e s h = ap (λ (b : Bool). cond b false (is_on_shares s)) e ∙ h

-- ---- the segment

module _ (bags : BagsAreEquivalence) (mean : NodesMeanOperators) (operators : NodesAreOperators) (written : NodesAreWritten) (fit : NodesFitTables) (keeps : on_sources.OperatorKeepsBags)
    (graph : Content) (is_graph : IsGraph graph) (i : ℕ) (node : Node) (is_node : slice_get graph.nodes i ≡ Some node) (no_relation : is_relation node.shape ≡ false)
    (a m b : Steps ClearTask) (parts : List Stored) (tables : List Joint) (t : Joint)
    (shaped_a : IsShaped answer a) (shaped_m : IsShaped answer m) (shaped_b : IsShaped answer b)
    (stores : StoresNodes graph a parts) (sources : AreSources graph.nodes a m parts (sources_of node.shape) tables) (worked : IsWorked graph m b i tables t) where
  front : StandsIn a b
  front = stands_trans a m b sources.adds.front (worked node is_node).adds.front

  segment_adds : Adds answer (load_world graph.nodes) a b (is_of_node node) (node_cost graph.nodes node) (λ w v. shown_by_node graph w.rows node v)
  segment_adds =
      adds_wider answer (load_world graph.nodes) a b (is_of_node node) (is_of_node node) (0 + node_cost graph.nodes node) (node_cost graph.nodes node) wants_nothing (λ s h. h) (omega arith)
      (adds_then answer (load_world graph.nodes) a m b (is_of_node node) 0 (node_cost graph.nodes node) wants_nothing wants_nothing
      (adds_wider answer (load_world graph.nodes) a m is_on_shares (is_of_node node) 0 0 wants_nothing (share_may node no_relation) (omega arith) (adds_at answer (load_world graph.nodes) a m is_on_shares 0 wants_nothing sources.adds))
      (adds_wider answer (load_world graph.nodes) m b is_circuit (is_of_node node) (node_cost graph.nodes node) (node_cost graph.nodes node) wants_nothing (circuit_may node no_relation) (omega arith)
      (adds_at answer (load_world graph.nodes) m b is_circuit (node_cost graph.nodes node) wants_nothing (worked node is_node).adds)))

  parts_made : AreMade graph.nodes (layout_of a) parts
  parts_made s part is = (stores s part is).made

  held : AllZip (HoldsNode graph.nodes b parts) (sources_of node.shape) tables
  held = all_hold graph.nodes m b parts shaped_m (worked node is_node).adds.front (all_made graph.nodes a m parts sources.adds.front parts_made) (sources_of node.shape) tables sources.holds

  stores_there : StoresNodes graph b parts
  stores_there s part is = node_grown graph a b s part shaped_a front (stores s part is)

  given : (w : WorldOf graph.nodes) (ds : ThreeTapes) → Possible answer b (load_world graph.nodes w) ds → AllBits (opened answer b (load_world graph.nodes w) ds) tables
  given w ds p = All-from_recursion (λ x. AreBits (valid_words (opened answer b (load_world graph.nodes w) ds) x)) tables (sources_bits graph b parts stores_there w ds p (sources_of node.shape) tables held)

  rows_are : (w : WorldOf graph.nodes) (operator : on_sources.Operator) → operator_of node.shape ≡ Some operator
      → on_sources.operator_rows operator (map (rows_of (meanings graph.nodes w.rows)) (sources_of node.shape)) ≡ rows_of (meanings graph.nodes w.rows) i
  rows_are w operator e =
      sym (mean graph w.rows i node (record { is_graph = is_graph; is_world = w.fits; is_node = is_node })
      ∙ operators.rows node.shape operator (rows_of w.rows (relations_before graph.nodes i)) (take i (meanings graph.nodes w.rows)) e
      ∙ ap (on_sources.operator_rows operator) (sources_taken (meanings graph.nodes w.rows) i (sources_of node.shape)
      (recursion_from_All (λ s. s < i) (sources_of node.shape) (written.sources graph i node (record { is_graph = is_graph; is_node = is_node })))))

  node_size_is : rows_at graph.nodes i ≡ node.rows
  node_size_is = ap (λ (o : Option Node). option_map_or (λ n. n.rows) o 0) is_node

  node_width_is : width_at graph.nodes i ≡ length node.columns
  node_width_is = ap (λ (o : Option Node). option_map_or (λ n. length n.columns) o 0) is_node

  segment_stores : StoresNode graph b i (Shared t)
  segment_stores = record {
    made = subst (λ n. AreRegisters (layout_of b) n (width_at graph.nodes i) t) (sym node_size_is) (subst (λ n. AreRegisters (layout_of b) node.rows n t) (sym node_width_is) (worked node is_node).made);
    bits = λ w ds p. (worked node is_node).bits (load_world graph.nodes w) ds p (given w ds p);
    bag = λ w ds p.
        let known = fit.known node.shape no_relation in
        subst (SameBag (joint_rows (opened answer b (load_world graph.nodes w) ds) t)) (rows_are w known.0 known.1)
        (bags.along _ _ _ ((worked node is_node).bag known.0 known.1 (load_world graph.nodes w) ds p (given w ds p))
        (keeps known.0 (map (joint_rows (opened answer b (load_world graph.nodes w) ds)) tables) (map (rows_of (meanings graph.nodes w.rows)) (sources_of node.shape))
        (sources_bags graph b parts stores_there w ds p (sources_of node.shape) tables held)));
  }

  pub lowers_operator : LowersNode graph a b i node (Shared t)
  lowers_operator = record { adds = segment_adds; shaped = shaped_b; stores = segment_stores }

-- the same sources, of the same nodes
pub sources_as : {nodes others : List Node} {a b : Steps ClearTask} {parts : List Stored} {n m : Node} {tables : List Joint} → nodes ≡ others → n ≡ m
    → AreSources nodes a b parts (sources_of n.shape) tables → AreSources others a b parts (sources_of m.shape) tables
sources_as {nodes} {others} {a} {b} {parts} {n} {m} {tables} e f h =
    subst (λ ns. AreSources ns a b parts (sources_of m.shape) tables) e (subst (λ x. AreSources nodes a b parts (sources_of x.shape) tables) f h)

pub shaped_of : {l : Steps ClearTask} {L : Steps ClearTask} → l ≡ L → IsShaped answer l → IsShaped answer L
shaped_of {l} {L} e h = subst (IsShaped answer) e h
