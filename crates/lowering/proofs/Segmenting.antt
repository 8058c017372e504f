-- Segments, one behind the other.
use Rattle.std.proofs.Common.{◌≡◌, ℕ, ◌+◌, ◌<◌, Bool, true, false, cond, true≢false, List, [], ◌∷◌, ◌++◌, length, take, inl, inr, refl, sym, ap, ◌∙◌, subst, arith, append-nil, append_assoc, length-append}
use Rattle.std.specs.Prelude.{◌⊎◌, IsTrue, Option, Some, None, slice_get}
use Rattle.std.specs.List.{flat_map}
use Rattle.clear_tasks.specs.ClearTask.{answer}
use Rattle.clear_tasks.specs.declared.task.ClearTask.{ClearTask}
use Rattle.emit.specs.Adds.{Adds, AllMay}
use Rattle.lanes.specs.Party.{number_of}
use Rattle.lanes.specs.Three.{at}
use Rattle.lanes.specs.declared.party.Party.{Party}
use Rattle.lanes.specs.declared.three.Three.{Three}
use Rattle.query_graph.specs.Content.{Content}
use Rattle.query_graph.specs.IsGraph.{rows_at}
use Rattle.query_graph.specs.NodeSizes.{width_at}
use Rattle.query_graph.specs.Observers.{is_relation}
use Rattle.query_graph.specs.Parties.{has}
use Rattle.query_graph.specs.declared.node.Node.{Node}
use Rattle.query_graph.specs.declared.node.Output.{Output}
use Rattle.plain_meaning.specs.Meaning.{meanings, rows_of}
use Rattle.step_lists.specs.Layout.{Steps}
use Rattle.step_lists.specs.Open.{SlotWords}
use Rattle.step_lists.specs.Possible.{Possible, StandsIn}
use Rattle.step_lists.specs.Seen.{Seen, Rows, AreAlike, only, seen}
use Rattle.step_lists.specs.declared.step.Step.{Step}
use Rattle.step_lists.specs.declared.step.Step.TheVariants.{Const, Lin, And, Share, Reveal, Steer, Tell, Work, Flag}
use Rattle.lowering.specs.Costs.{node_cost, output_cost}
use Rattle.lowering.specs.FirstSlots.{WorldOf, first_lengths, load_world}
use Rattle.lowering.specs.Lowered.{AreAnswers, IsAnswer, Lowered, LowersNode, LowersOutput, StoresNode}
use Rattle.lowering.specs.Segments.{IsSegment, is_of_node, is_of_output, is_on_shares}
use Rattle.lowering.specs.Stored.{IsShaped}
use Rattle.lowering.specs.Trace.{Traced, up_to_flag, has_stop}
use Rattle.lowering.specs.Want.{shown_by_first, shown_by_node, shown_by_output}
use Rattle.lowering.specs.declared.stored.Stored.{Stored}
use Rattle.lowering.specs.declared.stored.Stored.TheVariants.{Clear}
use Rattle.lowering.proofs.Elements.{appended, below_length, below_or_last, flat_map_more, within}
use Rattle.lowering.proofs.Holding.{stores_grown}
use Rattle.lowering.proofs.Placing.{segment_kept, segment_new, within_more, whole_more}
use Rattle.lowering.proofs.Tracing.{IsQuiet, is_no_flag, traced_more, traced_none}

-- ---- the trace

-- the same is wanted, by another name
pub traced_same : {T W : Type 0} (answer : T → List (List ℕ) → List (List ℕ)) (load : W → SlotWords) (list : Steps T) (want other : W → Party → List Seen)
    → ((w : W) (v : Party) → want w v ≡ other w v) → Traced answer load list want → Traced answer load list other
traced_same answer load list want other same h = record {
  seen_is = λ w ds f v. subst (λ xs. AreAlike (seen answer v list (load w) ds) (up_to_flag xs)) (same w v) (h.seen_is w ds f v);
  stop_is = λ w ds f v. h.stop_is w ds f v ∙ ap has_stop (same w v);
}

-- a piece without flags
pub traced_piece : {T W : Type 0} (answer : T → List (List ℕ) → List (List ℕ)) (load : W → SlotWords) (a b : Steps T) (may : Step T → Bool) (most : ℕ) (want add : W → Party → List Seen)
    → ((s : Step T) → IsTrue (may s) → IsTrue (is_no_flag s)) → ((w : W) (v : Party) → IsQuiet (add w v))
    → Traced answer load a want → Adds answer load a b may most add → Traced answer load b (λ w v. want w v ++ add w v)
traced_piece {T} answer load a b may most want add still quiet h k =
    subst (λ x. Traced answer load x (λ w v. want w v ++ add w v)) (sym k.front.is)
    (traced_more answer load a k.front.more want add h (all k.front.more k.kinds) quiet
    (λ w ds p v. k.shown w ds (subst (λ x. Possible answer x (load w) ds) (sym k.front.is) p) v))
  where
    all : (ss : List (Step T)) → AllMay may ss → AllMay is_no_flag ss
    all [] e = tt
    all (s ∷ ss) e = (still s e.0, all ss e.1)

shares_no_flag : {T : Type 0} (s : Step T) → IsTrue (is_on_shares s) → IsTrue (is_no_flag s)
shares_no_flag (Const words) h = h
shares_no_flag (Lin op) h = h
shares_no_flag (And left right) h = h
shares_no_flag (Share party slot) h = h
shares_no_flag (Reveal to moved shown) h = absurd (true≢false (sym h))
shares_no_flag (Steer by slot moved) h = absurd (true≢false (sym h))
shares_no_flag (Tell source target slot) h = absurd (true≢false (sym h))
shares_no_flag (Work party task takes gives) h = h
shares_no_flag (Flag party slot) h = h

node_no_flag : {T : Type 0} (node : Node) (s : Step T) → IsTrue (is_of_node node s) → IsTrue (is_no_flag s)
node_no_flag node s h = by (is_relation node.shape) refl
  where
    by : (b : Bool) → is_relation node.shape ≡ b → IsTrue (is_no_flag s)
    by true e = absurd (true≢false (sym h ∙ ap (λ (b : Bool). cond b false (is_on_shares s)) e))
    by false e = shares_no_flag s (sym (ap (λ (b : Bool). cond b false (is_on_shares s)) e) ∙ h)

output_no_flag : {T : Type 0} (output : Output) (s : Step T) → IsTrue (is_of_output output s) → IsTrue (is_no_flag s)
output_no_flag output (Const words) h = refl
output_no_flag output (Lin op) h = refl
output_no_flag output (And left right) h = refl
output_no_flag output (Share party slot) h = refl
output_no_flag output (Reveal to moved shown) h = refl
output_no_flag output (Steer by slot moved) h = refl
output_no_flag output (Tell source target slot) h = refl
output_no_flag output (Work party task takes gives) h = refl
output_no_flag output (Flag party slot) h = h

pub opened_quiet : (b : Bool) (rows : List (List ℕ)) → IsQuiet (only b (Rows rows))
opened_quiet true rows = record { whole = refl; goes = refl }
opened_quiet false rows = record { whole = refl; goes = refl }

-- ---- answers stay

pub answer_grown : (graph : Content) (a b : Steps ClearTask) (output : Output) (p : Party) (first : Option ℕ) → IsShaped answer a → StandsIn a b → IsAnswer graph a output p first → IsAnswer graph b output p first
answer_grown graph a b output p None shaped front h = h
answer_grown graph a b output p (Some first) shaped front h =
    (h.0, stores_grown answer (load_world graph.nodes) a b (rows_at graph.nodes output.node) (width_at graph.nodes output.node) (Clear (number_of p) first) (λ w. rows_of (meanings graph.nodes w.rows) output.node) shaped front h.1)

pub node_grown : (graph : Content) (a b : Steps ClearTask) (i : ℕ) (part : Stored) → IsShaped answer a → StandsIn a b → StoresNode graph a i part → StoresNode graph b i part
node_grown graph a b i part shaped front h =
    stores_grown answer (load_world graph.nodes) a b (rows_at graph.nodes i) (width_at graph.nodes i) part (λ w. rows_of (meanings graph.nodes w.rows) i) shaped front h

-- ---- segments

-- no segment yet
pub lowered_none : (graph : Content) (list : Steps ClearTask) → IsShaped answer list → list.first ≡ first_lengths graph.nodes → list.steps ≡ [] → Lowered graph list [] [] []
lowered_none graph list shaped first steps = record {
  first = first;
  shaped = shaped;
  stores = λ i part h. cc;
  traced = traced_none answer (load_world graph.nodes) list steps;
  placed = record {
    nodes = λ i node is h. absurd (omega arith);
    outputs = λ o output is h. absurd (omega arith);
    within = λ k. omega arith;
    whole = sym (ap length steps);
  };
  count = refl;
  opened = λ o output slots is h. cc;
}

-- the segment of the next node
pub lowered_node : (graph : Content) (a b : Steps ClearTask) (parts : List Stored) (ends : List ℕ) (i : ℕ) (part : Stored)
    → length parts ≡ i → i < length graph.nodes → Lowered graph a parts ends [] → ((node : Node) → slice_get graph.nodes i ≡ Some node → LowersNode graph a b i node part)
    → Lowered graph b (parts ++ part ∷ []) (ends ++ length b.steps ∷ []) []
lowered_node graph a b parts ends i part next inside h lowers = record {
  first = ap (λ l. l.first) front.is ∙ h.first;
  shaped = k.shaped;
  stores = λ j other is. elim (appended parts part other j is) [
    | inl old ↦ node_grown graph a b j other h.shaped front (h.stores j other old)
    | inr new ↦ subst (λ s. StoresNode graph b j s) new.1 (subst (λ n. StoresNode graph b n part) (sym (new.0 ∙ next)) k.stores)
  ];
  traced = traced_same answer (load_world graph.nodes) b _ (λ w v. shown_by_first graph (length (parts ++ part ∷ [])) 0 w.rows v) wanted
      (traced_piece answer (load_world graph.nodes) a b (is_of_node found.0) (node_cost graph.nodes found.0) (λ w v. shown_by_first graph (length parts) 0 w.rows v) (λ w v. shown_by_node graph w.rows found.0 v)
      (node_no_flag found.0) (λ w v. record { whole = refl; goes = refl }) h.traced k.adds);
  placed = record {
    nodes = λ j other is below. elim (side j below) [
      | inl old ↦ segment_kept a b ends front j (is_of_node other) (node_cost graph.nodes other) h.placed.within old (h.placed.nodes j other is old)
      | inr new ↦ segment_new a b ends front j (is_of_node other) (node_cost graph.nodes other) new h.placed.whole (segment other (is_last other j is new))
    ];
    outputs = λ o output is below. absurd (omega (arith, below, h.count, next, inside, length-append ends (length b.steps ∷ [])));
    within = within_more a b ends front h.placed.within;
    whole = whole_more a b ends front;
  };
  count = omega (arith, h.count, length-append ends (length b.steps ∷ []), length-append parts (part ∷ []));
  opened = λ o output slots is none. cc;
}
  where
    found : (node : Node) × (slice_get graph.nodes i ≡ Some node)
    found = within graph.nodes i inside

    k : LowersNode graph a b i found.0 part
    k = lowers found.0 found.1

    front : StandsIn a b
    front = k.adds.front

    side : (j : ℕ) → j < length (ends ++ length b.steps ∷ []) → (j < length ends) ⊎ (j ≡ length ends)
    side j below = below_or_last ends (length b.steps) j below

    is_last : (other : Node) (j : ℕ) → slice_get graph.nodes j ≡ Some other → j ≡ length ends → found.0 ≡ other
    is_last other j is new =
        let e : j ≡ i = omega (arith, new, h.count, next) in
        let same = sym found.1 ∙ ap (slice_get graph.nodes) (sym e) ∙ is in cc

    segment : (other : Node) → found.0 ≡ other → IsSegment a b (is_of_node other) (node_cost graph.nodes other)
    segment other e = subst (λ n. IsSegment a b (is_of_node n) (node_cost graph.nodes n)) e (record { front = k.adds.front; kinds = k.adds.kinds; words = k.adds.words })

    wanted : (w : WorldOf graph.nodes) (v : Party)
        → shown_by_first graph (length parts) 0 w.rows v ++ shown_by_node graph w.rows found.0 v ≡ shown_by_first graph (length (parts ++ part ∷ [])) 0 w.rows v
    wanted w v =
        let shown = λ (n : Node). shown_by_node graph w.rows n v in
        let e : length (parts ++ part ∷ []) ≡ i + 1 = omega (arith, next, length-append parts (part ∷ [])) in
        ap (λ xs. xs ++ shown found.0) (append-nil (flat_map shown (take (length parts) graph.nodes))) ∙ ap (λ n. flat_map shown (take n graph.nodes) ++ shown found.0) next
        ∙ sym (flat_map_more shown graph.nodes i found.0 found.1) ∙ ap (λ n. flat_map shown (take n graph.nodes)) (sym e)
        ∙ sym (append-nil (flat_map shown (take (length (parts ++ part ∷ [])) graph.nodes)))

-- the segment of the next output
pub lowered_output : (graph : Content) (a b : Steps ClearTask) (parts : List Stored) (ends : List ℕ) (answers : List (Three (Option ℕ))) (o : ℕ) (output : Output) (slots : Three (Option ℕ))
    → length parts ≡ length graph.nodes → length answers ≡ o → slice_get graph.outputs o ≡ Some output → Lowered graph a parts ends answers → LowersOutput graph a b output slots
    → Lowered graph b parts (ends ++ length b.steps ∷ []) (answers ++ slots ∷ [])
lowered_output graph a b parts ends answers o output slots all next is h k = record {
  first = ap (λ l. l.first) front.is ∙ h.first;
  shaped = k.shaped;
  stores = λ j other old. node_grown graph a b j other h.shaped front (h.stores j other old);
  traced = traced_same answer (load_world graph.nodes) b _ (λ w v. shown_by_first graph (length parts) (length (answers ++ slots ∷ [])) w.rows v) wanted
      (traced_piece answer (load_world graph.nodes) a b (is_of_output output) (output_cost graph.nodes output) (λ w v. shown_by_first graph (length parts) (length answers) w.rows v) (λ w v. shown_by_output graph w.rows output v)
      (output_no_flag output) (λ w v. opened_quiet (has output.recipients (number_of v)) _) h.traced k.adds);
  placed = record {
    nodes = λ j node there below.
        let old : j < length ends = omega (arith, below_length graph.nodes j node there, h.count, all) in
        segment_kept a b ends front j (is_of_node node) (node_cost graph.nodes node) h.placed.within old (h.placed.nodes j node there old);
    outputs = λ p other there below. elim (below_or_last ends (length b.steps) (length graph.nodes + p) below) [
      | inl old ↦ segment_kept a b ends front (length graph.nodes + p) (is_of_output other) (output_cost graph.nodes other) h.placed.within old (h.placed.outputs p other there old)
      | inr new ↦ segment_new a b ends front (length graph.nodes + p) (is_of_output other) (output_cost graph.nodes other) new h.placed.whole (segment other (is_last other p there new))
    ];
    within = within_more a b ends front h.placed.within;
    whole = whole_more a b ends front;
  };
  count = omega (arith, h.count, length-append ends (length b.steps ∷ []), length-append answers (slots ∷ []));
  opened = λ p other others there found. elim (appended answers slots others p found) [
    | inl old ↦ λ v. answer_grown graph a b other v (at v others) h.shaped front (h.opened p other others there old v)
    | inr new ↦ last p other others there new.0 new.1
  ];
}
  where
    front : StandsIn a b
    front = k.adds.front

    same_output : (p : ℕ) (other : Output) → slice_get graph.outputs p ≡ Some other → p ≡ o → output ≡ other
    same_output p other there e = let same = sym is ∙ ap (slice_get graph.outputs) (sym e) ∙ there in cc

    is_last : (other : Output) (p : ℕ) → slice_get graph.outputs p ≡ Some other → length graph.nodes + p ≡ length ends → output ≡ other
    is_last other p there new = same_output p other there (omega (arith, new, h.count, next, all))

    segment : (other : Output) → output ≡ other → IsSegment a b (is_of_output other) (output_cost graph.nodes other)
    segment other e = subst (λ n. IsSegment a b (is_of_output n) (output_cost graph.nodes n)) e (record { front = k.adds.front; kinds = k.adds.kinds; words = k.adds.words })

    last : (p : ℕ) (other : Output) (others : Three (Option ℕ)) → slice_get graph.outputs p ≡ Some other → p ≡ length answers → slots ≡ others → AreAnswers graph b other others
    last p other others there e f = subst (λ x. AreAnswers graph b other x) f (subst (λ x. AreAnswers graph b x slots) (same_output p other there (e ∙ next)) k.answers)

    wanted : (w : WorldOf graph.nodes) (v : Party)
        → shown_by_first graph (length parts) (length answers) w.rows v ++ shown_by_output graph w.rows output v ≡ shown_by_first graph (length parts) (length (answers ++ slots ∷ [])) w.rows v
    wanted w v =
        let nodes = flat_map (λ node. shown_by_node graph w.rows node v) (take (length parts) graph.nodes) in
        let shown = λ (x : Output). shown_by_output graph w.rows x v in
        let e : length (answers ++ slots ∷ []) ≡ o + 1 = omega (arith, next, length-append answers (slots ∷ [])) in
        append_assoc nodes (flat_map shown (take (length answers) graph.outputs)) (shown output)
        ∙ ap (λ xs. nodes ++ xs) (ap (λ n. flat_map shown (take n graph.outputs) ++ shown output) next ∙ sym (flat_map_more shown graph.outputs o output is) ∙ ap (λ n. flat_map shown (take n graph.outputs)) (sym e))
