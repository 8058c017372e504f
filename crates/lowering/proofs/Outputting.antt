-- An output: its node's table, opened to each recipient.
use Rattle.std.proofs.Common.{◌≡◌, ℕ, ◌+◌, Bool, true, false, cond, true≢false, List, [], ◌∷◌, ◌++◌, refl, sym, ap, ◌∙◌, subst, arith, append-nil}
use Rattle.std.specs.Prelude.{IsTrue, Option, Some, None}
use Rattle.bags.specs.Laws.{BagsAreEquivalence}
use Rattle.clear_tasks.specs.ClearTask.{answer}
use Rattle.clear_tasks.specs.declared.task.ClearTask.{ClearTask}
use Rattle.emit.specs.Adds.{Adds, is_circuit, wants_nothing}
use Rattle.emit.specs.AddsLaws.{adds_at, adds_nothing, adds_same, adds_step, adds_then, adds_wider}
use Rattle.lanes.specs.Party.{number_of}
use Rattle.lanes.specs.declared.party.Party.{Party}
use Rattle.lanes.specs.declared.party.Party.TheVariants.{First, Second, Third}
use Rattle.lanes.specs.declared.three.Three.{Three}
use Rattle.padded.specs.Laws.{RowsOfOrdered}
use Rattle.padded.specs.Table.{opened_rows}
use Rattle.plain_meaning.specs.Meaning.{meanings, rows_of}
use Rattle.query_graph.specs.Content.{Content}
use Rattle.query_graph.specs.IsGraph.{rows_at}
use Rattle.query_graph.specs.NodeSizes.{width_at}
use Rattle.query_graph.specs.Parties.{has}
use Rattle.query_graph.specs.declared.node.Output.{Output}
use Rattle.shared_ops.specs.declared.joint.Joint.{Joint}
use Rattle.step_lists.specs.Laws.{RevealIsOneOrder}
use Rattle.step_lists.specs.Layout.{Steps, layout_of, party_of}
use Rattle.step_lists.specs.Open.{SlotWords, open_of, slot}
use Rattle.step_lists.specs.Possible.{behind}
use Rattle.step_lists.specs.Prefixes.{possible_prefix}
use Rattle.step_lists.specs.Seen.{AreAlike, Rows, Seen, only, same_party, seen_step}
use Rattle.step_lists.specs.declared.step.Step.{Step}
use Rattle.step_lists.specs.declared.step.Step.TheVariants.{Const, Lin, And, Share, Reveal, Steer, Tell, Work, Flag}
use Rattle.wires.specs.Environment.{words}
use Rattle.lowering.specs.Costs.{output_cost}
use Rattle.lowering.specs.FirstSlots.{WorldOf, load_world}
use Rattle.lowering.specs.Lowered.{AreAnswers, IsAnswer, LowersOutput, StoresNode}
use Rattle.lowering.specs.Pieces.{IsJoined, IsZeroed, OpensTo, opening_of}
use Rattle.lowering.specs.Segments.{is_of_output, is_on_shares}
use Rattle.lowering.specs.Stored.{IsShaped}
use Rattle.lowering.specs.Want.{shown_by_output}
use Rattle.lowering.specs.declared.stored.Stored.{Stored}
use Rattle.lowering.specs.declared.stored.Stored.TheVariants.{Clear}
use Rattle.lowering.proofs.Segmenting.{answer_grown}
use Rattle.lowering.proofs.Revealing.{IsOpenable, opening_shows, opening_stores}

module _ (graph : Content) (output : Output) where
  abbrev wanted : WorldOf graph.nodes → Party → List Seen
  wanted w v = shown_by_output graph w.rows output v

  -- what is shown to one party
  abbrev wanted_by : Party → WorldOf graph.nodes → Party → List Seen
  wanted_by q w v = cond (same_party v q) (wanted w v) []

  abbrev AddsFor : Steps ClearTask → Steps ClearTask → Party → Type 0
  AddsFor b c q = Adds answer (load_world graph.nodes) b c (is_of_output output) 0 (wanted_by q)

  none_wanted : (q : Party) → has output.recipients (number_of q) ≡ false → (w : WorldOf graph.nodes) (v : Party) → [] ≡ wanted_by q w v
  none_wanted First h w First = ap (λ e. only e (Rows (opened_rows (width_at graph.nodes output.node) (rows_at graph.nodes output.node) (rows_of (meanings graph.nodes w.rows) output.node)))) (sym h)
  none_wanted First h w Second = refl
  none_wanted First h w Third = refl
  none_wanted Second h w First = refl
  none_wanted Second h w Second = ap (λ e. only e (Rows (opened_rows (width_at graph.nodes output.node) (rows_at graph.nodes output.node) (rows_of (meanings graph.nodes w.rows) output.node)))) (sym h)
  none_wanted Second h w Third = refl
  none_wanted Third h w First = refl
  none_wanted Third h w Second = refl
  none_wanted Third h w Third = ap (λ e. only e (Rows (opened_rows (width_at graph.nodes output.node) (rows_at graph.nodes output.node) (rows_of (meanings graph.nodes w.rows) output.node)))) (sym h)

  one_wanted : (q : Party) → has output.recipients (number_of q) ≡ true → (w : WorldOf graph.nodes) (v : Party)
      → only (same_party v (party_of (number_of q))) (Rows (opened_rows (width_at graph.nodes output.node) (rows_at graph.nodes output.node) (rows_of (meanings graph.nodes w.rows) output.node))) ≡ wanted_by q w v
  one_wanted First h w First = ap (λ e. only e (Rows (opened_rows (width_at graph.nodes output.node) (rows_at graph.nodes output.node) (rows_of (meanings graph.nodes w.rows) output.node)))) (sym h)
  one_wanted First h w Second = refl
  one_wanted First h w Third = refl
  one_wanted Second h w First = refl
  one_wanted Second h w Second = ap (λ e. only e (Rows (opened_rows (width_at graph.nodes output.node) (rows_at graph.nodes output.node) (rows_of (meanings graph.nodes w.rows) output.node)))) (sym h)
  one_wanted Second h w Third = refl
  one_wanted Third h w First = refl
  one_wanted Third h w Second = refl
  one_wanted Third h w Third = ap (λ e. only e (Rows (opened_rows (width_at graph.nodes output.node) (rows_at graph.nodes output.node) (rows_of (meanings graph.nodes w.rows) output.node)))) (sym h)

  module _ (one_order : RevealIsOneOrder answer) (ordered : RowsOfOrdered) (bags : BagsAreEquivalence) (b c : Steps ClearTask) (t : Joint) (shaped : IsShaped answer b) (openable : IsOpenable graph output.node b t) where
    -- it is opened to a party, if that is a recipient
    pub opens_adds : (q : Party) (o : Option ℕ) → OpensTo b c output.recipients (number_of q) t o → AddsFor b c q
    opens_adds q None h =
        subst (λ x. AddsFor b x q) (sym h.1)
        (adds_same answer (load_world graph.nodes) b b (is_of_output output) 0 wants_nothing (wanted_by q) (none_wanted q h.0) (adds_nothing answer (load_world graph.nodes) b (is_of_output output)))
    opens_adds q (Some first) h =
        subst (λ x. AddsFor b x q) (sym h.1.is)
        (adds_step answer (load_world graph.nodes) b (opening_of (number_of q) t) (is_of_output output) (wanted_by q) h.0
        (λ w ds p v. subst (AreAlike (seen_step v (layout_of b) (open_of answer b (load_world graph.nodes w) ds) (opening_of (number_of q) t))) (one_wanted q h.0 w v)
        (opening_shows graph output.node one_order ordered bags b (number_of q) t shaped openable w ds (possible_prefix answer b (behind b (opening_of (number_of q) t ∷ [])) (load_world graph.nodes w) ds (record { more = opening_of (number_of q) t ∷ []; is = refl }) p) v)))

    pub opens_answer : (q : Party) (o : Option ℕ) → OpensTo b c output.recipients (number_of q) t o → IsAnswer graph c output q o
    opens_answer q None h = h.0
    opens_answer q (Some first) h = (
      h.0,
      subst (λ x. StoresNode graph x output.node (Clear (number_of q) first)) (sym h.1.is)
          (subst (λ k. StoresNode graph (behind b (opening_of (number_of q) t ∷ [])) output.node (Clear (number_of q) k)) (sym h.1.first_is)
          (opening_stores graph output.node one_order ordered bags b (number_of q) t shaped openable)),
    )

  all_wanted : (w : WorldOf graph.nodes) (v : Party) → (wanted_by First w v ++ wanted_by Second w v) ++ wanted_by Third w v ≡ wanted w v
  all_wanted w First = append-nil (wanted w First ++ []) ∙ append-nil (wanted w First)
  all_wanted w Second = append-nil (wanted w Second)
  all_wanted w Third = refl

  circuit_may : {T : Type 0} (s : Step T) → IsTrue (is_circuit s) → IsTrue (is_of_output output s)
  circuit_may (Const words) h = refl
  circuit_may (Lin op) h = refl
  circuit_may (And left right) h = refl
  circuit_may (Share party slot) h = refl
  circuit_may (Reveal to moved shown) h = absurd (true≢false (sym h))
  circuit_may (Steer by slot moved) h = refl
  circuit_may (Tell source target slot) h = absurd (true≢false (sym h))
  circuit_may (Work party task takes gives) h = refl
  circuit_may (Flag party slot) h = h

  share_may : {T : Type 0} (s : Step T) → IsTrue (is_on_shares s) → IsTrue (is_of_output output s)
  share_may (Const words) h = refl
  share_may (Lin op) h = refl
  share_may (And left right) h = refl
  share_may (Share party slot) h = refl
  share_may (Reveal to moved shown) h = absurd (true≢false (sym h))
  share_may (Steer by slot moved) h = refl
  share_may (Tell source target slot) h = absurd (true≢false (sym h))
  share_may (Work party task takes gives) h = refl
  share_may (Flag party slot) h = h

  module _ (a m z b c d : Steps ClearTask) (part : Stored) (t zeroed : Joint) (slots : Three (Option ℕ))
      (shaped_b : IsShaped answer b) (shaped_c : IsShaped answer c) (shaped_d : IsShaped answer d)
      (joined : IsJoined a m (rows_at graph.nodes output.node) (width_at graph.nodes output.node) part t)
      (zeros : IsZeroed m z (rows_at graph.nodes output.node) (width_at graph.nodes output.node) t zeroed)
      (first : AddsFor z b First) (second : AddsFor b c Second) (third : AddsFor c d Third)
      (one : IsAnswer graph b output First slots.first) (two : IsAnswer graph c output Second slots.second) (three : IsAnswer graph d output Third slots.third) where
    abbrev load : WorldOf graph.nodes → SlotWords
    load = load_world graph.nodes

    abbrev may : Step ClearTask → Bool
    may = is_of_output output

    abbrev cost : ℕ
    cost = output_cost graph.nodes output

    quietly : Adds answer load a z may (0 + cost) (λ w v. [])
    quietly =
        adds_then answer load a m z may 0 cost wants_nothing wants_nothing
        (adds_wider answer load a m is_on_shares may 0 0 wants_nothing share_may (omega arith) (adds_at answer load a m is_on_shares 0 wants_nothing joined.adds))
        (adds_wider answer load m z is_circuit may cost cost wants_nothing circuit_may (omega arith) (adds_at answer load m z is_circuit cost wants_nothing zeros.adds))

    opening_adds : Adds answer load z d may 0 wanted
    opening_adds =
        adds_same answer load z d may 0 (λ w v. (wanted_by First w v ++ wanted_by Second w v) ++ wanted_by Third w v) wanted all_wanted
        (adds_then answer load z c d may 0 0 (λ w v. wanted_by First w v ++ wanted_by Second w v) (wanted_by Third) (adds_then answer load z b c may 0 0 (wanted_by First) (wanted_by Second) first second) third)

    pub lowers_output : LowersOutput graph a d output slots
    lowers_output = record {
      adds = adds_wider answer load a d may may (0 + cost + 0) cost wanted (λ s h. h) (omega arith) (adds_then answer load a z d may (0 + cost) 0 wants_nothing wanted quietly opening_adds);
      shaped = shaped_d;
      answers = answers;
    }
      where
        answers : AreAnswers graph d output slots
        answers First = answer_grown graph c d output First slots.first shaped_c third.front (answer_grown graph b c output First slots.first shaped_b second.front one)
        answers Second = answer_grown graph c d output Second slots.second shaped_c third.front two
        answers Third = three

-- the same numbers of rows and columns, by other names
pub joined_as : {a m : Steps ClearTask} {n k width wide : ℕ} {part : Stored} {t : Joint} → n ≡ k → width ≡ wide → IsJoined a m n width part t → IsJoined a m k wide part t
joined_as {a} {m} {n} {k} {width} {wide} {part} {t} e f h = subst (λ x. IsJoined a m x wide part t) e (subst (λ x. IsJoined a m n x part t) f h)

pub zeros_as : {m z : Steps ClearTask} {n k width wide : ℕ} {t zeroed : Joint} → n ≡ k → width ≡ wide → IsZeroed m z n width t zeroed → IsZeroed m z k wide t zeroed
zeros_as {m} {z} {n} {k} {width} {wide} {t} {zeroed} e f h = subst (λ x. IsZeroed m z x wide t zeroed) e (subst (λ x. IsZeroed m z n x t zeroed) f h)
