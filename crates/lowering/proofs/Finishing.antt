-- A list behind all segments is correct, and shows no more than the answers.
use Rattle.std.proofs.Common.{◌≡◌, ℕ, zero, suc, ◌+◌, ◌≤◌, Bool, true, false, cond, true≢false, List, [], ◌∷◌, ◌++◌, length, map, take, refl, sym, ap, ◌∙◌, subst, arith}
use Rattle.std.specs.Prelude.{◌==◌, not, Option, Some, None, filter, slice_get, slice_index}
use Rattle.std.specs.List.{flat_map, range_with_len}
use Rattle.bags.specs.Bag.{SameBag}
use Rattle.clear_tasks.specs.ClearTask.{answer}
use Rattle.lanes.specs.Party.{number_of}
use Rattle.lanes.specs.Three.{at}
use Rattle.lanes.specs.declared.party.Party.{Party}
use Rattle.lanes.specs.declared.party.Party.TheVariants.{First, Second, Third}
use Rattle.padded.specs.Laws.{PaddedFits}
use Rattle.padded.specs.Table.{AreBits, is_live, rows_in}
use Rattle.plain_meaning.specs.Meaning.{meanings, rows_of}
use Rattle.query_graph.specs.Content.{Content}
use Rattle.query_graph.specs.NodeSizes.{width_at}
use Rattle.query_graph.specs.Parties.{has}
use Rattle.query_graph.specs.declared.node.Output.{Output}
use Rattle.step_lists.specs.Draws.{ThreeTapes, needs}
use Rattle.step_lists.specs.Layout.{party_of, starting}
use Rattle.step_lists.specs.Open.{item, open_of}
use Rattle.step_lists.specs.Possible.{Fits, FitsFront, Possible, SlotsFit, TapesFit}
use Rattle.step_lists.specs.Seen.{Seen, AreAlike, seen}
use Rattle.tapes.specs.Needs.{FitsNeeds}
use Rattle.tapes.specs.RowLaws.{row_across}
use Rattle.tapes.specs.declared.draw.Draw.{Draw}
use Rattle.tapes.specs.declared.draw.Need.{Need}
use Rattle.lowering.specs.FirstSlots.{WorldOf, first_slots, load_world}
use Rattle.lowering.specs.Lowered.{IsAnswer, Lowered}
use Rattle.lowering.specs.Plan.{Plan, IsCorrect, IsPlaced, ShowsAnswers, answer_in, answer_rows, rows_from, standing_rows}
use Rattle.lowering.specs.Trace.{up_to_flag, has_stop}
use Rattle.lowering.specs.Want.{shown_by, shown_by_first, shown_by_node, shown_by_output}
use Rattle.lowering.specs.declared.stored.Stored.{Stored}
use Rattle.lowering.proofs.Elements.{below_length, take_whole, within}
use Rattle.lowering.proofs.FirstFit.{first_fits}
use Rattle.lowering.proofs.Segmenting.{opened_quiet}
use Rattle.lowering.proofs.Tracing.{IsQuiet, has_stop-append, up_to-append}

-- ---- what is wanted has no flag

quiet_append : (xs ys : List Seen) → IsQuiet xs → IsQuiet ys → IsQuiet (xs ++ ys)
quiet_append xs ys h k = record {
  whole = up_to-append xs ys h.goes ∙ ap (λ zs. zs ++ up_to_flag ys) h.whole ∙ ap (λ zs. xs ++ zs) k.whole;
  goes = has_stop-append xs ys ∙ ap (λ b. cond b true (has_stop ys)) h.goes ∙ k.goes;
}

quiet_all : {A : Type 0} (f : A → List Seen) (xs : List A) → ((x : A) → IsQuiet (f x)) → IsQuiet (flat_map f xs)
quiet_all f [] h = record { whole = refl; goes = refl }
quiet_all f (x ∷ xs) h = quiet_append (f x) (flat_map f xs) (h x) (quiet_all f xs h)

wanted_quiet : (graph : Content) (world : List (List (List ℕ))) (v : Party) → IsQuiet (shown_by graph world v)
wanted_quiet graph world v =
    quiet_append (flat_map (λ node. shown_by_node graph world node v) graph.nodes) (flat_map (λ output. shown_by_output graph world output v) graph.outputs)
    (quiet_all (λ node. shown_by_node graph world node v) graph.nodes (λ node. record { whole = refl; goes = refl }))
    (quiet_all (λ output. shown_by_output graph world output v) graph.outputs (λ output. opened_quiet (has output.recipients (number_of v)) _))

-- ---- slots and tapes that fit

fits_front : (ns : List Need) (ds : List Draw) → FitsNeeds ns ds → FitsFront ns ds
fits_front [] ds h = tt
fits_front (n ∷ ns) [] h = absurd h
fits_front (n ∷ ns) (d ∷ ds) h = (h.0, fits_front ns ds h.1)

party_same : (p : Party) → party_of (number_of p) ≡ p
party_same First = refl
party_same Second = refl
party_same Third = refl

-- a valid word that isn't 0 is 1
stands_live : (valid : List ℕ) → AreBits valid → (k : ℕ) → not (slice_index valid k == 0) ≡ is_live valid k
stands_live valid h k = bit (slice_index valid k) (h.each k)
  where
    bit : (n : ℕ) → n ≤ 1 → not (n == 0) ≡ (n == 1)
    bit zero h = refl
    bit (suc zero) h = refl
    bit (suc (suc n)) h = absurd (omega arith)

filter_same : (p q : ℕ → Bool) → ((k : ℕ) → p k ≡ q k) → (ks : List ℕ) → filter p ks ≡ filter q ks
filter_same p q same [] = refl
filter_same p q same (k ∷ ks) = ap (λ (b : Bool). cond b (k ∷ filter p ks) (filter p ks)) (same k) ∙ ap (λ xs. cond (q k) (k ∷ xs) xs) (filter_same p q same ks)

standing-live : (columns : List (List ℕ)) (valid : List ℕ) → AreBits valid → standing_rows columns valid ≡ rows_in columns valid
standing-live columns valid h = ap (map (row_across columns)) (filter_same (λ k. not (slice_index valid k == 0)) (is_live valid) (stands_live valid h) (range_with_len 0 (length valid)))

module _ (facts : PaddedFits) (plan : Plan) (parts : List Stored) (nodes : length parts ≡ length plan.graph.nodes) (outputs : length plan.answers ≡ length plan.graph.outputs)
    (h : Lowered plan.graph plan.list parts plan.ends plan.answers) (w : WorldOf plan.graph.nodes) (ds : ThreeTapes) (tapes : TapesFit plan.list ds) where
  fits : Fits plan.list (load_world plan.graph.nodes w) ds
  fits = record {
    slots_fit = subst (λ first. SlotsFit first (first_slots plan.graph.nodes w.rows)) (sym h.first) (first_fits facts plan.graph.nodes w.rows w.fits);
    tapes_fit = λ p. fits_front (needs p (starting plan.list.first) plan.list.steps) (at p ds) (tapes p);
  }

  wanted : (v : Party) → shown_by_first plan.graph (length parts) (length plan.answers) w.rows v ≡ shown_by plan.graph w.rows v
  wanted v =
      ap (λ ns. flat_map (λ node. shown_by_node plan.graph w.rows node v) ns ++ flat_map (λ output. shown_by_output plan.graph w.rows output v) (take (length plan.answers) plan.graph.outputs)) (take_whole plan.graph.nodes (length parts) nodes)
      ∙ ap (λ os. flat_map (λ node. shown_by_node plan.graph w.rows node v) plan.graph.nodes ++ flat_map (λ output. shown_by_output plan.graph w.rows output v) os) (take_whole plan.graph.outputs (length plan.answers) outputs)

  going : (open_of answer plan.list (load_world plan.graph.nodes w) ds).stop ≡ false
  going = h.traced.stop_is w ds fits First ∙ ap has_stop (wanted First) ∙ (wanted_quiet plan.graph w.rows First).goes

  seen_by : (v : Party) → AreAlike (seen answer v plan.list (load_world plan.graph.nodes w) ds) (shown_by plan.graph w.rows v)
  seen_by v = subst (AreAlike (seen answer v plan.list (load_world plan.graph.nodes w) ds)) (ap up_to_flag (wanted v) ∙ (wanted_quiet plan.graph w.rows v).whole) (h.traced.seen_is w ds fits v)

  possible : Possible answer plan.list (load_world plan.graph.nodes w) ds
  possible = record { fits = fits; going = going }

  answered : (o : ℕ) (output : Output) (p : Party) → slice_get plan.graph.outputs o ≡ Some output → has output.recipients (number_of p) ≡ true
      → SameBag (answer_rows plan output o p (at p (open_of answer plan.list (load_world plan.graph.nodes w) ds).slots)) (rows_of (meanings plan.graph.nodes w.rows) output.node)
  answered o output p is recipient =
      let found = within plan.answers o (omega (arith, below_length plan.graph.outputs o output is, outputs)) in
      subst (λ slots. SameBag (rows_from words width (answer_in slots p)) meaning) (sym found.1) (by (at p found.0) (h.opened o output found.0 is found.1 p))
    where
      words : List (List ℕ)
      words = at p (open_of answer plan.list (load_world plan.graph.nodes w) ds).slots

      width : ℕ
      width = width_at plan.graph.nodes output.node

      meaning : List (List ℕ)
      meaning = rows_of (meanings plan.graph.nodes w.rows) output.node

      bits_of : (q : Party) (first : ℕ) → q ≡ p → AreBits (item (at q (open_of answer plan.list (load_world plan.graph.nodes w) ds).slots) (first + width)) → AreBits (item words (first + width))
      bits_of q first e b = subst (λ r. AreBits (item (at r (open_of answer plan.list (load_world plan.graph.nodes w) ds).slots) (first + width))) e b

      by : (first : Option ℕ) → IsAnswer plan.graph plan.list output p first → SameBag (rows_from words width first) meaning
      by None a = absurd (true≢false (sym recipient ∙ a))
      by (Some first) a =
          subst (λ rows. SameBag rows meaning) (sym (standing-live (map (item words) (range_with_len first width)) (item words (first + width)) (bits_of (party_of (number_of p)) first (party_same p) (a.1.bits w ds possible))))
          (subst (λ q. SameBag (rows_in (map (item (at q (open_of answer plan.list (load_world plan.graph.nodes w) ds).slots)) (range_with_len first width)) (item (at q (open_of answer plan.list (load_world plan.graph.nodes w) ds).slots) (first + width))) meaning) (party_same p) (a.1.bag w ds possible))

pub lowered_correct : PaddedFits → (plan : Plan) (parts : List Stored) → length parts ≡ length plan.graph.nodes → length plan.answers ≡ length plan.graph.outputs
    → Lowered plan.graph plan.list parts plan.ends plan.answers → IsCorrect plan
lowered_correct facts plan parts nodes outputs h = record {
  goes = λ w ds tapes. going facts plan parts nodes outputs h w ds tapes;
  answers = λ w ds tapes o output p is recipient. answered facts plan parts nodes outputs h w ds tapes o output p is recipient;
}

pub lowered_shows : PaddedFits → (plan : Plan) (parts : List Stored) → length parts ≡ length plan.graph.nodes → length plan.answers ≡ length plan.graph.outputs
    → Lowered plan.graph plan.list parts plan.ends plan.answers → ShowsAnswers plan
lowered_shows facts plan parts nodes outputs h = record { seen_is = λ w ds tapes v. seen_by facts plan parts nodes outputs h w ds tapes v }

pub lowered_placed : (plan : Plan) (parts : List Stored) → length parts ≡ length plan.graph.nodes → length plan.answers ≡ length plan.graph.outputs
    → Lowered plan.graph plan.list parts plan.ends plan.answers → IsPlaced plan
lowered_placed plan parts nodes outputs h = record { count = omega (arith, h.count, nodes, outputs); placed = h.placed }
