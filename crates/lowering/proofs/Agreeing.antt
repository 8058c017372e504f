-- Worlds that agree for a party: they show it the same, and it has the same first slots in both.
use Rattle.std.proofs.Common.{◌≡◌, ℕ, zero, suc, ◌==◌, Bool, true, false, cond, true≢false, List, [], ◌∷◌, ◌++◌, length, take, refl, sym, ap, ◌∙◌, subst}
use Rattle.std.specs.List.{AllByRecursion, AllZip, flat_map}
use Rattle.std.proofs.lemmas.Bool.{eqb-true}
use Rattle.std.proofs.lemmas.List.Elements.{recursion_from_All}
use Rattle.bags.specs.Bag.{SameBag}
use Rattle.emit.specs.AddsLaws.{alike-append}
use Rattle.lanes.specs.Party.{number_of}
use Rattle.lanes.specs.Three.{at}
use Rattle.lanes.specs.declared.party.Party.{Party}
use Rattle.lanes.specs.declared.party.Party.TheVariants.{First, Second, Third}
use Rattle.padded.specs.Laws.{OpenedOfBags}
use Rattle.plain_meaning.specs.Fits.{AreRowsOf, relations}
use Rattle.plain_meaning.specs.Meaning.{rows_of}
use Rattle.query_graph.specs.Content.{Content}
use Rattle.query_graph.specs.IsGraph.{rows_at}
use Rattle.query_graph.specs.NodeSizes.{width_at}
use Rattle.query_graph.specs.Observers.{is_relation}
use Rattle.query_graph.specs.Parties.{has}
use Rattle.query_graph.specs.declared.node.Node.{Node}
use Rattle.query_graph.specs.declared.node.Output.{Output}
use Rattle.query_graph.specs.declared.operator.Operator.{Operator}
use Rattle.query_graph.specs.declared.operator.Operator.TheVariants.{Relation, Filter, Select, Concat, Join, Group, Distinct}
use Rattle.query_graph.specs.declared.operator.Relation.{Relation as File}
use Rattle.step_lists.specs.Seen.{Seen, Rows, AreAlike, also, none, only, same_rows}
use Rattle.trust_sets.specs.Agreement.{AnswerAgrees, OwnFileAgrees}
use Rattle.lowering.specs.FirstSlots.{WorldOf, first_slots, if_owned, owner_of, relation_slots, slots_of_relations}
use Rattle.lowering.specs.Isolated.{AgreeFor, AgreeingWorldsLookSame}
use Rattle.lowering.specs.Want.{shown_by, shown_by_node, shown_by_output}
use Rattle.lowering.proofs.FirstFit.{relations-here, relations-not}

-- ---- openings, one behind the other

each_alike : {A : Type 0} (f g : A → List Seen) → ((x : A) → AreAlike (f x) (g x)) → (xs : List A) → AreAlike (flat_map f xs) (flat_map g xs)
each_alike f g same [] = none
each_alike f g same (x ∷ xs) = alike-append (same x) (each_alike f g same xs)

all_alike : {A : Type 0} (P : A → Type 0) (f g : A → List Seen) → ((x : A) → P x → AreAlike (f x) (g x)) → (xs : List A) → AllByRecursion P xs → AreAlike (flat_map f xs) (flat_map g xs)
all_alike P f g same [] h = none
all_alike P f g same (x ∷ xs) h = alike-append (same x h.0) (all_alike P f g same xs h.1)

only_alike : (b : Bool) (rows others : List (List ℕ)) → (b ≡ true → SameBag rows others) → AreAlike (only b (Rows rows)) (only b (Rows others))
only_alike true rows others h = also (same_rows (h refl)) none
only_alike false rows others h = none

-- ---- what is opened of a node and of an output

node_alike : (graph : Content) (v : Party) (world other : List (List (List ℕ))) (node : Node) → AreAlike (shown_by_node graph world node v) (shown_by_node graph other node v)
node_alike graph v world other node = none

output_alike : OpenedOfBags → (graph : Content) (v : Party) (world other : List (List (List ℕ))) (output : Output) → AnswerAgrees graph.nodes (number_of v) world other output
    → AreAlike (shown_by_output graph world output v) (shown_by_output graph other output v)
output_alike opened graph v world other output h =
    only_alike (has output.recipients (number_of v)) _ _ (λ gets. opened (width_at graph.nodes output.node) (rows_at graph.nodes output.node) _ _ (h gets))

pub shown_alike : OpenedOfBags → (graph : Content) (v : Party) (w other : WorldOf graph.nodes) → AgreeFor graph v w other → AreAlike (shown_by graph w.rows v) (shown_by graph other.rows v)
shown_alike opened graph v w other agree =
    alike-append (each_alike (λ node. shown_by_node graph w.rows node v) (λ node. shown_by_node graph other.rows node v) (node_alike graph v w.rows other.rows) graph.nodes)
    (all_alike (AnswerAgrees graph.nodes (number_of v) w.rows other.rows) (λ output. shown_by_output graph w.rows output v) (λ output. shown_by_output graph other.rows output v)
    (output_alike opened graph v w.rows other.rows) graph.outputs (recursion_from_All (AnswerAgrees graph.nodes (number_of v) w.rows other.rows) graph.outputs (agree.answers refl)))

-- ---- the first slots

abbrev IsFile : Operator → File → Type 0
IsFile shape r = shape ≡ Relation r

file_of : (shape : Operator) → is_relation shape ≡ true → (r : File) × IsFile shape r
file_of (Relation r) h = (r, refl)
file_of (Filter f) h = absurd (true≢false (sym h))
file_of (Select s) h = absurd (true≢false (sym h))
file_of (Concat c) h = absurd (true≢false (sym h))
file_of (Join j) h = absurd (true≢false (sym h))
file_of (Group g) h = absurd (true≢false (sym h))
file_of (Distinct d) h = absurd (true≢false (sym h))

module _ (p : Party) where
  -- of these nodes, the party's own files are the same in both worlds
  abbrev OwnSame : List Node → List (List (List ℕ)) → List (List (List ℕ)) → Type 0
  OwnSame nodes world other = (number : ℕ) → OwnFileAgrees nodes (number_of p) world other number

  abbrev SlotsSame : List Node → Type 0
  SlotsSame nodes = (world other : List (List (List ℕ))) → AllZip AreRowsOf (relations nodes) world → AllZip AreRowsOf (relations nodes) other → OwnSame nodes world other
      → slots_of_relations p (relations nodes) world ≡ slots_of_relations p (relations nodes) other

  -- those behind a node that is no relation, and behind one that is
  own_skipped : (node : Node) (nodes : List Node) (world other : List (List (List ℕ))) → is_relation node.shape ≡ false → OwnSame (node ∷ nodes) world other → OwnSame nodes world other
  own_skipped node nodes world other e h number r is own =
      ap (λ ns. rows_of world (length ns)) (sym (relations-not node (take number nodes) e))
      ∙ h (suc number) r (record { node = is.node; at = is.at; is = is.is }) own
      ∙ ap (λ ns. rows_of other (length ns)) (relations-not node (take number nodes) e)

  own_behind : (node : Node) (nodes : List Node) (rows others : List (List ℕ)) (world other : List (List (List ℕ))) → is_relation node.shape ≡ true
      → OwnSame (node ∷ nodes) (rows ∷ world) (others ∷ other) → OwnSame nodes world other
  own_behind node nodes rows others world other e h number r is own =
      ap (λ ns. rows_of (rows ∷ world) (length ns)) (sym (relations-here node (take number nodes) e))
      ∙ h (suc number) r (record { node = is.node; at = is.at; is = is.is }) own
      ∙ ap (λ ns. rows_of (others ∷ other) (length ns)) (relations-here node (take number nodes) e)

  -- the slots of a relation: its own are those of the same rows, and it has none of another party's
  own_here : (node : Node) (nodes : List Node) (rows others : List (List ℕ)) (world other : List (List (List ℕ))) → is_relation node.shape ≡ true
      → OwnSame (node ∷ nodes) (rows ∷ world) (others ∷ other) → if_owned p node (relation_slots node rows) ≡ if_owned p node (relation_slots node others)
  own_here node nodes rows others world other e h = by (owner_of node.shape == number_of p) refl
    where
      by : (b : Bool) → (owner_of node.shape == number_of p) ≡ b → if_owned p node (relation_slots node rows) ≡ if_owned p node (relation_slots node others)
      by true owned =
          let file = file_of node.shape e in
          ap (λ rs. if_owned p node (relation_slots node rs))
          (h zero file.0 (record { node = node; at = refl; is = file.1 }) (sym (ap owner_of file.1) ∙ eqb-true (owner_of node.shape) (number_of p) owned))
      by false owned = ap (λ (b : Bool). cond b (relation_slots node rows) []) owned ∙ sym (ap (λ (b : Bool). cond b (relation_slots node others) []) owned)

  slots_here : (node : Node) (nodes : List Node) → is_relation node.shape ≡ true → SlotsSame nodes
      → (world other : List (List (List ℕ))) → AllZip AreRowsOf (node ∷ relations nodes) world → AllZip AreRowsOf (node ∷ relations nodes) other → OwnSame (node ∷ nodes) world other
      → slots_of_relations p (node ∷ relations nodes) world ≡ slots_of_relations p (node ∷ relations nodes) other
  slots_here node nodes e rest [] other f g h = absurd f
  slots_here node nodes e rest (rows ∷ world) [] f g h = absurd g
  slots_here node nodes e rest (rows ∷ world) (others ∷ other) f g h =
      ap (λ xs. xs ++ slots_of_relations p (relations nodes) world) (own_here node nodes rows others world other e h)
      ∙ ap (λ xs. if_owned p node (relation_slots node others) ++ xs) (rest world other f.1 g.1 (own_behind node nodes rows others world other e h))

  slots_same : (nodes : List Node) → SlotsSame nodes
  slots_same [] world other f g h = refl
  slots_same (node ∷ nodes) world other f g h = by (slots_same nodes) (is_relation node.shape) refl
    where
      by : SlotsSame nodes → (b : Bool) → is_relation node.shape ≡ b → slots_of_relations p (relations (node ∷ nodes)) world ≡ slots_of_relations p (relations (node ∷ nodes)) other
      by rest true e =
          let here = relations-here node nodes e in
          subst (λ ns. slots_of_relations p ns world ≡ slots_of_relations p ns other) (sym here)
          (slots_here node nodes e rest world other (subst (λ ns. AllZip AreRowsOf ns world) here f) (subst (λ ns. AllZip AreRowsOf ns other) here g) h)
      by rest false e =
          let skipped = relations-not node nodes e in
          subst (λ ns. slots_of_relations p ns world ≡ slots_of_relations p ns other) (sym skipped)
          (rest world other (subst (λ ns. AllZip AreRowsOf ns world) skipped f) (subst (λ ns. AllZip AreRowsOf ns other) skipped g) (own_skipped node nodes world other e h))

slots_at : (nodes : List Node) (world : List (List (List ℕ))) (p : Party) → at p (first_slots nodes world) ≡ slots_of_relations p (relations nodes) world
slots_at nodes world First = refl
slots_at nodes world Second = refl
slots_at nodes world Third = refl

pub worlds_look_same : OpenedOfBags → AgreeingWorldsLookSame
worlds_look_same opened graph v w other agree = record {
  shown = shown_alike opened graph v w other agree;
  slots = slots_at graph.nodes w.rows v ∙ slots_same v graph.nodes w.rows other.rows w.fits other.fits agree.files.own ∙ sym (slots_at graph.nodes other.rows v);
}
