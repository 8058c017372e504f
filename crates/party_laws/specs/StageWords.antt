-- The words of a step by its stages, and a party's part of a step on words of which more are to come.
use Rattle.std.specs.Prelude.{◌≡◌, ℕ, suc, ◌≤◌, Bool, true, false, List, [], ◌∷◌, length, take, Some, slice_get}
use Rattle.std.specs.List.{flat_map}
use Rattle.lanes.specs.declared.party.Party.{Party}
use Rattle.lanes.specs.declared.party.Party.TheVariants.{First, Second, Third}
use Rattle.lanes.specs.declared.three.Three.{Three}
use Rattle.lanes.specs.Party.{next, before}
use Rattle.lanes.specs.Three.{at, each}
use Rattle.lanes.specs.SharedAnd.{and_shares}
use Rattle.step_lists.specs.declared.step.Shape.{Shape}
use Rattle.step_lists.specs.declared.step.Step.{Step}
use Rattle.step_lists.specs.declared.step.Step.TheVariants.{Const, Lin, And, Share, Reveal, Steer, Tell, Work, Flag}
use Rattle.step_lists.specs.Layout.{Steps, Layout, party_of, rows_moved, starting, layout_of}
use Rattle.step_lists.specs.Draws.{ThreeTapes, joined, needs_of, taken, words_in, order_in}
use Rattle.step_lists.specs.Rules.{IsWellFormed}
use Rattle.step_lists.specs.Run.{tape_cut, rest_after}
use Rattle.step_lists.specs.Open.{SlotWords}
use Rattle.step_lists.specs.Phases.{Links, link, no_words, message, behind_on, phase_words}
use Rattle.step_lists.specs.Machine.{Machine, shares, slot_of, step_words, and_words, to_both, given_share, moving, first_phase, second_phase, third_phase, shown_shares, steer_order, drawn_phase, joint_of}
use Rattle.step_lists.specs.Possible.{Fits}
use Rattle.step_lists.specs.Part.{Given, count_from, all_sent, stage_takes, stage_sends, takes_bad_order}
use Rattle.party_laws.specs.InMachine.{received_by, part_in}

-- the words of the machine in each stage of a step
abbrev pub stage_words : {T : Type 0} → Layout → Machine → Step T → ThreeTapes → List Links
stage_words l m (Const words) ds = []
stage_words l m (Lin op) ds = []
stage_words l m (And left right) ds = and_words (and_shares (shares m left) (shares m right) (each words_in ds)) ∷ []
stage_words l m (Share party s) ds = to_both (party_of party) (given_share (party_of party) (slot_of m (party_of party) s) (each words_in ds)) ∷ []
stage_words l m (Reveal to moved shown) ds =
    phase_words First (order_in ds.first) (rows_moved l moved) (moving m moved ds)
    ∷ phase_words Second (order_in ds.second) (rows_moved l moved) (first_phase (rows_moved l moved) ds (moving m moved ds))
    ∷ phase_words Third (order_in ds.third) (rows_moved l moved) (second_phase (rows_moved l moved) ds (moving m moved ds))
    ∷ message (next (party_of to)) (party_of to) (flat_map (at (before (party_of to))) (shown_shares (third_phase (rows_moved l moved) ds (moving m moved ds)) shown))
    ∷ []
stage_words l m (Steer by s moved) ds =
    message (party_of by) (before (party_of by)) (steer_order (party_of by) (slot_of m (party_of by) s) ds)
    ∷ phase_words (next (party_of by)) (order_in (at (next (party_of by)) ds)) (rows_moved l moved) (moving m moved ds)
    ∷ phase_words (party_of by) (steer_order (party_of by) (slot_of m (party_of by) s) ds) (rows_moved l moved)
    (drawn_phase (party_of by) (rows_moved l moved) ds (moving m moved ds))
    ∷ []
stage_words l m (Tell source target s) ds = message (party_of source) (party_of target) (slot_of m (party_of source) s) ∷ []
stage_words l m (Work party task takes gives) ds = []
stage_words l m (Flag party s) ds = to_both (party_of party) (slot_of m (party_of party) s) ∷ []

abbrev pub all_words : List Links → Links
all_words [] = no_words
all_words (w ∷ ws) = behind_on w (all_words ws)

-- the draws of a step at v, and these words
abbrev pub given_with : Party → ThreeTapes → Three (List ℕ) → Given
given_with v ds words = record { own = at v ds; following = at (next v) ds; received = words }

-- the words of so many stages are there
abbrev pub StagesAreThere : {T : Type 0} → Party → Layout → Step T → ℕ → Three (List ℕ) → Type 0
StagesAreThere v l s i words = (q : Party) → count_from q (take i (stage_takes v l s)) ≤ length (at q words)

-- a step of the machine by its stages, and at party v on words of which more are to come: in the stages that it comes to
-- it sends the machine's words; a stage brings it as many words as it takes; and no private order is a bad one
pub record HoldsStages {T : Type 0} (v : Party) (l : Layout) (m : Machine) (s : Step T) (ds : ThreeTapes) : Type 0 where
  pub whole : step_words l m s ds ≡ all_words (stage_words l m s ds)
  pub stages : length (stage_words l m s ds) ≡ length (stage_takes v l s)
  pub counts : (q : Party) (b : ℕ) → length (link q v (all_words (take b (stage_words l m s ds)))) ≡ count_from q (take b (stage_takes v l s))
  pub sends : (i b : ℕ) (words more : Three (List ℕ)) → b ≤ suc i → received_by v (step_words l m s ds) ≡ joined words more → StagesAreThere v l s i words
      → all_sent (take b (stage_sends v l (part_in v m) s (given_with v ds words))) ≡ at v (all_words (take b (stage_words l m s ds)))
  pub order : (words more : Three (List ℕ)) → received_by v (step_words l m s ds) ≡ joined words more → takes_bad_order v l s (given_with v ds words) ≡ false

-- the first steps of a list
abbrev pub front : {T : Type 0} → ℕ → Steps T → Steps T
front k list = record { first = list.first; steps = take k list.steps }

-- the draws of the step behind the first ones
abbrev pub draws_at : {T : Type 0} → ℕ → Steps T → Step T → ThreeTapes → ThreeTapes
draws_at k list s ds = taken (needs_of (layout_of (front k list)) s) (rest_after tape_cut (starting list.first) (take k list.steps) ds)

-- each step that the machine comes to holds its stages at each party
abbrev pub StagesHold : {T : Type 0} → (T → List Shape → List Shape → Bool) → (T → List (List ℕ) → List (List ℕ)) → Type 0
StagesHold {T} accepts answer =
    (v : Party) (list : Steps T) (slots : SlotWords) (ds : ThreeTapes) (k : ℕ) (s : Step T) → IsWellFormed accepts list → Fits list slots ds → slice_get list.steps k ≡ Some s
    → (joint_of answer (front k list) slots ds).stop ≡ false
    → HoldsStages v (layout_of (front k list)) (joint_of answer (front k list) slots ds) s (draws_at k list s ds)

-- what fits a list fits its first steps
pub record FrontsFit {T : Type 0} (accepts : T → List Shape → List Shape → Bool) : Type 0 where
  pub fine : (k : ℕ) (list : Steps T) → IsWellFormed accepts list → IsWellFormed accepts (front k list)
  pub fits : (k : ℕ) (list : Steps T) (slots : SlotWords) (ds : ThreeTapes) → Fits list slots ds → Fits (front k list) slots ds

-- the machine behind the first steps of a list begins the machine of the list, step by step, and a stop stays
pub record FrontsGrow {T : Type 0} (answer : T → List (List ℕ) → List (List ℕ)) : Type 0 where
  pub links : (k : ℕ) (list : Steps T) (slots : SlotWords) (ds : ThreeTapes)
      → (more : Links) × ((joint_of answer list slots ds).links ≡ behind_on (joint_of answer (front k list) slots ds).links more)
  pub step : (k : ℕ) (list : Steps T) (slots : SlotWords) (ds : ThreeTapes) (s : Step T) → slice_get list.steps k ≡ Some s → (joint_of answer (front k list) slots ds).stop ≡ false
      → (joint_of answer (front (suc k) list) slots ds).links
      ≡ behind_on (joint_of answer (front k list) slots ds).links (step_words (layout_of (front k list)) (joint_of answer (front k list) slots ds) s (draws_at k list s ds))
  pub stopped : (k : ℕ) (list : Steps T) (slots : SlotWords) (ds : ThreeTapes) → (joint_of answer (front k list) slots ds).stop ≡ true
      → joint_of answer list slots ds ≡ joint_of answer (front k list) slots ds
