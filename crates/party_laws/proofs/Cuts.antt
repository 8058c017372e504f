-- What has to hold of each kind of step, and registers and slots of a machine that is cut to a party.
use Rattle.std.proofs.Common.{◌≡◌, ℕ, zero, suc, Bool, true, false, List, [], ◌∷◌, ◌++◌, length, map, take, refl, sym, ap, ◌∙◌, arith}
use Rattle.std.specs.Prelude.{IsTrue, nat_lt, slice_index_or}
use Rattle.std.specs.List.{AllZip, flat_map}
use Rattle.std.proofs.lemmas.List.{map-append, length-append}
use Rattle.lanes.specs.declared.party.Party.{Party}
use Rattle.lanes.specs.declared.party.Party.TheVariants.{First, Second, Third}
use Rattle.lanes.specs.declared.three.Three.{Three}
use Rattle.lanes.specs.Party.{next, before}
use Rattle.lanes.specs.Three.{at}
use Rattle.tapes.specs.Needs.{FitsNeeds}
use Rattle.step_lists.specs.declared.step.Shape.{Shape}
use Rattle.step_lists.specs.declared.step.Shape.TheVariants as shapes
use Rattle.step_lists.specs.declared.step.Step.{Step}
use Rattle.step_lists.specs.declared.step.Step.TheVariants.{Const, Lin, And, Share, Reveal, Steer, Tell, Work, Flag}
use Rattle.step_lists.specs.Layout.{Layout, party_of, grown, shape_of, words_in_slot, count_in, rows_moved}
use Rattle.step_lists.specs.Rules.{fits_layout, is_slot, is_party}
use Rattle.step_lists.specs.Shapes.{HasLength, HasShape, HaveShapes}
use Rattle.step_lists.specs.Draws.{ThreeTapes, needs_of, nothing, joined, order_in}
use Rattle.step_lists.specs.Seen.{same_party}
use Rattle.step_lists.specs.Open.{SlotWords, item}
use Rattle.step_lists.specs.Phases.{Shares, Links, link, no_words, message, behind_on, phase_words}
use Rattle.step_lists.specs.Machine.{Machine, shares, slot_of, with_shares, with_more_slots, machine_step, step_words, moving, first_phase, second_phase, third_phase, shown_shares, steer_order, drawn_phase}
use Rattle.step_lists.specs.Part.{Pair, Given, no_pair, with_pairs, with_own_slots, count_from, all_sent, stage_takes, stage_sends, part_step, takes_bad_order}
use Rattle.joint_machine.specs.Opens.{IsLong}
use Rattle.party_laws.specs.InMachine.{pair_of, received_by, held}
use Rattle.party_laws.specs.StageWords.{stage_words, all_words}
use Rattle.party_laws.proofs.Lists.{both, below, zip_at, zip_behind, item_mapped}
use Rattle.party_laws.proofs.Threes.{at_behind, link_behind, behind_none, more_count, none_long}

-- ---- registers and slots of a cut machine

none_pair : (v : Party) → pair_of v nothing ≡ no_pair
none_pair First = refl
none_pair Second = refl
none_pair Third = refl

pub pair_is : (v : Party) (m : Machine) (r : ℕ) → slice_index_or (map (pair_of v) m.registers) r no_pair ≡ pair_of v (shares m r)
pair_is v m r =
    ap (λ d. slice_index_or (map (pair_of v) m.registers) r d) (sym (none_pair v)) ∙ sym (item_mapped (pair_of v) m.registers r nothing)

pub more_pairs : (v : Party) (m : Machine) (x : Three (List ℕ)) (t : Three ℕ) (ps : List Pair) (more : List Shares) → ps ≡ map (pair_of v) more
    → with_pairs (held v m x t) ps ≡ held v (with_shares m more) x t
more_pairs v m x t ps more e =
    let same : map (pair_of v) m.registers ++ ps ≡ map (pair_of v) (m.registers ++ more) =
    ap (λ q. map (pair_of v) m.registers ++ q) e ∙ sym (map-append (pair_of v) m.registers more) in
    ap (λ q. record (held v m x t) { pairs = q }) same

pub own_slots : (v p : Party) (m : Machine) (x : Three (List ℕ)) (t : Three ℕ) (ws more : List (List ℕ)) → (same_party v p ≡ true → ws ≡ more)
    → with_own_slots (same_party v p) (held v m x t) ws ≡ held v (with_more_slots m p more) x t
own_slots First First m x t ws more e = ap (λ s. record (held First m x t) { slots = m.slots.first ++ s }) (e refl)
own_slots Second Second m x t ws more e = ap (λ s. record (held Second m x t) { slots = m.slots.second ++ s }) (e refl)
own_slots Third Third m x t ws more e = ap (λ s. record (held Third m x t) { slots = m.slots.third ++ s }) (e refl)
own_slots First Second m x t ws more e = refl
own_slots First Third m x t ws more e = refl
own_slots Second First m x t ws more e = refl
own_slots Second Third m x t ws more e = refl
own_slots Third First m x t ws more e = refl
own_slots Third Second m x t ws more e = refl

-- a party's own slot
pub same_slot : (v p : Party) (slots : SlotWords) (s : ℕ) → same_party v p ≡ true → item (at v slots) s ≡ item (at p slots) s
same_slot First First slots s e = refl
same_slot Second Second slots s e = refl
same_slot Third Third slots s e = refl
same_slot First Second slots s e = absurd (cc)
same_slot First Third slots s e = absurd (cc)
same_slot Second First slots s e = absurd (cc)
same_slot Second Third slots s e = absurd (cc)
same_slot Third First slots s e = absurd (cc)
same_slot Third Second slots s e = absurd (cc)

-- ---- a step by its stages

pub words_of_stages : {T : Type 0} (l : Layout) (m : Machine) (s : Step T) (ds : ThreeTapes) → step_words l m s ds ≡ all_words (stage_words l m s ds)
words_of_stages l m (Const words) ds = refl
words_of_stages l m (Lin op) ds = refl
words_of_stages l m (And left right) ds = sym (behind_none _)
words_of_stages l m (Share party s) ds = sym (behind_none _)
words_of_stages l m (Reveal to moved shown) ds =
    let n = rows_moved l moved in
    let x = moving m moved ds in
    let last = message (next (party_of to)) (party_of to) (flat_map (at (before (party_of to))) (shown_shares (third_phase n ds x) shown)) in
    ap (λ w. behind_on (phase_words First (order_in ds.first) n x)
    (behind_on (phase_words Second (order_in ds.second) n (first_phase n ds x)) (behind_on (phase_words Third (order_in ds.third) n (second_phase n ds x)) w))) (sym (behind_none last))
words_of_stages l m (Steer by s moved) ds =
    let n = rows_moved l moved in
    let x = moving m moved ds in
    let p = party_of by in
    let order = steer_order p (slot_of m p s) ds in
    ap (λ w. behind_on (message p (before p) order) (behind_on (phase_words (next p) (order_in (at (next p) ds)) n x) w))
    (sym (behind_none (phase_words p order n (drawn_phase p n ds x))))
words_of_stages l m (Tell source target s) ds = sym (behind_none _)
words_of_stages l m (Work party task takes gives) ds = refl
words_of_stages l m (Flag party s) ds = sym (behind_none _)

pub all_sent_of : (v : Party) (ws : List Links) → all_sent (map (at v) ws) ≡ at v (all_words ws)
all_sent_of v [] = none v where
  none : (v : Party) → nothing ≡ at v no_words
  none First = refl
  none Second = refl
  none Third = refl
all_sent_of v (w ∷ ws) = ap (joined (at v w)) (all_sent_of v ws) ∙ sym (at_behind v w (all_words ws))

-- in each stage party q sends v as many words as v takes of it
abbrev pub AreCounted : Party → Party → List Links → List (Three ℕ) → Type 0
AreCounted v q ws ts = AllZip (λ w t. length (link q v w) ≡ at q t) ws ts

pub front_counted : (v q : Party) (b : ℕ) (ws : List Links) (ts : List (Three ℕ)) → AreCounted v q ws ts → AreCounted v q (take b ws) (take b ts)
front_counted v q zero ws ts h = tt
front_counted v q (suc b) [] [] h = tt
front_counted v q (suc b) [] (t ∷ ts) h = absurd h
front_counted v q (suc b) (w ∷ ws) [] h = absurd h
front_counted v q (suc b) (w ∷ ws) (t ∷ ts) h = (h.0, front_counted v q b ws ts h.1)

pub all_counted : (v q : Party) (ws : List Links) (ts : List (Three ℕ)) → AreCounted v q ws ts → length (link q v (all_words ws)) ≡ count_from q ts
all_counted v q [] [] h = none_long q v
all_counted v q [] (t ∷ ts) h = absurd h
all_counted v q (w ∷ ws) [] h = absurd h
all_counted v q (w ∷ ws) (t ∷ ts) h =
    let more = all_counted v q ws ts h.1 in
    let split = ap length (link_behind q v w (all_words ws)) ∙ length-append (link q v w) (link q v (all_words ws)) in
    omega (arith, split, more, h.0, more_count q t ts)

-- the draws of a step
abbrev pub AreDrawsOf : {T : Type 0} → Layout → Step T → ThreeTapes → Type 0
AreDrawsOf l s ds = (p : Party) → FitsNeeds (at p (needs_of l s)) (at p ds)

-- the tapes of v, and exactly these words to it
abbrev pub given_in : Party → ThreeTapes → Links → Given
given_in v ds words = record { own = at v ds; following = at (next v) ds; received = received_by v words }

module _ {T : Type 0} (accepts : T → List Shape → List Shape → Bool) (answer : T → List (List ℕ) → List (List ℕ)) where
  -- a step that the layout allows, on a machine that fits it before and behind the step, with its draws
  pub record IsReady (l : Layout) (m : Machine) (s : Step T) (ds : ThreeTapes) : Type 0 where
    pub step : IsTrue (fits_layout accepts l s)
    pub draws : AreDrawsOf l s ds
    pub long : AllZip IsLong l.registers m.registers
    pub slots : (p : Party) → HaveShapes (at p l.slots) (at p m.slots)
    pub made : AllZip IsLong (grown l s).registers (machine_step answer l m s ds).registers

  -- on exactly the words of a step the part makes the machine's shares and slots and sends the machine's words, stage by
  -- stage, and each stage takes the words that are sent in it
  pub record IsCut (v : Party) (l : Layout) (m : Machine) (s : Step T) (ds : ThreeTapes) : Type 0 where
    pub part : (x : Three (List ℕ)) (t : Three ℕ)
        → part_step answer v l (held v m x t) s (given_in v ds (step_words l m s ds)) ≡ held v (machine_step answer l m s ds) x t
    pub sent : (x : Three (List ℕ)) (t : Three ℕ) → stage_sends v l (held v m x t) s (given_in v ds (step_words l m s ds)) ≡ map (at v) (stage_words l m s ds)
    pub count : (q : Party) → AreCounted v q (stage_words l m s ds) (stage_takes v l s)
    pub order : takes_bad_order v l s (given_in v ds (step_words l m s ds)) ≡ false

  -- ---- what a machine has that fits

  pub slot_fits : (l : Layout) (m : Machine) (p s : ℕ) → ((p : Party) → HaveShapes (at p l.slots) (at p m.slots)) → IsTrue (is_slot l p s)
      → HasShape (shape_of l (party_of p) s) (slot_of m (party_of p) s)
  slot_fits l m p s h i =
      zip_at HasShape (at (party_of p) l.slots) (at (party_of p) m.slots) s (shapes.Words 0) [] (h (party_of p))
      (below s (length (at (party_of p) l.slots)) (both (is_party p) (nat_lt s (length (at (party_of p) l.slots))) i).1)

  shaped_words : (shape : Shape) (xs : List ℕ) → HasShape shape xs → HasLength (count_in shape) xs
  shaped_words (shapes.Words n) xs h = h
  shaped_words (shapes.OrderOf n) xs h = h.0

  pub slot_long : (l : Layout) (m : Machine) (p s : ℕ) → ((p : Party) → HaveShapes (at p l.slots) (at p m.slots)) → IsTrue (is_slot l p s)
      → length (slot_of m (party_of p) s) ≡ words_in_slot l (party_of p) s
  slot_long l m p s h i = (shaped_words (shape_of l (party_of p) s) (slot_of m (party_of p) s) (slot_fits l m p s h i)).long

  -- the shares of one new register
  pub new_long : (l : Layout) (m : Machine) (n : ℕ) (z : Shares) → AllZip IsLong l.registers m.registers → AllZip IsLong (l.registers ++ n ∷ []) (m.registers ++ z ∷ [])
      → (p : Party) → length (at p z) ≡ n
  new_long l m n z h i p = (zip_behind IsLong l.registers (n ∷ []) m.registers (z ∷ []) h i).0.each p
