-- No party sends itself anything.
use Rattle.std.proofs.Common.{◌≡◌, ℕ, zero, suc, Bool, true, false, List, [], ◌∷◌, ◌++◌, refl, sym, subst, ap, ◌∙◌, arith, inl, inr}
use Rattle.std.specs.Prelude.{IsTrue, ◌==◌, ◌&&◌, not, nat_le, if◌then◌else◌}
use Rattle.std.proofs.lemmas.Bool.{leb-true}
use Rattle.std.proofs.lemmas.Bool.Decides.{eqb_tells}
use Rattle.std.specs.List.{flat_map}
use Rattle.lanes.specs.declared.party.Party.{Party}
use Rattle.lanes.specs.declared.party.Party.TheVariants.{First, Second, Third}
use Rattle.lanes.specs.Party.{next, before, number_of}
use Rattle.lanes.specs.Three.{at, each}
use Rattle.lanes.specs.SharedAnd.{and_shares}
use Rattle.step_lists.specs.declared.step.Shape.{Shape}
use Rattle.step_lists.specs.declared.step.Step.{Step}
use Rattle.step_lists.specs.declared.step.Step.TheVariants.{Const, Lin, And, Share, Reveal, Steer, Tell, Work, Flag}
use Rattle.step_lists.specs.Layout.{Layout, party_of, grown, starting, shape_of, rows_moved}
use Rattle.step_lists.specs.Rules.{AreFine, is_slot, is_party, is_words, is_small, fits_layout}
use Rattle.step_lists.specs.Draws.{ThreeTapes, needs_of, words_in, order_in, taken, dropped}
use Rattle.step_lists.specs.Run.{run, tape_cut}
use Rattle.step_lists.specs.Phases.{Links, link, no_words, message, behind_on, Moving, phase_words, there_all, back_all}
use Rattle.step_lists.specs.Machine.{Machine, shares, slot_of, given_share, moving, first_phase, second_phase, third_phase, shown_shares, steer_order, drawn_phase, machine_step, to_both, step_words, before_steps, joint_going, delivered}
use Rattle.joint_machine.specs.Below.{OwnLinksAreEmpty}
use Rattle.joint_machine.proofs.Listing.{both, true_apart}
use Rattle.joint_machine.proofs.LinkWords.{kept_links}

abbrev Own : Links → Type 0
Own links = (v : Party) → link v v links ≡ []

silent : Own no_words
silent First = refl
silent Second = refl
silent Third = refl

message_apart : (source target : Party) (ws : List ℕ) → ¬ (source ≡ target) → Own (message source target ws)
message_apart First First ws h First = absurd (h refl)
message_apart First Second ws h First = refl
message_apart First Third ws h First = refl
message_apart First target ws h Second = refl
message_apart First target ws h Third = refl
message_apart Second target ws h First = refl
message_apart Second First ws h Second = refl
message_apart Second Second ws h Second = absurd (h refl)
message_apart Second Third ws h Second = refl
message_apart Second target ws h Third = refl
message_apart Third target ws h First = refl
message_apart Third target ws h Second = refl
message_apart Third First ws h Third = refl
message_apart Third Second ws h Third = refl
message_apart Third Third ws h Third = absurd (h refl)

to_next : (p : Party) (ws : List ℕ) → Own (message p (next p) ws)
to_next First ws = message_apart First Second ws (λ e. cc)
to_next Second ws = message_apart Second Third ws (λ e. cc)
to_next Third ws = message_apart Third First ws (λ e. cc)

to_before : (p : Party) (ws : List ℕ) → Own (message p (before p) ws)
to_before First ws = message_apart First Third ws (λ e. cc)
to_before Second ws = message_apart Second First ws (λ e. cc)
to_before Third ws = message_apart Third Second ws (λ e. cc)

of_next : (p : Party) (ws : List ℕ) → Own (message (next p) p ws)
of_next First ws = message_apart Second First ws (λ e. cc)
of_next Second ws = message_apart Third Second ws (λ e. cc)
of_next Third ws = message_apart First Third ws (λ e. cc)

of_before : (p : Party) (ws : List ℕ) → Own (message (before p) p ws)
of_before First ws = message_apart Third First ws (λ e. cc)
of_before Second ws = message_apart First Second ws (λ e. cc)
of_before Third ws = message_apart Second Third ws (λ e. cc)

two : (xs ys : List ℕ) → xs ≡ [] → ys ≡ [] → xs ++ ys ≡ []
two xs ys e f = ap (λ t. t ++ ys) e ∙ f

own_behind : (a b : Links) → Own a → Own b → Own (behind_on a b)
own_behind a b h i First = two (link First First a) (link First First b) (h First) (i First)
own_behind a b h i Second = two (link Second Second a) (link Second Second b) (h Second) (i Second)
own_behind a b h i Third = two (link Third Third a) (link Third Third b) (h Third) (i Third)

own_both : (p : Party) (ws : List ℕ) → Own (to_both p ws)
own_both p ws = own_behind (message p (next p) ws) (message p (before p) ws) (to_next p ws) (to_before p ws)

own_phase : (j : Party) (order : List ℕ) (n : ℕ) (x : Moving) → Own (phase_words j order n x)
own_phase j order n x =
    own_behind (message (before j) j (there_all j order n x.shares (at (before j) x.masks))) (message j (before j) (back_all j order n x.shares (at (next j) x.masks)))
    (of_before j (there_all j order n x.shares (at (before j) x.masks))) (to_before j (back_all j order n x.shares (at (next j) x.masks)))

number : (p : ℕ) → IsTrue (is_party p) → p ≡ number_of (party_of p)
number zero h = absurd (true_apart h)
number (suc zero) h = refl
number (suc (suc zero)) h = refl
number (suc (suc (suc zero))) h = refl
number (suc (suc (suc (suc n)))) h =
    let le = leb-true (suc (suc (suc (suc n)))) 3 (both (nat_le 1 (suc (suc (suc (suc n))))) (nat_le (suc (suc (suc (suc n)))) 3) h).1 in
    absurd (omega (arith, le))

-- parties of different numbers are different
parties_apart : (p q : ℕ) → IsTrue (is_party p) → IsTrue (is_party q) → IsTrue (not (p == q)) → ¬ (party_of p ≡ party_of q)
parties_apart p q h i apart e =
    let same : p ≡ q = number p h ∙ (ap number_of e ∙ sym (number q i)) in
    by (p == p) equal (subst (λ x. IsTrue (not (p == x))) (sym same) apart) where
      equal : p == p ≡ true
      equal = elim (eqb_tells p p) [ inl f ↦ f.0 | inr f ↦ absurd (f.1 refl) ]

      by : (b : Bool) → b ≡ true → IsTrue (not b) → ⊥
      by true f g = true_apart g
      by false f g = true_apart f

module _ {T : Type 0} (accepts : T → List Shape → List Shape → Bool) (answer : T → List (List ℕ) → List (List ℕ)) where
  own_step : (l : Layout) (m : Machine) (s : Step T) (ds : ThreeTapes) → IsTrue (fits_layout accepts l s) → Own (step_words l m s ds)
  own_step l m (Const words) ds i = silent
  own_step l m (Lin op) ds i = silent
  own_step l m (And left right) ds i =
      let z = and_shares (shares m left) (shares m right) (each words_in ds) in
      own_behind (message First Third z.first) (behind_on (message Second First z.second) (message Third Second z.third)) (to_before First z.first)
      (own_behind (message Second First z.second) (message Third Second z.third) (to_before Second z.second) (to_before Third z.third))
  own_step l m (Share party s) ds i = own_both (party_of party) (given_share (party_of party) (slot_of m (party_of party) s) (each words_in ds))
  own_step l m (Reveal to moved shown) ds i =
      let n = rows_moved l moved in
      let q = party_of to in
      let x = moving m moved ds in
      own_behind (phase_words First (order_in ds.first) n x) _ (own_phase First (order_in ds.first) n x)
      (own_behind (phase_words Second (order_in ds.second) n (first_phase n ds x)) _ (own_phase Second (order_in ds.second) n (first_phase n ds x))
      (own_behind (phase_words Third (order_in ds.third) n (second_phase n ds x)) _ (own_phase Third (order_in ds.third) n (second_phase n ds x))
      (of_next q (flat_map (at (before q)) (shown_shares (third_phase n ds x) shown)))))
  own_step l m (Steer by s moved) ds i =
      let n = rows_moved l moved in
      let p = party_of by in
      let o = steer_order p (slot_of m p s) ds in
      let x = moving m moved ds in
      own_behind (message p (before p) o) _ (to_before p o)
      (own_behind (phase_words (next p) (order_in (at (next p) ds)) n x) (phase_words p o n (drawn_phase p n ds x)) (own_phase (next p) (order_in (at (next p) ds)) n x)
      (own_phase p o n (drawn_phase p n ds x)))
  own_step l m (Tell source target s) ds i =
      let p = party_of source in
      let one = both ((is_slot l source s && is_party target) && not (source == target)) (is_words (shape_of l p s)) i in
      let two = both (is_slot l source s && is_party target) (not (source == target)) one.0 in
      let three = both (is_slot l source s) (is_party target) two.0 in
      message_apart p (party_of target) (slot_of m p s) (parties_apart source target (both (is_party source) _ three.0).0 three.1 two.1)
  own_step l m (Work party task takes gives) ds i = silent
  own_step l m (Flag party s) ds i = own_both (party_of party) (slot_of m (party_of party) s)

  own_going : (l : Layout) (m : Machine) (s : Step T) (ds : ThreeTapes) → IsTrue (fits_layout accepts l s) → Own m.links → Own (joint_going answer l m s ds).links
  own_going l m s ds i h = by m.stop where
    new : Machine
    new = delivered (step_words l m s ds) (machine_step answer l m s ds)

    by : (b : Bool) → Own (if b then m else new).links
    by true = h
    by false = subst (λ x. Own (behind_on x (step_words l m s ds))) (kept_links answer l m s ds) (own_behind m.links (step_words l m s ds) h (own_step l m s ds i))

  own_run : (l : Layout) (ss : List (Step T)) (m : Machine) (ds : ThreeTapes) → AreFine accepts l ss → Own m.links → Own (run (joint_going answer) tape_cut l m ss ds).links
  own_run l [] m ds f h = h
  own_run l (s ∷ ss) m ds f h =
      own_run (grown l s) ss (joint_going answer l m s (taken (needs_of l s) ds)) (dropped (needs_of l s) ds) f.1
      (own_going l m s (taken (needs_of l s) ds) (both (fits_layout accepts l s) (is_small (grown l s)) f.0).0 h)

  pub own_links_are_empty : OwnLinksAreEmpty accepts answer
  own_links_are_empty list slots ds well = own_run (starting list.first) list.steps (before_steps slots) ds well.fine silent
