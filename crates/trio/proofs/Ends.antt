-- Where all have ended, links, slots and stops are the joint run's.
use Rattle.std.proofs.Common.{◌≡◌, ℕ, ◌≤◌, Bool, true, false, List, length, refl, sym, ap, ◌∙◌, arith}
use Rattle.std.specs.Prelude.{nat_le, slice_get, if◌then◌else◌}
use Rattle.std.proofs.lemmas.List.{take_all}
use Rattle.lanes.specs.declared.party.Party.{Party}
use Rattle.lanes.specs.Three.{at}
use Rattle.step_lists.specs.declared.step.Shape.{Shape}
use Rattle.step_lists.specs.Layout.{Steps, party_of}
use Rattle.step_lists.specs.Draws.{ThreeTapes}
use Rattle.step_lists.specs.Open.{SlotWords}
use Rattle.step_lists.specs.Phases.{link}
use Rattle.step_lists.specs.Machine.{Machine, joint_of}
use Rattle.party_laws.specs.InMachine.{part_in}
use Rattle.party_laws.specs.StageWords.{front}
use Rattle.party_core.specs.declared.want.Want.{Want}
use Rattle.party_core.specs.declared.want.Want.TheVariants.{Turn, Words, Done, Stopped}
use Rattle.party_core.specs.CoreView.{next_step}
use Rattle.party_core.specs.Core.{part_so_far, sent_so_far, step_want, want_of}
use Rattle.trio.specs.declared.stepped.Stepped.TheVariants.{Moved, Waits, Ended}
use Rattle.trio.specs.Running.{Running, core_at, taken_on, waiting_on, stepped, stepped_by, HaveEnded}
use Rattle.trio.specs.RunOf.{IsRunOf, EndsAsJoint, ends_as}
use Rattle.trio.proofs.Facts.{Facts}
use Rattle.trio.proofs.Words.{same_each, begins_through, begins_whole}
use Rattle.trio.proofs.Placed.{true_apart}
use Rattle.trio.proofs.Wanting.{is_done, is_stopped}
use Rattle.trio.proofs.Movers.{IsKnown, known, get_none}

module _ {T : Type 0} (accepts : T → List Shape → List Shape → Bool) (answer : T → List (List ℕ) → List (List ℕ)) (facts : Facts accepts answer)
    (list : Steps T) (slots : SlotWords) (ds : ThreeTapes) (r : Running T) (h : IsRunOf accepts answer list slots ds r) where
  abbrev joint : Machine
  joint = joint_of answer list slots ds

  knows : (v : Party) → IsKnown accepts answer list slots ds v (core_at v r)
  knows v =
      known accepts answer facts list slots ds v (core_at v r) h.well_formed h.fits (h.cores v) (λ q. begins_through (taken_on q v r) (link q v r.sent) _ (h.taken q v) (h.begins q v))

  -- an ended core is the whole machine's
  record IsWhole (v : Party) : Type 0 where
    pub part : part_so_far answer (core_at v r) ≡ part_in v joint
    pub sent : sent_so_far answer (core_at v r) ≡ at v joint.links
    pub taken : (q : Party) → length (link q v joint.links) ≤ length (taken_on q v r)

  at_end : (v : Party) → (joint_of answer (front (core_at v r).far.steps list) slots ds) ≡ joint
      → sent_so_far answer (core_at v r) ≡ at v (joint_of answer (front (core_at v r).far.steps list) slots ds).links → IsWhole v
  at_end v e f = record {
    part = (knows v).part ∙ ap (part_in v) e;
    sent = f ∙ ap (λ m. at v m.links) e;
    taken = λ q. omega (arith, (knows v).long q, ap (λ m. length (link q v m.links)) e);
  }

  done_whole : (v : Party) → want_of answer (core_at v r) ≡ Done → IsWhole v
  done_whole v e =
      let k = (core_at v r).far.steps in
      let none = (is_done answer (core_at v r) e).0 in
      let past = get_none list.steps k (ap (λ x. slice_get x.steps k) (sym (knows v).list_is) ∙ none) in
      at_end v (ap (λ ss. joint_of answer (record { first = list.first; steps = ss }) slots ds) (take_all k list.steps past)) ((knows v).between none)

  stopped_whole : (v : Party) (flag : ℕ) → want_of answer (core_at v r) ≡ Stopped flag → IsWhole v
  stopped_whole v flag e =
      let k = (core_at v r).far.steps in
      let stop : (joint_of answer (front k list) slots ds).stop ≡ true = ap (λ a. a.stop) (sym (knows v).part) ∙ is_stopped answer (core_at v r) flag e in
      at_end v (sym (facts.grow.stopped k list slots ds stop)) ((knows v).at_stop stop)

  moved_apart : Moved ≡ Ended → ⊥
  moved_apart e = cc

  waits_apart : (q : ℕ) → Waits q ≡ Ended → ⊥
  waits_apart q e = cc

  whole : (v : Party) → stepped answer v r ≡ Ended → IsWhole v
  whole v e = by (want_of answer (core_at v r)) refl e where
    by : (w : Want) → want_of answer (core_at v r) ≡ w → stepped_by w v r ≡ Ended → IsWhole v
    by Turn f e = absurd (moved_apart e)
    by (Words q n) f e = absurd (enough (nat_le n (length (waiting_on (party_of q) v r))) e) where
      enough : (b : Bool) → (if b then Moved else Waits q) ≡ Ended → ⊥
      enough true e = moved_apart e
      enough false e = waits_apart q e
    by Done f e = done_whole v f
    by (Stopped flag) f e = stopped_whole v flag f

  -- how it ended
  not_stopped : (v : Party) (x : Want) → want_of answer (core_at v r) ≡ x → stepped_by x v r ≡ Ended → (part_so_far answer (core_at v r)).stop ≡ false → want_of answer (core_at v r) ≡ Done
  not_stopped v Turn f e g = absurd (moved_apart e)
  not_stopped v (Words q n) f e g = absurd (enough (nat_le n (length (waiting_on (party_of q) v r))) e) where
    enough : (b : Bool) → (if b then Moved else Waits q) ≡ Ended → ⊥
    enough true e = moved_apart e
    enough false e = waits_apart q e
  not_stopped v Done f e g = f
  not_stopped v (Stopped flag) f e g = absurd (true_apart (sym g ∙ is_stopped answer (core_at v r) flag f))

  ends : (v : Party) → stepped answer v r ≡ Ended → want_of answer (core_at v r) ≡ ends_as joint.stop joint.flags
  ends v e = by joint.stop refl (whole v e) where
    by : (b : Bool) → joint.stop ≡ b → IsWhole v → want_of answer (core_at v r) ≡ ends_as joint.stop joint.flags
    by true f w =
        ap (λ b. if b then Stopped (part_so_far answer (core_at v r)).flags else step_want (core_at v r) (next_step (core_at v r))) (ap (λ a. a.stop) w.part ∙ f)
        ∙ (ap Stopped (ap (λ a. a.flags) w.part) ∙ ap (λ b. ends_as b joint.flags) (sym f))
    by false f w = not_stopped v (want_of answer (core_at v r)) refl e (ap (λ a. a.stop) w.part ∙ f) ∙ ap (λ b. ends_as b joint.flags) (sym f)

  pub ends_as_joint : HaveEnded answer r → EndsAsJoint answer list slots ds r
  ends_as_joint e = record {
    sent = same_each r.sent joint.links (λ v. h.sent v ∙ (whole v (e v)).sent);
    taken = λ q v.
        sym (begins_whole (taken_on q v r) (link q v joint.links) (begins_through (taken_on q v r) (link q v r.sent) (link q v joint.links) (h.taken q v) (h.begins q v)) ((whole v (e v)).taken q));
    slots_are = λ v. ap (λ a. a.slots) (whole v (e v)).part;
    stops = λ v. ends v (e v);
  }
