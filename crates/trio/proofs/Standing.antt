-- Three cores that are made, a turn of one of them and words that it takes, as the calls of cores promise them: all that makes
-- a run, and keeps it one.
use Rattle.std.proofs.Common.{◌≡◌, ℕ, ◌-◌, ◌≤◌, Bool, true, false, Result, Ok, Err, List, [], ◌∷◌, ◌++◌, length, take, drop, refl, sym, subst, ap, ◌∙◌, arith}
use Rattle.std.specs.Prelude.{OnOk, OnErr, nat_le, if◌then◌else◌}
use Rattle.std.proofs.lemmas.Bool.{le-leb}
use Rattle.std.proofs.lemmas.List.{length-drop, take_all}
use Rattle.lanes.specs.declared.party.Party.{Party}
use Rattle.lanes.specs.declared.party.Party.TheVariants.{First, Second, Third}
use Rattle.lanes.specs.declared.three.Three.{Three}
use Rattle.lanes.specs.Three.{at, put}
use Rattle.step_lists.specs.declared.step.Shape.{Shape}
use Rattle.step_lists.specs.Layout.{Steps, party_of}
use Rattle.step_lists.specs.Draws.{ThreeTapes, joined}
use Rattle.step_lists.specs.Rules.{IsWellFormed}
use Rattle.step_lists.specs.Open.{SlotWords}
use Rattle.step_lists.specs.Phases.{Links, link, no_words}
use Rattle.step_lists.specs.Possible.{SlotsFit, TapesFit}
use Rattle.joint_machine.specs.Below.{OwnLinksAreEmpty}
use Rattle.party_core.specs.declared.faults.TakeFault.TheVariants.{NotOrder}
use Rattle.party_core.specs.declared.want.Want.TheVariants.{Turn, Words}
use Rattle.party_core.specs.Calls.{IsTakeFault, wanted_from}
use Rattle.party_core.specs.CoreView.{CoreView, turned_on, took}
use Rattle.party_core.specs.Core.{breaks_order, turn_sends, want_of}
use Rattle.trio.specs.Held.{IsRun}
use Rattle.trio.specs.Running.{Running, core_at, taken_on, waiting_on, sent_more, by_words, by_turn, moved, moved_by}
use Rattle.trio.specs.RunOf.{IsRunOf, RunsKeep, fresh_run}
use Rattle.trio.proofs.Words.{at_joined}

none_first : (xs ys : List ℕ) → xs ++ ys ≡ [] → xs ≡ []
none_first [] ys e = refl
none_first (x ∷ xs) ys e = cc

none_second : (xs ys : List ℕ) → xs ++ ys ≡ [] → ys ≡ []
none_second [] ys e = e
none_second (x ∷ xs) ys e = cc

at_put : {A : Type 0} (v : Party) (a : A) (x : Three A) → at v (put v a x) ≡ a
at_put First a x = refl
at_put Second a x = refl
at_put Third a x = refl

abbrev pub run_of : {T : Type 0} → Three (CoreView T) → Links → Running T
run_of cores sent = record { cores = cores; sent = sent }

pub made_run : {T : Type 0} (accepts : T → List Shape → List Shape → Bool) (answer : T → List (List ℕ) → List (List ℕ)) → RunsKeep accepts answer → (list : Steps T) (slots : SlotWords) (ds : ThreeTapes)
    (cores : Three (CoreView T)) (sent : Links) → IsWellFormed accepts list → SlotsFit list.first slots → TapesFit list ds → cores ≡ (fresh_run list slots ds).cores → sent ≡ no_words
    → IsRunOf accepts answer list slots ds (run_of cores sent)
made_run accepts answer keep list slots ds cores sent well s t e f =
    subst (λ cores. IsRunOf accepts answer list slots ds (run_of cores sent)) (sym e)
    (subst (λ sent. IsRunOf accepts answer list slots ds (run_of (fresh_run list slots ds).cores sent)) (sym f) (keep.starts list slots ds well s t))

module _ {T : Type 0} (accepts : T → List Shape → List Shape → Bool) (answer : T → List (List ℕ) → List (List ℕ)) (keep : RunsKeep accepts answer)
    (r : Running T) (h : IsRun accepts answer r) (v : Party) where
  abbrev c : CoreView T
  c = core_at v r

  pub run_moved : IsRun accepts answer (moved answer v r)
  run_moved = record { list = h.list; slots = h.slots; tapes = h.tapes; is = keep.steps h.list h.slots h.tapes r v h.is }

  -- ---- a turn

  module _ (want : want_of answer c ≡ Turn) where
    run_turned : IsRun accepts answer (by_turn answer v r)
    run_turned = subst (λ w. IsRun accepts answer (moved_by answer w v r)) want run_moved

    -- it sends the party itself nothing, since the joint run doesn't
    pub nothing_for_itself : OwnLinksAreEmpty accepts answer → at v (turn_sends answer c) ≡ []
    nothing_for_itself empty =
        let turned = run_turned in
        let words = turn_sends answer c in
        let begins = turned.is.begins v v in
        let whole : link v v (sent_more v words r.sent) ++ begins.rest ≡ [] = sym begins.is ∙ empty turned.list turned.slots turned.tapes turned.is.well_formed v in
        let here : link v v (sent_more v words r.sent) ≡ at v (at v r.sent) ++ at v words = ap (at v) (at_put v (joined (at v r.sent) words) r.sent) ∙ at_joined v (at v r.sent) words in
        none_second (at v (at v r.sent)) (at v words) (sym here ∙ none_first (link v v (sent_more v words r.sent)) begins.rest whole)

    pub turned_or_kept : {X E : Type 0} (result : Result X E) (cores : Three (CoreView T)) (sent : Links)
        → OnOk result (cores ≡ put v (turned_on c) r.cores) → OnOk result (sent ≡ sent_more v (turn_sends answer c) r.sent) → OnErr result (cores ≡ r.cores) → OnErr result (sent ≡ r.sent)
        → IsRun accepts answer (run_of cores sent)
    turned_or_kept (Ok x) cores sent e f k l = rw (e, f) run_turned
    turned_or_kept (Err x) cores sent e f k l = rw (k, l) h

  -- ---- words that wait

  -- the words on a link, and how many of them were taken, as the code reads them
  module _ (q n k : ℕ) (source : Party) (words received : List ℕ) (core : CoreView T) (want : want_of answer c ≡ Words q n) (source_is : source ≡ party_of q) (words_are : words ≡ link source v r.sent)
      (core_is : core ≡ c) (received_is : received ≡ at (party_of q) core.given.received) (taken : k ≡ length received) (enough : n ≤ length (take (length words - k) (drop k words))) where
    abbrev p : Party
    p = party_of q

    abbrev few : List ℕ
    few = take n (take (length words - k) (drop k words))

    waiting_are : take (length words - k) (drop k words) ≡ waiting_on p v r
    waiting_are =
        let many : k ≡ length (taken_on p v r) = taken ∙ (ap length received_is ∙ ap (λ c. length (at p c.given.received)) core_is) in
        take_all (length words - k) (drop k words) (omega (arith, length-drop k words))
        ∙ (ap (λ i. drop i words) many ∙ ap (drop (length (taken_on p v r))) (words_are ∙ ap (λ i. link i v r.sent) source_is))

    so_many : n ≤ length (waiting_on p v r)
    so_many = subst (λ ws. n ≤ length ws) waiting_are enough

    pub enough_wait : nat_le n (length (waiting_on p v r)) ≡ true
    enough_wait = le-leb n (length (waiting_on p v r)) so_many

    wanted_is : wanted_from (want_of answer c) ≡ p
    wanted_is = ap wanted_from want

    pub orders_are_fine : IsTakeFault (breaks_order c (wanted_from (want_of answer c)) few) NotOrder → ⊥
    orders_are_fine e =
        let fine = keep.honest h.list h.slots h.tapes r v q n h.is want so_many in
        let same : breaks_order c (wanted_from (want_of answer c)) few ≡ breaks_order c p (take n (waiting_on p v r)) =
        ap (λ i. breaks_order c i few) wanted_is ∙ ap (λ ws. breaks_order c p (take n ws)) waiting_are in
        let wrong : true ≡ false = sym e ∙ (same ∙ fine) in cc

    moved_is : moved answer v r ≡ by_words v p n r
    moved_is = ap (λ w. moved_by answer w v r) want ∙ ap (λ b. if b then by_words v p n r else r) enough_wait

    pub took_or_kept : {X E : Type 0} (result : Result X E) (cores : Three (CoreView T)) → OnOk result (cores ≡ put v (took c (wanted_from (want_of answer c)) few) r.cores)
        → OnErr result (cores ≡ r.cores) → IsRun accepts answer (run_of cores r.sent)
    took_or_kept (Ok x) cores e k =
        let same : cores ≡ put v (took c p (take n (waiting_on p v r))) r.cores =
        e ∙ (ap (λ i. put v (took c i few) r.cores) wanted_is ∙ ap (λ ws. put v (took c p (take n ws)) r.cores) waiting_are) in
        subst (λ cores. IsRun accepts answer (run_of cores r.sent)) (sym same) (subst (IsRun accepts answer) moved_is run_moved)
    took_or_kept (Err x) cores e k = subst (λ cores. IsRun accepts answer (run_of cores r.sent)) (sym k) h
