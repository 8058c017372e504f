-- A core whose words begin those of a joint run: by its place it is the machine, and what it has sent begins the machine's links.
use Rattle.std.proofs.Common.{◌≡◌, ℕ, zero, suc, ◌+◌, ◌≤◌, Bool, true, false, Option, Some, None, List, [], ◌++◌, length, take, drop, refl, sym, ap, ◌∙◌, arith}
use Rattle.std.specs.Prelude.{slice_get, if◌then◌else◌}
use Rattle.std.proofs.lemmas.List.{append_assoc, append_cancel_left, length-append, take_all}
use Rattle.lanes.specs.declared.party.Party.{Party}
use Rattle.lanes.specs.declared.three.Three.{Three}
use Rattle.lanes.specs.Party.{next}
use Rattle.lanes.specs.Three.{at, each}
use Rattle.tapes.specs.declared.draw.Draw.{Draw}
use Rattle.step_lists.specs.declared.step.Shape.{Shape}
use Rattle.step_lists.specs.declared.step.Step.{Step}
use Rattle.step_lists.specs.Layout.{Steps, Layout, starting, layout_of}
use Rattle.step_lists.specs.Draws.{ThreeTapes, parties, joined, needs_of}
use Rattle.step_lists.specs.Rules.{IsWellFormed}
use Rattle.step_lists.specs.Run.{tape_cut, rest_after}
use Rattle.step_lists.specs.Open.{SlotWords}
use Rattle.step_lists.specs.Phases.{Links, link, no_words, behind_on}
use Rattle.step_lists.specs.Machine.{Machine, step_words, joint_of}
use Rattle.step_lists.specs.Possible.{Fits}
use Rattle.step_lists.specs.Prefixes.{at-taken}
use Rattle.step_lists.specs.Part.{Given, part_cut, count_from, taken_of, stage_takes, stage_sends, all_sent, more_taken}
use Rattle.party_laws.specs.InMachine.{received_by, part_in, GoesOn, Agree, IsPartIn}
use Rattle.party_laws.specs.StageWords.{stage_words, all_words, given_with, HoldsStages, front, draws_at}
use Rattle.party_core.specs.CoreView.{CoreView, Far, next_step, given_for, stages_begun}
use Rattle.party_core.specs.Core.{part_so_far, sends_in, takes_in, sent_so_far}
use Rattle.party_core.specs.Reached.{IsReached}
use Rattle.trio.specs.RunOf.{Begins}
use Rattle.trio.proofs.Facts.{Facts}
use Rattle.trio.proofs.Words.{same_each, at_parties, at_each, at_joined, at_more, joined_nothing, at_behind, link_behind, link_long, at_received, behind_none, behind_again, words_split, fewer_count, begins_shorter}

abbrev pub given_by : List Draw → List Draw → Three (List ℕ) → Given
given_by a c r = record { own = a; following = c; received = r }

pub same_given : (a b c d : List Draw) (r t : Three (List ℕ)) → a ≡ b → c ≡ d → r ≡ t → given_by a c r ≡ given_by b d t
same_given a b c d r t e f g = ap (λ x. given_by x c r) e ∙ (ap (λ x. given_by b x r) f ∙ ap (given_by b d) g)

pub true_apart : false ≡ true → ⊥
true_apart h = cc

begun_few : (far : Far) → stages_begun far ≤ suc far.stages
begun_few far = by far.turned where
  by : (b : Bool) → (if b then suc far.stages else far.stages) ≤ suc far.stages
  by true = omega arith
  by false = omega arith

module _ {T : Type 0} (accepts : T → List Shape → List Shape → Bool) (answer : T → List (List ℕ) → List (List ℕ)) (facts : Facts accepts answer)
    (list : Steps T) (slots : SlotWords) (ds : ThreeTapes) (well : IsWellFormed accepts list) (fits : Fits list slots ds) where
  -- the machine behind k steps, and behind all
  abbrev pub machine_at : ℕ → Machine
  machine_at k = joint_of answer (front k list) slots ds

  abbrev pub joint : Machine
  joint = joint_of answer list slots ds

  -- the core of v on these words
  abbrev pub core_on : Party → Three (List ℕ) → Far → CoreView T
  core_on v words far = record { list = list; party = v; slots = at v slots; given = record { own = at v ds; following = at (next v) ds; received = words }; far = far }

  module _ (v : Party) (words : Three (List ℕ)) (far : Far) (reached : IsReached accepts answer (core_on v words far)) (begins : (q : Party) → Begins (at q words) (link q v joint.links)) where
    abbrev c : CoreView T
    c = core_on v words far

    abbrev k : ℕ
    k = far.steps

    abbrev m : Machine
    m = machine_at k

    abbrev l : Layout
    l = layout_of (front k list)

    abbrev later_words : Links
    later_words = (facts.grow.links k list slots ds).0

    grown : joint.links ≡ behind_on m.links later_words
    grown = (facts.grow.links k list slots ds).1

    agree : Agree words (received_by v m.links)
    agree = record {
      behind_few = parties (λ q. (begins q).rest);
      behind_more = received_by v later_words;
      same =
          same_each _ _
          (λ q.
          at_joined q words (parties (λ q. (begins q).rest))
          ∙ (ap (λ t. at q words ++ t) (at_parties (λ q. (begins q).rest) q)
          ∙ (sym (begins q).is
          ∙ (ap (link q v) grown
          ∙ (link_behind q v m.links later_words
          ∙ (ap (λ t. t ++ link q v later_words) (sym (at_received v q m.links))
          ∙ (ap (λ t. at q (received_by v m.links) ++ t) (sym (at_received v q later_words)) ∙ sym (at_joined q (received_by v m.links) (received_by v later_words)))))))));
    }

    goes : GoesOn (received_by v m.links) words
    goes = facts.have v (front k list) slots ds words (facts.fit.fine k list well) (facts.fit.fits k list slots ds fits) agree reached.early

    abbrev rest : Three (List ℕ)
    rest = goes.rest

    in_machine : IsPartIn answer v (front k list) slots ds c.given rest
    in_machine =
        facts.machine v (front k list) slots ds c.given (facts.fit.fine k list well) (facts.fit.fits k list slots ds fits) (record { own = refl; following = refl; received = goes })

    pub part_is : part_so_far answer c ≡ part_in v m
    part_is = in_machine.part

    pub taken_is : (q : Party) → length (at q words) ≡ length (link q v m.links) + count_from q (take far.stages (takes_in answer c (next_step c)))
    taken_is q =
        reached.taken q
        ∙ (ap (λ a. at q (more_taken a.taken (take far.stages (takes_in answer c (next_step c))))) part_is
        ∙ (at_more q (each length (received_by v m.links)) (take far.stages (takes_in answer c (next_step c)))
        ∙ ap (λ n. n + count_from q (take far.stages (takes_in answer c (next_step c)))) (at_each length q (received_by v m.links) ∙ ap length (at_received v q m.links))))

    words_are : (q : Party) → at q words ≡ link q v m.links ++ at q rest
    words_are q = ap (at q) goes.is ∙ (at_joined q (received_by v m.links) rest ∙ ap (λ t. t ++ at q rest) (at_received v q m.links))

    rest_long : (q : Party) → length (at q rest) ≡ count_from q (take far.stages (takes_in answer c (next_step c)))
    rest_long q = omega (arith, taken_is q, ap length (words_are q), length-append (link q v m.links) (at q rest))

    -- ---- in a step that the machine comes to

    module _ (s : Step T) (there : slice_get list.steps k ≡ Some s) (going : m.stop ≡ false) where
      abbrev d : ThreeTapes
      d = draws_at k list s ds

      abbrev w : Links
      w = step_words l m s d

      abbrev ws : List Links
      ws = stage_words l m s d

      holds : HoldsStages v l m s d
      holds = facts.stages v list slots ds k s well fits there going

      next_links : joint.links ≡ behind_on (behind_on m.links w) (facts.grow.links (suc k) list slots ds).0
      next_links = (facts.grow.links (suc k) list slots ds).1 ∙ ap (λ x. behind_on x (facts.grow.links (suc k) list slots ds).0) (facts.grow.step k list slots ds s there going)

      takes_are : takes_in answer c (next_step c) ≡ stage_takes v l s
      takes_are = ap (takes_in answer c) there

      rest_is : (q : Party) → length (at q rest) ≡ count_from q (take far.stages (stage_takes v l s))
      rest_is q = rest_long q ∙ ap (λ ts. count_from q (take far.stages ts)) takes_are

      all_long : (q : Party) → length (link q v w) ≡ count_from q (stage_takes v l s)
      all_long q =
          ap (λ x. length (link q v x)) holds.whole
          ∙ (ap (λ x. length (link q v (all_words x))) (sym (take_all (length ws) ws (omega arith)))
          ∙ (holds.counts q (length ws) ∙ ap (count_from q) (take_all (length ws) (stage_takes v l s) (omega (arith, holds.stages)))))

      rest_few : (q : Party) → length (at q rest) ≤ length (link q v w)
      rest_few q = omega (arith, rest_is q, all_long q, fewer_count q far.stages (stage_takes v l s))

      -- the step's words go on behind those that were taken of it
      step_goes_on : (q : Party) → link q v w ≡ at q rest ++ drop (length (at q rest)) (link q v w)
      step_goes_on q =
          let more = (facts.grow.links (suc k) list slots ds).0 in
          let all : link q v joint.links ≡ link q v m.links ++ (link q v w ++ link q v more) =
          ap (link q v) next_links
          ∙ (link_behind q v (behind_on m.links w) more ∙ (ap (λ t. t ++ link q v more) (link_behind q v m.links w) ∙ append_assoc (link q v m.links) (link q v w) (link q v more))) in
          let here : link q v joint.links ≡ link q v m.links ++ (at q rest ++ (begins q).rest) =
          (begins q).is ∙ (ap (λ t. t ++ (begins q).rest) (words_are q) ∙ append_assoc (link q v m.links) (at q rest) (begins q).rest) in
          let same = append_cancel_left (link q v m.links) (link q v w ++ link q v more) (at q rest ++ (begins q).rest) (sym all ∙ here) in
          begins_shorter (link q v w) (at q rest) (link q v more) (begins q).rest same (rest_few q)

      abbrev behind_it : Three (List ℕ)
      behind_it = parties (λ q. drop (length (at q rest)) (link q v w))

      step_words_are : received_by v w ≡ joined rest behind_it
      step_words_are =
          same_each _ _
          (λ q.
          at_received v q w
          ∙ (step_goes_on q
          ∙ (ap (λ t. at q rest ++ t) (sym (at_parties (λ q. drop (length (at q rest)) (link q v w)) q)) ∙ sym (at_joined q rest behind_it))))

      given_is : given_for c s ≡ given_with v d rest
      given_is =
          let now = rest_after tape_cut (starting list.first) (take k list.steps) ds in
          ap ((part_cut v).first l s) (in_machine.left going)
          ∙ same_given _ _ _ _ _ _ (sym (at-taken v (needs_of l s) now)) (sym (at-taken (next v) (needs_of l s) now))
          (same_each _ _ (λ q.
          at_parties (λ p. take (at p (taken_of v l s)) (at p rest)) q
          ∙ take_all (at q (taken_of v l s)) (at q rest)
          (omega (arith, rest_is q, fewer_count q far.stages (stage_takes v l s), at_parties (λ p. count_from p (stage_takes v l s)) q))))

      pub sent_in_step : sent_so_far answer c ≡ at v (behind_on m.links (all_words (take (stages_begun far) ws)))
      sent_in_step =
          let b = stages_begun far in
          let sends : sends_in answer c (next_step c) ≡ stage_sends v l (part_in v m) s (given_with v d rest) =
          ap (sends_in answer c) there ∙ (ap (λ g. stage_sends v l (part_so_far answer c) s g) given_is ∙ ap (λ a. stage_sends v l a s (given_with v d rest)) part_is) in
          ap (λ a. joined a.sent (all_sent (take b (sends_in answer c (next_step c))))) part_is
          ∙ (ap (λ x. joined (at v m.links) (all_sent (take b x))) sends
          ∙ (ap (joined (at v m.links)) (holds.sends far.stages b rest behind_it (begun_few far) step_words_are (λ q. omega (arith, rest_is q)))
          ∙ sym (at_behind v m.links (all_words (take b ws)))))

      pub begun_long : (q : Party) (b : ℕ) → length (link q v (all_words (take b ws))) ≡ count_from q (take b (stage_takes v l s))
      begun_long q b = holds.counts q b

      -- no private order that is taken is a bad one
      pub whole_links : joint.links ≡ behind_on (behind_on m.links (all_words (take (stages_begun far) ws))) (behind_on (all_words (drop (stages_begun far) ws)) (facts.grow.links (suc k) list slots ds).0)
      whole_links =
          let b = stages_begun far in
          let more = (facts.grow.links (suc k) list slots ds).0 in
          next_links
          ∙ (ap (λ x. behind_on (behind_on m.links x) more) (holds.whole ∙ words_split b ws)
          ∙ (ap (λ x. behind_on x more) (sym (behind_again m.links (all_words (take b ws)) (all_words (drop b ws))))
          ∙ behind_again (behind_on m.links (all_words (take b ws))) (all_words (drop b ws)) more))

    -- ---- where no step is begun

    pub sent_between : sends_in answer c (next_step c) ≡ [] → sent_so_far answer c ≡ at v m.links
    sent_between e =
        ap (λ x. joined (part_so_far answer c).sent (all_sent (take (stages_begun far) x))) e
        ∙ (ap (λ x. joined (part_so_far answer c).sent (all_sent x)) (none (stages_begun far)) ∙ (joined_nothing (part_so_far answer c).sent ∙ ap (λ a. a.sent) part_is)) where
          none : (b : ℕ) → take {A = Three (List ℕ)} b [] ≡ []
          none zero = refl
          none (suc b) = refl

    pub sent_at_rest : stages_begun far ≡ 0 → sent_so_far answer c ≡ at v m.links
    sent_at_rest e =
        ap (λ b. joined (part_so_far answer c).sent (all_sent (take b (sends_in answer c (next_step c))))) e
        ∙ (joined_nothing (part_so_far answer c).sent ∙ ap (λ a. a.sent) part_is)

    -- what the core has sent: the machine's links behind its steps, and what is begun of the next one
    pub record IsSent : Type 0 where
      pub begun : Links
      pub is : sent_so_far answer c ≡ at v (behind_on m.links begun)
      pub more : Links
      pub all : joint.links ≡ behind_on (behind_on m.links begun) more

    nothing_begun : sent_so_far answer c ≡ at v m.links → IsSent
    nothing_begun e = record {
      begun = no_words;
      is = e ∙ ap (at v) (sym (behind_none m.links));
      more = later_words;
      all = grown ∙ ap (λ x. behind_on x later_words) (sym (behind_none m.links));
    }

    pub stopped_sent : m.stop ≡ true → sent_so_far answer c ≡ at v m.links
    stopped_sent e =
        let still = reached.still (ap (λ a. a.stop) part_is ∙ e) in
        sent_at_rest (ap (λ b. if b then suc far.stages else far.stages) still.turned ∙ still.stages)

    pub what_is_sent : IsSent
    what_is_sent = by (slice_get list.steps k) m.stop refl refl where
      by : (o : Option (Step T)) (b : Bool) → slice_get list.steps k ≡ o → m.stop ≡ b → IsSent
      by None b e f = nothing_begun (sent_between (ap (sends_in answer c) e))
      by (Some s) true e f = nothing_begun (stopped_sent f)
      by (Some s) false e f = record {
        begun = all_words (take (stages_begun far) (stage_words l m s (draws_at k list s ds)));
        is = sent_in_step s e f;
        more = behind_on (all_words (drop (stages_begun far) (stage_words l m s (draws_at k list s ds)))) (facts.grow.links (suc k) list slots ds).0;
        all = whole_links s e f;
      }

    -- it begins the joint run's links
    pub sent_begins : (q : Party) → Begins (at q (sent_so_far answer c)) (link v q joint.links)
    sent_begins q =
        let h = what_is_sent in
        record {
          rest = link v q h.more;
          is = ap (link v q) h.all ∙ (link_behind v q (behind_on m.links h.begun) h.more ∙ ap (λ x. at q x ++ link v q h.more) (sym h.is));
        }

    -- and has the words of the steps that are done
    pub sent_long : (q : Party) → length (link v q m.links) ≤ length (at q (sent_so_far answer c))
    sent_long q =
        let h = what_is_sent in
        omega (arith, ap (λ x. length (at q x)) h.is, link_long v q m.links h.begun)
