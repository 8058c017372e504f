-- Until all have ended some party can move: of those that want words, the one that is least far gets them.
use Rattle.std.proofs.Common.{◌≡◌, ℕ, zero, suc, ◌+◌, ◌<◌, ◌≤◌, Bool, true, false, Option, Some, None, List, [], ◌∷◌, length, take, refl, sym, subst, ap, ◌∙◌, arith}
use Rattle.std.specs.Prelude.{slice_get, slice_index_or}
use Rattle.std.proofs.lemmas.List.{take-take}
use Rattle.lanes.specs.declared.party.Party.{Party}
use Rattle.lanes.specs.declared.three.Three.{Three}
use Rattle.lanes.specs.Party.{next}
use Rattle.lanes.specs.Three.{at}
use Rattle.step_lists.specs.declared.step.Shape.{Shape}
use Rattle.step_lists.specs.declared.step.Step.{Step}
use Rattle.step_lists.specs.declared.step.Step.TheVariants.{Const, Lin, And, Share, Reveal, Steer, Tell, Work, Flag}
use Rattle.step_lists.specs.Layout.{Steps, Layout, layout_of}
use Rattle.step_lists.specs.Draws.{ThreeTapes}
use Rattle.step_lists.specs.Rules.{IsWellFormed}
use Rattle.step_lists.specs.Open.{SlotWords}
use Rattle.step_lists.specs.Phases.{link, behind_on}
use Rattle.step_lists.specs.Machine.{joint_of}
use Rattle.step_lists.specs.Possible.{Fits}
use Rattle.step_lists.specs.Part.{count_from}
use Rattle.party_laws.specs.InMachine.{part_in}
use Rattle.party_laws.specs.StageWords.{stage_words, all_words, front, draws_at}
use Rattle.party_core.specs.Stages.{stage_count}
use Rattle.party_core.specs.CoreView.{CoreView, Far, next_step, stages_begun}
use Rattle.party_core.specs.Core.{part_so_far, sends_in, sent_so_far, takes_in}
use Rattle.party_core.specs.Reached.{IsReached}
use Rattle.trio.specs.RunOf.{Begins, IsCoreOf}
use Rattle.trio.proofs.Facts.{Facts}
use Rattle.trio.proofs.Words.{link_long, more_count}
use Rattle.trio.proofs.Placed.{part_is, taken_is, sent_in_step, sent_long, sent_begins, sent_between, stopped_sent}

-- ---- counts of stages

pub stage_in_count : (q : Party) (i : ℕ) (ts : List (Three ℕ)) (d : Three ℕ) → i < length ts → count_from q (take (suc i) ts) ≡ count_from q (take i ts) + at q (slice_index_or ts i d)
stage_in_count q i [] d h = absurd (omega arith)
stage_in_count q zero (t ∷ ts) d h = omega (arith, more_count q t [])
stage_in_count q (suc i) (t ∷ ts) d h =
    omega (arith, more_count q t (take (suc i) ts), more_count q t (take i ts), stage_in_count q i ts d (omega arith))

pub more_stages : (q : Party) (a b : ℕ) (ts : List (Three ℕ)) → a ≤ b → count_from q (take a ts) ≤ count_from q (take b ts)
more_stages q zero b ts h = omega arith
more_stages q (suc a) zero ts h = absurd (omega arith)
more_stages q (suc a) (suc b) [] h = omega arith
more_stages q (suc a) (suc b) (t ∷ ts) h = omega (arith, more_count q t (take a ts), more_count q t (take b ts), more_stages q a b ts (omega arith))

pub past_stages : (ts : List (Three ℕ)) (i : ℕ) (d : Three ℕ) → length ts ≤ i → slice_index_or ts i d ≡ d
past_stages [] i d h = refl
past_stages (t ∷ ts) zero d h = absurd (omega arith)
past_stages (t ∷ ts) (suc i) d h = past_stages ts i d (omega arith)

-- a party has five stages in a step at most
pub few_stages : {T : Type 0} (v : Party) (l : Layout) (s : Step T) → stage_count v l s ≤ 4
few_stages v l (Const words) = omega arith
few_stages v l (Lin op) = omega arith
few_stages v l (And left right) = omega arith
few_stages v l (Share p s) = omega arith
few_stages v l (Reveal to moved shown) = omega arith
few_stages v l (Steer by s moved) = omega arith
few_stages v l (Tell source target s) = omega arith
few_stages v l (Work p task takes gives) = omega arith
few_stages v l (Flag p s) = omega arith

none_some : {A : Type 0} {x : A} {o : Option A} → o ≡ None → o ≡ Some x → ⊥
none_some e f = let g : None ≡ Some _ = sym e ∙ f in cc

pub same_some : {A : Type 0} {x y : A} → Some x ≡ Some y → x ≡ y
same_some e = cc

pub get_none : {A : Type 0} (xs : List A) (k : ℕ) → slice_get xs k ≡ None → length xs ≤ k
get_none [] k h = omega arith
get_none (x ∷ xs) zero h = absurd (none_some h refl)
get_none (x ∷ xs) (suc k) h = omega (arith, get_none xs k h)

pub get_some : {A : Type 0} (xs : List A) (k : ℕ) (x : A) → slice_get xs k ≡ Some x → k < length xs
get_some [] k x h = absurd (none_some refl h)
get_some (y ∷ ys) zero x h = omega arith
get_some (y ∷ ys) (suc k) x h = omega (arith, get_some ys k x h)

-- ---- cores of a run

-- what is known of the core of v
pub record IsKnown {T : Type 0} (accepts : T → List Shape → List Shape → Bool) (answer : T → List (List ℕ) → List (List ℕ)) (list : Steps T) (slots : SlotWords) (ds : ThreeTapes)
    (v : Party) (c : CoreView T) : Type 0 where
  pub list_is : c.list ≡ list
  pub party : c.party ≡ v
  pub reached : IsReached accepts answer c
  pub part : part_so_far answer c ≡ part_in v (joint_of answer (front c.far.steps list) slots ds)
  pub long : (q : Party) → length (at q c.given.received)
      ≡ length (link q v (joint_of answer (front c.far.steps list) slots ds).links) + count_from q (take c.far.stages (takes_in answer c (next_step c)))
  pub least : (q : Party) → length (link v q (joint_of answer (front c.far.steps list) slots ds).links) ≤ length (at q (sent_so_far answer c))
  pub in_step : (s : Step T) (q : Party) → slice_get list.steps c.far.steps ≡ Some s → (joint_of answer (front c.far.steps list) slots ds).stop ≡ false
      → at q (sent_so_far answer c)
      ≡ link v q (behind_on (joint_of answer (front c.far.steps list) slots ds).links
      (all_words (take (stages_begun c.far) (stage_words (layout_of (front c.far.steps list)) (joint_of answer (front c.far.steps list) slots ds) s (draws_at c.far.steps list s ds)))))
  pub begins : (q : Party) → Begins (at q (sent_so_far answer c)) (link v q (joint_of answer list slots ds).links)
  pub between : next_step c ≡ None → sent_so_far answer c ≡ at v (joint_of answer (front c.far.steps list) slots ds).links
  pub at_stop : (joint_of answer (front c.far.steps list) slots ds).stop ≡ true → sent_so_far answer c ≡ at v (joint_of answer (front c.far.steps list) slots ds).links

module _ {T : Type 0} (accepts : T → List Shape → List Shape → Bool) (answer : T → List (List ℕ) → List (List ℕ)) (facts : Facts accepts answer)
    (list : Steps T) (slots : SlotWords) (ds : ThreeTapes) where
  abbrev pub core_of : Party → Three (List ℕ) → Far → CoreView T
  core_of v words far = record { list = list; party = v; slots = at v slots; given = record { own = at v ds; following = at (next v) ds; received = words }; far = far }

  pub core_is : (v : Party) (c : CoreView T) → IsCoreOf accepts answer list slots ds v c → c ≡ core_of v c.given.received c.far
  core_is v c h =
      let g = c.given in
      let a : c ≡ record { list = list; party = c.party; slots = c.slots; given = g; far = c.far } = ap (λ x. record { list = x; party = c.party; slots = c.slots; given = g; far = c.far }) h.list_is in
      let b : record { list = list; party = c.party; slots = c.slots; given = g; far = c.far } ≡ record { list = list; party = v; slots = c.slots; given = g; far = c.far } =
      ap (λ x. record { list = list; party = x; slots = c.slots; given = g; far = c.far }) h.party in
      let d : record { list = list; party = v; slots = c.slots; given = g; far = c.far } ≡ record { list = list; party = v; slots = at v slots; given = g; far = c.far } =
      ap (λ x. record { list = list; party = v; slots = x; given = g; far = c.far }) h.slots_are in
      let e : record { list = list; party = v; slots = at v slots; given = g; far = c.far }
      ≡ record { list = list; party = v; slots = at v slots; given = record { own = at v ds; following = g.following; received = g.received }; far = c.far } =
      ap (λ x. record { list = list; party = v; slots = at v slots; given = record { own = x; following = g.following; received = g.received }; far = c.far }) h.own in
      a ∙ (b ∙ (d ∙ (e ∙ ap (λ x. record { list = list; party = v; slots = at v slots; given = record { own = at v ds; following = x; received = g.received }; far = c.far }) h.following)))

  -- a core whose words begin those of the joint run
  pub known : (v : Party) (c : CoreView T) → IsWellFormed accepts list → Fits list slots ds → IsCoreOf accepts answer list slots ds v c
      → ((q : Party) → Begins (at q c.given.received) (link q v (joint_of answer list slots ds).links)) → IsKnown accepts answer list slots ds v c
  known v c well fits h begins =
      let same = core_is v c h in
      let words = c.given.received in
      let far = c.far in
      let reached : IsReached accepts answer (core_of v words far) = subst (IsReached accepts answer) same h.reached in
      subst (IsKnown accepts answer list slots ds v) (sym same)
      (record {
        list_is = refl;
        party = refl;
        reached = reached;
        part = part_is accepts answer facts list slots ds well fits v words far reached begins;
        long = taken_is accepts answer facts list slots ds well fits v words far reached begins;
        least = sent_long accepts answer facts list slots ds well fits v words far reached begins;
        in_step = λ s q there going. ap (at q) (sent_in_step accepts answer facts list slots ds well fits v words far reached begins s there going);
        begins = sent_begins accepts answer facts list slots ds well fits v words far reached begins;
        between = λ e. sent_between accepts answer facts list slots ds well fits v words far reached begins (ap (sends_in answer (core_of v words far)) e);
        at_stop = stopped_sent accepts answer facts list slots ds well fits v words far reached begins;
      })

  -- ---- machines behind fronts of fronts

  front_of_front : (j k : ℕ) → j ≤ k → front j (front k list) ≡ front j list
  front_of_front j k h = ap (λ ss. record { first = list.first; steps = ss }) (take-take j k list.steps h)

  pub stop_stays : (j k : ℕ) → j ≤ k → (joint_of answer (front j list) slots ds).stop ≡ true → (joint_of answer (front k list) slots ds).stop ≡ true
  stop_stays j k h e =
      let f = front_of_front j k h in
      let stopped : (joint_of answer (front j (front k list)) slots ds).stop ≡ true = ap (λ x. (joint_of answer x slots ds).stop) f ∙ e in
      ap (λ x. x.stop) (facts.grow.stopped j (front k list) slots ds stopped) ∙ stopped

  pub links_stay : (j k : ℕ) (p q : Party) → j ≤ k → length (link p q (joint_of answer (front j list) slots ds).links) ≤ length (link p q (joint_of answer (front k list) slots ds).links)
  links_stay j k p q h =
      let f = front_of_front j k h in
      let g = facts.grow.links j (front k list) slots ds in
      omega (arith, ap (λ x. length (link p q (joint_of answer x slots ds).links)) f, ap (λ x. length (link p q x)) g.1, link_long p q (joint_of answer (front j (front k list)) slots ds).links g.0)
