-- On the words of a joint run the part of each party is the machine's, step by step.
use Rattle.std.proofs.Common.{◌≡◌, ℕ, suc, ◌+◌, Bool, true, false, Some, List, [], ◌∷◌, ◌++◌, length, take, drop, refl, sym, subst, ap, ◌∙◌, arith}
use Rattle.std.specs.Prelude.{IsTrue, ◌||◌, ◌==◌, slice_index, is_some, if◌then◌else◌}
use Rattle.std.proofs.lemmas.List.{length-map, length-append}
use Rattle.lanes.specs.declared.party.Party.{Party}
use Rattle.lanes.specs.declared.party.Party.TheVariants.{First, Second, Third}
use Rattle.lanes.specs.declared.three.Three.{Three}
use Rattle.lanes.specs.Party.{next}
use Rattle.lanes.specs.Three.{at, each}
use Rattle.lanes.specs.Items.{LaneLengths}
use Rattle.tapes.specs.declared.draw.Need.{Need}
use Rattle.tapes.specs.declared.draw.Draw.{Draw}
use Rattle.tapes.specs.Needs.{FitsNeeds}
use Rattle.tapes.specs.Laws.{OrdersAreClosed}
use Rattle.step_lists.specs.declared.step.Shape.{Shape}
use Rattle.step_lists.specs.declared.step.Step.{Step}
use Rattle.step_lists.specs.declared.step.Step.TheVariants.{Const, Lin, And, Share, Reveal, Steer, Tell, Work, Flag}
use Rattle.step_lists.specs.Layout.{Layout, starting, party_of, grown}
use Rattle.step_lists.specs.Rules.{AreFine, is_fine, fits_layout, is_small}
use Rattle.step_lists.specs.Shapes.{HaveShapes}
use Rattle.step_lists.specs.Draws.{ThreeTapes, joined, needs, needs_of, taken, dropped}
use Rattle.step_lists.specs.Run.{run, tape_cut, rest_after}
use Rattle.step_lists.specs.Open.{SlotWords}
use Rattle.step_lists.specs.Phases.{Links, link, no_words, behind_on}
use Rattle.step_lists.specs.Machine.{Machine, slot_of, machine_step, step_words, delivered, joint_going, joint_of, before_steps}
use Rattle.step_lists.specs.Possible.{FitsFront}
use Rattle.step_lists.specs.Prefixes.{fits_rest, at-taken, at-dropped}
use Rattle.step_lists.specs.Part.{Part, Given, part_cut, part_before, part_going, part_step, stage_sends, stage_takes, progress_of, progress, went, taken_of, count_from, all_sent, more_taken, NoOrder, Progress}
use Rattle.joint_machine.specs.Fitting.{IsFitting, StepsFit}
use Rattle.party_laws.specs.InMachine.{received_by, held, part_in, PartsAreInMachine}
use Rattle.party_laws.specs.StageWords.{stage_words}
use Rattle.party_laws.proofs.Lists.{both, true_apart, take_first, drop_first, zip_long}
use Rattle.party_laws.proofs.Threes.{same_three, same_each, at_parties, at_joined, at_behind, link_behind, behind_again, behind_none, at_received}
use Rattle.party_laws.proofs.Cuts.{AreDrawsOf, IsReady, IsCut, given_in, words_of_stages, all_sent_of, all_counted}
use Rattle.party_laws.proofs.Progress.{passes, progress_all, went_through}
use Rattle.party_laws.proofs.AllSteps.{step_cut}

-- ---- draws

front_fits : (xs ys : List Need) (ds : List Draw) → FitsFront (xs ++ ys) ds → FitsNeeds xs (take (length xs) ds)
front_fits [] ys ds h = tt
front_fits (x ∷ xs) ys [] h = absurd h
front_fits (x ∷ xs) ys (d ∷ ds) h = (h.0, front_fits xs ys ds h.1)

-- the first draws of the tapes are those of some steps
abbrev pub AreLeft : {T : Type 0} → Layout → List (Step T) → ThreeTapes → Type 0
AreLeft l ss ds = (p : Party) → FitsFront (needs p l ss) (at p ds)

pub left_first : {T : Type 0} (l : Layout) (s : Step T) (ss : List (Step T)) (ds : ThreeTapes) → AreLeft l (s ∷ ss) ds → AreDrawsOf l s (taken (needs_of l s) ds)
left_first l s ss ds h p =
    subst (FitsNeeds (at p (needs_of l s))) (sym (at-taken p (needs_of l s) ds)) (front_fits (at p (needs_of l s)) (needs p (grown l s) ss) (at p ds) (h p))

pub left_behind : {T : Type 0} (l : Layout) (s : Step T) (ss : List (Step T)) (ds : ThreeTapes) → AreLeft l (s ∷ ss) ds → AreLeft (grown l s) ss (dropped (needs_of l s) ds)
left_behind l s ss ds h p =
    subst (FitsFront (needs p (grown l s) ss)) (sym (at-dropped p (needs_of l s) ds)) (fits_rest (at p (needs_of l s)) (needs p (grown l s) ss) (at p ds) (h p))

-- ---- what a party is given from some step on

-- its tapes, the words that are still to be sent to it, and more
abbrev pub given_behind : Party → ThreeTapes → Links → Three (List ℕ) → Given
given_behind v ds words more = record { own = at v ds; following = at (next v) ds; received = joined (received_by v words) more }

pub none_received : (v : Party) (more : Three (List ℕ)) → joined (received_by v no_words) more ≡ more
none_received First more = refl
none_received Second more = refl
none_received Third more = refl

abbrev given_by : List Draw → List Draw → Three (List ℕ) → Given
given_by a c r = record { own = a; following = c; received = r }

same_given : (a b c d : List Draw) (r t : Three (List ℕ)) → a ≡ b → c ≡ d → r ≡ t → given_by a c r ≡ given_by b d t
same_given a b c d r t e f g = ap (λ x. given_by x c r) e ∙ (ap (λ x. given_by b x r) f ∙ ap (given_by b d) g)

-- the words of a step and those behind it, cut
module _ {T : Type 0} (v : Party) (l : Layout) (s : Step T) (ds : ThreeTapes) (words rest : Links) (more : Three (List ℕ))
    (count : (q : Party) → length (link q v words) ≡ count_from q (stage_takes v l s)) where
  abbrev given : Given
  given = given_behind v ds (behind_on words rest) more

  split : (q : Party) → at q given.received ≡ (link q v words ++ link q v rest) ++ at q more
  split q =
      at_joined q (received_by v (behind_on words rest)) more
      ∙ ap (λ x. x ++ at q more) (at_received v q (behind_on words rest) ∙ link_behind q v words rest)

  long : (q : Party) → length (link q v words) ≡ at q (taken_of v l s)
  long q = count q ∙ sym (at_parties (λ p. count_from p (stage_takes v l s)) q)

  pub cut_first : (part_cut v).first l s given ≡ given_in v (taken (needs_of l s) ds) words
  cut_first =
      same_given _ _ _ _ _ _ (sym (at-taken v (needs_of l s) ds)) (sym (at-taken (next v) (needs_of l s) ds))
      (same_each _ _ (λ q.
      at_parties (λ p. take (at p (taken_of v l s)) (at p given.received)) q
      ∙ (ap (take (at q (taken_of v l s))) (split q)
      ∙ (take_first (at q (taken_of v l s)) (link q v words) (link q v rest) (at q more) (long q) ∙ sym (at_received v q words)))))

  pub cut_rest : (part_cut v).rest l s given ≡ given_behind v (dropped (needs_of l s) ds) rest more
  cut_rest =
      same_given _ _ _ _ _ _ (sym (at-dropped v (needs_of l s) ds)) (sym (at-dropped (next v) (needs_of l s) ds))
      (same_each _ _ (λ q.
      at_parties (λ p. drop (at p (taken_of v l s)) (at p given.received)) q
      ∙ (ap (drop (at q (taken_of v l s))) (split q)
      ∙ (drop_first (at q (taken_of v l s)) (link q v words) (link q v rest) (at q more) (long q)
      ∙ (ap (λ x. x ++ at q more) (sym (at_received v q rest)) ∙ sym (at_joined q (received_by v rest) more))))))

module _ {T : Type 0} (accepts : T → List Shape → List Shape → Bool) (answer : T → List (List ℕ) → List (List ℕ)) where
  -- ---- the words that steps put on the links

  abbrev pub later : Layout → Machine → List (Step T) → ThreeTapes → Links
  later l m [] ds = no_words
  later l m (s ∷ ss) ds =
      behind_on (if m.stop then no_words else step_words l m s (taken (needs_of l s) ds))
      (later (grown l s) (joint_going answer l m s (taken (needs_of l s) ds)) ss (dropped (needs_of l s) ds))

  abbrev pub joint_run : Layout → Machine → List (Step T) → ThreeTapes → Machine
  joint_run l m ss ds = run (joint_going answer) tape_cut l m ss ds

  links_stay : (l : Layout) (m : Machine) (s : Step T) (ds : ThreeTapes) → (machine_step answer l m s ds).links ≡ m.links
  links_stay l m (Const words) ds = refl
  links_stay l m (Lin op) ds = refl
  links_stay l m (And left right) ds = refl
  links_stay l m (Share p s) ds = refl
  links_stay l m (Reveal to moved shown) ds = refl
  links_stay l m (Steer by s moved) ds = refl
  links_stay l m (Tell source target s) ds = refl
  links_stay l m (Work p task takes gives) ds = refl
  links_stay l m (Flag p s) ds = by (slice_index (slot_of m (party_of p) s) 0 == 0) where
    by : (b : Bool) → (if b then record m { flags = suc m.flags } else record m { stop = true }).links ≡ m.links
    by true = refl
    by false = refl

  pub step_links : (l : Layout) (m : Machine) (s : Step T) (ds : ThreeTapes) → (joint_going answer l m s ds).links ≡ behind_on m.links (if m.stop then no_words else step_words l m s ds)
  step_links l m s ds = by m.stop where
    by : (b : Bool) → (if b then m else delivered (step_words l m s ds) (machine_step answer l m s ds)).links ≡ behind_on m.links (if b then no_words else step_words l m s ds)
    by true = sym (behind_none m.links)
    by false = ap (λ x. behind_on x (step_words l m s ds)) (links_stay l m s ds)

  pub links_run : (l : Layout) (m : Machine) (ss : List (Step T)) (ds : ThreeTapes) → (joint_run l m ss ds).links ≡ behind_on m.links (later l m ss ds)
  links_run l m [] ds = sym (behind_none m.links)
  links_run l m (s ∷ ss) ds =
      let d = taken (needs_of l s) ds in
      let m' = joint_going answer l m s d in
      let rest = later (grown l s) m' ss (dropped (needs_of l s) ds) in
      links_run (grown l s) m' ss (dropped (needs_of l s) ds)
      ∙ (ap (λ x. behind_on x rest) (step_links l m s d) ∙ behind_again m.links (if m.stop then no_words else step_words l m s d) rest)

  -- ---- behind a stop

  pub stopped_machine : (l : Layout) (m : Machine) (ss : List (Step T)) (ds : ThreeTapes) → m.stop ≡ true → joint_run l m ss ds ≡ m
  stopped_machine l m [] ds e = refl
  stopped_machine l m (s ∷ ss) ds e =
      let d = taken (needs_of l s) ds in
      let same : joint_going answer l m s d ≡ m = ap (λ b. if b then m else delivered (step_words l m s d) (machine_step answer l m s d)) e in
      ap (λ x. joint_run (grown l s) x ss (dropped (needs_of l s) ds)) same ∙ stopped_machine (grown l s) m ss (dropped (needs_of l s) ds) e

  stopped_part : (v : Party) (l : Layout) (a : Part) (ss : List (Step T)) (g : Given) → a.stop ≡ true → run (part_going answer v) (part_cut v) l a ss g ≡ a
  stopped_part v l a [] g e = refl
  stopped_part v l a (s ∷ ss) g e =
      let first = (part_cut v).first l s g in
      let rest = (part_cut v).rest l s g in
      let new = went (progress_of v l s first) (stage_sends v l a s first) (stage_takes v l s) a (part_step answer v l a s first) in
      let same : part_going answer v l a s first ≡ a = ap (λ b. if b || is_some a.early then a else new) e in
      ap (λ x. run (part_going answer v) (part_cut v) (grown l s) x ss rest) same ∙ stopped_part v (grown l s) a ss rest e

  -- ---- one step

  module _ (lengths : LaneLengths) (closed : OrdersAreClosed) (fit : StepsFit accepts answer) where
    pub is_ready : (l : Layout) (m : Machine) (s : Step T) (ds : ThreeTapes) → IsTrue (is_fine accepts l s) → AreDrawsOf l s ds → IsFitting l m → IsReady accepts answer l m s ds
    is_ready l m s ds fine draws h = record {
      step = (both (fits_layout accepts l s) (is_small (grown l s)) fine).0;
      draws = draws;
      long = h.long;
      slots = λ p. subst (λ x. HaveShapes (at p l.slots) (at p x)) (sym h.opens.slots) (h.slots p);
      made = (fit.stepped l m s ds fine draws h).long;
    }

    -- a step of a machine that goes on, cut to a party
    pub step_in : (v : Party) (l : Layout) (m : Machine) (s : Step T) (ds : ThreeTapes) → IsCut accepts answer v l m s ds → m.stop ≡ false
        → part_going answer v l (part_in v m) s (given_in v ds (step_words l m s ds)) ≡ part_in v (delivered (step_words l m s ds) (machine_step answer l m s ds))
    step_in v l m s ds c e =
        let w = step_words l m s ds in
        let ws = stage_words l m s ds in
        let new = machine_step answer l m s ds in
        let g = given_in v ds w in
        let a = part_in v m in
        let x = at v m.links in
        let t = each length (received_by v m.links) in
        let sends = stage_sends v l a s g in
        let takes = stage_takes v l s in
        let made = part_step answer v l a s g in
        let whole = words_of_stages l m s ds in
        let counted = λ (q : Party). ap (λ z. length (link q v z)) whole ∙ all_counted v q ws takes (c.count q) in
        let far : progress_of v l s g ≡ passes (length takes) =
        ap (λ (b : Bool). let early : Progress = record { passed = 0; early = Some (NoOrder (next v)) } in if b then early else progress takes g.received) c.order
        ∙ progress_all takes g.received (λ q. omega (arith, counted q, ap length (at_received v q w))) in
        let long : length sends ≡ length takes = ap length (c.sent x t) ∙ (length-map ws (at v) ∙ zip_long _ ws takes (c.count First)) in
        let goes : part_going answer v l a s g ≡ went (progress_of v l s g) sends takes a made =
        ap (λ b. if b || false then a else went (progress_of v l s g) sends takes a made) e in
        let all : all_sent sends ≡ at v w = ap all_sent (c.sent x t) ∙ (all_sent_of v ws ∙ ap (at v) (sym whole)) in
        let sent : joined x (all_sent sends) ≡ at v (behind_on new.links w) =
        ap (joined x) all ∙ (sym (at_behind v m.links w) ∙ ap (λ k. at v (behind_on k w)) (sym (links_stay l m s ds))) in
        let one = λ (q : Party).
        let k : length (link q v m.links) + count_from q takes ≡ length (link q v (behind_on m.links w)) =
        omega (arith, ap length (link_behind q v m.links w), length-append (link q v m.links) (link q v w), counted q) in
        k in
        let taken : more_taken t takes ≡ each length (received_by v (behind_on new.links w)) =
        same_three (more_taken t takes) (each length (received_by v (behind_on m.links w))) (one First) (one Second) (one Third)
        ∙ ap (λ k. each length (received_by v (behind_on k w))) (sym (links_stay l m s ds)) in
        goes
        ∙ (ap (λ p. went p sends takes a made) far
        ∙ (went_through sends takes a made long
        ∙ (ap (λ (b : Part). record b { sent = joined x (all_sent sends); taken = more_taken t takes }) (c.part x t)
        ∙ (ap (λ k. held v new k (more_taken t takes)) sent ∙ ap (held v new (at v (behind_on new.links w))) taken))))

    -- ---- all steps

    pub record IsBehind (v : Party) (l : Layout) (ss : List (Step T)) (m : Machine) (ds : ThreeTapes) (g : Given) (more : Three (List ℕ)) : Type 0 where
      pub part : run (part_going answer v) (part_cut v) l (part_in v m) ss g ≡ part_in v (joint_run l m ss ds)
      pub left : (joint_run l m ss ds).stop ≡ false → rest_after (part_cut v) l ss g ≡ given_behind v (rest_after tape_cut l ss ds) no_words more

    stopped_behind : (v : Party) (l : Layout) (ss : List (Step T)) (m : Machine) (ds : ThreeTapes) (g : Given) (more : Three (List ℕ)) → m.stop ≡ true → IsBehind v l ss m ds g more
    stopped_behind v l ss m ds g more e =
        let stays = stopped_machine l m ss ds e in
        record {
          part = stopped_part v l (part_in v m) ss g e ∙ ap (part_in v) (sym stays);
          left = λ f. absurd (true_apart (sym f ∙ (ap (λ x. x.stop) stays ∙ e)));
        }

    -- a step of a machine that goes on, and the steps behind it
    module _ (v : Party) (l : Layout) (s : Step T) (ss : List (Step T)) (m : Machine) (ds : ThreeTapes) (more : Three (List ℕ)) (fine : AreFine accepts l (s ∷ ss)) (left : AreLeft l (s ∷ ss) ds)
        (fits : IsFitting l m) (e : m.stop ≡ false) where
      abbrev d : ThreeTapes
      d = taken (needs_of l s) ds

      abbrev ds' : ThreeTapes
      ds' = dropped (needs_of l s) ds

      abbrev w : Links
      w = step_words l m s d

      abbrev m' : Machine
      m' = delivered w (machine_step answer l m s d)

      abbrev rest : Links
      rest = later (grown l s) m' ss ds'

      abbrev g : Given
      g = given_behind v ds (behind_on w rest) more

      cut : IsCut accepts answer v l m s d
      cut = step_cut accepts answer lengths closed v l m s d (is_ready l m s d fine.0 (left_first l s ss ds left) fits)

      counted : (q : Party) → length (link q v w) ≡ count_from q (stage_takes v l s)
      counted q = ap (λ z. length (link q v z)) (words_of_stages l m s d) ∙ all_counted v q (stage_words l m s d) (stage_takes v l s) (cut.count q)

      pub fits_next : IsFitting (grown l s) m'
      fits_next = fit.stepped l m s d fine.0 (left_first l s ss ds left) fits

      same : joint_going answer l m s d ≡ m'
      same = ap (λ b. if b then m else m') e

      words_are : later l m (s ∷ ss) ds ≡ behind_on w rest
      words_are =
          ap (λ b. behind_on (if b then no_words else w) (later (grown l s) (joint_going answer l m s d) ss ds')) e ∙ ap (λ x. behind_on w (later (grown l s) x ss ds')) same

      behind : (part_cut v).rest l s g ≡ given_behind v ds' rest more
      behind = cut_rest v l s ds w rest more counted

      module _ (ih : IsBehind v (grown l s) ss m' ds' (given_behind v ds' rest more) more) where
        part_goes : run (part_going answer v) (part_cut v) l (part_in v m) (s ∷ ss) g ≡ part_in v (joint_run l m (s ∷ ss) ds)
        part_goes =
            ap (λ f. run (part_going answer v) (part_cut v) (grown l s) (part_going answer v l (part_in v m) s f) ss ((part_cut v).rest l s g)) (cut_first v l s ds w rest more counted)
            ∙ (ap (λ a. run (part_going answer v) (part_cut v) (grown l s) a ss ((part_cut v).rest l s g)) (step_in v l m s d cut e)
            ∙ (ap (run (part_going answer v) (part_cut v) (grown l s) (part_in v m') ss) behind
            ∙ (ih.part ∙ ap (λ x. part_in v (joint_run (grown l s) x ss ds')) (sym same))))

        left_over : (joint_run l m (s ∷ ss) ds).stop ≡ false → rest_after (part_cut v) l (s ∷ ss) g ≡ given_behind v (rest_after tape_cut l (s ∷ ss) ds) no_words more
        left_over f =
            ap (rest_after (part_cut v) (grown l s) ss) behind ∙ ih.left (ap (λ x. (joint_run (grown l s) x ss ds').stop) (sym same) ∙ f)

        pub goes_behind : IsBehind v l (s ∷ ss) m ds (given_behind v ds (later l m (s ∷ ss) ds) more) more
        goes_behind =
            let is : IsBehind v l (s ∷ ss) m ds g more = record { part = part_goes; left = left_over } in
            subst (λ x. IsBehind v l (s ∷ ss) m ds (given_behind v ds x more) more) (sym words_are) is

    -- what is claimed of the steps behind one
    abbrev IsNext : Party → Layout → Step T → List (Step T) → Machine → ThreeTapes → Three (List ℕ) → Type 0
    IsNext v l s ss m ds more =
        IsBehind v (grown l s) ss (delivered (step_words l m s (taken (needs_of l s) ds)) (machine_step answer l m s (taken (needs_of l s) ds))) (dropped (needs_of l s) ds)
        (given_behind v (dropped (needs_of l s) ds)
        (later (grown l s) (delivered (step_words l m s (taken (needs_of l s) ds)) (machine_step answer l m s (taken (needs_of l s) ds))) ss (dropped (needs_of l s) ds)) more) more

    pub run_in : (v : Party) (l : Layout) (ss : List (Step T)) (m : Machine) (ds : ThreeTapes) (more : Three (List ℕ)) → AreFine accepts l ss → AreLeft l ss ds
        → (m.stop ≡ false → IsFitting l m) → IsBehind v l ss m ds (given_behind v ds (later l m ss ds) more) more
    run_in v l [] m ds more fine left fits = record { part = refl; left = λ e. refl }
    run_in v l (s ∷ ss) m ds more fine left fits =
        let new = delivered (step_words l m s (taken (needs_of l s) ds)) (machine_step answer l m s (taken (needs_of l s) ds)) in
        by m.stop refl
        (λ e. run_in v (grown l s) ss new (dropped (needs_of l s) ds) more fine.1 (left_behind l s ss ds left) (λ f. fits_next v l s ss m ds more fine left (fits e) e)) where
          by : (b : Bool) → m.stop ≡ b → (m.stop ≡ false → IsNext v l s ss m ds more) → IsBehind v l (s ∷ ss) m ds (given_behind v ds (later l m (s ∷ ss) ds) more) more
          by true e ih = stopped_behind v l (s ∷ ss) m ds _ more e
          by false e ih = goes_behind v l s ss m ds more fine left (fits e) e (ih e)

    pub starts_as : (v : Party) (slots : SlotWords) → part_before (at v slots) ≡ part_in v (before_steps slots)
    starts_as First slots = refl
    starts_as Second slots = refl
    starts_as Third slots = refl

    pub parts_are_in_machine : PartsAreInMachine accepts answer
    parts_are_in_machine v list slots ds g well fits h =
        let l = starting list.first in
        let m = before_steps slots in
        let words = later l m list.steps ds in
        let more = h.received.rest in
        let links : (joint_of answer list slots ds).links ≡ words = links_run l m list.steps ds in
        let given : g ≡ given_behind v ds words more =
        same_given _ _ _ _ _ _ h.own h.following (h.received.is ∙ ap (λ k. joined (received_by v k) more) links) in
        let is = run_in v l list.steps m ds more well.fine fits.tapes_fit (λ e. fit.starts list.first slots fits.slots_fit) in
        record {
          part =
              ap (λ a. run (part_going answer v) (part_cut v) l a list.steps g) (starts_as v slots)
              ∙ (ap (run (part_going answer v) (part_cut v) l (part_in v m) list.steps) given ∙ is.part);
          left = λ e.
              ap (rest_after (part_cut v) l list.steps) given
              ∙ (is.left e ∙ ap (λ r. record { own = at v (rest_after tape_cut l list.steps ds); following = at (next v) (rest_after tape_cut l list.steps ds); received = r }) (none_received v more));
        }
