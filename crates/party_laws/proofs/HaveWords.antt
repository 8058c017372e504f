-- A part that doesn't end early has all words of the run.
use Rattle.std.proofs.Common.{◌≡◌, ℕ, ◌<◌, ◌≤◌, inl, inr, Bool, true, false, Option, Some, None, List, [], ◌∷◌, ◌++◌, length, take, drop, refl, sym, subst, ap, ◌∙◌, arith}
use Rattle.std.specs.Prelude.{nat_lt, ◌||◌, ◌⊎◌, is_some, if◌then◌else◌}
use Rattle.std.proofs.lemmas.Bool.{le-ltb, lt-ltb, cases_lt, or_right}
use Rattle.std.proofs.lemmas.List.{length-drop, length-take, length-append, take-append-drop, take-append-le, append_cancel_left, append_assoc}
use Rattle.lanes.specs.declared.party.Party.{Party}
use Rattle.lanes.specs.declared.party.Party.TheVariants.{First, Second, Third}
use Rattle.lanes.specs.declared.three.Three.{Three}
use Rattle.lanes.specs.Party.{next}
use Rattle.lanes.specs.Three.{at}
use Rattle.lanes.specs.Items.{LaneLengths}
use Rattle.tapes.specs.Laws.{OrdersAreClosed}
use Rattle.step_lists.specs.declared.step.Shape.{Shape}
use Rattle.step_lists.specs.declared.step.Step.{Step}
use Rattle.step_lists.specs.Layout.{Layout, starting, grown}
use Rattle.step_lists.specs.Rules.{AreFine}
use Rattle.step_lists.specs.Draws.{ThreeTapes, parties, joined, needs_of, taken, dropped}
use Rattle.step_lists.specs.Run.{run}
use Rattle.step_lists.specs.Phases.{Links, link, no_words, behind_on}
use Rattle.step_lists.specs.Machine.{Machine, machine_step, step_words, delivered, joint_going, joint_of, before_steps}
use Rattle.step_lists.specs.Part.{Part, Given, Progress, NoOrder, part_cut, part_going, part_step, stage_sends, stage_takes, progress_of, progress, went, taken_of, count_from, takes_bad_order, lacks, used_up, one_more, has_ended}
use Rattle.joint_machine.specs.Fitting.{IsFitting, StepsFit}
use Rattle.party_laws.specs.InMachine.{received_by, part_in, GoesOn, PartsHaveWords}
use Rattle.party_laws.specs.StageWords.{stage_words}
use Rattle.party_laws.proofs.Lists.{true_apart, take_front}
use Rattle.party_laws.proofs.Threes.{same_each, at_parties, at_joined, at_received, link_behind, behind_none, more_count, none_long}
use Rattle.party_laws.proofs.Cuts.{IsCut, words_of_stages, all_counted}
use Rattle.party_laws.proofs.AllSteps.{step_cut}
use Rattle.party_laws.proofs.RunParts.{AreLeft, left_first, left_behind, given_behind, cut_first, cut_rest, later, links_run, is_ready, step_in, starts_as, none_received}

-- ---- words that agree

-- the rest of the longer one of two lists that agree
behind_shorter : (few more a b : List ℕ) → few ++ a ≡ more ++ b → length more ≤ length few → few ≡ more ++ drop (length more) few
behind_shorter few more a b e h =
    let whole = take-append-drop (length more) few in
    let front : take (length more) few ≡ more =
    sym (take-append-le (length more) few a h) ∙ (ap (take (length more)) e ∙ take_front (length more) more b refl) in
    sym whole ∙ ap (λ x. x ++ drop (length more) few) front

rest_agrees : (few more a b : List ℕ) → few ++ a ≡ more ++ b → length more ≤ length few → drop (length more) few ++ a ≡ b
rest_agrees few more a b e h =
    append_cancel_left more (drop (length more) few ++ a) b
    (sym (append_assoc more (drop (length more) few) a) ∙ (ap (λ x. x ++ a) (sym (behind_shorter few more a b e h)) ∙ e))

pub at_each_party : (P : Party → Type 0) → P First → P Second → P Third → (p : Party) → P p
at_each_party P a b c First = a
at_each_party P a b c Second = b
at_each_party P a b c Third = c

-- ---- a step whose words aren't all there

pub enough_of : (t : Three ℕ) (got : Three (List ℕ)) → is_some (lacks t got) ≡ false → (q : Party) → at q t ≤ length (at q got)
enough_of t got h q = by (cases_lt (length got.first) t.first) (cases_lt (length got.second) t.second) (cases_lt (length got.third) t.third) q where
  by : (length got.first < t.first) ⊎ (t.first ≤ length got.first) → (length got.second < t.second) ⊎ (t.second ≤ length got.second)
      → (length got.third < t.third) ⊎ (t.third ≤ length got.third) → (q : Party) → at q t ≤ length (at q got)
  by (inr a) (inr b) (inr c) First = a
  by (inr a) (inr b) (inr c) Second = b
  by (inr a) (inr b) (inr c) Third = c
  by (inl a) y z q = absurd (true_apart (sym h ∙ ap is_some (first (lt-ltb (length got.first) t.first a)))) where
    first : nat_lt (length got.first) t.first ≡ true → lacks t got ≡ Some First
    first e = ap (λ b. if b then Some First else (if nat_lt (length got.second) t.second then Some Second else (if nat_lt (length got.third) t.third then Some Third else None))) e
  by (inr a) (inl b) z q = absurd (true_apart (sym h ∙ ap is_some (second (le-ltb (length got.first) t.first a) (lt-ltb (length got.second) t.second b)))) where
    second : nat_lt (length got.first) t.first ≡ false → nat_lt (length got.second) t.second ≡ true → lacks t got ≡ Some Second
    second e f =
        ap (λ b. if b then Some First else (if nat_lt (length got.second) t.second then Some Second else (if nat_lt (length got.third) t.third then Some Third else None))) e
        ∙ ap (λ b. if b then Some Second else (if nat_lt (length got.third) t.third then Some Third else None)) f
  by (inr a) (inr b) (inl c) q =
      absurd (true_apart (sym h ∙ ap is_some (third (le-ltb (length got.first) t.first a) (le-ltb (length got.second) t.second b) (lt-ltb (length got.third) t.third c)))) where
        third : nat_lt (length got.first) t.first ≡ false → nat_lt (length got.second) t.second ≡ false → nat_lt (length got.third) t.third ≡ true → lacks t got ≡ Some Third
        third e f g =
            ap (λ b. if b then Some First else (if nat_lt (length got.second) t.second then Some Second else (if nat_lt (length got.third) t.third then Some Third else None))) e
            ∙ (ap (λ b. if b then Some Second else (if nat_lt (length got.third) t.third then Some Third else None)) f ∙ ap (λ b. if b then Some Third else None) g)

early_used : (o : Option Party) → is_some o ≡ true → is_some (used_up o) ≡ true
early_used None h = absurd (true_apart h)
early_used (Some p) h = refl

pub lacking : (ts : List (Three ℕ)) (got : Three (List ℕ)) (q : Party) → length (at q got) < count_from q ts → is_some (progress ts got).early ≡ true
lacking [] got q h = absurd (omega arith)
lacking (t ∷ ts) got q h = by (is_some (lacks t got)) refl (lacking ts (parties (λ p. drop (at p t) (at p got))) q) where
  by : (b : Bool) → is_some (lacks t got) ≡ b
      → (length (at q (parties (λ p. drop (at p t) (at p got)))) < count_from q ts → is_some (progress ts (parties (λ p. drop (at p t) (at p got)))).early ≡ true)
      → is_some (if b then record { passed = 0; early = used_up (lacks t got) } else one_more (progress ts (parties (λ p. drop (at p t) (at p got))))).early ≡ true
  by true e more = early_used (lacks t got) e
  by false e more =
      let there = enough_of t got e q in
      more (omega (arith, h, there, more_count q t ts, ap length (at_parties (λ p. drop (at p t) (at p got)) q), length-drop (at q t) (at q got)))

module _ {T : Type 0} (accepts : T → List Shape → List Shape → Bool) (answer : T → List (List ℕ) → List (List ℕ)) where
  -- an ended part stays
  pub ended_part : (v : Party) (l : Layout) (a : Part) (ss : List (Step T)) (g : Given) → has_ended a ≡ true → run (part_going answer v) (part_cut v) l a ss g ≡ a
  ended_part v l a [] g e = refl
  ended_part v l a (s ∷ ss) g e =
      let first = (part_cut v).first l s g in
      let rest = (part_cut v).rest l s g in
      let new = went (progress_of v l s first) (stage_sends v l a s first) (stage_takes v l s) a (part_step answer v l a s first) in
      let same : part_going answer v l a s first ≡ a = ap (λ b. if b then a else new) e in
      ap (λ x. run (part_going answer v) (part_cut v) (grown l s) x ss rest) same ∙ ended_part v (grown l s) a ss rest e

  some_early : (a : Part) → is_some a.early ≡ true → has_ended a ≡ true
  some_early a e = or_right a.stop (is_some a.early) e

  went_early : (p : Progress) (sends : List (Three (List ℕ))) (takes : List (Three ℕ)) (a b : Part) → is_some p.early ≡ true → is_some (went p sends takes a b).early ≡ true
  went_early p sends takes a b e = ap (λ c. is_some (if c then record a { early = p.early } else b).early) e ∙ e

  -- a step that lacks words ends the part
  lacking_step : (v : Party) (l : Layout) (a : Part) (s : Step T) (g : Given) (q : Party) → has_ended a ≡ false → length (at q g.received) < count_from q (stage_takes v l s)
      → is_some (part_going answer v l a s g).early ≡ true
  lacking_step v l a s g q e h =
      let sends = stage_sends v l a s g in
      let takes = stage_takes v l s in
      let new = part_step answer v l a s g in
      let goes : part_going answer v l a s g ≡ went (progress_of v l s g) sends takes a new = ap (λ b. if b then a else went (progress_of v l s g) sends takes a new) e in
      ap (λ x. is_some x.early) goes ∙ went_early (progress_of v l s g) sends takes a new (by (takes_bad_order v l s g)) where
        by : (b : Bool) → is_some (if b then record { passed = 0; early = Some (NoOrder (next v)) } else progress (stage_takes v l s) g.received).early ≡ true
        by true = refl
        by false = lacking (stage_takes v l s) g.received q h

  module _ (lengths : LaneLengths) (closed : OrdersAreClosed) (fit : StepsFit accepts answer) where
    -- words from some step on that agree with those to come
    pub record Agrees (v : Party) (l : Layout) (m : Machine) (ss : List (Step T)) (ds : ThreeTapes) (words : Three (List ℕ)) : Type 0 where
      pub few : Three (List ℕ)
      pub more : Three (List ℕ)
      pub same : joined words few ≡ joined (received_by v (later accepts answer l m ss ds)) more

    abbrev pub given_now : Party → ThreeTapes → Three (List ℕ) → Given
    given_now v ds words = record { own = at v ds; following = at (next v) ds; received = words }

    nothing_later : (l : Layout) (m : Machine) (ss : List (Step T)) (ds : ThreeTapes) → m.stop ≡ true → later accepts answer l m ss ds ≡ no_words
    nothing_later l m [] ds e = refl
    nothing_later l m (s ∷ ss) ds e =
        let d = taken (needs_of l s) ds in
        let same : joint_going answer l m s d ≡ m = ap (λ b. if b then m else delivered (step_words l m s d) (machine_step answer l m s d)) e in
        ap (λ b. behind_on (if b then no_words else step_words l m s d) (later accepts answer (grown l s) (joint_going answer l m s d) ss (dropped (needs_of l s) ds))) e
        ∙ (ap (λ x. behind_on no_words (later accepts answer (grown l s) x ss (dropped (needs_of l s) ds))) same
        ∙ ap (behind_on no_words) (nothing_later (grown l s) m ss (dropped (needs_of l s) ds) e))

    -- ---- one step of a machine that goes on

    module _ (v : Party) (l : Layout) (s : Step T) (ss : List (Step T)) (m : Machine) (ds : ThreeTapes) (words : Three (List ℕ)) (fine : AreFine accepts l (s ∷ ss)) (left : AreLeft l (s ∷ ss) ds)
        (fits : IsFitting l m) (e : m.stop ≡ false) where
      abbrev d : ThreeTapes
      d = taken (needs_of l s) ds

      abbrev ds' : ThreeTapes
      ds' = dropped (needs_of l s) ds

      abbrev w : Links
      w = step_words l m s d

      abbrev m' : Machine
      m' = delivered w (machine_step answer l m s d)

      abbrev rest : Links
      rest = later accepts answer (grown l s) m' ss ds'

      abbrev run_on : Layout → Part → List (Step T) → Given → Part
      run_on l a ss g = run (part_going answer v) (part_cut v) l a ss g

      cut : IsCut accepts answer v l m s d
      cut = step_cut accepts answer lengths closed v l m s d (is_ready accepts answer lengths closed fit l m s d fine.0 (left_first l s ss ds left) fits)

      counted : (p : Party) → length (link p v w) ≡ count_from p (stage_takes v l s)
      counted p = ap (λ z. length (link p v z)) (words_of_stages l m s d) ∙ all_counted v p (stage_words l m s d) (stage_takes v l s) (cut.count p)

      pub words_are : later accepts answer l m (s ∷ ss) ds ≡ behind_on w rest
      words_are =
          ap (λ b. behind_on (if b then no_words else w) (later accepts answer (grown l s) (joint_going answer l m s d) ss ds')) e
          ∙ ap (λ x. behind_on w (later accepts answer (grown l s) x ss ds')) (ap (λ b. if b then m else m') e)

      -- where the words of a party aren't all there, the part ends early
      pub ends_early : (p : Party) → length (at p words) < length (link p v w) → is_some (run_on l (part_in v m) (s ∷ ss) (given_now v ds words)).early ≡ true
      ends_early p h =
          let g = given_now v ds words in
          let first = (part_cut v).first l s g in
          let a = part_going answer v l (part_in v m) s first in
          let goes : has_ended (part_in v m) ≡ false = ap (λ b. b || false) e in
          let short : length (at p first.received) ≤ length (at p words) =
          omega (arith, ap length (at_parties (λ p. take (at p (taken_of v l s)) (at p words)) p), length-take (at p (taken_of v l s)) (at p words)) in
          let lacks_it = lacking_step v l (part_in v m) s first p goes (omega (arith, h, short, counted p)) in
          ap (λ x. is_some x.early) (ended_part v (grown l s) a ss ((part_cut v).rest l s g) (some_early a lacks_it)) ∙ lacks_it

      -- where they are all there, the part goes on behind them
      abbrev pub words' : Three (List ℕ)
      words' = parties (λ p. drop (length (link p v w)) (at p words))

      module _ (agrees : Agrees v l m (s ∷ ss) ds words) (there : (p : Party) → length (link p v w) ≤ length (at p words)) where
        same_at : (p : Party) → at p words ++ at p agrees.few ≡ link p v w ++ (link p v rest ++ at p agrees.more)
        same_at p =
            sym (at_joined p words agrees.few)
            ∙ (ap (at p) agrees.same
            ∙ (at_joined p (received_by v (later accepts answer l m (s ∷ ss) ds)) agrees.more
            ∙ (ap (λ x. x ++ at p agrees.more) (at_received v p (later accepts answer l m (s ∷ ss) ds) ∙ (ap (link p v) words_are ∙ link_behind p v w rest))
            ∙ append_assoc (link p v w) (link p v rest) (at p agrees.more))))

        at_rest : (p : Party) → at p words' ≡ drop (length (link p v w)) (at p words)
        at_rest p = at_parties (λ p. drop (length (link p v w)) (at p words)) p

        split : words ≡ joined (received_by v w) words'
        split =
            same_each words (joined (received_by v w) words')
            (λ p.
            behind_shorter (at p words) (link p v w) (at p agrees.few) (link p v rest ++ at p agrees.more) (same_at p) (there p)
            ∙ (ap (λ x. x ++ drop (length (link p v w)) (at p words)) (sym (at_received v p w))
            ∙ (ap (λ x. at p (received_by v w) ++ x) (sym (at_rest p)) ∙ sym (at_joined p (received_by v w) words'))))

        pub agrees_on : Agrees v (grown l s) m' ss ds' words'
        agrees_on = record {
          few = agrees.few;
          more = agrees.more;
          same =
              same_each (joined words' agrees.few) (joined (received_by v rest) agrees.more)
              (λ p.
              at_joined p words' agrees.few
              ∙ (ap (λ x. x ++ at p agrees.few) (at_rest p)
              ∙ (rest_agrees (at p words) (link p v w) (at p agrees.few) (link p v rest ++ at p agrees.more) (same_at p) (there p)
              ∙ (ap (λ x. x ++ at p agrees.more) (sym (at_received v p rest)) ∙ sym (at_joined p (received_by v rest) agrees.more)))));
        }

        given_is : given_now v ds words ≡ given_behind v ds (behind_on w no_words) words'
        given_is =
            ap (given_now v ds) (split ∙ ap (λ k. joined (received_by v k) words') (sym (behind_none w)))

        behind_is : given_behind v ds' no_words words' ≡ given_now v ds' words'
        behind_is = ap (given_now v ds') (none_received v words')

        pub goes_on : run_on l (part_in v m) (s ∷ ss) (given_now v ds words) ≡ run_on (grown l s) (part_in v m') ss (given_now v ds' words')
        goes_on =
            let g = given_behind v ds (behind_on w no_words) words' in
            ap (run_on l (part_in v m) (s ∷ ss)) given_is
            ∙ (ap (λ f. run_on (grown l s) (part_going answer v l (part_in v m) s f) ss ((part_cut v).rest l s g)) (cut_first v l s ds w no_words words' counted)
            ∙ (ap (λ a. run_on (grown l s) a ss ((part_cut v).rest l s g)) (step_in accepts answer lengths closed fit v l m s d cut e)
            ∙ ap (run_on (grown l s) (part_in v m') ss) (cut_rest v l s ds w no_words words' counted ∙ behind_is)))

    some_apart : {A : Type 0} (o : Option A) → o ≡ None → is_some o ≡ true → ⊥
    some_apart o e f = true_apart (ap is_some (sym e) ∙ f)

    -- all words of the steps are there
    abbrev Claim : Party → Layout → Machine → List (Step T) → ThreeTapes → Three (List ℕ) → Party → Type 0
    Claim v l m ss ds words q = length (link q v (later accepts answer l m ss ds)) ≤ length (at q words)

    abbrev first_words : Layout → Machine → Step T → ThreeTapes → Links
    first_words l m s ds = step_words l m s (taken (needs_of l s) ds)

    -- what is claimed of the steps behind one
    abbrev IsNext : Party → Layout → Step T → List (Step T) → Machine → ThreeTapes → Three (List ℕ) → Party → Type 0
    IsNext v l s ss m ds words q =
        Claim v (grown l s) (delivered (first_words l m s ds) (machine_step answer l m s (taken (needs_of l s) ds))) ss (dropped (needs_of l s) ds)
        (parties (λ p. drop (length (link p v (first_words l m s ds))) (at p words))) q

    abbrev IsThere : Party → Three (List ℕ) → Links → Party → Type 0
    IsThere v words w p = (length (at p words) < length (link p v w)) ⊎ (length (link p v w) ≤ length (at p words))

    pub have_words : (v : Party) (l : Layout) (ss : List (Step T)) (m : Machine) (ds : ThreeTapes) (words : Three (List ℕ)) → AreFine accepts l ss → AreLeft l ss ds
        → (m.stop ≡ false → IsFitting l m) → Agrees v l m ss ds words → (run (part_going answer v) (part_cut v) l (part_in v m) ss (given_now v ds words)).early ≡ None
        → (q : Party) → length (link q v (later accepts answer l m ss ds)) ≤ length (at q words)
    have_words v l [] m ds words fine left fits agrees early q = omega (arith, none_long q v)
    have_words v l (s ∷ ss) m ds words fine left fits agrees early q =
        let w = first_words l m s ds in
        let new = delivered w (machine_step answer l m s (taken (needs_of l s) ds)) in
        by m.stop refl
        (λ e there.
        have_words v (grown l s) ss new (dropped (needs_of l s) ds) (parties (λ p. drop (length (link p v w)) (at p words))) fine.1 (left_behind l s ss ds left)
        (λ f. fit.stepped l m s (taken (needs_of l s) ds) fine.0 (left_first l s ss ds left) (fits e)) (agrees_on v l s ss m ds words fine left (fits e) e agrees there)
        (ap (λ x. x.early) (sym (goes_on v l s ss m ds words fine left (fits e) e agrees there)) ∙ early) q) where
          lacks_some : (e : m.stop ≡ false) (p : Party) → length (at p words) < length (link p v (first_words l m s ds)) → Claim v l m (s ∷ ss) ds words q
          lacks_some e p h = absurd (some_apart _ early (ends_early v l s ss m ds words fine left (fits e) e p h))

          has_all : (e : m.stop ≡ false) → (there : (p : Party) → length (link p v (first_words l m s ds)) ≤ length (at p words)) → IsNext v l s ss m ds words q → Claim v l m (s ∷ ss) ds words q
          has_all e there ih =
              let w = first_words l m s ds in
              let new = delivered w (machine_step answer l m s (taken (needs_of l s) ds)) in
              let rest = later accepts answer (grown l s) new ss (dropped (needs_of l s) ds) in
              let are = ap (λ k. length (link q v k)) (words_are v l s ss m ds words fine left (fits e) e) ∙ (ap length (link_behind q v w rest) ∙ length-append (link q v w) (link q v rest)) in
              let dropped_is = ap length (at_parties (λ p. drop (length (link p v w)) (at p words)) q) ∙ length-drop (length (link q v w)) (at q words) in
              omega (arith, ih, are, dropped_is, there q)

          decide : (e : m.stop ≡ false) → IsThere v words (first_words l m s ds) First → IsThere v words (first_words l m s ds) Second → IsThere v words (first_words l m s ds) Third
              → (((p : Party) → length (link p v (first_words l m s ds)) ≤ length (at p words)) → IsNext v l s ss m ds words q) → Claim v l m (s ∷ ss) ds words q
          decide e (inl a) y z ih = lacks_some e First a
          decide e (inr a) (inl b) z ih = lacks_some e Second b
          decide e (inr a) (inr b) (inl c) ih = lacks_some e Third c
          decide e (inr a) (inr b) (inr c) ih =
              let there = at_each_party (λ p. length (link p v (first_words l m s ds)) ≤ length (at p words)) a b c in
              has_all e there (ih there)

          by : (b : Bool) → m.stop ≡ b → (m.stop ≡ false → ((p : Party) → length (link p v (first_words l m s ds)) ≤ length (at p words)) → IsNext v l s ss m ds words q)
              → Claim v l m (s ∷ ss) ds words q
          by true e ih = omega (arith, ap (λ z. length (link q v z)) (nothing_later l m (s ∷ ss) ds e), none_long q v)
          by false e ih =
              decide e (cases_lt (length (at First words)) (length (link First v (first_words l m s ds)))) (cases_lt (length (at Second words)) (length (link Second v (first_words l m s ds))))
              (cases_lt (length (at Third words)) (length (link Third v (first_words l m s ds)))) (ih e)

    pub parts_have_words : PartsHaveWords accepts answer
    parts_have_words v list slots ds words well fits agree early =
        let l = starting list.first in
        let m = before_steps slots in
        let words_of = later accepts answer l m list.steps ds in
        let links : (joint_of answer list slots ds).links ≡ words_of = links_run accepts answer l m list.steps ds in
        let same = agree.same ∙ ap (λ k. joined (received_by v k) agree.behind_more) links in
        let start = ap (λ a. (run (part_going answer v) (part_cut v) l a list.steps (given_now v ds words)).early) (sym (starts_as accepts answer lengths closed fit v slots)) ∙ early in
        let have =
        have_words v l list.steps m ds words well.fine fits.tapes_fit (λ e. fit.starts list.first slots fits.slots_fit)
        (record { few = agree.behind_few; more = agree.behind_more; same = same }) start in
        let goes : GoesOn (received_by v words_of) words = record {
          rest = parties (λ p. drop (length (link p v words_of)) (at p words));
          is =
              same_each words _
              (λ p.
              behind_shorter (at p words) (link p v words_of) (at p agree.behind_few) (at p agree.behind_more)
              (sym (at_joined p words agree.behind_few)
              ∙ (ap (at p) same ∙ (at_joined p (received_by v words_of) agree.behind_more ∙ ap (λ x. x ++ at p agree.behind_more) (at_received v p words_of)))) (have p)
              ∙ (ap (λ x. x ++ drop (length (link p v words_of)) (at p words)) (sym (at_received v p words_of))
              ∙ (ap (λ x. at p (received_by v words_of) ++ x) (sym (at_parties (λ p. drop (length (link p v words_of)) (at p words)) p))
              ∙ sym (at_joined p (received_by v words_of) (parties (λ p. drop (length (link p v words_of)) (at p words)))))));
        } in
        subst (λ k. GoesOn (received_by v k) words) (sym links) goes
