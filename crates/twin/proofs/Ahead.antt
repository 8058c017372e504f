-- The pass in the code beside the twin of the definition, by the steps that are still to come.
use Rattle.std.proofs.Common.{◌≡◌, ℕ, suc, ◌+◌, ◌<◌, ◌≤◌, ◌^◌, Bool, true, false, List, [], ◌∷◌, ◌++◌, length, take, drop, get_or, refl, sym, subst, ap, ◌∙◌, inl, inr, lit<, arith}
use Rattle.std.proofs.lemmas.List.{append_assoc, append-nil, drop_more, get_or_past}
use Rattle.std.proofs.lemmas.Bool.{cases_lt}
use Rattle.lanes.specs.declared.party.Party.TheVariants.{First, Second, Third}
use Rattle.std.specs.Prelude.{All, ◌||◌, ◌==◌, slice_index, if◌then◌else◌}
use Rattle.lanes.specs.declared.party.Party.{Party}
use Rattle.lanes.specs.Party.{before}
use Rattle.lanes.specs.Three.{at, put}
use Rattle.tapes.specs.declared.draw.Draw.{Draw}
use Rattle.tapes.specs.Needs.{FitsNeeds}
use Rattle.step_lists.specs.declared.step.Shape.{Shape}
use Rattle.step_lists.specs.declared.step.Step.{Step}
use Rattle.step_lists.specs.declared.step.Step.TheVariants.{Const, Lin, And, Share, Reveal, Steer, Tell, Work, Flag}
use Rattle.step_lists.specs.Layout.{Layout, party_of, grown, grown_by, length_of}
use Rattle.step_lists.specs.Rules.{AreFine}
use Rattle.step_lists.specs.Prefixes.{LayoutGrows, layout_run}
use Rattle.step_lists.specs.Draws.{ThreeTapes, needs, needs_of, taken, dropped}
use Rattle.step_lists.specs.Run.{run, outs, tape_cut, rest_after}
use Rattle.step_lists.specs.Seen.{Seen, Flagged, Alike, AreAlike, none, also, same_flag}
use Rattle.step_lists.specs.Machine.{Machine, slot_of, machine_step, step_words, delivered, joint_going}
use Rattle.step_lists.specs.Twin.{twin_draws, twin_going, worlds_going, draws_going}
use Rattle.joint_machine.specs.Left.{IsNext}
use Rattle.joint_machine.specs.Fitting.{IsFitting, StepsFit}
use Rattle.twin.specs.Passing.{AreReady, ArePassed, shows, stepped, twin_drawn}
use Rattle.twin.proofs.Facts.{Facts}
use Rattle.twin.proofs.Lists.{true_apart}
use Rattle.twin.proofs.Steps.{StepHolds, AreDrawsOf}
use Rattle.twin.proofs.Puts.{put_holds}
use Rattle.twin.proofs.FitRun.{AreLeft, FitsGoing, left_first, left_behind, allowed, going_fits, twin_fitting, twin_allowed}
use Rattle.twin.proofs.PairRun.{shows_going, fits_count, cut_first, cut_behind, joined_again}

-- ---- words that are the same for the viewer stop both worlds alike

flag_stop : (x y : Machine) (a b : List ℕ) → x.stop ≡ y.stop → a ≡ b
    → (if slice_index a 0 == 0 then record x { flags = suc x.flags } else record x { stop = true }).stop
    ≡ (if slice_index b 0 == 0 then record y { flags = suc y.flags } else record y { stop = true }).stop
flag_stop x y a b e f =
    subst (λ b. (if slice_index a 0 == 0 then record x { flags = suc x.flags } else record x { stop = true }).stop
    ≡ (if slice_index b 0 == 0 then record y { flags = suc y.flags } else record y { stop = true }).stop) f (by (slice_index a 0 == 0)) where
      by : (t : Bool) → (if t then record x { flags = suc x.flags } else record x { stop = true }).stop ≡ (if t then record y { flags = suc y.flags } else record y { stop = true }).stop
      by true = e
      by false = refl

flagged_same : (a b : List ℕ) → AreAlike (Flagged a ∷ []) (Flagged b ∷ []) → a ≡ b
flagged_same a b (also (same_flag e) rest) = e

same_four : {A B C D E : Type 0} (f : A → B → C → D → E) {a a' : A} {b b' : B} {c c' : C} {d d' : D} → a ≡ a' → b ≡ b' → c ≡ c' → d ≡ d' → f a b c d ≡ f a' b' c' d'
same_four f {a} {a'} {b} {b'} {c} {c'} {d} {d'} e1 e2 e3 e4 = ap (λ x. f x b c d) e1 ∙ (ap (λ x. f a' x c d) e2 ∙ (ap (λ x. f a' b' x d) e3 ∙ ap (f a' b' c') e4))

-- before the first draw
pub none_before : (ds : ThreeTapes) (p : Party) → at p (record { first = 0; second = 0; third = 0 }) ≤ length (at p ds)
none_before ds First = omega arith
none_before ds Second = omega arith
none_before ds Third = omega arith

pub short_registers : (ns : List ℕ) → All (λ n. n < 2 ^ 32) ns → (r : ℕ) → slice_index ns r < 2 ^ 32
short_registers ns h r = elim (cases_lt r (length ns)) [
  | inl lt ↦ h r 0 lt
  | inr ge ↦ subst (λ n. n < 2 ^ 32) (sym (get_or_past ns r 0 ge)) (lit< tt)
]

module _ {T : Type 0} (accepts : T → List Shape → List Shape → Bool) (answer : T → List (List ℕ) → List (List ℕ)) where
  stops_same : (v : Party) (l : Layout) (s : Step T) (x y : Machine) (ds es : ThreeTapes) → x.stop ≡ y.stop → AreAlike (shows v l x s) (shows v l y s)
      → (machine_step answer l x s ds).stop ≡ (machine_step answer l y s es).stop
  stops_same v l (Const words) x y ds es e h = e
  stops_same v l (Lin op) x y ds es e h = e
  stops_same v l (And left right) x y ds es e h = e
  stops_same v l (Share p s) x y ds es e h = e
  stops_same v l (Reveal to moved shown) x y ds es e h = e
  stops_same v l (Steer by s moved) x y ds es e h = e
  stops_same v l (Tell source target s) x y ds es e h = e
  stops_same v l (Work p task takes gives) x y ds es e h = e
  stops_same v l (Flag p s) x y ds es e h = flag_stop x y (slot_of x (party_of p) s) (slot_of y (party_of p) s) e (flagged_same _ _ h)

  -- the twin, and what a machine shows, from some step on
  abbrev pub twin_rest : Party → Layout → Machine → Machine → List (Step T) → ThreeTapes → List Draw
  twin_rest v l x y ss ds = outs (worlds_going answer v) (draws_going answer v) tape_cut l (record { one = x; other = y }) ss ds

  abbrev pub shown_rest : Party → Layout → Machine → List (Step T) → ThreeTapes → List Seen
  shown_rest v l m ss ds = outs (joint_going answer) (shows_going v) tape_cut l m ss ds

  -- the three tapes from some step on, with the twin in place
  abbrev pub twin_left : Party → Layout → Machine → Machine → List (Step T) → ThreeTapes → ThreeTapes
  twin_left v l x y ss ds = put (before v) (twin_rest v l x y ss ds) ds

  -- what the steps to come show is alike in both worlds
  abbrev pub ShowAlike : Party → Layout → Machine → Machine → List (Step T) → ThreeTapes → Type 0
  ShowAlike v l x y ss ds = AreAlike (shown_rest v l x ss ds) (shown_rest v l y ss (twin_left v l x y ss ds))

  -- what step j of these shows
  abbrev pub shown_at : Party → Layout → Machine → List (Step T) → ℕ → ThreeTapes → List Seen
  shown_at v l m ss j ds =
      shown_rest v (grown_by l (take j ss)) (run (joint_going answer) tape_cut l m (take j ss) ds) (take 1 (drop j ss)) (rest_after tape_cut l (take j ss) ds)

  -- at step j of these the viewer tells the worlds apart
  pub record AreApart (v : Party) (l : Layout) (x y : Machine) (ss : List (Step T)) (ds : ThreeTapes) (j : ℕ) (first second : Seen) : Type 0 where
    pub before_it : AreAlike (shown_rest v l x (take j ss) ds) (shown_rest v l y (take j ss) (twin_left v l x y ss ds))
    pub first_is : shown_at v l x ss j ds ≡ first ∷ []
    pub second_is : shown_at v l y ss j (twin_left v l x y ss ds) ≡ second ∷ []
    pub differ : ¬ Alike first second

  -- both worlds before a stop
  pub record GoesOn (l : Layout) (ss : List (Step T)) (x y : Machine) (ds : ThreeTapes) : Type 0 where
    pub fine : AreFine accepts l ss
    pub left : AreLeft l ss ds
    pub one : FitsGoing l x
    pub other : FitsGoing l y
    pub one_fits : IsFitting l x
    pub other_fits : IsFitting l y
    pub one_goes : x.stop ≡ false
    pub other_goes : y.stop ≡ false

  -- the pass stands before these steps, where the whole one begins with other ones
  pub record IsAhead (v : Party) (l0 : Layout) (x0 y0 : Machine) (ss0 : List (Step T)) (ds0 : ThreeTapes) (k : ℕ) (ss : List (Step T)) (x y : Machine) (ds : ThreeTapes) (made : List Draw) : Type 0 where
    pub layout : Layout
    pub goes : GoesOn layout ss x y ds
    pub grows : grown_by layout ss ≡ grown_by l0 ss0
    pub twin : twin_rest v l0 x0 y0 ss0 ds0 ≡ made ++ twin_rest v layout x y ss ds
    pub alike : ShowAlike v layout x y ss ds → ShowAlike v l0 x0 y0 ss0 ds0
    pub apart : (j : ℕ) (first second : Seen) → AreApart v layout x y ss ds j first second → AreApart v l0 x0 y0 ss0 ds0 (k + j) first second

  -- every draw that is left is kept
  pub record HasEnded (v : Party) (l0 : Layout) (x0 y0 : Machine) (ss0 : List (Step T)) (ds0 : ThreeTapes) (ds : ThreeTapes) (made : List Draw) : Type 0 where
    pub twin : twin_rest v l0 x0 y0 ss0 ds0 ≡ made ++ at (before v) ds
    pub alike : ShowAlike v l0 x0 y0 ss0 ds0

  pub record IsBehind (v : Party) (l0 : Layout) (x0 y0 : Machine) (ss0 : List (Step T)) (ds0 : ThreeTapes) (k : ℕ) (ss : List (Step T)) (x y : Machine) (ds : ThreeTapes) (made : List Draw) : Type 0 where
    pub going : x.stop ≡ false → IsAhead v l0 x0 y0 ss0 ds0 k ss x y ds made
    pub ended : x.stop ≡ true → HasEnded v l0 x0 y0 ss0 ds0 ds made

  module _ (facts : Facts) (holds : (s : Step T) → StepHolds accepts answer s) where
    -- ---- behind a stop

    -- every draw is kept
    stopped_twin : (v : Party) (l : Layout) (ss : List (Step T)) (x y : Machine) (ds : ThreeTapes) → x.stop ≡ true → y.stop ≡ true → AreLeft l ss ds
        → twin_rest v l x y ss ds ≡ at (before v) ds
    stopped_twin v l [] x y ds e f left = none_left (at (before v) ds) (left (before v)) where
      none_left : (ds : List Draw) → FitsNeeds [] ds → [] ≡ ds
      none_left [] h = refl
      none_left (d ∷ ds) h = absurd h
    stopped_twin v l (s ∷ ss) x y ds e f left =
        let ns = needs_of l s in
        let d = taken ns ds in
        let es = put (before v) (twin_going v l x y s d) d in
        let stays : joint_going answer l x s d ≡ x = ap (λ b. if b then x else delivered (step_words l x s d) (machine_step answer l x s d)) e in
        let other : joint_going answer l y s es ≡ y = ap (λ b. if b then y else delivered (step_words l y s es) (machine_step answer l y s es)) f in
        let kept : twin_going v l x y s d ≡ at (before v) d = ap (λ b. if b || y.stop then at (before v) d else twin_draws v l x y s d) e in
        let more = stopped_twin v (grown l s) ss x y (dropped ns ds) e f (left_behind accepts answer facts holds l s ss ds left) in
        ap (λ t. t ++ twin_rest v (grown l s) (joint_going answer l x s d) (joint_going answer l y s es) ss (dropped ns ds)) kept
        ∙ (ap (λ m. at (before v) d ++ twin_rest v (grown l s) m (joint_going answer l y s es) ss (dropped ns ds)) stays
        ∙ (ap (λ m. at (before v) d ++ twin_rest v (grown l s) x m ss (dropped ns ds)) other
        ∙ (ap (λ t. at (before v) d ++ t) more ∙ joined_again (before v) ns ds)))

    -- nothing is shown
    stopped_shown : (v : Party) (l : Layout) (ss : List (Step T)) (m : Machine) (ds : ThreeTapes) → m.stop ≡ true → shown_rest v l m ss ds ≡ []
    stopped_shown v l [] m ds e = refl
    stopped_shown v l (s ∷ ss) m ds e =
        let d = taken (needs_of l s) ds in
        let stays : joint_going answer l m s d ≡ m = ap (λ b. if b then m else delivered (step_words l m s d) (machine_step answer l m s d)) e in
        ap (λ b. (if b then [] else shows v l m s) ++ shown_rest v (grown l s) (joint_going answer l m s d) ss (dropped (needs_of l s) ds)) e
        ∙ (ap (λ a. shown_rest v (grown l s) a ss (dropped (needs_of l s) ds)) stays
        ∙ stopped_shown v (grown l s) ss m (dropped (needs_of l s) ds) e)

    -- ---- the steps to come

    append_alike : (a b c d : List Seen) → AreAlike a b → AreAlike c d → AreAlike (a ++ c) (b ++ d)
    append_alike [] [] c d h i = i
    append_alike [] (y ∷ b) c d h i = elim h [ ]
    append_alike (x ∷ a) [] c d h i = elim h [ ]
    append_alike (x ∷ a) (y ∷ b) c d (also one rest) i = also one (append_alike a b c d rest i)

    -- a step that is passed in both worlds, in the definition's terms
    record IsStep (v : Party) (l : Layout) (s : Step T) (x y : Machine) (ds : ThreeTapes) (x' y' : Machine) (rest : ThreeTapes) : Type 0 where
      pub twin : twin_going v l x y s (taken (needs_of l s) ds) ≡ twin_draws v l x y s (taken (needs_of l s) ds)
      pub one : joint_going answer l x s (taken (needs_of l s) ds) ≡ x'
      pub other : joint_going answer l y s (put (before v) (twin_going v l x y s (taken (needs_of l s) ds)) (taken (needs_of l s) ds)) ≡ y'
      pub left : dropped (needs_of l s) ds ≡ rest
      pub count : length (twin_going v l x y s (taken (needs_of l s) ds)) ≡ length (at (before v) (needs_of l s))

    is_step : (v : Party) (l : Layout) (s : Step T) (ss : List (Step T)) (x y : Machine) (ds : ThreeTapes) (made : List Draw) (x' y' : Machine) (rest : ThreeTapes) (made' : List Draw)
        → GoesOn l (s ∷ ss) x y ds → ArePassed answer v l s x y ds made x' y' rest made' → IsStep v l s x y ds x' y' rest
    is_step v l s ss x y ds made x' y' rest made' g p =
        let ns = needs_of l s in
        let d = taken ns ds in
        let a = allowed accepts answer facts holds l s ss d g.fine (left_first accepts answer facts holds l s ss ds g.left) in
        let e : twin_going v l x y s d ≡ twin_draws v l x y s d =
        ap (λ b. if b || y.stop then at (before v) d else twin_draws v l x y s d) g.one_goes
        ∙ ap (λ b. if b then at (before v) d else twin_draws v l x y s d) g.other_goes in
        let es = put (before v) (twin_draws v l x y s d) d in
        record {
          twin = e;
          one = ap (λ b. if b then x else stepped answer l s x d) g.one_goes ∙ sym p.one;
          other =
              ap (λ t. joint_going answer l y s (put (before v) t d)) e
              ∙ (ap (λ b. if b then y else stepped answer l s y es) g.other_goes ∙ sym p.other);
          left = sym p.left;
          count = fits_count (at (before v) ns) (twin_going v l x y s d) (twin_fitting accepts answer facts holds v l s x y d a g.one g.other);
        }

    -- what is shown from the step on, in the first and in the second world
    one_shown : (v : Party) (l : Layout) (s : Step T) (us : List (Step T)) (x y : Machine) (ds : ThreeTapes) (x' y' : Machine) (rest : ThreeTapes) → x.stop ≡ false
        → IsStep v l s x y ds x' y' rest
        → shown_rest v l x (s ∷ us) ds ≡ shows v l x s ++ shown_rest v (grown l s) x' us rest
    one_shown v l s us x y ds x' y' rest e h =
        ap (λ b. (if b then [] else shows v l x s) ++ shown_rest v (grown l s) (joint_going answer l x s (taken (needs_of l s) ds)) us (dropped (needs_of l s) ds)) e
        ∙ (ap (λ m. shows v l x s ++ shown_rest v (grown l s) m us (dropped (needs_of l s) ds)) h.one
        ∙ ap (λ r. shows v l x s ++ shown_rest v (grown l s) x' us r) h.left)

    -- the second machine behind the step and what is left of its tapes
    record IsOther (v : Party) (l : Layout) (s : Step T) (ss : List (Step T)) (x y : Machine) (ds : ThreeTapes) (x' y' : Machine) (rest : ThreeTapes) : Type 0 where
      pub machine : joint_going answer l y s (taken (needs_of l s) (twin_left v l x y (s ∷ ss) ds)) ≡ y'
      pub left : dropped (needs_of l s) (twin_left v l x y (s ∷ ss) ds) ≡ twin_left v (grown l s) x' y' ss rest

    is_other : (v : Party) (l : Layout) (s : Step T) (ss : List (Step T)) (x y : Machine) (ds : ThreeTapes) (x' y' : Machine) (rest : ThreeTapes)
        → IsStep v l s x y ds x' y' rest → IsOther v l s ss x y ds x' y' rest
    is_other v l s ss x y ds x' y' rest h =
        let ns = needs_of l s in
        let d = taken ns ds in
        let t = twin_going v l x y s d in
        let x0 = joint_going answer l x s d in
        let y0 = joint_going answer l y s (put (before v) t d) in
        let more = twin_rest v (grown l s) x0 y0 ss (dropped ns ds) in
        record {
          machine = ap (joint_going answer l y s) (cut_first (before v) ns ds t more h.count) ∙ h.other;
          left =
              cut_behind (before v) ns ds t more h.count
              ∙ (ap (λ m. twin_left v (grown l s) m y0 ss (dropped ns ds)) h.one
              ∙ (ap (λ m. twin_left v (grown l s) x' m ss (dropped ns ds)) h.other ∙ ap (twin_left v (grown l s) x' y' ss) h.left));
        }

    other_shown : (v : Party) (l : Layout) (s : Step T) (us ss : List (Step T)) (x y : Machine) (ds : ThreeTapes) (x' y' : Machine) (rest : ThreeTapes) → y.stop ≡ false
        → IsOther v l s ss x y ds x' y' rest
        → shown_rest v l y (s ∷ us) (twin_left v l x y (s ∷ ss) ds)
        ≡ shows v l y s ++ shown_rest v (grown l s) y' us (twin_left v (grown l s) x' y' ss rest)
    other_shown v l s us ss x y ds x' y' rest e h =
        let w = twin_left v l x y (s ∷ ss) ds in
        ap (λ b. (if b then [] else shows v l y s) ++ shown_rest v (grown l s) (joint_going answer l y s (taken (needs_of l s) w)) us (dropped (needs_of l s) w)) e
        ∙ (ap (λ m. shows v l y s ++ shown_rest v (grown l s) m us (dropped (needs_of l s) w)) h.machine
        ∙ ap (λ r. shows v l y s ++ shown_rest v (grown l s) y' us r) h.left)

    alike_more : (a b c d : List Seen) → a ≡ c → b ≡ d → AreAlike c d → AreAlike a b
    alike_more a b c d e f h = subst (λ x. AreAlike x b) (sym e) (subst (AreAlike c) (sym f) h)

    -- what holds of the steps behind a step that shows the same holds from the step on
    alike_behind : (v : Party) (l : Layout) (s : Step T) (us ss : List (Step T)) (x y : Machine) (ds : ThreeTapes) (x' y' : Machine) (rest : ThreeTapes) → x.stop ≡ false → y.stop ≡ false
        → IsStep v l s x y ds x' y' rest → AreAlike (shows v l x s) (shows v l y s)
        → AreAlike (shown_rest v (grown l s) x' us rest) (shown_rest v (grown l s) y' us (twin_left v (grown l s) x' y' ss rest))
        → AreAlike (shown_rest v l x (s ∷ us) ds) (shown_rest v l y (s ∷ us) (twin_left v l x y (s ∷ ss) ds))
    alike_behind v l s us ss x y ds x' y' rest e f h alike more =
        alike_more _ _ (shows v l x s ++ shown_rest v (grown l s) x' us rest)
        (shows v l y s ++ shown_rest v (grown l s) y' us (twin_left v (grown l s) x' y' ss rest))
        (one_shown v l s us x y ds x' y' rest e h) (other_shown v l s us ss x y ds x' y' rest f (is_other v l s ss x y ds x' y' rest h))
        (append_alike (shows v l x s) (shows v l y s) _ _ alike more)

    apart_behind : (v : Party) (l : Layout) (s : Step T) (ss : List (Step T)) (x y : Machine) (ds : ThreeTapes) (x' y' : Machine) (rest : ThreeTapes) → x.stop ≡ false → y.stop ≡ false
        → IsStep v l s x y ds x' y' rest → AreAlike (shows v l x s) (shows v l y s) → (j : ℕ) (first second : Seen)
        → AreApart v (grown l s) x' y' ss rest j first second → AreApart v l x y (s ∷ ss) ds (suc j) first second
    apart_behind v l s ss x y ds x' y' rest e f h alike j first second a =
        let ns = needs_of l s in
        let w = twin_left v l x y (s ∷ ss) ds in
        let o = is_other v l s ss x y ds x' y' rest h in
        let at_it = λ (m : Machine) (r : ThreeTapes). shown_at v (grown l s) m ss j r in
        record {
          before_it = alike_behind v l s (take j ss) ss x y ds x' y' rest e f h alike a.before_it;
          first_is = ap (λ m. at_it m (dropped ns ds)) h.one ∙ (ap (at_it x') h.left ∙ a.first_is);
          second_is = ap (λ m. at_it m (dropped ns w)) o.machine ∙ (ap (at_it y') o.left ∙ a.second_is);
          differ = a.differ;
        }

    -- ---- the pass

    pub ahead_start : StepsFit accepts answer → (v : Party) (l : Layout) (x y : Machine) (ss : List (Step T)) (ds : ThreeTapes) → GoesOn l ss x y ds
        → IsBehind v l x y ss ds 0 ss x y ds []
    ahead_start fit v l x y ss ds g = record {
      going = λ e. record {
        layout = l;
        goes = g;
        grows = refl;
        twin = refl;
        alike = λ h. h;
        apart = λ j first second h. let e : j ≡ 0 + j = omega arith in subst (λ i. AreApart v l x y ss ds i first second) e h;
      };
      ended = λ e. absurd (true_apart (sym g.one_goes ∙ e));
    }

    pub ahead_step : StepsFit accepts answer → (v : Party) (l0 : Layout) (x0 y0 : Machine) (ss0 : List (Step T)) (ds0 : ThreeTapes) (k : ℕ) (s : Step T) (ss : List (Step T)) (x y : Machine)
        (ds : ThreeTapes) (made : List Draw) (x' y' : Machine) (rest : ThreeTapes) (made' : List Draw)
        → (h : IsAhead v l0 x0 y0 ss0 ds0 k (s ∷ ss) x y ds made) → ArePassed answer v h.layout s x y ds made x' y' rest made'
        → IsBehind v l0 x0 y0 ss0 ds0 (k + 1) ss x' y' rest made'
    ahead_step fit v l0 x0 y0 ss0 ds0 k s ss x y ds made x' y' rest made' h p =
        let l = h.layout in
        let g = h.goes in
        let ns = needs_of l s in
        let d = taken ns ds in
        let t = twin_draws v l x y s d in
        let i = is_step v l s ss x y ds made x' y' rest made' g p in
        let more = twin_rest v (grown l s) in
        let twin : twin_rest v l0 x0 y0 ss0 ds0 ≡ made' ++ more x' y' ss rest =
        h.twin
        ∙ (ap (λ z. made ++ z) (same_four (λ a b c e. a ++ more b c ss e) i.twin i.one i.other i.left)
        ∙ (sym (append_assoc made t (more x' y' ss rest)) ∙ ap (λ z. z ++ more x' y' ss rest) (sym p.twin))) in
        let alike = λ (b : ShowAlike v (grown l s) x' y' ss rest). h.alike (alike_behind v l s ss ss x y ds x' y' rest g.one_goes g.other_goes i p.alike b) in
        let apart = λ (j : ℕ) (first second : Seen) (b : AreApart v (grown l s) x' y' ss rest j first second).
        let e : k + suc j ≡ k + 1 + j = omega arith in
        subst (λ n. AreApart v l0 x0 y0 ss0 ds0 n first second) e (h.apart (suc j) first second (apart_behind v l s ss x y ds x' y' rest g.one_goes g.other_goes i p.alike j first second b)) in
        let es = put (before v) (twin_going v l x y s d) d in
        let a = allowed accepts answer facts holds l s ss d g.fine (left_first accepts answer facts holds l s ss ds g.left) in
        let b = twin_allowed accepts answer facts holds v l s x y d a g.one g.other in
        let left : AreLeft (grown l s) ss rest = subst (AreLeft (grown l s) ss) i.left (left_behind accepts answer facts holds l s ss ds g.left) in
        let same : x'.stop ≡ y'.stop = ap (λ m. m.stop) p.one ∙ (stops_same v l s x y d (twin_drawn v l x y s d) (g.one_goes ∙ sym g.other_goes) p.alike ∙ sym (ap (λ m. m.stop) p.other)) in
        let drawn : AreDrawsOf l s (twin_drawn v l x y s d) = subst (λ u. AreDrawsOf l s (put (before v) u d)) i.twin b.draws in
        record {
          going = λ e. record {
            layout = grown l s;
            goes =
                record {
                  fine = g.fine.1;
                  left = left;
                  one = subst (FitsGoing (grown l s)) i.one (going_fits accepts answer facts holds l s x d a g.one);
                  other = subst (FitsGoing (grown l s)) i.other (going_fits accepts answer facts holds l s y es b g.other);
                  one_fits = subst (IsFitting (grown l s)) (sym p.one) (fit.stepped l x s d g.fine.0 a.draws g.one_fits);
                  other_fits = subst (IsFitting (grown l s)) (sym p.other) (fit.stepped l y s (twin_drawn v l x y s d) g.fine.0 drawn g.other_fits);
                  one_goes = e;
                  other_goes = sym same ∙ e;
                };
            grows = h.grows;
            twin = twin;
            alike = alike;
            apart = apart;
          };
          ended = λ e. record {
            twin = twin ∙ ap (λ z. made' ++ z) (stopped_twin v (grown l s) ss x' y' rest e (sym same ∙ e) left);
            alike = alike (alike_more _ _ [] [] (stopped_shown v (grown l s) ss x' rest e) (stopped_shown v (grown l s) ss y' (twin_left v (grown l s) x' y' ss rest) (sym same ∙ e)) none);
          };
        }

    -- behind the last step
    pub ahead_end : (v : Party) (l0 : Layout) (x0 y0 : Machine) (ss0 : List (Step T)) (ds0 : ThreeTapes) (k : ℕ) (x y : Machine) (ds : ThreeTapes) (made : List Draw)
        → IsBehind v l0 x0 y0 ss0 ds0 k [] x y ds made → HasEnded v l0 x0 y0 ss0 ds0 ds made
    ahead_end v l0 x0 y0 ss0 ds0 k x y ds made h = by x.stop refl where
      none_left : (ds : List Draw) → FitsNeeds [] ds → [] ≡ ds
      none_left [] h = refl
      none_left (d ∷ ds) h = absurd h

      by : (b : Bool) → x.stop ≡ b → HasEnded v l0 x0 y0 ss0 ds0 ds made
      by true e = h.ended e
      by false e =
          let a = h.going e in
          record { twin = a.twin ∙ ap (λ z. made ++ z) (none_left (at (before v) ds) (a.goes.left (before v))); alike = a.alike none }

    -- the pass stands still behind a stop
    pub ahead_past : (v : Party) (l0 : Layout) (x0 y0 : Machine) (ss0 : List (Step T)) (ds0 : ThreeTapes) (k : ℕ) (steps : List (Step T)) (x y : Machine) (ds : ThreeTapes) (made : List Draw)
        → k < length steps → IsBehind v l0 x0 y0 ss0 ds0 k (drop k steps) x y ds made → x.stop ≡ true → IsBehind v l0 x0 y0 ss0 ds0 (k + 1) (drop (k + 1) steps) x y ds made
    ahead_past v l0 x0 y0 ss0 ds0 k steps x y ds made lt h e = record { going = λ f. absurd (true_apart (sym f ∙ e)); ended = h.ended }

    -- both machines are ready for the next step
    pub ahead_ready : StepsFit accepts answer → (v : Party) (l0 : Layout) (x0 y0 : Machine) (ss0 : List (Step T)) (ds0 : ThreeTapes) (k : ℕ) (s : Step T) (ss : List (Step T)) (x y : Machine)
        (ds : ThreeTapes) (made : List Draw) → ((r : ℕ) → length_of (grown_by l0 ss0) r < 2 ^ 32)
        → (h : IsAhead v l0 x0 y0 ss0 ds0 k (s ∷ ss) x y ds made) → AreReady accepts v h.layout s x y ds
    ahead_ready fit v l0 x0 y0 ss0 ds0 k s ss x y ds made short h =
        let l = h.layout in
        let g = h.goes in
        let ns = needs_of l s in
        let d = taken ns ds in
        let t = twin_draws v l x y s d in
        let a = allowed accepts answer facts holds l s ss d g.fine (left_first accepts answer facts holds l s ss ds g.left) in
        let next = λ (p : Party). let n : IsNext (at p ns) (at p ds) = (needs p (grown l s) ss, g.left p) in n in
        let meets = (holds s).meets v l x y d a (g.one g.one_goes) (g.other g.other_goes) in
        let unseen : IsNext (at (before v) ns) t = ([], subst (λ m. FitsNeeds m t) (sym (append-nil (at (before v) ns))) meets) in
        record {
          one = fit.ready l x s ds g.fine.0 next g.one_fits;
          other = fit.ready l y s (put (before v) t ds) g.fine.0 (put_holds IsNext (before v) ns t ds unseen next) g.other_fits;
          short = λ r. by r (grows l (s ∷ ss) (grown_by l0 ss0) h.grows);
        } where
          grows : (l : Layout) (ss : List (Step T)) (m : Layout) → grown_by l ss ≡ m → LayoutGrows l m
          grows l ss m e = subst (LayoutGrows l) e (layout_run l ss)

          short_of : (ns ms : List ℕ) (r : ℕ) → ((r : ℕ) → r < length ns → slice_index ms r ≡ slice_index ns r) → ((r : ℕ) → slice_index ms r < 2 ^ 32) → slice_index ns r < 2 ^ 32
          short_of ns ms r same short = elim (cases_lt r (length ns)) [
            | inl lt ↦ subst (λ n. n < 2 ^ 32) (same r lt) (short r)
            | inr ge ↦ subst (λ n. n < 2 ^ 32) (sym (get_or_past ns r 0 ge)) (lit< tt)
          ]

          by : (r : ℕ) → LayoutGrows h.layout (grown_by l0 ss0) → length_of h.layout r < 2 ^ 32
          by r w = short_of h.layout.registers (grown_by l0 ss0).registers r w.registers short

    -- the next step of the list
    pub ahead_next : (v : Party) (l0 : Layout) (x0 y0 : Machine) (ss0 : List (Step T)) (ds0 : ThreeTapes) (k : ℕ) (s : Step T) (steps : List (Step T)) (x y : Machine) (ds : ThreeTapes) (made : List Draw)
        → k < length steps → s ≡ get_or steps k s → IsBehind v l0 x0 y0 ss0 ds0 k (drop k steps) x y ds made → IsBehind v l0 x0 y0 ss0 ds0 k (s ∷ drop (k + 1) steps) x y ds made
    ahead_next v l0 x0 y0 ss0 ds0 k s steps x y ds made lt is h =
        subst (λ ss. IsBehind v l0 x0 y0 ss0 ds0 k ss x y ds made) (drop_more steps k s lt ∙ ap (λ t. t ∷ drop (k + 1) steps) (sym is)) h
