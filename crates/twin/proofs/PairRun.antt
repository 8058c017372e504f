-- Two worlds that the viewer can't tell apart stay such, step by step, and the twin back gives the old draws.
use Rattle.std.proofs.Common.{◌≡◌, ℕ, suc, Bool, true, false, List, [], ◌∷◌, ◌++◌, length, take, drop, refl, sym, subst, ap, ◌∙◌, arith}
use Rattle.std.proofs.lemmas.List.{take-append-drop}
use Rattle.std.proofs.Math.Seq.{take-append_seam, drop-append_seam}
use Rattle.std.specs.Prelude.{◌||◌, ◌==◌, slice_index, if◌then◌else◌}
use Rattle.lanes.specs.declared.party.Party.{Party}
use Rattle.lanes.specs.declared.party.Party.TheVariants.{First, Second, Third}
use Rattle.lanes.specs.declared.three.Three.{Three}
use Rattle.lanes.specs.Party.{next, before}
use Rattle.lanes.specs.Three.{at, put}
use Rattle.tapes.specs.declared.draw.Need.{Need}
use Rattle.tapes.specs.declared.draw.Draw.{Draw}
use Rattle.tapes.specs.Needs.{FitsNeeds}
use Rattle.step_lists.specs.declared.step.Shape.{Shape}
use Rattle.step_lists.specs.declared.step.Step.{Step}
use Rattle.step_lists.specs.declared.step.Step.TheVariants.{Const, Lin, And, Share, Reveal, Steer, Tell, Work, Flag}
use Rattle.step_lists.specs.Layout.{Layout, party_of, grown, rows_moved}
use Rattle.step_lists.specs.Rules.{AreFine}
use Rattle.step_lists.specs.Draws.{ThreeTapes, needs_of, taken, dropped}
use Rattle.step_lists.specs.Run.{run, outs, tape_cut}
use Rattle.step_lists.specs.Seen.{Seen, Rows, Told, AreAlike, none, also, same_party, only}
use Rattle.step_lists.specs.Phases.{Links, link, behind_on}
use Rattle.step_lists.specs.Machine.{Machine, slot_of, machine_step, step_words, delivered, joint_going}
use Rattle.step_lists.specs.Prefixes.{at-taken, at-dropped}
use Rattle.step_lists.specs.Twin.{open_rows, twin_draws, twin_going}
use Rattle.twin.proofs.Facts.{Facts}
use Rattle.twin.proofs.Lists.{true_apart}
use Rattle.twin.proofs.Same.{SameHere, SameWords}
use Rattle.twin.proofs.Steps.{Allowed, StepHolds, shows}
use Rattle.twin.proofs.Puts.{at_put, put_at, put_put}
use Rattle.twin.proofs.FitRun.{AreLeft, FitsGoing, left_first, left_behind, allowed, going_fits, twin_fitting, twin_allowed, twin_from}

-- two machines that the viewer can't tell apart, by what it has received too
pub record SameAll (v : Party) (x y : Machine) : Type 0 where
  pub here : SameHere v x y
  pub words : SameWords v x.links y.links

-- ---- words behind words

link_behind : (q v : Party) (a b : Links) → link q v (behind_on a b) ≡ link q v a ++ link q v b
link_behind First First a b = refl
link_behind First Second a b = refl
link_behind First Third a b = refl
link_behind Second First a b = refl
link_behind Second Second a b = refl
link_behind Second Third a b = refl
link_behind Third First a b = refl
link_behind Third Second a b = refl
link_behind Third Third a b = refl

same_behind : (v q : Party) (a b c d : Links) → link q v a ≡ link q v c → link q v b ≡ link q v d → link q v (behind_on a b) ≡ link q v (behind_on c d)
same_behind v q a b c d e f =
    link_behind q v a b ∙ (ap (λ w. w ++ link q v b) e ∙ (ap (λ w. link q v c ++ w) f ∙ sym (link_behind q v c d)))

words_behind : (v : Party) (a b c d : Links) → SameWords v a c → SameWords v b d → SameWords v (behind_on a b) (behind_on c d)
words_behind v a b c d h i = record {
  from_next = same_behind v (next v) a b c d h.from_next i.from_next;
  from_before = same_behind v (before v) a b c d h.from_before i.from_before;
}

sent_same : (v : Party) (x y m n : Machine) (a b : Links) → m.links ≡ x.links → n.links ≡ y.links → SameWords v x.links y.links → SameWords v a b
    → SameWords v (behind_on m.links a) (behind_on n.links b)
sent_same v x y m n a b e f h i =
    words_behind v m.links a n.links b (subst (λ k. SameWords v k n.links) (sym e) (subst (SameWords v x.links) (sym f) h)) i

-- ---- tapes that are cut

pub fits_count : (ns : List Need) (ds : List Draw) → FitsNeeds ns ds → length ds ≡ length ns
fits_count [] [] h = refl
fits_count [] (d ∷ ds) h = absurd h
fits_count (n ∷ ns) [] h = absurd h
fits_count (n ∷ ns) (d ∷ ds) h = ap suc (fits_count ns ds h.1)

none_left : (ds : List Draw) → FitsNeeds [] ds → [] ≡ ds
none_left [] h = refl
none_left (d ∷ ds) h = absurd h

seam_first : (n : ℕ) (t rest : List Draw) → length t ≡ n → take n (t ++ rest) ≡ t
seam_first n t rest e = subst (λ n. take n (t ++ rest) ≡ t) e (take-append_seam t rest)

seam_behind : (n : ℕ) (t rest : List Draw) → length t ≡ n → drop n (t ++ rest) ≡ rest
seam_behind n t rest e = subst (λ n. drop n (t ++ rest) ≡ rest) e (drop-append_seam t rest)

pub cut_first : (p : Party) (ns : Three (List Need)) (ds : ThreeTapes) (t rest : List Draw) → length t ≡ length (at p ns)
    → taken ns (put p (t ++ rest) ds) ≡ put p t (taken ns ds)
cut_first First ns ds t rest e = ap (λ x. put First x (taken ns ds)) (seam_first (length ns.first) t rest e)
cut_first Second ns ds t rest e = ap (λ x. put Second x (taken ns ds)) (seam_first (length ns.second) t rest e)
cut_first Third ns ds t rest e = ap (λ x. put Third x (taken ns ds)) (seam_first (length ns.third) t rest e)

pub cut_behind : (p : Party) (ns : Three (List Need)) (ds : ThreeTapes) (t rest : List Draw) → length t ≡ length (at p ns)
    → dropped ns (put p (t ++ rest) ds) ≡ put p rest (dropped ns ds)
cut_behind First ns ds t rest e = ap (λ x. put First x (dropped ns ds)) (seam_behind (length ns.first) t rest e)
cut_behind Second ns ds t rest e = ap (λ x. put Second x (dropped ns ds)) (seam_behind (length ns.second) t rest e)
cut_behind Third ns ds t rest e = ap (λ x. put Third x (dropped ns ds)) (seam_behind (length ns.third) t rest e)

pub joined_again : (p : Party) (ns : Three (List Need)) (ds : ThreeTapes) → at p (taken ns ds) ++ at p (dropped ns ds) ≡ at p ds
joined_again p ns ds =
    ap (λ x. x ++ at p (dropped ns ds)) (at-taken p ns ds)
    ∙ (ap (λ x. take (length (at p ns)) (at p ds) ++ x) (at-dropped p ns ds) ∙ take-append-drop (length (at p ns)) (at p ds))

-- ---- what is shown

-- nothing is shown after a stop
abbrev pub shows_going : {T : Type 0} → Party → Layout → Machine → Step T → ThreeTapes → List Seen
shows_going v l m s ds = if m.stop then [] else shows v l m s

only_long : (b : Bool) (x y : Seen) → length (only b x) ≡ length (only b y)
only_long true x y = refl
only_long false x y = refl

shows_long : {T : Type 0} (v : Party) (l : Layout) (x y : Machine) (s : Step T) → length (shows v l x s) ≡ length (shows v l y s)
shows_long v l x y (Const words) = refl
shows_long v l x y (Lin op) = refl
shows_long v l x y (And left right) = refl
shows_long v l x y (Share p s) = refl
shows_long v l x y (Reveal to moved shown) = only_long (same_party v (party_of to)) (Rows (open_rows x (rows_moved l moved) moved shown)) (Rows (open_rows y (rows_moved l moved) moved shown))
shows_long v l x y (Steer by s moved) = refl
shows_long v l x y (Tell source target s) = only_long (same_party v (party_of target)) (Told (slot_of x (party_of source) s)) (Told (slot_of y (party_of source) s))
shows_long v l x y (Work p task takes gives) = refl
shows_long v l x y (Flag p s) = refl

pub going_long : {T : Type 0} (v : Party) (l : Layout) (x y : Machine) (s : Step T) (ds es : ThreeTapes) → x.stop ≡ y.stop
    → length (shows_going v l x s ds) ≡ length (shows_going v l y s es)
going_long v l x y s ds es e = subst (λ b. length (shows_going v l x s ds) ≡ length (if b then [] else shows v l y s)) e (by x.stop) where
  by : (b : Bool) → length (if b then [] else shows v l x s) ≡ length (if b then [] else shows v l y s)
  by true = refl
  by false = shows_long v l x y s

pub parts_alike : (a b c d : List Seen) → AreAlike (a ++ b) (c ++ d) → length a ≡ length c → AreAlike a c × AreAlike b d
parts_alike [] b [] d h e = (none, h)
parts_alike [] b (z ∷ c) d h e = absurd (omega arith)
parts_alike (x ∷ a) b [] d h e = absurd (omega arith)
parts_alike (x ∷ a) b (z ∷ c) d (also one rest) e = let p = parts_alike a b c d rest (omega arith) in (also one p.0, p.1)

module _ {T : Type 0} (accepts : T → List Shape → List Shape → Bool) (answer : T → List (List ℕ) → List (List ℕ)) (facts : Facts)
    (holds : (s : Step T) → StepHolds accepts answer s) where
  -- what a machine shows from some step on
  abbrev pub shown_from : Party → Layout → Machine → List (Step T) → ThreeTapes → List Seen
  shown_from v l m ss ds = outs (joint_going answer) (shows_going v) tape_cut l m ss ds

  -- a step makes no words of its own accord
  links_stay : (l : Layout) (m : Machine) (s : Step T) (ds : ThreeTapes) → (machine_step answer l m s ds).links ≡ m.links
  links_stay l m (Const words) ds = refl
  links_stay l m (Lin op) ds = refl
  links_stay l m (And left right) ds = refl
  links_stay l m (Share p s) ds = refl
  links_stay l m (Reveal to moved shown) ds = refl
  links_stay l m (Steer by s moved) ds = refl
  links_stay l m (Tell source target s) ds = refl
  links_stay l m (Work p task takes gives) ds = refl
  links_stay l m (Flag p s) ds = by (slice_index (slot_of m (party_of p) s) 0 == 0) where
    by : (b : Bool) → (if b then record m { flags = suc m.flags } else record m { stop = true }).links ≡ m.links
    by true = refl
    by false = refl

  -- a step of both, before a stop and after it
  step_same : (v : Party) (l : Layout) (s : Step T) (x y : Machine) (ds : ThreeTapes) → Allowed accepts answer l s ds → FitsGoing l x → FitsGoing l y → SameAll v x y
      → AreAlike (shows_going v l x s ds) (shows_going v l y s (put (before v) (twin_going v l x y s ds) ds))
      → SameAll v (joint_going answer l x s ds) (joint_going answer l y s (put (before v) (twin_going v l x y s ds) ds))
  step_same v l s x y ds a h i same alike = by x.stop y.stop refl refl alike where
    by : (b c : Bool) → x.stop ≡ b → y.stop ≡ c → AreAlike (if b then [] else shows v l x s) (if c then [] else shows v l y s)
        → SameAll v (if b then x else delivered (step_words l x s ds) (machine_step answer l x s ds))
        (if c then y else delivered (step_words l y s (put (before v) (if b || c then at (before v) ds else twin_draws v l x y s ds) ds))
        (machine_step answer l y s (put (before v) (if b || c then at (before v) ds else twin_draws v l x y s ds) ds)))
    by true true e f alike = same
    by true false e f alike = absurd (true_apart (sym f ∙ (sym same.here.stop ∙ e)))
    by false true e f alike = absurd (true_apart (sym e ∙ (same.here.stop ∙ f)))
    by false false e f alike =
        let kept = (holds s).keeps v l x y ds (record { allowed = a; one = h e; other = i f; same = same.here; shown = alike }) in
        record {
          here = record { registers = kept.same.registers; slots = kept.same.slots; flags = kept.same.flags; stop = kept.same.stop };
          words =
              sent_same v x y (machine_step answer l x s ds) (machine_step answer l y s (put (before v) (twin_draws v l x y s ds) ds))
              (step_words l x s ds) (step_words l y s (put (before v) (twin_draws v l x y s ds) ds)) (links_stay l x s ds)
              (links_stay l y s (put (before v) (twin_draws v l x y s ds) ds)) same.words kept.words;
        }

  step_back : (v : Party) (l : Layout) (s : Step T) (x y : Machine) (ds : ThreeTapes) → Allowed accepts answer l s ds → FitsGoing l x → FitsGoing l y → SameAll v x y
      → AreAlike (shows_going v l x s ds) (shows_going v l y s (put (before v) (twin_going v l x y s ds) ds))
      → twin_going v l y x s (put (before v) (twin_going v l x y s ds) ds) ≡ at (before v) ds
  step_back v l s x y ds a h i same alike = by x.stop y.stop refl refl alike where
    by : (b c : Bool) → x.stop ≡ b → y.stop ≡ c → AreAlike (if b then [] else shows v l x s) (if c then [] else shows v l y s)
        → (if c || b then at (before v) (put (before v) (if b || c then at (before v) ds else twin_draws v l x y s ds) ds)
        else twin_draws v l y x s (put (before v) (if b || c then at (before v) ds else twin_draws v l x y s ds) ds)) ≡ at (before v) ds
    by true true e f alike = at_put (before v) (at (before v) ds) ds
    by true false e f alike = at_put (before v) (at (before v) ds) ds
    by false true e f alike = at_put (before v) (at (before v) ds) ds
    by false false e f alike = (holds s).back v l x y ds (record { allowed = a; one = h e; other = i f; same = same.here; shown = alike })

  -- ---- all steps

  pub record IsRun (v : Party) (l : Layout) (ss : List (Step T)) (x y : Machine) (ds : ThreeTapes) : Type 0 where
    pub same : SameAll v (run (joint_going answer) tape_cut l x ss ds)
        (run (joint_going answer) tape_cut l y ss (put (before v) (twin_from accepts answer facts holds v l x y ss ds) ds))
    pub back : twin_from accepts answer facts holds v l y x ss (put (before v) (twin_from accepts answer facts holds v l x y ss ds) ds) ≡ at (before v) ds

  pub pair_run : (v : Party) (l : Layout) (ss : List (Step T)) (x y : Machine) (ds : ThreeTapes) → AreFine accepts l ss → AreLeft l ss ds → FitsGoing l x → FitsGoing l y
      → SameAll v x y → AreAlike (shown_from v l x ss ds) (shown_from v l y ss (put (before v) (twin_from accepts answer facts holds v l x y ss ds) ds))
      → IsRun v l ss x y ds
  pair_run v l [] x y ds fine left h i same alike = record { same = same; back = none_left (at (before v) ds) (left (before v)) }
  pair_run v l (s ∷ ss) x y ds fine left h i same alike =
      let ns = needs_of l s in
      let d = taken ns ds in
      let rest = dropped ns ds in
      let k = grown l s in
      let t = twin_going v l x y s d in
      let es = put (before v) t d in
      let x' = joint_going answer l x s d in
      let y' = joint_going answer l y s es in
      let more = twin_from accepts answer facts holds v k x' y' ss rest in
      let whole = put (before v) (t ++ more) ds in
      let a = allowed accepts answer facts holds l s ss d fine (left_first accepts answer facts holds l s ss ds left) in
      let long = fits_count (at (before v) ns) t (twin_fitting accepts answer facts holds v l s x y d a h i) in
      let e1 : taken ns whole ≡ es = cut_first (before v) ns ds t more long in
      let e2 : dropped ns whole ≡ put (before v) more rest = cut_behind (before v) ns ds t more long in
      let alike1 : AreAlike (shows_going v l x s d ++ shown_from v k x' ss rest) (shows_going v l y s es ++ shown_from v k (joint_going answer l y s es) ss (dropped ns whole)) =
      subst (λ b. AreAlike (shows_going v l x s d ++ shown_from v k x' ss rest) (shows_going v l y s b ++ shown_from v k (joint_going answer l y s b) ss (dropped ns whole))) e1 alike in
      let alike2 = subst (λ b. AreAlike (shows_going v l x s d ++ shown_from v k x' ss rest) (shows_going v l y s es ++ shown_from v k y' ss b)) e2 alike1 in
      let parts = parts_alike (shows_going v l x s d) (shown_from v k x' ss rest) (shows_going v l y s es) (shown_from v k y' ss (put (before v) more rest)) alike2
      (going_long v l x y s d es same.here.stop) in
      let b1 : twin_going v l y x s es ≡ at (before v) d = step_back v l s x y d a h i same parts.0 in
      let b2 : put (before v) (twin_going v l y x s es) es ≡ d = ap (λ z. put (before v) z es) b1 ∙ (put_put (before v) (at (before v) d) t d ∙ put_at (before v) d) in
      let ih = pair_run v k ss x' y' rest fine.1 (left_behind accepts answer facts holds l s ss ds left) (going_fits accepts answer facts holds l s x d a h)
      (going_fits accepts answer facts holds l s y es (twin_allowed accepts answer facts holds v l s x y d a h i) i) (step_same v l s x y d a h i same parts.0) parts.1 in
      let back1 : twin_from accepts answer facts holds v k y' (joint_going answer l x s (put (before v) (twin_going v l y x s es) es)) ss (put (before v) more rest) ≡ at (before v) rest =
      subst (λ z. twin_from accepts answer facts holds v k y' (joint_going answer l x s z) ss (put (before v) more rest) ≡ at (before v) rest) (sym b2) ih.back in
      let back2 : twin_going v l y x s es ++ twin_from accepts answer facts holds v k y' (joint_going answer l x s (put (before v) (twin_going v l y x s es) es)) ss (put (before v) more rest) ≡ at (before v) ds =
      ap (λ z. z ++ twin_from accepts answer facts holds v k y' (joint_going answer l x s (put (before v) (twin_going v l y x s es) es)) ss (put (before v) more rest)) b1
      ∙ (ap (λ z. at (before v) d ++ z) back1 ∙ joined_again (before v) ns ds) in
      record {
        same =
            subst (λ b. SameAll v (run (joint_going answer) tape_cut k x' ss rest) (run (joint_going answer) tape_cut k (joint_going answer l y s b) ss (dropped ns whole))) (sym e1)
            (subst (λ b. SameAll v (run (joint_going answer) tape_cut k x' ss rest) (run (joint_going answer) tape_cut k y' ss b)) (sym e2) ih.same);
        back =
            subst (λ b. twin_going v l y x s b ++ twin_from accepts answer facts holds v k (joint_going answer l y s b) (joint_going answer l x s (put (before v) (twin_going v l y x s b) b)) ss (dropped ns whole)
            ≡ at (before v) ds) (sym e1)
            (subst (λ b. twin_going v l y x s es ++ twin_from accepts answer facts holds v k y' (joint_going answer l x s (put (before v) (twin_going v l y x s es) es)) ss b ≡ at (before v) ds) (sym e2) back2);
      }
