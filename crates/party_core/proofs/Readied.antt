-- A core that goes on is ready for its next step: its part fits the layout, and its draws are those that the step needs.
use Rattle.std.proofs.Common.{◌≡◌, ℕ, suc, Bool, false, Some, List, [], ◌∷◌, ◌++◌, length, map, take, drop, refl, sym, ap, subst, ◌∙◌, arith, length-append, length-take}
use Rattle.std.specs.List.{AllByRecursion}
use Rattle.std.proofs.lemmas.List.{drop-drop, take-append-drop}
use Rattle.lanes.specs.declared.party.Party.{Party}
use Rattle.lanes.specs.declared.party.Party.TheVariants.{First, Second, Third}
use Rattle.lanes.specs.declared.three.Three.{Three}
use Rattle.lanes.specs.Party.{next}
use Rattle.lanes.specs.Three.{at, each}
use Rattle.lanes.specs.Word.{AreWords}
use Rattle.tapes.specs.declared.draw.Draw.{Draw}
use Rattle.tapes.specs.Needs.{FitsNeeds}
use Rattle.step_lists.specs.declared.step.Shape.{Shape}
use Rattle.step_lists.specs.declared.step.Shape.TheVariants as shapes
use Rattle.step_lists.specs.declared.step.Step.{Step}
use Rattle.step_lists.specs.Layout.{Layout, grown, grown_by, starting}
use Rattle.step_lists.specs.Draws.{needs, needs_of}
use Rattle.step_lists.specs.Possible.{FitsFront}
use Rattle.step_lists.specs.Prefixes.{fits_first, fits_rest, needs_append}
use Rattle.step_lists.specs.Rules.{AreFine, fits_layout, is_small}
use Rattle.step_lists.specs.Run.{rest_after}
use Rattle.step_lists.specs.Shapes.{HaveShapes, IsLawful}
use Rattle.step_lists.specs.Part.{Given, Part, part_before, part_cut, part_going, part_step, progress_of, stage_sends, stage_takes, taken_of, count_from, has_ended}
use Rattle.party_core.specs.CoreView.{CoreView, next_step, layout_here}
use Rattle.party_core.specs.Doing.{IsFitting, CoresAreReady}
use Rattle.party_core.proofs.Drawn.{front_fits, whole_front}
use Rattle.party_core.proofs.Fine.{both, fine_here}
use Rattle.party_core.proofs.Fitting.{IsSupplied}
use Rattle.party_core.proofs.Here.{here}
use Rattle.party_core.proofs.LongWords.{LaneFacts, dropped_below, taken_below}
use Rattle.party_core.proofs.MovedFits.{step_fits}
use Rattle.party_core.proofs.Progressing.{at_parties}
use Rattle.party_core.proofs.Runs.{runs, CameWhole, going_step, not_yet, step_whole, went_whole}
use Rattle.party_core.proofs.Steps.{drop_here}

-- ---- draws

-- what some steps leave of the two tapes
pub rest_own : {T : Type 0} (v : Party) (l : Layout) (xs : List (Step T)) (g : Given) → (rest_after (part_cut v) l xs g).own ≡ drop (length (needs v l xs)) g.own
rest_own v l [] g = refl
rest_own v l (s ∷ ss) g =
    rest_own v (grown l s) ss ((part_cut v).rest l s g)
    ∙ drop-drop (length (needs v (grown l s) ss)) (length (at v (needs_of l s))) g.own
    ∙ ap (λ n. drop n g.own) (sym (length-append (at v (needs_of l s)) (needs v (grown l s) ss)))

pub rest_following : {T : Type 0} (v : Party) (l : Layout) (xs : List (Step T)) (g : Given)
    → (rest_after (part_cut v) l xs g).following ≡ drop (length (needs (next v) l xs)) g.following
rest_following v l [] g = refl
rest_following v l (s ∷ ss) g =
    rest_following v (grown l s) ss ((part_cut v).rest l s g)
    ∙ drop-drop (length (needs (next v) (grown l s) ss)) (length (at (next v) (needs_of l s))) g.following
    ∙ ap (λ n. drop n g.following) (sym (length-append (at (next v) (needs_of l s)) (needs (next v) (grown l s) ss)))

-- the needs of a list, cut where a step stands
pub needs_cut : {T : Type 0} (q : Party) (l : Layout) (list : List (Step T)) (k : ℕ) (s : Step T) → list ≡ take k list ++ s ∷ drop (suc k) list
    → needs q l list ≡ needs q l (take k list) ++ (at q (needs_of (grown_by l (take k list)) s) ++ needs q (grown (grown_by l (take k list)) s) (drop (suc k) list))
needs_cut q l list k s e = ap (needs q l) e ∙ needs_append q l (take k list) (s ∷ drop (suc k) list)

-- the draws that a step needs are next
next_fits : {T : Type 0} (q : Party) (l : Layout) (list : List (Step T)) (k : ℕ) (s : Step T) (ds : List Draw) → list ≡ take k list ++ s ∷ drop (suc k) list
    → FitsNeeds (needs q l list) ds
    → FitsNeeds (at q (needs_of (grown_by l (take k list)) s)) (take (length (at q (needs_of (grown_by l (take k list)) s))) (drop (length (needs q l (take k list))) ds))
next_fits q l list k s ds e h =
    let here = at q (needs_of (grown_by l (take k list)) s) in
    let more = needs q (grown (grown_by l (take k list)) s) (drop (suc k) list) in
    let front = subst (λ ns. FitsFront ns ds) (needs_cut q l list k s e) (whole_front (needs q l list) ds h) in
    front_fits here more (drop (length (needs q l (take k list))) ds) (fits_rest (needs q l (take k list)) (here ++ more) ds front)

-- ---- before the first step

at_each : {A B : Type 0} (f : A → B) (p : Party) (x : Three A) → at p (each f x) ≡ f (at p x)
at_each f First x = refl
at_each f Second x = refl
at_each f Third x = refl

first_shapes : (slots : List (List ℕ)) → AllByRecursion AreWords slots → HaveShapes (map (λ n. shapes.Words n) (map length slots)) slots
first_shapes [] h = tt
first_shapes (xs ∷ slots) h = (record { long = refl; below = h.0 }, first_shapes slots h.1)

start_fits : (v : Party) (first : Three (List ℕ)) (slots : List (List ℕ)) → map length slots ≡ at v first → AllByRecursion AreWords slots → IsFitting v (starting first) (part_before slots)
start_fits v first slots e h = record {
  pairs = tt;
  slots = subst (λ ss. HaveShapes ss slots) (ap (map (λ n. shapes.Words n)) e ∙ sym (at_each (λ ns. map (λ n. shapes.Words n) ns) v first)) (first_shapes slots h);
  few = omega arith;
}

fine_front : {T : Type 0} (accepts : T → List Shape → List Shape → Bool) (l : Layout) (xs ys : List (Step T)) → AreFine accepts l (xs ++ ys) → AreFine accepts l xs
fine_front accepts l [] ys h = tt
fine_front accepts l (x ∷ xs) ys h = (h.0, fine_front accepts (grown l x) xs ys h.1)

pub cut_here : {T : Type 0} (c : CoreView T) (s : Step T) → next_step c ≡ Some s → c.list.steps ≡ take c.far.steps c.list.steps ++ s ∷ drop (suc c.far.steps) c.list.steps
cut_here c s e =
    let k = c.far.steps in
    sym (take-append-drop k c.list.steps) ∙ ap (λ ys. take k c.list.steps ++ ys) (drop_here c.list.steps k s e)

module _ {T : Type 0} (accepts : T → List Shape → List Shape → Bool) (answer : T → List (List ℕ) → List (List ℕ)) (facts : LaneFacts) (law : IsLawful accepts answer) where
  -- what a step is given that came to its end
  supplied : (v : Party) (l : Layout) (s : Step T) (more : List (Step T)) (g : Given) → FitsFront (needs v l (s ∷ more)) g.own → FitsFront (needs (next v) l (s ∷ more)) g.following
      → ((p : Party) → AreWords (at p g.received)) → CameWhole answer v l s ((part_cut v).first l s g) → IsSupplied v l s ((part_cut v).first l s g)
  supplied v l s more g own following words w = record {
    own = front_fits (at v (needs_of l s)) (needs v (grown l s) more) g.own own;
    following = front_fits (at (next v) (needs_of l s)) (needs (next v) (grown l s) more) g.following following;
    received = λ p.
        let n = at p (taken_of v l s) in
        let same = at_parties (λ q. take (at q (taken_of v l s)) (at q g.received)) p in
        let long = ap length same ∙ length-take n (at p g.received) in
        let there = w.there p in
        let all = at_parties (λ q. count_from q (stage_takes v l s)) p in
        record { long = omega (arith, long, there, all); below = subst AreWords (sym same) (taken_below facts n (at p g.received) (words p)) };
  }

  fits_run : (v : Party) (l : Layout) (a : Part) (xs : List (Step T)) (g : Given) → AreFine accepts l xs → IsFitting v l a → FitsFront (needs v l xs) g.own
      → FitsFront (needs (next v) l xs) g.following → ((p : Party) → AreWords (at p g.received)) → has_ended (runs answer v l a xs g) ≡ false
      → IsFitting v (grown_by l xs) (runs answer v l a xs g)
  fits_run v l a [] g fine h own following words on = h
  fits_run v l a (s ∷ ss) g fine h own following words on =
      let first = (part_cut v).first l s g in
      let rest = (part_cut v).rest l s g in
      let b = part_going answer v l a s first in
      let w = step_whole answer v l a s first (not_yet answer v (grown l s) b ss rest on) in
      let is = going_step answer v l a s first (not_yet answer v l a (s ∷ ss) g on)
      ∙ went_whole (progress_of v l s first) (length (stage_takes v l s)) (stage_sends v l a s first) (stage_takes v l s) a (part_step answer v l a s first) w.whole in
      let may = (both (fits_layout accepts l s) (is_small (grown l s)) fine.0).0 in
      let new = step_fits accepts answer facts law v l a s first may (supplied v l s ss g own following words w) h in
      fits_run v (grown l s) b ss rest fine.1 (subst (IsFitting v (grown l s)) (sym is) (record { pairs = new.pairs; slots = new.slots; few = new.few }))
      (fits_rest (at v (needs_of l s)) (needs v (grown l s) ss) g.own own)
      (fits_rest (at (next v) (needs_of l s)) (needs (next v) (grown l s) ss) g.following following)
      (λ p. subst AreWords (sym (at_parties (λ q. drop (at q (taken_of v l s)) (at q g.received)) p)) (dropped_below facts (at p (taken_of v l s)) (at p g.received) (words p)))
      on

  pub cores_are_ready : CoresAreReady accepts answer
  cores_are_ready c s h going e =
      let v = c.party in
      let l = starting c.list.first in
      let k = c.far.steps in
      let list = c.list.steps in
      let xs = take k list in
      let split = cut_here c s e in
      let front : (q : Party) (ds : List Draw) → FitsNeeds (needs q l list) ds → FitsFront (needs q l xs) ds
      = λ q ds f. fits_first (needs q l xs) _ ds (subst (λ ns. FitsFront ns ds) (needs_cut q l list k s split) (whole_front (needs q l list) ds f)) in
      let on = (here accepts answer c s h going e).on in
      let fine = fine_front accepts l xs (s ∷ drop (suc k) list) (subst (AreFine accepts l) split h.well_formed.fine) in
      record {
        fine = fine_here accepts answer c s h e;
        fits = fits_run v l (part_before c.slots) xs c.given fine (start_fits v c.list.first c.slots h.long h.below) (front v c.given.own h.own) (front (next v) c.given.following h.following) h.words on;
        own = subst (λ ds. FitsNeeds (at v (needs_of (layout_here c) s)) (take (length (at v (needs_of (layout_here c) s))) ds)) (sym (rest_own v l xs c.given)) (next_fits v l list k s c.given.own split h.own);
        following = subst (λ ds. FitsNeeds (at (next v) (needs_of (layout_here c) s)) (take (length (at (next v) (needs_of (layout_here c) s))) ds)) (sym (rest_following v l xs c.given))
            (next_fits (next v) l list k s c.given.following split h.following);
      }
