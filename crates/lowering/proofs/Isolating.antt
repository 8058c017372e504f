-- A plan that shows no more than the answers is isolated, by what it shows in each world, what agreeing worlds have alike,
-- and the law of twins.
use Rattle.std.proofs.Common.{◌≡◌, ℕ, List, [], ◌∷◌, ◌++◌, take, drop, sym, ap, ◌∙◌, subst, refl}
use Rattle.std.proofs.lemmas.List.{take-append-drop}
use Rattle.bags.specs.Laws.{BagsAreEquivalence}
use Rattle.clear_tasks.specs.ClearTask.{accepts, answer}
use Rattle.emit.specs.AddsLaws.{seen_behind-append}
use Rattle.lanes.specs.declared.party.Party.{Party}
use Rattle.padded.specs.Laws.{PaddedFits}
use Rattle.step_lists.specs.Draws.{ThreeTapes}
use Rattle.step_lists.specs.Layout.{Steps}
use Rattle.step_lists.specs.Open.{SlotWords, stopped_at}
use Rattle.step_lists.specs.Possible.{SlotsFit, TapesFit, behind}
use Rattle.step_lists.specs.Prefixes.{seen_append}
use Rattle.step_lists.specs.Rules.{IsWellFormed}
use Rattle.step_lists.specs.declared.step.Step.{Step}
use Rattle.step_lists.specs.Seen.{Seen, Alike, AreAlike, also, none, same_flag, same_rows, same_told, seen, seen_behind}
use Rattle.twin.specs.Alike.{ShowAlike, TwinOfAlike}
use Rattle.twin.specs.Apart.{IsApart, front, seen_at}
use Rattle.lowering.specs.FirstSlots.{WorldOf, first_lengths, first_slots, load_world}
use Rattle.lowering.specs.Isolated.{AgreeFor, AgreeingWorldsLookSame, CantTell, IsolatedIsNeverApart, ShowingAnswersIsolates, run_in, twins}
use Rattle.lowering.specs.Plan.{Plan, ShowsAnswers}
use Rattle.lowering.proofs.FirstFit.{first_fits}

-- ---- what is seen alike, the other way round and one after the other

one_back : BagsAreEquivalence → (x y : Seen) → Alike x y → Alike y x
one_back bags x y (same_rows h) = same_rows (bags.back _ _ h)
one_back bags x y (same_told e) = same_told (sym e)
one_back bags x y (same_flag e) = same_flag (sym e)

all_back : BagsAreEquivalence → (xs ys : List Seen) → AreAlike xs ys → AreAlike ys xs
all_back bags [] [] none = none
all_back bags [] (y ∷ ys) h = elim h [ ]
all_back bags (x ∷ xs) [] h = elim h [ ]
all_back bags (x ∷ xs) (y ∷ ys) (also h hs) = also (one_back bags x y h) (all_back bags xs ys hs)

one_along : BagsAreEquivalence → (x y z : Seen) → Alike x y → Alike y z → Alike x z
one_along bags x y z (same_rows h) (same_rows k) = same_rows (bags.along _ _ _ h k)
one_along bags x y z (same_told e) (same_told f) = same_told (e ∙ f)
one_along bags x y z (same_flag e) (same_flag f) = same_flag (e ∙ f)

all_along : BagsAreEquivalence → (xs ys zs : List Seen) → AreAlike xs ys → AreAlike ys zs → AreAlike xs zs
all_along bags [] [] zs none k = k
all_along bags [] (y ∷ ys) zs h k = elim h [ ]
all_along bags (x ∷ xs) [] zs h k = elim h [ ]
all_along bags (x ∷ xs) (y ∷ ys) [] h k = elim k [ ]
all_along bags (x ∷ xs) (y ∷ ys) (z ∷ zs) (also h hs) (also k ks) = also (one_along bags x y z h k) (all_along bags xs ys zs hs ks)

-- ---- a plan

module _ (bags : BagsAreEquivalence) (facts : PaddedFits) (same : AgreeingWorldsLookSame) (law : TwinOfAlike accepts answer)
    (plan : Plan) (well : IsWellFormed accepts plan.list) (first : plan.list.first ≡ first_lengths plan.graph.nodes) (shows : ShowsAnswers plan) where
  slots_fit : (w : WorldOf plan.graph.nodes) → SlotsFit plan.list.first (load_world plan.graph.nodes w)
  slots_fit w = subst (λ lengths. SlotsFit lengths (first_slots plan.graph.nodes w.rows)) (sym first) (first_fits facts plan.graph.nodes w.rows w.fits)

  show_alike : (v : Party) (w other : WorldOf plan.graph.nodes) → AgreeFor plan.graph v w other → ShowAlike answer v plan.list (load_world plan.graph.nodes w) (load_world plan.graph.nodes other)
  show_alike v w other agree =
      let look = same plan.graph v w other agree in
      record {
        worlds = record { one_fits = slots_fit w; other_fits = slots_fit other; viewer = look.slots };
        alike = λ ds es i j. all_along bags _ _ _ (shows.seen_is w ds i v) (all_along bags _ _ _ look.shown (all_back bags _ _ (shows.seen_is other es j v)));
      }

  cant_tell : (v : Party) (w other : WorldOf plan.graph.nodes) → AgreeFor plan.graph v w other → (ds : ThreeTapes) → TapesFit plan.list ds → CantTell plan v w other ds
  cant_tell v w other agree ds tapes =
      let worlds = show_alike v w other agree in
      let twin = law v plan.list (load_world plan.graph.nodes w) (load_world plan.graph.nodes other) well worlds ds tapes in
      let look = twin.pair.look in
      record {
        defined = worlds.alike ds (twins plan v w other ds) tapes twin.fits;
        fits = twin.fits;
        own_tape = look.own_tape;
        following_tape = look.following_tape;
        view = look.view;
        stop = ap (λ b. stopped_at b (run_in plan other (twins plan v w other ds)).flags) look.stop ∙ ap (stopped_at (run_in plan w ds).stop) look.flags;
        back = twin.pair.back;
      }

pub showing_isolates : BagsAreEquivalence → PaddedFits → AgreeingWorldsLookSame → TwinOfAlike accepts answer → ShowingAnswersIsolates
showing_isolates bags facts same law plan well first shows = record { cant_tell = λ v w other agree ds tapes. cant_tell bags facts same law plan well first shows v w other agree ds tapes }

-- ---- no step at which two worlds are apart

alike_as : {xs ys us vs : List Seen} → xs ≡ us → ys ≡ vs → AreAlike xs ys → AreAlike us vs
alike_as {xs} {ys} {us} {vs} e f h = subst (AreAlike us) f (subst (λ zs. AreAlike zs ys) e h)

split : (xs ys : List Seen) (x y : Seen) (us vs : List Seen) → AreAlike xs ys → AreAlike (xs ++ x ∷ us) (ys ++ y ∷ vs) → Alike x y
split [] [] x y us vs none (also h hs) = h
split [] (b ∷ ys) x y us vs h k = elim h [ ]
split (a ∷ xs) [] x y us vs h k = elim h [ ]
split (a ∷ xs) (b ∷ ys) x y us vs (also h hs) (also k ks) = split xs ys x y us vs hs ks

module _ {T : Type 0} (answer : T → List (List ℕ) → List (List ℕ)) (v : Party) (list : Steps T) (k : ℕ) where
  abbrev rest : List (Step T)
  rest = drop k list.steps

  -- what is seen behind step k
  abbrev later : SlotWords → ThreeTapes → List Seen
  later slots ds = seen_behind answer v (behind (front k list) (take 1 rest)) (drop 1 rest) slots ds

  -- what is seen: before step k, at it, and behind it
  seen_is : (slots : SlotWords) (ds : ThreeTapes) → seen answer v list slots ds ≡ seen answer v (front k list) slots ds ++ (seen_at answer v list k slots ds ++ later slots ds)
  seen_is slots ds =
      ap (λ ss. seen answer v (record { first = list.first; steps = ss }) slots ds) (sym (take-append-drop k list.steps))
      ∙ (seen_append answer v (front k list) rest slots ds
      ∙ (ap (λ ss. seen answer v (front k list) slots ds ++ seen_behind answer v (front k list) ss slots ds) (sym (take-append-drop 1 rest))
      ∙ ap (λ xs. seen answer v (front k list) slots ds ++ xs) (seen_behind-append answer v (front k list) (behind (front k list) (take 1 rest)) (take 1 rest) (drop 1 rest) slots ds refl)))

  seen_with : (slots : SlotWords) (ds : ThreeTapes) (x : Seen) → seen_at answer v list k slots ds ≡ x ∷ [] → seen answer v list slots ds ≡ seen answer v (front k list) slots ds ++ (x ∷ later slots ds)
  seen_with slots ds x e = seen_is slots ds ∙ ap (λ xs. seen answer v (front k list) slots ds ++ (xs ++ later slots ds)) e

never_apart : (plan : Plan) (v : Party) (w other : WorldOf plan.graph.nodes) (ds : ThreeTapes) → CantTell plan v w other ds
    → (k : ℕ) (rows others : List (List ℕ)) → ¬ IsApart answer v plan.list (load_world plan.graph.nodes w) (load_world plan.graph.nodes other) ds k rows others
never_apart plan v w other ds h k rows others apart =
    let one = load_world plan.graph.nodes w in
    let two = load_world plan.graph.nodes other in
    let es = twins plan v w other ds in
    apart.differ
    (split (seen answer v (front k plan.list) one ds) (seen answer v (front k plan.list) two es) apart.first apart.second (later answer v plan.list k one ds) (later answer v plan.list k two es)
    apart.before (alike_as (seen_with answer v plan.list k one ds apart.first apart.first_is) (seen_with answer v plan.list k two es apart.second apart.second_is) h.defined))

pub isolated_never_apart : IsolatedIsNeverApart
isolated_never_apart plan h v w other agree ds tapes k rows others = never_apart plan v w other ds (h.cant_tell v w other agree ds tapes) k rows others
