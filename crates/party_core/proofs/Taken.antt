-- A core that takes the words it wants: what it is ready for, and what it keeps behind them.
use Rattle.std.proofs.Common.{◌≡◌, ℕ, suc, ◌+◌, ◌≤◌, Bool, true, false, cond, Some, List, ◌++◌, length, take, refl, sym, ap, subst, ◌∙◌, arith}
use Rattle.std.specs.Prelude.{nat_lt, slice_index_or}
use Rattle.std.proofs.lemmas.List.{take-append-le, take_all}
use Rattle.lanes.specs.declared.party.Party.{Party}
use Rattle.lanes.specs.declared.party.Party.TheVariants.{First, Second, Third}
use Rattle.lanes.specs.declared.three.Three.{Three}
use Rattle.lanes.specs.Party.{next}
use Rattle.lanes.specs.Three.{at, put}
use Rattle.lanes.specs.Word.{AreWords}
use Rattle.step_lists.specs.declared.step.Shape.{Shape}
use Rattle.step_lists.specs.declared.step.Step.{Step}
use Rattle.step_lists.specs.Layout.{Steps, Layout, party_of}
use Rattle.step_lists.specs.Draws.{needs_of}
use Rattle.step_lists.specs.Part.{Given, Part, has_ended, part_step, stage_takes, takes_nothing, takes_bad_order}
use Rattle.tapes.specs.Needs.{FitsNeeds}
use Rattle.tapes.specs.declared.draw.Draw.{Draw}
use Rattle.party_core.specs.declared.places.Places.{Places}
use Rattle.party_core.specs.declared.want.Want.{Want}
use Rattle.party_core.specs.declared.want.Want.TheVariants.{Turn, Words, Done, Stopped}
use Rattle.party_core.specs.Calls.{IsWanted, wanted_from}
use Rattle.party_core.specs.CoreView.{CoreView, next_step, layout_here, given_for, far_taken, took, with_words}
use Rattle.party_core.specs.Core.{part_so_far, want_of, words_or_turn, breaks_order, breaks_order_in}
use Rattle.party_core.specs.Doing.{CoresAreReady, IsReady, draws_by, portion_here}
use Rattle.party_core.specs.Held.{IsHeld, IsPlaced, kept_of, seen_of}
use Rattle.party_core.specs.Holding.{rows_of, takes_by}
use Rattle.party_core.specs.Reached.{IsReached}
use Rattle.party_core.specs.Stages.{takes_at, stage_count}
use Rattle.party_core.proofs.Counting.{takes_are}
use Rattle.party_core.proofs.Keeping.{IsNow, now_within, now_behind, slots_there}
use Rattle.party_core.proofs.Kept.{Filled, last_stage}
use Rattle.party_core.proofs.Moves.{more, same_so_far, same_here, total_more, filled_more, take_kept}
use Rattle.party_core.proofs.Portions.{next_places, portion_is, room_own, room_following}
use Rattle.party_core.proofs.Runs.{same_given}
use Rattle.party_core.proofs.Steps.{some_same}
use Rattle.party_core.proofs.Turning.{IsIn, is_in, now, found}
use Rattle.party_core.proofs.Wanting.{InStep, WantsWords, wants_words}

-- words that are wanted
pub record AreWanted (w : Want) (words : List ℕ) : Type 0 where
  pub number : ℕ
  pub count : ℕ
  pub is : w ≡ Words number count
  pub long : length words ≡ count

pub are_wanted : (w : Want) (words : List ℕ) → IsWanted w words → AreWanted w words
are_wanted (Words q n) words h = record { number = q; count = n; is = refl; long = h }
are_wanted Turn words h = absurd h
are_wanted Done words h = absurd h
are_wanted (Stopped flag) words h = absurd h

-- words that are taken back
cut_words : (n : ℕ) (xs words : List ℕ) → n ≡ length xs → take n (xs ++ words) ≡ xs
cut_words n xs words e = ap (λ n. take n (xs ++ words)) e ∙ take-append-le (length xs) xs words (omega arith) ∙ take_all (length xs) xs (omega arith)

cut_given : (g : Given) (q : Party) (words : List ℕ) (n : ℕ) → n ≡ length (at q g.received)
    → record (with_words g q words) { received = put q (take n (at q (with_words g q words).received)) (with_words g q words).received } ≡ g
cut_given g First words n e = same_given _ g refl refl (cut_words n g.received.first words e) refl refl
cut_given g Second words n e = same_given _ g refl refl refl (cut_words n g.received.second words e) refl
cut_given g Third words n e = same_given _ g refl refl refl refl (cut_words n g.received.third words e)

pub cut_back : (g fed : Given) (q : Party) (words : List ℕ) (n : ℕ) → fed ≡ with_words g q words → n ≡ length (at q g.received)
    → record fed { received = put q (take n (at q fed.received)) fed.received } ≡ g
cut_back g fed q words n e f =
    let cut : Given → Given = λ m. record m { received = put q (take n (at q m.received)) m.received } in
    ap cut e ∙ cut_given g q words n f

module _ {T : Type 0} (accepts : T → List Shape → List Shape → Bool) (answer : T → List (List ℕ) → List (List ℕ)) where
  -- with more words, in a step of which so many stages have theirs
  pub record IsMore (d : CoreView T) (s : Step T) (a : Part) (p : Places) (m : ℕ) : Type 0 where
    pub part : a ≡ kept_of (part_so_far answer d)
    pub places : IsPlaced answer d p
    pub ready : IsReady accepts d.party (layout_here d) s a (given_for d s)
    pub portion : portion_here d.given p d.party s (rows_of (layout_here d) s) ≡ given_for d s
    pub filled : takes_bad_order d.party (layout_here d) s (given_for d s) ≡ false → Filled accepts answer d s m

  is_more : (c : CoreView T) (s : Step T) (a : Part) (p : Places) (number count : ℕ) (words : List ℕ) → IsHeld accepts answer c a p → IsIn accepts answer c s a p → next_step c ≡ Some s
      → WantsWords c.party (layout_here c) s c.far number count → length words ≡ count → AreWords words → IsMore (more accepts answer c (party_of number) words) s a p (suc c.far.stages)
  is_more c s a p number count words h y e w long below = record {
    part = h.part ∙ ap kept_of (sym same);
    places = placed;
    ready = record { fine = y.ready.fine; fits = y.ready.fits; own = subst OwnFits (sym own) y.ready.own; following = subst FollowingFits (sym following) y.ready.following };
    portion = portion_is accepts answer d s (suc c.far.stages) p on (total_more accepts answer c s number count words y.here w long) placed;
    filled = λ bad. filled_more accepts answer c s number count words h.reached y.here e w long below (ap (λ o. breaks_order_in d o) e ∙ bad);
  } where
    d : CoreView T
    d = more accepts answer c (party_of number) words

    same : part_so_far answer d ≡ part_so_far answer c
    same = same_so_far accepts answer c (party_of number) words y.here.on

    on : has_ended (part_so_far answer d) ≡ false
    on = ap has_ended same ∙ y.here.on

    placed : IsPlaced answer d p
    placed = record { own = h.places.own; following = h.places.following; received = λ q. h.places.received q ∙ ap (λ x. at q x.taken) (sym same) }

    OwnFits : List Draw → Type 0
    OwnFits = FitsNeeds (at c.party (needs_of (layout_here c) s))

    FollowingFits : List Draw → Type 0
    FollowingFits = FitsNeeds (at (next c.party) (needs_of (layout_here c) s))

    own : (given_for d s).own ≡ (given_for c s).own
    own = ap (λ g. take (length (at c.party (needs_of (layout_here c) s))) g.own) (same_here accepts answer c (party_of number) words y.here.on)

    following : (given_for d s).following ≡ (given_for c s).following
    following = ap (λ g. take (length (at (next c.party) (needs_of (layout_here c) s))) g.following) (same_here accepts answer c (party_of number) words y.here.on)

  module _ (list : Steps T) (v : Party) (g : Given) (a : Part) (p : Places) (steps stages : ℕ) (turned : Bool) where
    abbrev core : CoreView T
    core = now accepts answer list v g a p steps stages turned

    -- a core that is given the words it wants
    pub record IsFed (s : Step T) (q : Party) (old : CoreView T) (words : List ℕ) (fed : Given) : Type 0 where
      pub number : ℕ
      pub count : ℕ
      pub want : want_of answer core ≡ Words number count
      pub long : length words ≡ count
      pub below : AreWords words
      pub next : next_step core ≡ Some s
      pub source : q ≡ party_of number
      pub given : fed ≡ with_words g (party_of number) words
      pub more : IsMore (seen_of list v fed a.slots steps stages turned) s a p (suc stages)
      pub bad : breaks_order core (party_of number) words ≡ takes_bad_order v (layout_here core) s (given_for (seen_of list v fed a.slots steps stages turned) s)
      pub took_old : took core (party_of number) words ≡ took old (wanted_from (want_of answer old)) words
      pub breaks_old : breaks_order old (wanted_from (want_of answer old)) words ≡ breaks_order core (party_of number) words

    pub is_fed : CoresAreReady accepts answer → IsHeld accepts answer core a p → (old : CoreView T) → core ≡ old → (words : List ℕ) → IsWanted (want_of answer old) words → AreWords words
        → (items : List (Step T)) (s : Step T) → items ≡ list.steps → s ≡ slice_index_or items steps s → (n : ℕ) → n ≡ rows_of (layout_here core) s
        → (t : Three ℕ) → t ≡ slice_index_or (takes_by v s n) stages takes_nothing → (q : Party) → q ≡ wanted_from (words_or_turn t) → (fed : Given) → fed ≡ with_words g q words
        → IsFed s q old words fed
    is_fed ready h old is words wanted below items s e f n rows t takes q source fed taken = record {
      number = w.number;
      count = w.count;
      want = want;
      long = w.long;
      below = below;
      next = next;
      source = from;
      given = given;
      more = subst (λ d. IsMore d s a p (suc stages)) (sym same) there;
      bad = ap (λ o. breaks_order_in (more accepts answer core r words) o) next ∙ ap (λ d. takes_bad_order v (layout_here core) s (given_for d s)) (sym same);
      took_old = ap (λ q. took core q words) (sym (ap wanted_from want)) ∙ ap (λ x. took x (wanted_from (want_of answer x)) words) is;
      breaks_old = ap (λ x. breaks_order x (wanted_from (want_of answer x)) words) (sym is) ∙ ap (λ q. breaks_order core q words) (ap wanted_from want);
    } where
      w : AreWanted (want_of answer old) words
      w = are_wanted (want_of answer old) words wanted

      r : Party
      r = party_of w.number

      want : want_of answer core ≡ Words w.number w.count
      want = ap (want_of answer) is ∙ w.is

      inside : InStep answer core w.number w.count
      inside = wants_words answer core w.number w.count want

      next : next_step core ≡ Some s
      next = found list.steps steps inside.step s inside.next (f ∙ ap (λ xs. slice_index_or xs steps s) e)

      wants : WantsWords v (layout_here core) s core.far w.number w.count
      wants = subst (λ t. WantsWords v (layout_here core) t core.far w.number w.count) (some_same inside.step s (sym inside.next ∙ next)) inside.wants

      taken_at : t ≡ takes_at v (layout_here core) s stages
      taken_at = takes ∙ ap (λ n. slice_index_or (takes_by v s n) stages takes_nothing) rows ∙ ap (λ ts. slice_index_or ts stages takes_nothing) (takes_are v (layout_here core) s)

      from : q ≡ r
      from = source ∙ ap (λ t. wanted_from (words_or_turn t)) taken_at ∙ ap wanted_from wants.words

      given : fed ≡ with_words g r words
      given = taken ∙ ap (λ q. with_words g q words) from

      same : seen_of list v fed a.slots steps stages turned ≡ more accepts answer core r words
      same = ap (λ g. seen_of list v g a.slots steps stages turned) given

      there : IsMore (more accepts answer core r words) s a p (suc stages)
      there = is_more core s a p w.number w.count words h (is_in accepts answer ready core s a p h inside.going next) next wants w.long below

    -- what is taken in the stage, by the words that came
    pub fed_portion : (s : Step T) (q : Party) (old : CoreView T) (words : List ℕ) (fed : Given) (n : ℕ) → IsFed s q old words fed → n ≡ rows_of (layout_here core) s
        → portion_here fed p v s n ≡ given_for (seen_of list v fed a.slots steps stages turned) s
    fed_portion s q old words fed n y e = ap (λ n. portion_here fed p v s n) e ∙ y.more.portion

    pub fed_ready : (s : Step T) (q : Party) (old : CoreView T) (words : List ℕ) (fed : Given) (n : ℕ) → IsFed s q old words fed → n ≡ rows_of (layout_here core) s
        → (l : Layout) × IsReady accepts v l s a (portion_here fed p v s n)
    fed_ready s q old words fed n y e = (layout_here core, subst (λ h. IsReady accepts v (layout_here core) s a h) (sym (fed_portion s q old words fed n y e)) y.more.ready)

    pub fed_breaks : (s : Step T) (q : Party) (old : CoreView T) (words : List ℕ) (fed : Given) (n : ℕ) → IsFed s q old words fed → n ≡ rows_of (layout_here core) s
        → takes_bad_order v (layout_here core) s (portion_here fed p v s n) ≡ breaks_order old (wanted_from (want_of answer old)) words
    fed_breaks s q old words fed n y e = ap (λ h. takes_bad_order v (layout_here core) s h) (fed_portion s q old words fed n y e) ∙ sym (y.breaks_old ∙ y.bad)

    pub fed_own : (s : Step T) (q : Party) (old : CoreView T) (words : List ℕ) (fed : Given) (n : ℕ) → IsHeld accepts answer core a p → IsFed s q old words fed → n ≡ rows_of (layout_here core) s
        → p.own + draws_by v s n ≤ length fed.own
    fed_own s q old words fed n h y e =
        let room = room_own accepts answer core s p h.reached y.next h.places in
        let k = ap (λ n. draws_by v s n) e in
        let o = ap (λ g. length g.own) y.given in
        omega (arith, room, k, o)

    pub fed_following : (s : Step T) (q : Party) (old : CoreView T) (words : List ℕ) (fed : Given) (n : ℕ) → IsHeld accepts answer core a p → IsFed s q old words fed
        → n ≡ rows_of (layout_here core) s → p.following + draws_by (next v) s n ≤ length fed.following
    fed_following s q old words fed n h y e =
        let room = room_following accepts answer core s p h.reached y.next h.places in
        let k = ap (λ n. draws_by (next v) s n) e in
        let o = ap (λ g. length g.following) y.given in
        omega (arith, room, k, o)

    -- where it stands behind the words
    fed_far : (s : Step T) (q : Party) (old : CoreView T) (words : List ℕ) (fed : Given) (b : Bool) → (y : IsFed s q old words fed) → nat_lt (suc stages) (stage_count v (layout_here core) s) ≡ b
        → record (seen_of list v fed a.slots steps stages turned) { far = cond b (record { steps = steps; stages = suc stages; turned = false }) (record { steps = suc steps; stages = 0; turned = false }) }
        ≡ took core (party_of y.number) words
    fed_far s q old words fed b y e =
        let far = cond b (record { steps = steps; stages = suc stages; turned = false }) (record { steps = suc steps; stages = 0; turned = false }) in
        let far_is = ap (λ b. cond b (record { steps = steps; stages = suc stages; turned = false }) (record { steps = suc steps; stages = 0; turned = false })) e in
        ap (λ g. record core { given = g; far = far }) y.given
        ∙ ap (λ f. record core { given = with_words g (party_of y.number) words; far = f }) (sym far_is)
        ∙ ap (λ o. record core { given = with_words g (party_of y.number) words; far = far_taken core o }) (sym y.next)

    reached_behind : (s : Step T) (q : Party) (old : CoreView T) (words : List ℕ) (fed : Given) → IsHeld accepts answer core a p → (y : IsFed s q old words fed)
        → breaks_order core (party_of y.number) words ≡ false → IsReached accepts answer (took core (party_of y.number) words)
    reached_behind s q old words fed h y good = (take_kept accepts answer core y.number y.count words h.reached y.want y.long y.below good).reached

    pub fed_passes : (s : Step T) (q : Party) (old : CoreView T) (words : List ℕ) (fed : Given) (b : Part) (i : ℕ) → IsHeld accepts answer core a p → IsFed s q old words fed
        → breaks_order old (wanted_from (want_of answer old)) words ≡ false → b ≡ a → i ≡ suc stages → nat_lt (suc stages) (stage_count v (layout_here core) s) ≡ true
        → IsNow answer accepts (took old (wanted_from (want_of answer old)) words) list v fed b p steps i false
    fed_passes s q old words fed b i h y good same e lt =
        let is = ap (λ i. seen_of list v fed a.slots steps i false) e ∙ fed_far s q old words fed true y lt in
        let reached = reached_behind s q old words fed h y (sym y.breaks_old ∙ good) in
        let new = now_within accepts answer list v fed a p steps stages i turned false (took core (party_of y.number) words) y.more.part y.more.places is reached in
        subst (λ d. IsNow answer accepts d list v fed b p steps i false) y.took_old
        (subst (λ x. IsNow answer accepts (took core (party_of y.number) words) list v fed x p steps i false) (sym same) new)

    pub fed_ends : (s : Step T) (q : Party) (old : CoreView T) (words : List ℕ) (fed : Given) (b : Part) (behind : Places) (k : ℕ) → IsHeld accepts answer core a p → IsFed s q old words fed
        → breaks_order old (wanted_from (want_of answer old)) words ≡ false → nat_lt (suc stages) (stage_count v (layout_here core) s) ≡ false
        → b ≡ part_step answer v (layout_here core) a s (given_for (seen_of list v fed a.slots steps stages turned) s)
        → behind ≡ next_places fed p v s (rows_of (layout_here core) s) → k ≡ suc steps
        → IsNow answer accepts (took old (wanted_from (want_of answer old)) words) list v fed b behind k 0 false
    fed_ends s q old words fed b behind k h y good last done places e =
        let is = fed_far s q old words fed false y last in
        let fine = sym y.breaks_old ∙ good in
        let reached = reached_behind s q old words fed h y fine in
        let new = now_behind accepts answer list v fed a b p behind s (suc stages) steps stages k turned false y.more.part y.more.places
        (slots_there accepts answer list v g a steps stages turned h.reached) (y.more.filled (sym y.bad ∙ fine)) (last_stage stages (stage_takes v (layout_here core) s) last) done places e refl
        (subst (IsReached accepts answer) (sym is) reached) in
        subst (λ d. IsNow answer accepts d list v fed b behind k 0 false) y.took_old (record { held = new.held; is = new.is ∙ is })

    -- after a fault it is as before
    pub fed_back : (back : Given) (b : Part) → IsHeld accepts answer core a p → back ≡ g → b ≡ a → IsNow answer accepts core list v back b p steps stages turned
    fed_back back b h e f =
        subst (λ x. IsNow answer accepts core list v back x p steps stages turned) (sym f)
        (subst (λ g. IsNow answer accepts core list v g a p steps stages turned) (sym e) (record { held = h; is = refl }))
