-- A core that makes a turn: what it is ready for, what it sends, and what it keeps behind it.
use Rattle.std.proofs.Common.{◌≡◌, ℕ, zero, suc, ◌<◌, ◌≤◌, Bool, true, false, cond, Some, List, [], ◌∷◌, ◌++◌, length, refl, sym, ap, subst, ◌∙◌, arith}
use Rattle.std.specs.Prelude.{◌||◌, nat_lt, slice_get, slice_index_or}
use Rattle.std.proofs.lemmas.Bool.{lt-ltb, le-ltb}
use Rattle.lanes.specs.declared.party.Party.{Party}
use Rattle.lanes.specs.declared.three.Three.{Three}
use Rattle.step_lists.specs.declared.step.Shape.{Shape}
use Rattle.step_lists.specs.declared.step.Step.{Step}
use Rattle.step_lists.specs.Layout.{Steps, Layout}
use Rattle.step_lists.specs.Draws.{nothing}
use Rattle.step_lists.specs.Part.{Given, Part, part_step, stage_sends, stage_takes, takes_nothing}
use Rattle.party_core.specs.declared.places.Places.{Places}
use Rattle.party_core.specs.declared.want.Want.TheVariants.{Turn}
use Rattle.party_core.specs.Calls.{Posted, more_posted}
use Rattle.party_core.specs.CoreView.{CoreView, Far, next_step, layout_here, given_for, behind_stage, behind_turn, far_turned, turned_on}
use Rattle.party_core.specs.Core.{part_so_far, sends_in, turn_sends, want_of}
use Rattle.party_core.specs.Doing.{CoresAreReady, IsReady, portion_here, posted_of}
use Rattle.party_core.specs.Held.{IsHeld, seen_of}
use Rattle.party_core.specs.Holding.{rows_of, takes_by}
use Rattle.party_core.specs.Reached.{IsReached}
use Rattle.party_core.specs.Stages.{takes_at, takes_none, waits_at, stage_count}
use Rattle.party_core.proofs.Counting.{takes_are}
use Rattle.party_core.proofs.Here.{Here, here}
use Rattle.party_core.proofs.Keeping.{IsNow, kept_sends, now_within, now_behind, slots_there}
use Rattle.party_core.proofs.Kept.{last_stage}
use Rattle.party_core.proofs.Moves.{filled_here, turn_kept}
use Rattle.party_core.proofs.Portions.{next_places, portion_is}
use Rattle.party_core.proofs.Steps.{none_some}
use Rattle.party_core.proofs.Wanting.{InTurn, wants_turn, ready_none}

-- an item that is known to stand there
pub found : {A : Type 0} (xs : List A) (k : ℕ) (t x : A) → slice_get xs k ≡ Some t → x ≡ slice_index_or xs k x → slice_get xs k ≡ Some x
found [] zero t x e f = absurd (none_some t e)
found [] (suc k) t x e f = absurd (none_some t e)
found (y ∷ xs) zero t x e f = ap (λ y. Some y) (sym f)
found (y ∷ xs) (suc k) t x e f = found xs k t x e f

pub within : {A : Type 0} (xs : List A) (k : ℕ) (x : A) → slice_get xs k ≡ Some x → k < length xs
within [] zero x e = absurd (none_some x e)
within [] (suc k) x e = absurd (none_some x e)
within (y ∷ xs) zero x e = omega arith
within (y ∷ xs) (suc k) x e = let h = within xs k x e in omega (arith, h)

-- what is added to an outbox
pub posted_more : (v : Party) (words sent : Three (List ℕ)) (old more new : Posted) → more ≡ posted_of v words → words ≡ sent
    → new ≡ record { next = old.next ++ more.next; previous = old.previous ++ more.previous } → new ≡ more_posted v sent old
posted_more v words sent old more new e f h =
    h ∙ ap (λ m. record { next = old.next ++ m.next; previous = old.previous ++ m.previous }) e ∙ ap (λ w. more_posted v w old) f

false_true : false ≡ true → ⊥
false_true e = cc

module _ {T : Type 0} (accepts : T → List Shape → List Shape → Bool) (answer : T → List (List ℕ) → List (List ℕ)) where
  -- a core in a step that goes on, with what it keeps
  pub record IsIn (c : CoreView T) (s : Step T) (a : Part) (p : Places) : Type 0 where
    pub here : Here accepts answer c s
    pub ready : IsReady accepts c.party (layout_here c) s a (given_for c s)
    pub portion : portion_here c.given p c.party s (rows_of (layout_here c) s) ≡ given_for c s

  pub is_in : CoresAreReady accepts answer → (c : CoreView T) (s : Step T) (a : Part) (p : Places) → IsHeld accepts answer c a p → (part_so_far answer c).stop ≡ false → next_step c ≡ Some s → IsIn c s a p
  is_in ready c s a p h going e =
      let y = here accepts answer c s h.reached going e in
      let r = ready c s h.reached going e in
      record {
        here = y;
        ready = subst (λ x. IsReady accepts c.party (layout_here c) s x (given_for c s)) (sym h.part)
            (record { fine = r.fine; fits = record { pairs = r.fits.pairs; slots = r.fits.slots; few = r.fits.few }; own = r.own; following = r.following });
        portion = portion_is accepts answer c s c.far.stages p y.on y.total h.places;
      }

  pub record AtTurn (c : CoreView T) (s : Step T) : Type 0 where
    pub going : (part_so_far answer c).stop ≡ false
    pub unturned : c.far.turned ≡ false

  pub at_turn : (c : CoreView T) (s : Step T) → IsReached accepts answer c → want_of answer c ≡ Turn → next_step c ≡ Some s → AtTurn c s
  at_turn c s h e f = record { going = w.going; unturned = by c.far.turned refl } where
    w : InTurn answer c
    w = wants_turn answer c e

    by : (b : Bool) → c.far.turned ≡ b → b ≡ false
    by false t = refl
    by true t =
        let y = here accepts answer c w.step h w.going w.next in
        let n = ready_none c.party (layout_here c) w.step c.far w.wants (ap (λ b. b || waits_at c.party w.step c.far.stages) t) in
        absurd (false_true (sym (y.stands.turned t).0 ∙ n))

  -- the next step, by the list that the code reads
  pub turn_step : (c : CoreView T) (items : List (Step T)) (s : Step T) → want_of answer c ≡ Turn → items ≡ c.list.steps → s ≡ slice_index_or items c.far.steps s → next_step c ≡ Some s
  turn_step c items s w e f =
      let t = wants_turn answer c w in
      found c.list.steps c.far.steps t.step s t.next (f ∙ ap (λ xs. slice_index_or xs c.far.steps s) e)

  -- what the stage sends
  pub sends_are : (c : CoreView T) (s : Step T) (a : Part) (p : Places) (g : Given) → IsHeld accepts answer c a p → next_step c ≡ Some s → g ≡ given_for c s
      → slice_index_or (stage_sends c.party (layout_here c) a s g) c.far.stages nothing ≡ turn_sends answer c
  sends_are c s a p g h e f =
      let v = c.party in
      let l = layout_here c in
      ap (λ g. slice_index_or (stage_sends v l a s g) c.far.stages nothing) f
      ∙ ap (λ a. slice_index_or (stage_sends v l a s (given_for c s)) c.far.stages nothing) h.part
      ∙ ap (λ ss. slice_index_or ss c.far.stages nothing) (kept_sends v l (part_so_far answer c) s (given_for c s))
      ∙ ap (λ o. slice_index_or (sends_in answer c o) c.far.stages nothing) (sym e)

  module _ (list : Steps T) (v : Party) (g : Given) (a : Part) (p : Places) (steps stages : ℕ) (turned : Bool) where
    abbrev pub now : CoreView T
    now = seen_of list v g a.slots steps stages turned

    -- a core that is asked for a turn, in its next step
    pub record IsAsked (s : Step T) : Type 0 where
      pub want : want_of answer now ≡ Turn
      pub next : next_step now ≡ Some s
      pub inside : IsIn now s a p

    pub asked : CoresAreReady accepts answer → IsHeld accepts answer now a p → (old : CoreView T) → now ≡ old → want_of answer old ≡ Turn → (items : List (Step T)) (s : Step T) → items ≡ list.steps
        → s ≡ slice_index_or items steps s → IsAsked s
    asked ready h old is want items s e f =
        let w = ap (want_of answer) is ∙ want in
        let next = turn_step now items s w e f in
        record { want = w; next = next; inside = is_in ready now s a p h (at_turn now s h.reached w next).going next }

    pub given : (s : Step T) (n : ℕ) (portion : Given) → IsAsked s → n ≡ rows_of (layout_here now) s → portion ≡ portion_here g p v s n → portion ≡ given_for now s
    given s n portion y e f = f ∙ ap (λ n. portion_here g p v s n) e ∙ y.inside.portion

    pub is_ready : (s : Step T) (n : ℕ) (portion : Given) → IsAsked s → n ≡ rows_of (layout_here now) s → portion ≡ portion_here g p v s n → (l : Layout) × IsReady accepts v l s a portion
    is_ready s n portion y e f = (layout_here now, subst (λ h. IsReady accepts v (layout_here now) s a h) (sym (given s n portion y e f)) y.inside.ready)

    pub takes_is : (s : Step T) (n : ℕ) (t : Three ℕ) (b x : Bool) → n ≡ rows_of (layout_here now) s → t ≡ slice_index_or (takes_by v s n) stages takes_nothing → b ≡ takes_none t → b ≡ x
        → takes_none (takes_at v (layout_here now) s stages) ≡ x
    takes_is s n t b x e f k h =
        let is = f ∙ ap (λ n. slice_index_or (takes_by v s n) stages takes_nothing) e ∙ ap (λ ts. slice_index_or ts stages takes_nothing) (takes_are v (layout_here now) s) in
        sym (k ∙ ap takes_none is) ∙ h

    pub count_is : (s : Step T) (n : ℕ) → ((v : Party) (k : ℕ) → n ≡ length (takes_by v s k)) → n ≡ stage_count v (layout_here now) s
    count_is s n h = h v (rows_of (layout_here now) s) ∙ ap length (takes_are v (layout_here now) s)

    -- what is sent lies in the outbox
    pub turn_sent : (s : Step T) (n : ℕ) (portion : Given) (old more new : Posted) → IsHeld accepts answer now a p → IsAsked s → n ≡ rows_of (layout_here now) s → portion ≡ portion_here g p v s n
        → ((l : Layout) → rows_of l s ≡ n → more ≡ posted_of v (slice_index_or (stage_sends v l a s portion) stages nothing))
        → new ≡ record { next = old.next ++ more.next; previous = old.previous ++ more.previous } → new ≡ more_posted v (turn_sends answer now) old
    turn_sent s n portion old more new h y e f k post =
        posted_more v (slice_index_or (stage_sends v (layout_here now) a s portion) stages nothing) (turn_sends answer now) old more new (k (layout_here now) (sym e))
        (sends_are now s a p portion h y.next (given s n portion y e f)) post

    -- where it stands behind a turn
    turned_far : (s : Step T) (far : Far) → next_step now ≡ Some s → behind_turn v (layout_here now) s now.far ≡ far → record now { far = far } ≡ turned_on now
    turned_far s far e f = ap (λ far. record now { far = far }) (sym f) ∙ ap (λ o. record now { far = far_turned now o }) (sym e)

    pub turn_stays : (s : Step T) → IsHeld accepts answer now a p → want_of answer now ≡ Turn → next_step now ≡ Some s → takes_none (takes_at v (layout_here now) s stages) ≡ false
        → IsNow answer accepts (turned_on now) list v g a p steps stages true
    turn_stays s h w e n =
        now_within accepts answer list v g a p steps stages stages turned true (turned_on now) h.part h.places
        (turned_far s (record now.far { turned = true }) e (ap (λ b. cond b (behind_stage (stage_count v (layout_here now) s) now.far) (record now.far { turned = true })) n))
        (turn_kept accepts answer now h.reached w).reached

    behind : (s : Step T) (b : Bool) → takes_none (takes_at v (layout_here now) s stages) ≡ true → nat_lt (suc stages) (stage_count v (layout_here now) s) ≡ b
        → behind_turn v (layout_here now) s now.far ≡ cond b (record { steps = steps; stages = suc stages; turned = false }) (record { steps = suc steps; stages = 0; turned = false })
    behind s b n f =
        ap (λ b. cond b (behind_stage (stage_count v (layout_here now) s) now.far) (record now.far { turned = true })) n
        ∙ ap (λ b. cond b (record { steps = steps; stages = suc stages; turned = false }) (record { steps = suc steps; stages = 0; turned = false })) f

    pub turn_passes : (s : Step T) (i : ℕ) → IsHeld accepts answer now a p → want_of answer now ≡ Turn → next_step now ≡ Some s → takes_none (takes_at v (layout_here now) s stages) ≡ true
        → i ≡ suc stages → i < stage_count v (layout_here now) s → IsNow answer accepts (turned_on now) list v g a p steps i turned
    turn_passes s i h w e n f lt =
        now_within accepts answer list v g a p steps stages i turned turned (turned_on now) h.part h.places
        (ap (λ i. seen_of list v g a.slots steps i turned) f
        ∙ ap (λ b. seen_of list v g a.slots steps (suc stages) b) (at_turn now s h.reached w e).unturned
        ∙ turned_far s (record { steps = steps; stages = suc stages; turned = false }) e (behind s true n (lt-ltb (suc stages) (stage_count v (layout_here now) s) (omega (arith, f, lt)))))
        (turn_kept accepts answer now h.reached w).reached

    pub turn_ends : (s : Step T) (b : Part) (q : Places) (k : ℕ) → IsHeld accepts answer now a p → want_of answer now ≡ Turn → next_step now ≡ Some s
        → takes_none (takes_at v (layout_here now) s stages) ≡ true → stage_count v (layout_here now) s ≤ suc stages
        → b ≡ part_step answer v (layout_here now) a s (given_for now s) → q ≡ next_places g p v s (rows_of (layout_here now) s) → k ≡ suc steps
        → IsNow answer accepts (turned_on now) list v g b q k 0 turned
    turn_ends s b q k h w e n le done places f =
        let t = at_turn now s h.reached w e in
        let y = here accepts answer now s h.reached t.going e in
        let last = le-ltb (suc stages) (stage_count v (layout_here now) s) le in
        let is = turned_far s (record { steps = suc steps; stages = 0; turned = false }) e (behind s false n last) in
        let reached = (turn_kept accepts answer now h.reached w).reached in
        let new = now_behind accepts answer list v g a b p q s (suc stages) steps stages k turned turned h.part h.places (slots_there accepts answer list v g a steps stages turned h.reached)
        (filled_here accepts answer now s h.reached y e n) (last_stage stages (stage_takes v (layout_here now) s) last) done places f t.unturned
        (subst (IsReached accepts answer) (sym is) reached) in
        record { held = new.held; is = new.is ∙ is }
