-- What the single kinds of steps need of a part that is ready, and what those that move registers send and make.
use Rattle.std.proofs.Common.{◌≡◌, ℕ, Bool, List, map, sym, subst}
use Rattle.std.specs.Prelude.{⊤, IsTrue, Result, IfOk, OnOk, slice_index_or}
use Rattle.std.proofs.lemmas.Result.{IfOk-weaker}
use Rattle.lanes.specs.declared.party.Party.{Party}
use Rattle.step_lists.specs.declared.step.Shape.{Shape}
use Rattle.step_lists.specs.declared.step.Step.{Step}
use Rattle.step_lists.specs.declared.step.Step.TheVariants.{And, Reveal, Steer, Work}
use Rattle.step_lists.specs.Draws.{nothing}
use Rattle.step_lists.specs.Layout.{Layout, grown, party_of, shape_of, rows_moved}
use Rattle.step_lists.specs.Open.{item}
use Rattle.step_lists.specs.Part.{Given, Part, part_step, stage_sends}
use Rattle.step_lists.specs.Rules.{fits_layout, is_fine, is_small}
use Rattle.step_lists.specs.Seen.{same_party}
use Rattle.step_lists.specs.Shapes.{IsInput}
use Rattle.party_core.specs.declared.outbox.Outbox.{Outbox}
use Rattle.party_core.specs.Calls.{posted}
use Rattle.party_core.specs.Doing.{IsMasked, IsReady, posted_of}
use Rattle.party_core.specs.Holding.{rows_of}
use Rattle.party_core.proofs.Fine.{both}
use Rattle.party_core.proofs.StepFits.{and_masked, work_accepted, work_shaped}

module _ {T : Type 0} (accepts : T → List Shape → List Shape → Bool) (answer : T → List (List ℕ) → List (List ℕ)) where
  laid : (l : Layout) (s : Step T) → IsTrue (is_fine accepts l s) → IsTrue (fits_layout accepts l s)
  laid l s h = (both (fits_layout accepts l s) (is_small (grown l s)) h).0

  pub and_ready : (v : Party) (l : Layout) (s : Step T) (a : Part) (g : Given) (left right : ℕ) → s ≡ And left right → IsReady accepts v l s a g → IsMasked a left right g
  and_ready v l s a g left right e h =
      let r = subst (λ s. IsReady accepts v l s a g) e h in
      and_masked accepts answer v l a left right g (laid l (And left right) r.fine) r.fits r.own r.following

  pub work_ready : (v : Party) (l : Layout) (s : Step T) (a : Part) (g : Given) (party : ℕ) (task : T) (takes : List ℕ) (gives : List Shape) → s ≡ Work party task takes gives
      → IsReady accepts v l s a g → IsTrue (same_party v (party_of party)) → IsInput (accepts task) (map (item a.slots) takes)
  work_ready v l s a g party task takes gives e h own =
      let r = subst (λ s. IsReady accepts v l s a g) e h in
      let i = laid l (Work party task takes gives) r.fine in
      record {
        takes = map (shape_of l (party_of party)) takes;
        gives = gives;
        accepted = work_accepted accepts answer l party task takes gives i;
        shaped = work_shaped accepts answer v l a party task takes gives i r.fits own;
      }

  -- ---- a Reveal and a Steer, which are carried out whatever the tasks are

  abbrev Sent : {E : Type 0} → Result Outbox E → Party → Part → Given → ℕ → ℕ → Step T → Type 0
  Sent r v a g rows stage s = IfOk r (λ out. (l : Layout) → rows_of l s ≡ rows → posted out ≡ posted_of v (slice_index_or (stage_sends v l a s g) stage nothing))

  pub reveal_sent : {E : Type 0} (r : Result Outbox E) (v : Party) (a : Part) (g : Given) (rows stage : ℕ) (s : Step T) (to : ℕ) (moved shown ms ss : List ℕ) → ms ≡ moved → ss ≡ shown
      → s ≡ Reveal to moved shown
      → IfOk r (λ out. (l : Layout) → rows_moved l ms ≡ rows → posted out ≡ posted_of v (slice_index_or (stage_sends {T = ⊤} v l a (Reveal to ms ss) g) stage nothing))
      → IfOk r (λ out. (l : Layout) → rows_of l s ≡ rows → posted out ≡ posted_of v (slice_index_or (stage_sends v l a s g) stage nothing))
  reveal_sent r v a g rows stage s to moved shown ms ss e f is h =
      subst (Sent r v a g rows stage) (sym is)
      (subst (λ ms. Sent r v a g rows stage (Reveal to ms shown)) e (subst (λ ss. Sent r v a g rows stage (Reveal to ms ss)) f h))

  pub steer_sent : {E : Type 0} (r : Result Outbox E) (v : Party) (a : Part) (g : Given) (rows stage : ℕ) (s : Step T) (by slot : ℕ) (moved ms : List ℕ) → ms ≡ moved → s ≡ Steer by slot moved
      → IfOk r (λ out. (l : Layout) → rows_moved l ms ≡ rows → posted out ≡ posted_of v (slice_index_or (stage_sends {T = ⊤} v l a (Steer by slot ms) g) stage nothing))
      → IfOk r (λ out. (l : Layout) → rows_of l s ≡ rows → posted out ≡ posted_of v (slice_index_or (stage_sends v l a s g) stage nothing))
  steer_sent r v a g rows stage s by slot moved ms e is h =
      subst (Sent r v a g rows stage) (sym is) (subst (λ ms. Sent r v a g rows stage (Steer by slot ms)) e h)

  abbrev Made : {X E : Type 0} → Result X E → Party → Part → Part → Given → ℕ → Step T → Type 0
  Made r v a new g rows s = OnOk r ((l : Layout) → rows_of l s ≡ rows → new ≡ part_step answer v l a s g)

  pub reveal_made : {X E : Type 0} (r : Result X E) (v : Party) (a new : Part) (g : Given) (rows : ℕ) (s : Step T) (to : ℕ) (moved shown ms ss : List ℕ) → ms ≡ moved → ss ≡ shown
      → s ≡ Reveal to moved shown
      → OnOk r ((answer : ⊤ → List (List ℕ) → List (List ℕ)) (l : Layout) → rows_moved l ms ≡ rows → new ≡ part_step answer v l a (Reveal to ms ss) g)
      → OnOk r ((l : Layout) → rows_of l s ≡ rows → new ≡ part_step answer v l a s g)
  reveal_made r v a new g rows s to moved shown ms ss e f is h =
      let made : Made r v a new g rows (Reveal to ms ss) = IfOk-weaker r _ _ (λ x k l j. k (λ task words. words) l j) h in
      subst (Made r v a new g rows) (sym is)
      (subst (λ ms. Made r v a new g rows (Reveal to ms shown)) e (subst (λ ss. Made r v a new g rows (Reveal to ms ss)) f made))

  pub steer_made : {X E : Type 0} (r : Result X E) (v : Party) (a new : Part) (g : Given) (rows : ℕ) (s : Step T) (by slot : ℕ) (moved ms : List ℕ) → ms ≡ moved → s ≡ Steer by slot moved
      → OnOk r ((answer : ⊤ → List (List ℕ) → List (List ℕ)) (l : Layout) → rows_moved l ms ≡ rows → new ≡ part_step answer v l a (Steer by slot ms) g)
      → OnOk r ((l : Layout) → rows_of l s ≡ rows → new ≡ part_step answer v l a s g)
  steer_made r v a new g rows s by slot moved ms e is h =
      let made : Made r v a new g rows (Steer by slot ms) = IfOk-weaker r _ _ (λ x k l j. k (λ task words. words) l j) h in
      subst (Made r v a new g rows) (sym is) (subst (λ ms. Made r v a new g rows (Steer by slot ms)) e made)
