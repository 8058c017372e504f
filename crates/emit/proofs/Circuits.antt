-- What circuits add to a list, and which environments its wires have.
use Rattle.std.proofs.Common.{◌≡◌, ℕ, suc, zero, ◌+◌, ◌<◌, ◌≤◌, Bool, true, false, cond, List, [], ◌∷◌, ◌++◌, length, map, get_or, refl, sym, ap, ◌∙◌, subst, arith, true≢false}
use Rattle.std.specs.Prelude.{IsTrue}
use Rattle.std.specs.List.{AllZip}
use Rattle.std.proofs.lemmas.List.Elements.{All-head, All-tail}
use Rattle.wires.specs.Environment.{words}
use Rattle.wires.specs.Growth.{AreMade, IsMade}
use Rattle.wires.specs.declared.wire.Wire.{Wire}
use Rattle.lanes.specs.declared.party.Party.{Party}
use Rattle.step_lists.specs.declared.step.Shape.{Shape}
use Rattle.step_lists.specs.declared.step.Step.{Step}
use Rattle.step_lists.specs.declared.step.Step.TheVariants.{Const, Lin, And, Share, Reveal, Steer, Tell, Work, Flag}
use Rattle.step_lists.specs.Layout.{Layout, Steps, grown, layout_of, starting}
use Rattle.step_lists.specs.Draws.{ThreeTapes, needs_of, taken, dropped}
use Rattle.step_lists.specs.Run.{tape_cut, rest_after}
use Rattle.step_lists.specs.Open.{Open, SlotWords, open_of, open_going}
use Rattle.step_lists.specs.Possible.{Possible, StandsIn, ands_in}
use Rattle.step_lists.specs.Prefixes.{layout_prefix, possible_prefix, register_prefix}
use Rattle.step_lists.specs.Seen.{AreAlike, none, seen_from, seen_step}
use Rattle.step_lists.specs.Laws.{ValuesHaveShapes}
use Rattle.emit.specs.Adds.{Adds, AllMay, is_circuit, opens_nothing, wants_nothing}
use Rattle.emit.specs.Borrowed.{borrowed}
use Rattle.emit.specs.Emit.{AreOpenValues, GrowsByCircuit, opened}
use Rattle.emit.specs.Laws.{EnvironmentsExist, CarriedIsOpened, CircuitsAdd, QuietStepsAdd, WiresAdd, WiresOpen, WiresStay}

module _ {T : Type 0} (answer : T → List (List ℕ) → List (List ℕ)) where
  -- steps that open nothing show nothing
  unseen : (v : Party) (l : Layout) (o : Open) (ss : List (Step T)) (ds : ThreeTapes) → AllMay opens_nothing ss → seen_from answer v l o ss ds ≡ []
  unseen v l o [] ds h = refl
  unseen v l o (s ∷ ss) ds h =
      ap (λ xs. xs ++ seen_from answer v (grown l s) (open_going answer l o s (taken (needs_of l s) ds)) ss (dropped (needs_of l s) ds)) (one s h.0 o.stop)
      ∙ unseen v (grown l s) (open_going answer l o s (taken (needs_of l s) ds)) ss (dropped (needs_of l s) ds) h.1
    where
      one : (s : Step T) → IsTrue (opens_nothing s) → (b : Bool) → cond b [] (seen_step v l o s) ≡ []
      one s h true = refl
      one (Const ws) h false = refl
      one (Lin op) h false = refl
      one (And x y) h false = refl
      one (Share p r) h false = refl
      one (Work p task takes gives) h false = refl
      one (Steer p r moved) h false = refl
      one (Reveal to moved shown) h false = absurd (true≢false (sym h))
      one (Tell source target r) h false = absurd (true≢false (sym h))
      one (Flag p r) h false = absurd (true≢false (sym h))

  pub quiet_steps_add : QuietStepsAdd answer
  quiet_steps_add a b may n front kinds quiet few = record {
    front = front;
    kinds = kinds;
    words = few;
    shown = λ slots ds p v.
        subst (λ xs. AreAlike xs [])
        (sym (unseen v (layout_of a) (open_of answer a slots ds) front.more (rest_after tape_cut (starting a.first) a.steps ds) quiet)) none;
  }

  pub circuits_add : CircuitsAdd answer
  circuits_add a b n h few = quiet_steps_add a b is_circuit n h.front h.kinds (all h.front.more h.kinds) few
    where
      one : (s : Step T) → IsTrue (is_circuit s) → IsTrue (opens_nothing s)
      one (Const ws) h = refl
      one (Lin op) h = refl
      one (And x y) h = refl
      one (Share p r) h = refl
      one (Steer p r moved) h = refl
      one (Work p task takes gives) h = refl
      one (Reveal to moved shown) h = absurd (true≢false (sym h))
      one (Tell source target r) h = absurd (true≢false (sym h))
      one (Flag p r) h = absurd (true≢false (sym h))

      all : (ss : List (Step T)) → AllMay is_circuit ss → AllMay opens_nothing ss
      all [] k = tt
      all (s ∷ ss) k = (one s k.0, all ss k.1)

  pub wires_add : WiresAdd answer
  wires_add list start wires end cost over grown ends few =
      let steps : GrowsByCircuit list.now (borrowed wires).now = subst (λ a. GrowsByCircuit a (borrowed wires).now) over.now grown.steps in
      subst (λ l. Adds answer (λ (slots : SlotWords). slots) list.now l is_circuit (cost list.now) wants_nothing) (sym ends)
      (circuits_add list.now (borrowed wires).now (cost list.now) steps (subst (λ a. ands_in (borrowed wires).now ≤ ands_in a + cost a) over.now few))

  -- the words of wires that were made before
  same_words : (a b : Steps T) (slots : SlotWords) (ds : ThreeTapes) → StandsIn a b → Possible answer b slots ds
      → (wires : List Wire) → AreMade (layout_of a).registers wires → map (words (opened answer b slots ds)) wires ≡ map (words (opened answer a slots ds)) wires
  same_words a b slots ds front p [] made = refl
  same_words a b slots ds front p (w ∷ ws) made =
      let is_made = λ (wire : Wire). IsMade (layout_of a).registers wire in
      (λ i. register_prefix answer a b slots ds front p w.0 (All-head is_made w ws made) i ∷ same_words a b slots ds front p ws (All-tail is_made w ws made) i)

  pub wires_stay : WiresStay answer
  wires_stay = record {
    made = λ a b front. let g = layout_prefix a b front in record { count = g.count; lanes = g.registers };
    possible = λ a b slots ds front. possible_prefix answer a b slots ds front;
    words = same_words;
  }

zip_at : {A B : Type 0} (R : A → B → Type 0) (xs : List A) (ys : List B) (k : ℕ) (d : A) (e : B) → AllZip R xs ys → k < length xs → R (get_or xs k d) (get_or ys k e)
zip_at R [] ys k d e h i = absurd (omega arith)
zip_at R (x ∷ xs) [] k d e h i = absurd h
zip_at R (x ∷ xs) (y ∷ ys) zero d e h i = h.0
zip_at R (x ∷ xs) (y ∷ ys) (suc k) d e h i = zip_at R xs ys k d e h.1 (omega arith)

module _ {T : Type 0} (accepts : T → List Shape → List Shape → Bool) (answer : T → List (List ℕ) → List (List ℕ)) where
  pub environments_exist : ValuesHaveShapes accepts answer → EnvironmentsExist accepts answer
  environments_exist shaped list slots ds listed p = record {
    slots = slots;
    tapes = ds;
    possible = p;
    same = λ r i. refl;
    fits = λ r i. zip_at _ (layout_of list).registers (open_of answer list slots ds).registers r 0 [] (shaped list slots ds listed.well_formed p).registers i;
    few = λ r i. listed.short r 0 i;
  }

  pub carried_is_opened : ValuesHaveShapes accepts answer → CarriedIsOpened accepts answer
  carried_is_opened shaped list wire n value listed h slots ds p =
      h.value (opened answer list slots ds) (environments_exist shaped list slots ds listed p)

  pub wires_open : EnvironmentsExist accepts answer → WiresOpen accepts answer
  wires_open exist wires end slots ds listed ends p = subst (λ l. AreOpenValues answer l (opened answer end slots ds)) ends (exist end slots ds listed p)
