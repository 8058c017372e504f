-- The next step of a core may come where it stands.
use Rattle.std.proofs.Common.{◌≡◌, ℕ, zero, suc, Bool, true, false, not, Some, List, [], ◌∷◌, ◌++◌, take, drop, refl, sym, ap, subst, ◌∙◌, arith}
use Rattle.std.specs.Prelude.{IsTrue, ◌&&◌, ◌==◌, nat_le}
use Rattle.std.proofs.lemmas.Bool.{eqb-false, leb-true}
use Rattle.std.proofs.lemmas.List.{take-append-drop}
use Rattle.lanes.specs.declared.party.Party.{Party}
use Rattle.lanes.specs.declared.party.Party.TheVariants.{First, Second, Third}
use Rattle.lanes.specs.Party.{number_of}
use Rattle.step_lists.specs.declared.step.Shape.{Shape}
use Rattle.step_lists.specs.declared.step.Step.{Step}
use Rattle.step_lists.specs.declared.step.Step.TheVariants.{Tell}
use Rattle.step_lists.specs.Layout.{Layout, party_of, grown, grown_by, starting, shape_of}
use Rattle.step_lists.specs.Rules.{AreFine, fits_layout, is_fine, is_small, is_party, is_slot, is_words}
use Rattle.step_lists.specs.Seen.{same_party}
use Rattle.party_core.specs.CoreView.{CoreView, next_step, layout_here}
use Rattle.party_core.specs.Reached.{IsReached}
use Rattle.party_core.proofs.Steps.{drop_here}

pub both : (a b : Bool) → IsTrue (a && b) → IsTrue a × IsTrue b
both true b h = (refl, h)
both false b h = absurd (false_true h) where
  false_true : false ≡ true → ⊥
  false_true e = cc

false_true : false ≡ true → ⊥
false_true e = cc

pub same_is : (v p : Party) → same_party v p ≡ true → p ≡ v
same_is First First e = refl
same_is Second Second e = refl
same_is Third Third e = refl
same_is First Second e = absurd (false_true e)
same_is First Third e = absurd (false_true e)
same_is Second First e = absurd (false_true e)
same_is Second Third e = absurd (false_true e)
same_is Third First e = absurd (false_true e)
same_is Third Second e = absurd (false_true e)

number_back : (a : ℕ) → IsTrue (is_party a) → number_of (party_of a) ≡ a
number_back zero h = absurd (false_true h)
number_back (suc zero) h = refl
number_back (suc (suc zero)) h = refl
number_back (suc (suc (suc zero))) h = refl
number_back (suc (suc (suc (suc a)))) h =
    let e = leb-true (suc (suc (suc (suc a)))) 3 (both (nat_le 1 (suc (suc (suc (suc a))))) (nat_le (suc (suc (suc (suc a)))) 3) h).1 in absurd (omega (arith, e))

-- numbers of parties that differ are of parties that do
parties_apart : (v : Party) (a b : ℕ) → IsTrue (is_party a) → IsTrue (is_party b) → (a ≡ b → ⊥) → same_party v (party_of b) ≡ true → same_party v (party_of a) ≡ false
parties_apart v a b h k apart e = by (same_party v (party_of a)) refl where
  by : (x : Bool) → same_party v (party_of a) ≡ x → x ≡ false
  by false f = refl
  by true f = absurd (apart (sym (number_back a h) ∙ ap number_of (same_is v (party_of a) f ∙ sym (same_is v (party_of b) e)) ∙ number_back b k))

module _ {T : Type 0} (accepts : T → List Shape → List Shape → Bool) where
  pub fine_at : (l : Layout) (xs : List (Step T)) (s : Step T) (ys : List (Step T)) → AreFine accepts l (xs ++ s ∷ ys) → IsTrue (is_fine accepts (grown_by l xs) s)
  fine_at l [] s ys h = h.0
  fine_at l (x ∷ xs) s ys h = fine_at (grown l x) xs s ys h.1

  pub fine_here : (answer : T → List (List ℕ) → List (List ℕ)) (c : CoreView T) (s : Step T) → IsReached accepts answer c → next_step c ≡ Some s
      → IsTrue (is_fine accepts (layout_here c) s)
  fine_here answer c s h e =
      let k = c.far.steps in
      fine_at (starting c.list.first) (take k c.list.steps) s (drop (suc k) c.list.steps)
      (subst (AreFine accepts (starting c.list.first)) (sym (ap (λ ys. take k c.list.steps ++ ys) (sym (drop_here c.list.steps k s e)) ∙ take-append-drop k c.list.steps)) h.well_formed.fine)

  pub told_apart : (v : Party) (l : Layout) (source target s : ℕ) → IsTrue (is_fine accepts l (Tell source target s)) → same_party v (party_of target) ≡ true
      → same_party v (party_of source) ≡ false
  told_apart v l source target s h e =
      let t : Step T = Tell source target s in
      let one = (both (fits_layout accepts l t) (is_small (grown l t)) h).0 in
      let two = both (is_slot l source s && is_party target && not (source == target)) (is_words (shape_of l (party_of source) s)) one in
      let three = both (is_slot l source s && is_party target) (not (source == target)) two.0 in
      let four = both (is_slot l source s) (is_party target) three.0 in
      parties_apart v source target (both (is_party source) _ four.0).0 four.1 (unequal source target three.1) e
    where
      unequal : (a b : ℕ) → IsTrue (not (a == b)) → a ≡ b → ⊥
      unequal a b h e = eqb-false a b (flip (a == b) h) e where
        flip : (b : Bool) → not b ≡ true → b ≡ false
        flip false h = refl
        flip true h = absurd (false_true h) where
          false_true : false ≡ true → ⊥
          false_true e = cc
