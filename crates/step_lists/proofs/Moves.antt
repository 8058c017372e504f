-- What registers that are moved together grow, and the layout behind one more step.
use Rattle.std.proofs.Common.{◌≡◌, ℕ, Bool, false, ◌&&◌, List, [], ◌∷◌, ◌++◌, length, map, replicate, refl, sym, ap, subst, ◌∙◌, arith, true≢false}
use Rattle.std.specs.Prelude.{IsTrue, nat_lt, nat_eq, not, Result, Ok, Err, is_err, ⊤}
use Rattle.std.specs.List.{list_all}
use Rattle.std.proofs.lemmas.Bool.Decides.{nat_tests}
use Rattle.step_lists.specs.declared.step.Shape.{Shape}
use Rattle.step_lists.specs.declared.step.Shape.TheVariants as shapes
use Rattle.step_lists.specs.Layout.{Layout, Step, Steps, Reveal, Steer, party_of, length_of, shape_of, rows_moved, grown, grown_by, starting, layout_of, with_lengths, with_shapes}
use Rattle.step_lists.specs.Rules.{is_register, is_party, is_empty, is_order_of, is_slot, is_fine, is_small, fits_layout, move_together, AreFine}
use Rattle.step_lists.specs.Laid.{Laid, IsGrown, IsKept, revealed}
use Rattle.step_lists.specs.RunLaws.{grown_by-append}
use Rattle.step_lists.specs.Possible.{behind}
use Rattle.step_lists.proofs.Rooms.{and_true}

same_lengths : (l : Layout) (n : ℕ) (moved : List ℕ) → IsTrue (list_all (λ r. is_register l r && nat_eq (length_of l r) n) moved)
    → map (length_of l) moved ≡ replicate (length moved) n
same_lengths l n [] h = refl
same_lengths l n (r ∷ rs) h =
    let both = and_true (is_register l r && nat_eq (length_of l r) n) (list_all (λ r. is_register l r && nat_eq (length_of l r) n) rs) h in
    let test = (and_true (is_register l r) (nat_eq (length_of l r) n) both.0).1 in
    let here : length_of l r ≡ n = grind (arith, nat_tests) in
    ap (λ k. k ∷ map (length_of l) rs) here ∙ ap (λ ns. n ∷ ns) (same_lengths l n rs both.1)

pub lengths_moved : (l : Layout) (moved : List ℕ) → IsTrue (move_together l moved) → map (length_of l) moved ≡ replicate (length moved) (rows_moved l moved)
lengths_moved l moved h =
    same_lengths l (rows_moved l moved) moved
    (and_true (not (is_empty moved)) (list_all (λ r. is_register l r && nat_eq (length_of l r) (rows_moved l moved)) moved) h).1

same_shapes : (shape : Shape) (shown : List ℕ) → map (λ k. shape) shown ≡ replicate (length shown) shape
same_shapes shape [] = refl
same_shapes shape (k ∷ ks) = ap (λ rest. shape ∷ rest) (same_shapes shape ks)

module _ {T : Type 0} (accepts : T → List Shape → List Shape → Bool) (l : Layout) where
  pub grown_reveal : (step : Step T) (to : ℕ) (moved shown : List ℕ) (rows m k : ℕ) → IsTrue (is_fine accepts l step) → step ≡ Reveal to moved shown
      → rows ≡ rows_moved l moved → m ≡ length moved → k ≡ length shown → revealed l rows m (party_of to) k ≡ grown l step
  grown_reveal step to moved shown rows m k fine is p q r =
      let now : IsTrue (is_fine accepts l (Reveal to moved shown)) = subst (λ s. IsTrue (is_fine accepts l s)) is fine in
      let fits = (and_true (fits_layout accepts l (Reveal to moved shown)) (is_small (grown {T = T} l (Reveal to moved shown))) now).0 in
      let front = (and_true (is_party to && move_together l moved && not (is_empty shown)) (list_all (λ k. nat_lt k (length moved)) shown) fits).0 in
      let together = (and_true (is_party to) (move_together l moved) (and_true (is_party to && move_together l moved) (not (is_empty shown)) front).0).1 in
      ap (λ rows. revealed l rows m (party_of to) k) p ∙ ap (λ m. revealed l (rows_moved l moved) m (party_of to) k) q
      ∙ ap (λ k. revealed l (rows_moved l moved) (length moved) (party_of to) k) r
      ∙ ap (λ ns. with_shapes (with_lengths l ns) (party_of to) (replicate (length shown) (shapes.Words (rows_moved l moved)))) (sym (lengths_moved l moved together))
      ∙ ap (with_shapes (with_lengths l (map (length_of l) moved)) (party_of to)) (sym (same_shapes (shapes.Words (rows_moved l moved)) shown))
      ∙ ap (grown l) (sym is)

  pub grown_steer : (step : Step T) (by slot : ℕ) (moved : List ℕ) (rows m : ℕ) → IsTrue (is_fine accepts l step) → step ≡ Steer by slot moved
      → rows ≡ rows_moved l moved → m ≡ length moved → with_lengths l (replicate m rows) ≡ grown l step
  grown_steer step by slot moved rows m fine is p q =
      let now : IsTrue (is_fine accepts l (Steer by slot moved)) = subst (λ s. IsTrue (is_fine accepts l s)) is fine in
      let fits = (and_true (fits_layout accepts l (Steer by slot moved)) (is_small (grown {T = T} l (Steer by slot moved))) now).0 in
      let front = (and_true (is_slot l by slot && move_together l moved) (is_order_of (rows_moved l moved) (shape_of l (party_of by) slot)) fits).0 in
      let together = (and_true (is_slot l by slot) (move_together l moved) front).1 in
      ap (λ rows. with_lengths l (replicate m rows)) p ∙ ap (λ m. with_lengths l (replicate m (rows_moved l moved))) q
      ∙ ap (with_lengths l) (sym (lengths_moved l moved together)) ∙ ap (grown l) (sym is)

  -- the room for a step that may come next
  pub fine_room : (step : Step T) → IsTrue (is_fine accepts l step) → IsTrue (is_small (grown l step))
  fine_room step fine = (and_true (fits_layout accepts l step) (is_small (grown l step)) fine).1

-- ---- a growth that didn't fail

pub grown_ok : {E : Type 0} (r : Result ⊤ E) (old new : Laid) (l : Layout) → is_err r ≡ false → IsGrown r old new l → new ≡ record { first = old.first; now = l }
grown_ok (Ok u) old new l e h = h
grown_ok (Err x) old new l e h = absurd (true≢false e)

-- ---- one step more

module _ {T : Type 0} (accepts : T → List Shape → List Shape → Bool) where
  pub fine_append : (l : Layout) (xs ys : List (Step T)) → AreFine accepts l xs → AreFine accepts (grown_by l xs) ys → AreFine accepts l (xs ++ ys)
  fine_append l [] ys h k = k
  fine_append l (x ∷ xs) ys h k = (h.0, fine_append (grown l x) xs ys h.1 k)

  pub kept_pushed : (list : Steps T) (now : Layout) (s : Step T) → IsKept accepts list now → IsTrue (is_fine accepts now s)
      → IsKept accepts (behind list (s ∷ [])) (grown now s)
  kept_pushed list now s h fine = record {
    same = ap (λ l. grown l s) h.same ∙ sym (grown_by-append (starting list.first) list.steps (s ∷ []));
    well_formed = record {
      small = h.well_formed.small;
      fine = fine_append (starting list.first) list.steps (s ∷ []) h.well_formed.fine (subst (λ l. IsTrue (is_fine accepts l s)) h.same fine, tt);
    };
  }

  -- the same for what the code keeps
  pub kept_behind : (steps : List (Step T)) (old new : Laid) (s : Step T) (more : List (Step T))
      → IsKept accepts (record { first = old.first; steps = steps }) old.now → IsTrue (is_fine accepts (layout_of (record { first = old.first; steps = steps })) s)
      → new ≡ record { first = old.first; now = grown old.now s } → more ≡ steps ++ s ∷ []
      → IsKept accepts (record { first = new.first; steps = more }) new.now
  kept_behind steps old new s more h fine is grew =
      let now : IsTrue (is_fine accepts old.now s) = subst (λ l. IsTrue (is_fine accepts l s)) (sym h.same) fine in
      subst (λ n. IsKept accepts (record { first = n.first; steps = more }) n.now) (sym is)
      (subst (λ ss. IsKept accepts (record { first = old.first; steps = ss }) (grown old.now s)) (sym grew)
      (kept_pushed (record { first = old.first; steps = steps }) old.now s h now))
