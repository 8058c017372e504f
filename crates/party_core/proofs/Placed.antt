-- The step of a place in a well-formed list: what it names was made before, and later steps leave it.
use Rattle.std.proofs.Common.{◌≡◌, ℕ, suc, Bool, Some, None, List, [], ◌∷◌, ◌++◌, length, take, drop, refl, sym, ap, subst, ◌∙◌}
use Rattle.std.specs.Prelude.{IsTrue, ◌&&◌, ◌==◌, not, nat_lt, slice_get}
use Rattle.std.specs.List.{list_all}
use Rattle.std.proofs.lemmas.Bool.{ltb-true, lt-ltb}
use Rattle.std.proofs.lemmas.List.{take-append-drop}
use Rattle.lanes.specs.Three.{at}
use Rattle.step_lists.specs.declared.step.Shape.{Shape}
use Rattle.step_lists.specs.declared.step.Step.{Step}
use Rattle.step_lists.specs.declared.step.Step.TheVariants.{And, Share, Reveal, Steer, Tell}
use Rattle.step_lists.specs.Laws.{PrefixKeepsLayout}
use Rattle.step_lists.specs.Layout.{Steps, Layout, party_of, layout_of, length_of, shape_of, rows_moved, starting, grown}
use Rattle.step_lists.specs.Possible.{StandsIn}
use Rattle.step_lists.specs.Rules.{AreFine, IsWellFormed, fits_layout, is_fine, is_small, is_party, is_register, is_slot, is_words, is_order_of, is_empty, move_together}
use Rattle.party_core.specs.Holding.{layout_at}
use Rattle.party_core.proofs.Fine.{both, fine_at}
use Rattle.party_core.proofs.Steps.{drop_here, none_some, some_none, some_same}

abbrev pub front_at : {T : Type 0} → Steps T → ℕ → Steps T
front_at list k = record { first = list.first; steps = take k list.steps }

front_stands : {T : Type 0} (list : Steps T) (k : ℕ) → StandsIn (front_at list k) list
front_stands list k = record { more = drop k list.steps; is = ap (λ xs. record { first = list.first; steps = xs }) (sym (take-append-drop k list.steps)) }

pub register_kept : {T : Type 0} (answer : T → List (List ℕ) → List (List ℕ)) (list : Steps T) (k r : ℕ) → PrefixKeepsLayout answer → IsTrue (is_register (layout_at list k) r)
    → IsTrue (is_register (layout_of list) r) × (length_of (layout_of list) r ≡ length_of (layout_at list k) r)
register_kept answer list k r keeps h =
    let kept = (keeps (front_at list k) list (front_stands list k)).0 r (ltb-true r (length (layout_at list k).registers) h) in
    (lt-ltb r (length (layout_of list).registers) kept.0, kept.1)

pub slot_kept : {T : Type 0} (answer : T → List (List ℕ) → List (List ℕ)) (list : Steps T) (k p s : ℕ) → PrefixKeepsLayout answer → IsTrue (is_slot (layout_at list k) p s)
    → IsTrue (is_slot (layout_of list) p s) × (shape_of (layout_of list) (party_of p) s ≡ shape_of (layout_at list k) (party_of p) s)
slot_kept answer list k p s keeps h =
    let b = both (is_party p) (nat_lt s (length (at (party_of p) (layout_at list k).slots))) h in
    let kept = (keeps (front_at list k) list (front_stands list k)).1 (party_of p) s (ltb-true s (length (at (party_of p) (layout_at list k).slots)) b.1) in
    (ap (λ x. x && nat_lt s (length (at (party_of p) (layout_of list).slots))) b.0 ∙ lt-ltb s (length (at (party_of p) (layout_of list).slots)) kept.0, kept.1)

-- ---- registers that are moved together

pub first_moves : (l : Layout) (moved : List ℕ) (r : ℕ) → IsTrue (move_together l moved) → slice_get moved 0 ≡ Some r → IsTrue (is_register l r) × (length_of l r ≡ rows_moved l moved)
first_moves l [] r h e = absurd (none_some r e)
first_moves l (x ∷ xs) r h e =
    let f : ℕ → Bool = λ r. is_register l r && (length_of l r == rows_moved l (x ∷ xs)) in
    let all = (both (not (is_empty (x ∷ xs))) (list_all f (x ∷ xs)) h).1 in
    let one = (both (f x) (list_all f xs) all).0 in
    let same = some_same x r e in
    (subst (λ r. IsTrue (is_register l r)) same (both (is_register l x) (length_of l x == rows_moved l (x ∷ xs)) one).0, ap (length_of l) (sym same))

pub none_move : (l : Layout) (moved : List ℕ) → slice_get moved 0 ≡ None → 0 ≡ rows_moved l moved
none_move l [] e = refl
none_move l (x ∷ xs) e = absurd (some_none x e)

module _ {T : Type 0} (accepts : T → List Shape → List Shape → Bool) where
  pub fine_place : (list : Steps T) (k : ℕ) (s : Step T) → IsWellFormed accepts list → slice_get list.steps k ≡ Some s → IsTrue (is_fine accepts (layout_at list k) s)
  fine_place list k s h e =
      fine_at accepts (starting list.first) (take k list.steps) s (drop (suc k) list.steps)
      (subst (AreFine accepts (starting list.first)) (sym (ap (λ ys. take k list.steps ++ ys) (sym (drop_here list.steps k s e)) ∙ take-append-drop k list.steps)) h.fine)

  fits_place : (list : Steps T) (k : ℕ) (s t : Step T) → IsWellFormed accepts list → slice_get list.steps k ≡ Some s → s ≡ t → IsTrue (fits_layout accepts (layout_at list k) t)
  fits_place list k s t h e is =
      let l = layout_at list k in
      subst (λ s. IsTrue (fits_layout accepts l s)) is (both (fits_layout accepts l s) (is_small (grown l s)) (fine_place list k s h e)).0

  pub and_made : (list : Steps T) (k : ℕ) (s : Step T) (left right : ℕ) → IsWellFormed accepts list → slice_get list.steps k ≡ Some s → s ≡ And left right
      → IsTrue (is_register (layout_at list k) left)
  and_made list k s left right h e is =
      let l = layout_at list k in
      let f = fits_place list k s (And left right) h e is in
      (both (is_register l left) (is_register l right) (both (is_register l left && is_register l right) (length_of l left == length_of l right) f).0).0

  pub share_made : (list : Steps T) (k : ℕ) (s : Step T) (p slot : ℕ) → IsWellFormed accepts list → slice_get list.steps k ≡ Some s → s ≡ Share p slot
      → IsTrue (is_slot (layout_at list k) p slot)
  share_made list k s p slot h e is =
      let l = layout_at list k in
      (both (is_slot l p slot) (is_words (shape_of l (party_of p) slot)) (fits_place list k s (Share p slot) h e is)).0

  pub reveal_made : (list : Steps T) (k : ℕ) (s : Step T) (to : ℕ) (moved shown : List ℕ) → IsWellFormed accepts list → slice_get list.steps k ≡ Some s → s ≡ Reveal to moved shown
      → IsTrue (move_together (layout_at list k) moved)
  reveal_made list k s to moved shown h e is =
      let l = layout_at list k in
      let a = is_party to in
      let b = move_together l moved in
      let c = not (is_empty shown) in
      let d = list_all (λ k. nat_lt k (length moved)) shown in
      let f = fits_place list k s (Reveal to moved shown) h e is in
      (both a b (both (a && b) c (both (a && b && c) d f).0).0).1

  pub steer_made : (list : Steps T) (k : ℕ) (s : Step T) (by slot : ℕ) (moved : List ℕ) → IsWellFormed accepts list → slice_get list.steps k ≡ Some s → s ≡ Steer by slot moved
      → IsTrue (move_together (layout_at list k) moved)
  steer_made list k s by slot moved h e is =
      let l = layout_at list k in
      let a = is_slot l by slot in
      let b = move_together l moved in
      let c = is_order_of (rows_moved l moved) (shape_of l (party_of by) slot) in
      (both a b (both (a && b) c (fits_place list k s (Steer by slot moved) h e is)).0).1

  pub tell_made : (list : Steps T) (k : ℕ) (s : Step T) (source target slot : ℕ) → IsWellFormed accepts list → slice_get list.steps k ≡ Some s → s ≡ Tell source target slot
      → IsTrue (is_slot (layout_at list k) source slot)
  tell_made list k s source target slot h e is =
      let l = layout_at list k in
      let a = is_slot l source slot in
      let b = is_party target in
      let c = not (source == target) in
      let d = is_words (shape_of l (party_of source) slot) in
      (both a b (both (a && b) c (both (a && b && c) d (fits_place list k s (Tell source target slot) h e is)).0).0).0
