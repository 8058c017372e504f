-- Draws that are changed one by one.
use Rattle.std.proofs.Common.{◌≡◌, ℕ, zero, suc, ◌+◌, ◌-◌, ◌<◌, ◌≤◌, List, [], ◌∷◌, ◌++◌, Some, None, length, take, drop, refl, sym, ap, ◌∙◌, arith}
use Rattle.std.specs.Prelude.{slice_get}
use Rattle.std.proofs.lemmas.List.{drop_more, append_assoc}
use Rattle.std.proofs.lemmas.Option.{get_or_from_slice_get}
use Rattle.tapes.specs.declared.draw.Draw.{Draw}
use Rattle.tapes.specs.declared.draw.Draw.TheVariants.{Word}
use Rattle.step_lists.specs.Twin.{changed}
use Rattle.twin.specs.Changing.{xored}

-- the part of a tape from one place to another one
abbrev pub part : ℕ → ℕ → List Draw → List Draw
part from to ds = take (to - from) (drop from ds)

pub part_more : (from to : ℕ) (ds : List Draw) (d : Draw) → from < to → to ≤ length ds → slice_get ds from ≡ Some d → part from to ds ≡ d ∷ part (from + 1) to ds
part_more from to ds d lt le is =
    let e : to - from ≡ suc (to - (from + 1)) = omega arith in
    let f : drop from ds ≡ d ∷ drop (from + 1) ds = drop_more ds from d (omega arith) ∙ ap (λ x. x ∷ drop (from + 1) ds) (get_or_from_slice_get ds from d d is) in
    ap (λ k. take k (drop from ds)) e ∙ ap (take (suc (to - (from + 1)))) f

pub part_end : (from to : ℕ) (ds : List Draw) → to ≤ from → part from to ds ≡ []
part_end from to ds le = let e : to - from ≡ 0 = omega arith in ap (λ k. take k (drop from ds)) e

-- a word takes the next change
pub changed_word : (o ws : List ℕ) (used w : ℕ) (ds : List Draw) → changed o (drop used ws) (Word w ∷ ds) ≡ Word (xored w (slice_get ws used)) ∷ changed o (drop (used + 1) ws) ds
changed_word o [] zero w ds = refl
changed_word o [] (suc used) w ds = let e : suc (used + 1) ≡ suc used + 1 = omega arith in ap (λ k. Word w ∷ changed o (drop k []) ds) e
changed_word o (c ∷ ws) zero w ds = refl
changed_word o (c ∷ ws) (suc used) w ds =
    let e : suc (used + 1) ≡ suc used + 1 = omega arith in
    changed_word o ws used w ds ∙ ap (λ k. Word (xored w (slice_get ws used)) ∷ changed o (drop k (c ∷ ws)) ds) e

-- one draw more, of the ones that are still to come
pub one_more : (made made' all xs ys : List Draw) (d : Draw) → all ≡ made ++ xs → xs ≡ d ∷ ys → made' ≡ made ++ d ∷ [] → all ≡ made' ++ ys
one_more made made' all xs ys d h e f = h ∙ (ap (λ zs. made ++ zs) e ∙ (sym (append_assoc made (d ∷ []) ys) ∙ ap (λ zs. zs ++ ys) (sym f)))

-- within a tape there is a draw
pub not_none : (ds : List Draw) (k : ℕ) → k < length ds → None ≡ slice_get ds k → ⊥
not_none [] k lt e = absurd (omega (arith, lt))
not_none (d ∷ ds) zero lt e = cc
not_none (d ∷ ds) (suc k) lt e = not_none ds k (omega (arith, lt)) e

-- the draws from a place on, by the first of them
pub drop_draw : (k : ℕ) (ds : List Draw) (d : Draw) → k < length ds → slice_get ds k ≡ Some d → drop k ds ≡ d ∷ drop (k + 1) ds
drop_draw k ds d lt is = drop_more ds k d lt ∙ ap (λ x. x ∷ drop (k + 1) ds) (get_or_from_slice_get ds k d d is)
