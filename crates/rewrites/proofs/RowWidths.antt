-- Rows of one width, as they are lent.
use Rattle.std.proofs.Common.{◌≡◌, ℕ, ◌<◌, List, map, length, get_or, sym, ◌∙◌, ap, subst}
use Rattle.std.specs.List.{All}
use Rattle.std.proofs.lemmas.List.{get_or-map, length-map}
use Rattle.plain_operators.specs.Sizes.{AllWide}

-- what is asked of rows by their width
pub fits_rows : {X : Type 0} (P : ℕ → Type 0) (f : X → List ℕ) (xs : List X) (rows : List (List ℕ)) (w : ℕ) → map f xs ≡ rows → AllWide w rows → P w → All (λ x. P (length (f x))) xs
fits_rows P f xs rows w e wide h k d below =
    let inside : k < length rows = subst (λ n. k < n) (sym (length-map xs f) ∙ ap length e) below in
    let at : get_or rows k (f d) ≡ f (get_or xs k d) = ap (λ l. get_or l k (f d)) (sym e) ∙ get_or-map f xs k d (f d) below in
    let long : length (get_or rows k (f d)) ≡ w = wide k (f d) inside in
    subst P (sym long ∙ ap length at) h

pub wide_rows : {X : Type 0} (f : X → List ℕ) (xs : List X) (rows : List (List ℕ)) (w v : ℕ) → map f xs ≡ rows → AllWide w rows → w ≡ v → All (λ x. length (f x) ≡ v) xs
wide_rows f xs rows w v e wide same = fits_rows (λ n. n ≡ v) f xs rows w e wide same
