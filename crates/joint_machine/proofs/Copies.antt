-- Slots that are copied, one after the other.
use Rattle.std.proofs.Common.{◌≡◌, ℕ, ◌+◌, ◌<◌, List, [], ◌∷◌, ◌++◌, Vec, length, map, take, get_or, sym, subst, ◌∙◌, ap}
use Rattle.std.specs.Global.{Global}
use Rattle.std.specs.List.{AllByRecursion}
use Rattle.std.proofs.lemmas.List.{map-append, take_more, length-map, get_or-map}
use Rattle.lanes.specs.Word.{AreWords}

all_more : (xs : List (List ℕ)) (x : List ℕ) → AllByRecursion AreWords xs → AreWords x → AllByRecursion AreWords (xs ++ x ∷ [])
all_more [] x h i = (i, tt)
all_more (y ∷ xs) x h i = (h.0, all_more xs x h.1 i)

taken_more : (rows : List (Vec ℕ Global)) (k : ℕ) (item : Vec ℕ Global) → k < length rows → item ≡ get_or rows k item
    → take (k + 1) (map (λ row. row.items) rows) ≡ take k (map (λ row. row.items) rows) ++ item.items ∷ []
taken_more rows k item lt is =
    let f = λ (row : Vec ℕ Global). row.items in
    take_more (map f rows) k [] (rw (length-map rows f) lt)
    ∙ ap (λ x. take k (map f rows) ++ x ∷ []) (get_or-map f rows k item [] lt ∙ ap f (sym is))

pub copied_more : (rows made new : List (Vec ℕ Global)) (k : ℕ) (item x : Vec ℕ Global) → k < length rows → item ≡ get_or rows k item → x.items ≡ item.items
    → new ≡ made ++ x ∷ [] → map (λ row. row.items) made ≡ take k (map (λ row. row.items) rows)
    → map (λ row. row.items) new ≡ take (k + 1) (map (λ row. row.items) rows)
copied_more rows made new k item x lt is e f h =
    let g = λ (row : Vec ℕ Global). row.items in
    ap (map g) f ∙ (map-append g made (x ∷ []) ∙ (ap (λ ys. ys ++ x.items ∷ []) h ∙ (ap (λ y. take k (map g rows) ++ y ∷ []) e ∙ sym (taken_more rows k item lt is))))

pub below_more : (rows : List (Vec ℕ Global)) (k : ℕ) (item : Vec ℕ Global) → k < length rows → item ≡ get_or rows k item → AreWords item.items
    → AllByRecursion AreWords (take k (map (λ row. row.items) rows)) → AllByRecursion AreWords (take (k + 1) (map (λ row. row.items) rows))
below_more rows k item lt is w h =
    subst (AllByRecursion AreWords) (sym (taken_more rows k item lt is)) (all_more (take k (map (λ row. row.items) rows)) item.items h w)
