-- Distinct rows and groups by places, at only some of which a row stands.
use Rattle.std.proofs.Common.{◌≡◌, ℕ, zero, suc, ◌+◌, Bool, true, false, cond, not, ◌||◌, List, [], ◌∷◌, ◌++◌, map, refl, sym, ◌∙◌, ap, arith}
use Rattle.std.specs.List.{filter, list_any, range_with_len}
use Rattle.std.specs.Cmp.Lexicographic.{nat_list_eq_equiv}
use Rattle.std.proofs.lemmas.List.{map-append, map-id}
use Rattle.std.proofs.lemmas.List.Elements.{filter-append}
use Rattle.std.proofs.lemmas.List.FromFn.{map-range_with_len_more}
use Rattle.bags.specs.Bag.{row_eq}
use Rattle.plain_operators.specs.Columns.{cut}
use Rattle.plain_operators.specs.Firsts.{DistinctOfFirsts, GroupOfFirsts, is_first, places_alike, standing}
use Rattle.plain_operators.specs.Operators.{aggregates_of, distinct_rows, grouped_row}
use Rattle.plain_operators.proofs.DistinctRows.{among, distinct_more}
use Rattle.plain_operators.proofs.Lists.{filter-map, map_map, map_same}

range_more : (n : ℕ) → range_with_len 0 (suc n) ≡ range_with_len 0 n ++ n ∷ []
range_more n =
    let same : suc n ≡ n + 1 = omega arith in
    ap (range_with_len 0) same ∙ sym (map-id (range_with_len 0 (n + 1))) ∙ map-range_with_len_more (λ (k : ℕ). k) 0 n n (omega arith) ∙ ap (λ l. l ++ n ∷ []) (map-id (range_with_len 0 n))

-- a row is among those that stand
among_standing : (stands : ℕ → Bool) (row : ℕ → List ℕ) (key : List ℕ) (places : List ℕ) → among (map row (filter stands places)) key ≡ list_any (λ other. cond (stands other) (row_eq (row other) key) false) places
among_standing stands row key [] = refl
among_standing stands row key (p ∷ places) = by (stands p) (among_standing stands row key places)
  where
    by : (b : Bool) → among (map row (filter stands places)) key ≡ list_any (λ other. cond (stands other) (row_eq (row other) key) false) places
        → among (map row (cond b (p ∷ filter stands places) (filter stands places))) key ≡ (cond b (row_eq (row p) key) false || list_any (λ other. cond (stands other) (row_eq (row other) key) false) places)
    by true rest = λ i. nat_list_eq_equiv.symm key (row p) i || rest i
    by false rest = rest

-- one more place
one_more : (stands : ℕ → Bool) (row : ℕ → List ℕ) (places : List ℕ) (p : ℕ) (b : Bool)
    → distinct_rows (map row (filter stands places) ++ map row (cond b (p ∷ []) [])) ≡ distinct_rows (map row (filter stands places)) ++ map row (cond (cond b (not (among (map row (filter stands places)) (row p))) false) (p ∷ []) [])
one_more stands row places p true = distinct_more (map row (filter stands places)) (row p) ∙ ap (λ l. distinct_rows (map row (filter stands places)) ++ l) (by (not (among (map row (filter stands places)) (row p))))
  where
    by : (b : Bool) → cond b (row p ∷ []) [] ≡ map row (cond b (p ∷ []) [])
    by true = refl
    by false = refl
one_more stands row places p false = ap distinct_rows (nothing (map row (filter stands places))) ∙ sym (nothing (distinct_rows (map row (filter stands places))))
  where
    nothing : (xs : List (List ℕ)) → xs ++ [] ≡ xs
    nothing [] = refl
    nothing (x ∷ xs) = ap (λ l. x ∷ l) (nothing xs)

pub distinct_of_firsts : DistinctOfFirsts
distinct_of_firsts stands row zero = refl
distinct_of_firsts stands row (suc n) =
    let places = range_with_len 0 n in
    let first = is_first stands row in
    ap (λ l. distinct_rows (map row (filter stands l))) (range_more n)
    ∙ ap (λ l. distinct_rows (map row l)) (filter-append stands places (n ∷ []))
    ∙ ap distinct_rows (map-append row (filter stands places) (filter stands (n ∷ [])))
    ∙ one_more stands row places n (stands n)
    ∙ (λ i. distinct_of_firsts stands row n i ++ map row (cond (cond (stands n) (not (among_standing stands row (row n) places i)) false) (n ∷ []) []))
    ∙ sym (map-append row (filter first places) (filter first (n ∷ [])))
    ∙ ap (map row) (sym (filter-append first places (n ∷ [])))
    ∙ ap (λ l. map row (filter first l)) (sym (range_more n))

pub group_of_firsts : GroupOfFirsts
group_of_firsts keys aggregates stands row count =
    let places = standing stands count in
    let key = λ (place : ℕ). cut keys (row place) in
    let firsts = standing (is_first stands key) count in
    let rows = map row places in
    ap (λ l. map (grouped_row keys aggregates rows) (distinct_rows l)) (map_map (cut keys) row places)
    ∙ ap (map (grouped_row keys aggregates rows)) (distinct_of_firsts stands key count)
    ∙ map_map (grouped_row keys aggregates rows) key firsts
    ∙ map_same (λ place. grouped_row keys aggregates rows (key place)) (λ place. key place ++ aggregates_of aggregates (map row (places_alike keys stands row count place)))
    (λ place. ap (λ l. key place ++ aggregates_of aggregates l) (filter-map (λ other. row_eq (cut keys other) (key place)) row places)) firsts
