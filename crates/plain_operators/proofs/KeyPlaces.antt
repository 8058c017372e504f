-- A walk over rows that gathers the places of each distinct row.
use Rattle.std.proofs.Common.{◌≡◌, ℕ, zero, suc, ◌+◌, ◌<◌, Bool, true, false, cond, not, List, [], ◌∷◌, ◌++◌, Option, Some, None, is_some, ◌||◌, map, set, length, get_or, refl, sym, ◌∙◌, ap, subst, arith, add-zero, add-one, zero-add, true≢false}
use Rattle.std.specs.Prelude.{◌≢◌}
use Rattle.std.specs.List.{All, filter, range_with_len}
use Rattle.std.specs.Option.{option_map}
use Rattle.std.proofs.lemmas.Bool.{or_parts}
use Rattle.std.proofs.lemmas.List.{append-nil, get_or_append_left, get_or_push, length-map, length_push, map-append}
use Rattle.std.proofs.lemmas.List.Elements.{All-cons, All-filter, All-get_or, All-nil, All-weaker, filter-append}
use Rattle.std.specs.Cmp.Lexicographic.{nat_list_eq_equiv}
use Rattle.bags.specs.Bag.{row_eq}
use Rattle.plain_operators.proofs.BagFacts.{row_decides, row_itself}
use Rattle.plain_operators.specs.Index.{GathersPlaces, place_in}
use Rattle.plain_operators.specs.Operators.{distinct_rows}
use Rattle.plain_operators.specs.Places.{grouped_places, places_of, places_with, row_at}
use Rattle.plain_operators.proofs.DistinctRows.{among, among_distinct, distinct_more, other_row, same_row}
use Rattle.plain_operators.proofs.Lists.{filter_agree_on, filter_none, map_agree, range_below}

-- a place that was found, or else n where the test passes
abbrev pub place_or : Option ℕ → Bool → ℕ → Option ℕ
place_or (Some place) b n = Some place
place_or None b n = cond b (Some n) None

-- each row is another than those after it
abbrev pub AreApart : List (List ℕ) → Type 0
AreApart [] = Unit {0}
AreApart (x ∷ xs) = All (λ other. other ≢ x) xs × AreApart xs

AreApart-filter : (p : List ℕ → Bool) (rows : List (List ℕ)) → AreApart rows → AreApart (filter p rows)
AreApart-filter p [] h = tt
AreApart-filter p (x ∷ xs) h = by (p x) (AreApart-filter p xs h.1)
  where
    by : (b : Bool) → AreApart (filter p xs) → AreApart (cond b (x ∷ filter p xs) (filter p xs))
    by true rest = (All-filter p (λ other. other ≢ x) xs h.0, rest)
    by false rest = rest

pub AreApart-distinct_rows : (rows : List (List ℕ)) → AreApart (distinct_rows rows)
AreApart-distinct_rows [] = tt
AreApart-distinct_rows (x ∷ xs) =
    let p = λ (row : List ℕ). not (row_eq row x) in
    (others (distinct_rows xs), AreApart-filter p (distinct_rows xs) (AreApart-distinct_rows xs))
  where
    others : (rows : List (List ℕ)) → All (λ other. other ≢ x) (filter (λ row. not (row_eq row x)) rows)
    others [] = All-nil (λ other. other ≢ x)
    others (y ∷ ys) = by (row_eq y x) refl (others ys)
      where
        by : (b : Bool) → row_eq y x ≡ b → All (λ other. other ≢ x) (filter (λ row. not (row_eq row x)) ys) → All (λ other. other ≢ x) (cond (not b) (y ∷ filter (λ row. not (row_eq row x)) ys) (filter (λ row. not (row_eq row x)) ys))
        by true e rest = rest
        by false e rest = All-cons (λ other. other ≢ x) y (filter (λ row. not (row_eq row x)) ys) (λ same. true≢false (sym ((row_decides y x).1 same) ∙ e)) rest

-- one more row behind the others
place_in-push : (rows : List (List ℕ)) (row other : List ℕ) → place_in (rows ++ row ∷ []) other ≡ place_or (place_in rows other) (row_eq other row) (length rows)
place_in-push [] row other = refl
place_in-push (x ∷ xs) row other = by (row_eq other x) (place_in-push xs row other)
  where
    shifted : (found : Option ℕ) (b : Bool) (n : ℕ) → option_map suc (place_or found b n) ≡ place_or (option_map suc found) b (suc n)
    shifted (Some place) b n = refl
    shifted None true n = refl
    shifted None false n = refl

    by : (b : Bool) → place_in (xs ++ row ∷ []) other ≡ place_or (place_in xs other) (row_eq other row) (length xs)
        → cond b (Some 0) (option_map suc (place_in (xs ++ row ∷ []) other)) ≡ place_or (cond b (Some 0) (option_map suc (place_in xs other))) (row_eq other row) (suc (length xs))
    by true rest = refl
    by false rest = ap (option_map suc) rest ∙ shifted (place_in xs other) (row_eq other row) (length xs)

-- a row has a place exactly where it is among the others
pub place_in_among : (rows : List (List ℕ)) (row : List ℕ) → is_some (place_in rows row) ≡ among rows row
place_in_among [] row = refl
place_in_among (x ∷ xs) row = by (row_eq row x) (place_in_among xs row)
  where
    mapped : (found : Option ℕ) → is_some (option_map suc found) ≡ is_some found
    mapped (Some place) = refl
    mapped None = refl

    by : (b : Bool) → is_some (place_in xs row) ≡ among xs row → is_some (cond b (Some 0) (option_map suc (place_in xs row))) ≡ (b || among xs row)
    by true rest = refl
    by false rest = mapped (place_in xs row) ∙ rest

-- a function that changes at one row alone changes its list at that row's place
pub map_at_place : {Y : Type 0} (f g : List ℕ → Y) (row : List ℕ) → ((other : List ℕ) → other ≢ row → g other ≡ f other) → (rows : List (List ℕ)) → AreApart rows → (place : ℕ) → place_in rows row ≡ Some place
    → (place < length rows) × (map g rows ≡ set (map f rows) place (g row)) × ((d : Y) → get_or (map f rows) place d ≡ f row)
map_at_place f g row same [] apart place found = cc
map_at_place {Y} f g row same (x ∷ xs) apart place found = by (λ j l. map_at_place f g row same xs apart.1 j l) (row_eq row x) refl (place_in xs row) refl found
  where
    Changed : ℕ → Type 0
    Changed n = (n < suc (length xs)) × (g x ∷ map g xs ≡ set (f x ∷ map f xs) n (g row)) × ((d : Y) → get_or (f x ∷ map f xs) n d ≡ f row)

    by : ((j : ℕ) → place_in xs row ≡ Some j → (j < length xs) × (map g xs ≡ set (map f xs) j (g row)) × ((d : Y) → get_or (map f xs) j d ≡ f row))
        → (b : Bool) → row_eq row x ≡ b → (later : Option ℕ) → place_in xs row ≡ later → cond b (Some 0) (option_map suc later) ≡ Some place → Changed place
    by deeper true e later l is =
        let first : 0 ≡ place = cc in
        let here : x ≡ row = sym (same_row row x e) in
        let others : All (λ other. g other ≡ f other) xs = All-weaker (λ other. other ≢ x) (λ other. g other ≡ f other) (λ other ne. same other (λ is_row. ne (is_row ∙ sym here))) xs apart.0 in
        let at_zero : Changed 0 = (omega arith, (λ i. g (here i) ∷ map_agree g f xs others i), (λ d. ap f here)) in
        subst Changed first at_zero
    by deeper false e None l is = cc
    by deeper false e (Some j) l is =
        let next : suc j ≡ place = cc in
        let rest = deeper j l in
        let apart_here : g x ≡ f x = same x (λ is_row. true≢false (sym ((row_decides row x).1 (sym is_row)) ∙ e)) in
        let at_next : Changed (suc j) = (omega (arith, rest.0), (λ i. apart_here i ∷ rest.1 i), rest.2) in
        subst Changed next at_next

-- the places of one row more
pub range_push : (a n : ℕ) → range_with_len a (n + 1) ≡ range_with_len a n ++ (a + n) ∷ []
range_push a zero = ap (λ k. k ∷ []) (sym (add-zero a))
range_push a (suc n) =
    let rest = range_push (a + 1) n in
    let moved : a + 1 + n ≡ a + suc n = omega arith in
    simp add-one (ap (λ l. a ∷ l) (simp add-one at (rest ∙ ap (λ k. range_with_len (a + 1) n ++ k ∷ []) moved)))

places_with-push : (rows : List (List ℕ)) (row key : List ℕ) → places_with (rows ++ row ∷ []) key ≡ places_with rows key ++ cond (row_eq row key) (length rows ∷ []) []
places_with-push rows row key =
    let n = length rows in
    let more = rows ++ row ∷ [] in
    let p = λ (place : ℕ). row_eq (row_at rows place) key in
    let q = λ (place : ℕ). row_eq (row_at more place) key in
    let all : places_of more ≡ places_of rows ++ n ∷ [] = ap (range_with_len 0) (length_push rows row) ∙ range_push 0 n ∙ ap (λ k. range_with_len 0 n ++ k ∷ []) (zero-add n) in
    let agree : All (λ place. q place ≡ p place) (places_of rows) = All-weaker (λ place. place < 0 + n) (λ place. q place ≡ p place) (λ place below. ap (λ other. row_eq other key) (get_or_append_left rows (row ∷ []) [] place (omega arith))) (places_of rows) (range_below 0 n) in
    let last : q n ≡ row_eq row key = ap (λ other. row_eq other key) (get_or_push rows row [] n refl) in
    ap (filter q) all ∙ filter-append q (places_of rows) (n ∷ []) ∙ (λ i. filter_agree_on q p (places_of rows) agree i ++ cond (last i) (n ∷ []) [])

none_from_among : (rows : List (List ℕ)) (row : List ℕ) → among rows row ≡ false → All (λ other. other ≢ row) rows
none_from_among [] row none = All-nil (λ other. other ≢ row)
none_from_among (x ∷ xs) row none =
    let parts = or_parts (row_eq row x) (among xs row) none in
    All-cons (λ other. other ≢ row) x xs (λ is. true≢false (sym ((row_decides row x).1 (sym is)) ∙ parts.0)) (none_from_among xs row parts.1)

pub places_with_none : (rows : List (List ℕ)) (row : List ℕ) → among rows row ≡ false → places_with rows row ≡ []
places_with_none rows row none =
    let others = none_from_among rows row none in
    let fails : All (λ place. row_eq (row_at rows place) row ≡ false) (places_of rows) = All-weaker (λ place. place < 0 + length rows) (λ place. row_eq (row_at rows place) row ≡ false)
    (λ place below. other_row (row_at rows place) row (All-get_or (λ other. other ≢ row) rows place [] (omega arith) others)) (places_of rows) (range_below 0 (length rows)) in
    filter_none (λ place. row_eq (row_at rows place) row) (places_of rows) fails

module _ (numbers : List ℕ → Option ℕ) (groups rows : List (List ℕ)) (row : List ℕ) (walked : GathersPlaces numbers groups rows) where
  -- the places of other rows stay
  others_stay : (other : List ℕ) → other ≢ row → places_with (rows ++ row ∷ []) other ≡ places_with rows other
  others_stay other ne =
      let e = other_row row other (λ is. ne (sym is)) in
      places_with-push rows row other ∙ ap (λ b. places_with rows other ++ cond b (length rows ∷ []) []) e ∙ append-nil (places_with rows other)

  own_more : places_with (rows ++ row ∷ []) row ≡ places_with rows row ++ length rows ∷ []
  own_more = places_with-push rows row row ∙ ap (λ b. places_with rows row ++ cond b (length rows ∷ []) []) (row_itself row)

  -- a row that was there gets one more place
  pub gathers_known : (number : ℕ) → numbers row ≡ Some number
      → (number < length groups) × GathersPlaces numbers (set groups number (get_or groups number [] ++ length rows ∷ [])) (rows ++ row ∷ [])
  gathers_known number found =
      let kept = distinct_rows rows in
      let at : place_in kept row ≡ Some number = sym (walked.numbered row) ∙ found in
      let there : among rows row ≡ true = sym (among_distinct rows row) ∙ sym (place_in_among kept row) ∙ ap is_some at in
      let same : distinct_rows (rows ++ row ∷ []) ≡ kept = distinct_more rows row ∙ ap (λ b. kept ++ cond (not b) (row ∷ []) []) there ∙ append-nil kept in
      let changed = map_at_place (places_with rows) (places_with (rows ++ row ∷ [])) row others_stay kept (AreApart-distinct_rows rows) number at in
      let long : length groups ≡ length kept = ap length walked.gathered ∙ length-map kept (places_with rows) in
      let own : get_or groups number [] ≡ places_with rows row = ap (λ l. get_or l number []) walked.gathered ∙ changed.2 [] in (
        omega (arith, changed.0),
        record {
          numbered = λ other. walked.numbered other ∙ ap (λ l. place_in l other) (sym same);
          gathered = (λ i. set (walked.gathered i) number (own i ++ length rows ∷ [])) ∙ ap (set (grouped_places rows) number) (sym own_more) ∙ sym changed.1 ∙ ap (map (places_with (rows ++ row ∷ []))) (sym same);
        },
      )

  -- a new row gets the next number and its first place
  pub gathers_new : (after : List ℕ → Option ℕ) → numbers row ≡ None → ((other : List ℕ) → after other ≡ cond (row_eq row other) (Some (length groups)) (numbers other))
      → GathersPlaces after (groups ++ (length rows ∷ []) ∷ []) (rows ++ row ∷ [])
  gathers_new after missing updated =
      let kept = distinct_rows rows in
      let at : place_in kept row ≡ None = sym (walked.numbered row) ∙ missing in
      let absent_kept : among kept row ≡ false = sym (place_in_among kept row) ∙ ap is_some at in
      let absent : among rows row ≡ false = sym (among_distinct rows row) ∙ absent_kept in
      let longer : distinct_rows (rows ++ row ∷ []) ≡ kept ++ row ∷ [] = distinct_more rows row ∙ ap (λ b. kept ++ cond (not b) (row ∷ []) []) absent in
      let f = places_with rows in
      let g = places_with (rows ++ row ∷ []) in
      let stay : All (λ other. g other ≡ f other) kept = All-weaker (λ other. other ≢ row) (λ other. g other ≡ f other) others_stay kept (none_from_among kept row absent_kept) in
      let first : g row ≡ length rows ∷ [] = own_more ∙ ap (λ l. l ++ length rows ∷ []) (places_with_none rows row absent) in
      let long : length groups ≡ length kept = ap length walked.gathered ∙ length-map kept f in
      record {
        numbered = λ other. updated other ∙ (λ i. cond (row_eq row other) (Some (long i)) (walked.numbered other i)) ∙ next other (row_eq row other) refl ∙ ap (λ l. place_in l other) (sym longer);
        gathered = (λ i. walked.gathered i ++ sym first i ∷ []) ∙ ap (λ l. l ++ g row ∷ []) (sym (map_agree g f kept stay)) ∙ sym (map-append g kept (row ∷ [])) ∙ ap (map g) (sym longer);
      }
    where
      next : (other : List ℕ) (b : Bool) → row_eq row other ≡ b → cond b (Some (length (distinct_rows rows))) (place_in (distinct_rows rows) other) ≡ place_in (distinct_rows rows ++ row ∷ []) other
      next other true e =
          let is : row ≡ other = same_row row other e in
          let missing_too : place_in (distinct_rows rows) other ≡ None = subst (λ r. place_in (distinct_rows rows) r ≡ None) is (sym (walked.numbered row) ∙ missing) in
          sym (place_in-push (distinct_rows rows) row other ∙ (λ i. place_or (missing_too i) ((nat_list_eq_equiv.symm other row ∙ e) i) (length (distinct_rows rows))))
      next other false e = sym (place_in-push (distinct_rows rows) row other ∙ ap (λ b. place_or (place_in (distinct_rows rows) other) b (length (distinct_rows rows))) (nat_list_eq_equiv.symm other row ∙ e) ∙ alone (place_in (distinct_rows rows) other))
        where
          alone : (found : Option ℕ) → place_or found false (length (distinct_rows rows)) ≡ found
          alone (Some place) = refl
          alone None = refl

-- what a walk has gathered tells the places of any row
pub places_known : (numbers : List ℕ → Option ℕ) (groups rows : List (List ℕ)) → GathersPlaces numbers groups rows → (row : List ℕ) (number : ℕ) → numbers row ≡ Some number
    → (number < length groups) × (get_or groups number [] ≡ places_with rows row)
places_known numbers groups rows walked row number found =
    let kept = distinct_rows rows in
    let at : place_in kept row ≡ Some number = sym (walked.numbered row) ∙ found in
    let there = map_at_place (places_with rows) (places_with rows) row (λ other ne. refl) kept (AreApart-distinct_rows rows) number at in
    let long : length groups ≡ length kept = ap length walked.gathered ∙ length-map kept (places_with rows) in
    (omega (arith, there.0), ap (λ l. get_or l number []) walked.gathered ∙ there.2 [])

pub places_missing : (numbers : List ℕ → Option ℕ) (groups rows : List (List ℕ)) → GathersPlaces numbers groups rows → (row : List ℕ) → numbers row ≡ None → places_with rows row ≡ []
places_missing numbers groups rows walked row missing =
    let at : place_in (distinct_rows rows) row ≡ None = sym (walked.numbered row) ∙ missing in
    places_with_none rows row (sym (among_distinct rows row) ∙ sym (place_in_among (distinct_rows rows) row) ∙ ap is_some at)
