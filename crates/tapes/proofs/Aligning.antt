-- The order that aligns two lists of rows: how it comes from sorting both, that there is one, and
-- that the way back is its inverse.
use Rattle.std.proofs.Common.{◌≡◌, ℕ, suc, zero, ◌+◌, ◌<◌, ◌≤◌, Bool, true, false, not, Vec, Global, List, [], ◌∷◌, length, get_or, take, refl, sym, ◌∙◌, ap, ⊎_elim, arith}
use Rattle.std.proofs.lemmas.List.{get_or-map, length-map, take_more_same, ext_get_or}
use Rattle.std.proofs.lemmas.Bool.{cases_order}
use Rattle.tapes.proofs.Picks.{length-picked, get_or-picked}
use Rattle.bags.specs.Bag.{row_eq, count_of}
use Rattle.std.specs.Cmp.Lexicographic.{bytes_decides}
use Rattle.tapes.specs.Order.{composed, inverse_of, place_of}
use Rattle.listed.specs.Lists.{owned}
use Rattle.tapes.specs.Align.{row_at, occurrence, rows_applied, Aligns, SortsPlaces}
use Rattle.tapes.proofs.OrderLemmas.{length-inverse, get_or-inverse, IsOrder-inverse, IsOrder-composed, place_of-within, place_of-is}

pub length-rows_applied : (o : List ℕ) (rows : List (List ℕ)) → length (rows_applied o rows) ≡ length o
length-rows_applied o rows = length-map {B = List ℕ} o (λ p. row_at rows p)

pub row_at-applied : (o : List ℕ) (rows : List (List ℕ)) (k : ℕ) → k < length o → row_at (rows_applied o rows) k ≡ row_at rows (get_or o k 0)
row_at-applied o rows k h = get_or-map (λ p. row_at rows p) o k 0 [] h

-- sorted places of both, where the sorted rows agree
pub aligned : (x y : List (List ℕ)) (s t : List ℕ) → SortsPlaces x s → SortsPlaces y t → rows_applied s x ≡ rows_applied t y → Aligns x y (composed s (inverse_of t))
aligned x y s t a b e =
    let lengths : length s ≡ length t = sym (length-rows_applied s x) ∙ ap length e ∙ length-rows_applied t y in
    let d-long : length (composed s (inverse_of t)) ≡ length t = length-picked (inverse_of t) s ∙ length-inverse t in
    record {
      order = IsOrder-composed s (inverse_of t) a.order (IsOrder-inverse t b.order) (lengths ∙ sym (length-inverse t));
      source_long = d-long ∙ sym lengths ∙ a.long;
      target_long = d-long ∙ b.long;
      row = λ k h.
          let within : k < length t = omega (arith, b.long) in
          let j = place_of k t in
          let j-within : j < length t = place_of-within t b.order k within in
          ap (row_at y) (sym (place_of-is t b.order k within)) ∙ sym (row_at-applied t y j j-within) ∙ ap (λ r. row_at r j) (sym e)
          ∙ row_at-applied s x j (omega arith) ∙ ap (row_at x) (sym (number s t k within));
      same_occurrence = λ k h.
          let within : k < length t = omega (arith, b.long) in
          let j = place_of k t in
          let j-within : j < length t = place_of-within t b.order k within in
          ap (occurrence y) (sym (place_of-is t b.order k within)) ∙ b.ranks j j-within ∙ ap (λ r. occurrence r j) (sym e)
          ∙ sym (a.ranks j (omega arith)) ∙ ap (occurrence x) (sym (number s t k within));
    }
  where
    number : (s t : List ℕ) (k : ℕ) → k < length t → get_or (composed s (inverse_of t)) k 0 ≡ get_or s (place_of k t) 0
    number s t k h = get_or-picked (inverse_of t) s k (omega (arith, length-inverse t)) ∙ ap (λ i. get_or s i 0) (get_or-inverse t k h)

-- a later place of a row has more of it before
pub count_more : (r : List ℕ) (rows : List (List ℕ)) (p q : ℕ) → p < q → q ≤ length rows → row_at rows p ≡ r → count_of r (take p rows) < count_of r (take q rows)
count_more r [] p q h w e = absurd (omega arith)
count_more r (x ∷ rows) p zero h w e = absurd (omega arith)
count_more r (x ∷ rows) zero (suc q) h w e =
    let one : row_eq r x ≡ true = (bytes_decides r x).1 (sym e) in rw one (omega arith)
count_more r (x ∷ rows) (suc p) (suc q) h w e = let rest = count_more r rows p q (omega arith) (omega arith) e in omega arith

-- rows with their occurrences tell places apart
pub one_place : (rows : List (List ℕ)) (p q : ℕ) → p < length rows → q < length rows → row_at rows p ≡ row_at rows q → occurrence rows p ≡ occurrence rows q → p ≡ q
one_place rows p q a b e o =
    ⊎_elim (λ same. same)
    (⊎_elim
    (λ lt. absurd
    (let more : count_of (row_at rows q) (take p rows) < count_of (row_at rows q) (take q rows) = count_more (row_at rows q) rows p q lt (omega arith) e in
    let same : count_of (row_at rows p) (take p rows) ≡ count_of (row_at rows q) (take p rows) = ap (λ r. count_of r (take p rows)) e in omega arith))
    (λ gt. absurd
    (let more : count_of (row_at rows p) (take q rows) < count_of (row_at rows p) (take p rows) = count_more (row_at rows p) rows q p gt (omega arith) (sym e) in
    let same : count_of (row_at rows q) (take q rows) ≡ count_of (row_at rows p) (take q rows) = ap (λ r. count_of r (take q rows)) (sym e) in omega arith)))
    (cases_order p q)

-- only one order aligns
pub only_aligned : (x y : List (List ℕ)) (d e : List ℕ) → Aligns x y d → Aligns x y e → d ≡ e
only_aligned x y d e a b =
    ext_get_or 0 d e (a.target_long ∙ sym b.target_long)
    (λ k h.
    let within : k < length y = omega (arith, a.target_long) in
    let p-within : get_or d k 0 < length d = a.order.below k h in
    let q-within : get_or e k 0 < length e = b.order.below k (omega (arith, b.target_long)) in
    one_place x (get_or d k 0) (get_or e k 0) (omega (arith, a.source_long)) (omega (arith, b.source_long)) (sym (a.row k within) ∙ b.row k within)
    (sym (a.same_occurrence k within) ∙ b.same_occurrence k within))

-- the inverse aligns the other way round
pub aligned_back : (x y : List (List ℕ)) (d : List ℕ) → Aligns x y d → Aligns y x (inverse_of d)
aligned_back x y d a = record {
  order = IsOrder-inverse d a.order;
  source_long = length-inverse d ∙ a.target_long;
  target_long = length-inverse d ∙ a.source_long;
  row = λ k h.
      let within : k < length d = omega (arith, a.source_long) in
      let j-within : place_of k d < length d = place_of-within d a.order k within in
      ap (row_at x) (sym (place_of-is d a.order k within)) ∙ sym (a.row (place_of k d) (omega (arith, a.target_long)))
      ∙ ap (row_at y) (sym (get_or-inverse d k within));
  same_occurrence = λ k h.
      let within : k < length d = omega (arith, a.source_long) in
      let j-within : place_of k d < length d = place_of-within d a.order k within in
      ap (occurrence x) (sym (place_of-is d a.order k within)) ∙ sym (a.same_occurrence (place_of k d) (omega (arith, a.target_long)))
      ∙ ap (occurrence y) (sym (get_or-inverse d k within));
}

-- applied to the source it gives the target
pub aligned_applied : (x y : List (List ℕ)) (d : List ℕ) → Aligns x y d → rows_applied d x ≡ y
aligned_applied x y d a =
    ext_get_or [] (rows_applied d x) y (length-rows_applied d x ∙ a.target_long)
    (λ k h.
    let within : k < length d = omega (arith, length-rows_applied d x) in
    row_at-applied d x k within ∙ sym (a.row k (omega (arith, a.target_long))))

-- ---- rows as the code reads them

-- the row that was read stands at its place
pub row_from_read : (rows : List (Vec ℕ Global)) (p : ℕ) (row : Vec ℕ Global) → p < length rows → row ≡ get_or rows p row → row.items ≡ row_at (owned rows) p
row_from_read rows p row h e =
    ap (λ (r : Vec ℕ Global). r.items) e ∙ sym (get_or-map (λ (r : Vec ℕ Global). r.items) rows p row [] h)

pub row_where_applied : (o : List ℕ) (rows : List (Vec ℕ Global)) (i : ℕ) (row : Vec ℕ Global) → i < length o → get_or o i 0 < length rows
    → row ≡ get_or rows (get_or o i 0) row → row.items ≡ row_at (rows_applied o (owned rows)) i
row_where_applied o rows i row h w e =
    row_from_read rows (get_or o i 0) row w e ∙ sym (row_at-applied o (owned rows) i h)

-- one more row that is equal
pub equal_more : (a b : List (List ℕ)) (i : ℕ) (r s : List ℕ) → i < length a → i < length b → take i a ≡ take i b → r ≡ row_at a i → s ≡ row_at b i → r ≡ s
    → take (i + 1) a ≡ take (i + 1) b
equal_more a b i r s h w front x y e = take_more_same a b i [] h w front (sym x ∙ e ∙ y)

-- what `!=` of two rows says
pub equal_rows : (a b : List ℕ) (r : Bool) → r ≡ not (row_eq a b) → r ≡ false → a ≡ b
equal_rows a b r e h = cases (row_eq a b) refl where
  cases : (t : Bool) → row_eq a b ≡ t → a ≡ b
  cases true q = (bytes_decides a b).0 q
  cases false q = absurd (let both : not (row_eq a b) ≡ false = sym e ∙ h in let turned : true ≡ false = ap not (sym q) ∙ both in cc)

pub different_rows : (a b : List ℕ) (r : Bool) → r ≡ not (row_eq a b) → r ≡ true → a ≡ b → ⊥
different_rows a b r e h same =
    let equal : row_eq a b ≡ true = (bytes_decides a b).1 same in
    let turned : true ≡ false = sym h ∙ e ∙ ap not equal in cc
