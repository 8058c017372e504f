-- Rows cut to the columns that a party may know, and rows that are alike in these columns.
use Rattle.std.proofs.Common.{◌≡◌, ℕ, zero, suc, ◌<◌, zero-add, Bool, true, false, cond, true≢false, List, [], ◌∷◌, ◌++◌, map, length, drop, get_or, refl, sym, ◌∙◌, ap, subst, arith, inl, inr}
use Rattle.std.specs.List.{All, filter, range_with_len}
use Rattle.std.proofs.lemmas.Bool.{cases_lt}
use Rattle.std.proofs.lemmas.List.{get_or_past}
use Rattle.std.proofs.lemmas.List.Elements.{All-cons, All-get_or, All-head, All-nil, All-tail, All-weaker, filter_passes}
use Rattle.std.proofs.lemmas.List.FromFn.{get_or-range_with_len, length-range_with_len}
use Rattle.query_graph.specs.declared.parties.Parties.{Parties}
use Rattle.query_graph.specs.Parties.{has, no_party}
use Rattle.plain_operators.specs.Columns.{cut, others, other_columns, word_at}
use Rattle.plain_operators.specs.Cuts.{CutsAgree, DependsOn, OperatorsOfCuts}
use Rattle.trust_sets.specs.declared.known.Known.{Known}
use Rattle.trust_sets.specs.Agreement.{known_columns}
use Rattle.trust_sets.specs.Known.{column_set, met_with, other_sets}
use Rattle.trust_sets.specs.Laws.{KnowsColumn}
use Rattle.trust_sets.specs.Steps.{SameFor}
use Rattle.trust_sets.proofs.Needs.{in_both}
use Rattle.trust_sets.proofs.Within.{in_none}

-- functions that agree on each element of a list
map_agree : {X Y : Type 0} (f g : X → Y) (xs : List X) → All (λ x. f x ≡ g x) xs → map f xs ≡ map g xs
map_agree f g [] all = refl
map_agree f g (x ∷ xs) all = λ i. All-head (λ z. f z ≡ g z) x xs all i ∷ map_agree f g xs (All-tail (λ z. f z ≡ g z) x xs all) i

-- two words for each of these sets: the same where the party is in the set
abbrev pub AreAlike : ℕ → List Parties → List ℕ → List ℕ → Type 0
AreAlike party [] [] [] = Unit {0}
AreAlike party [] [] (y ∷ ys) = ⊥
AreAlike party [] (x ∷ xs) ys = ⊥
AreAlike party (set ∷ sets) [] ys = ⊥
AreAlike party (set ∷ sets) (x ∷ xs) [] = ⊥
AreAlike party (set ∷ sets) (x ∷ xs) (y ∷ ys) = (has set party ≡ true → x ≡ y) × AreAlike party sets xs ys

pub alike_append : (party : ℕ) (sets more : List Parties) (xs ys us vs : List ℕ) → AreAlike party sets xs ys → AreAlike party more us vs → AreAlike party (sets ++ more) (xs ++ us) (ys ++ vs)
alike_append party [] more [] [] us vs h k = k
alike_append party [] more [] (y ∷ ys) us vs h k = absurd h
alike_append party [] more (x ∷ xs) ys us vs h k = absurd h
alike_append party (set ∷ sets) more [] ys us vs h k = absurd h
alike_append party (set ∷ sets) more (x ∷ xs) [] us vs h k = absurd h
alike_append party (set ∷ sets) more (x ∷ xs) (y ∷ ys) us vs h k = (h.0, alike_append party sets more xs ys us vs h.1 k)

-- equal words are alike
pub alike_itself : (party : ℕ) (sets : List Parties) (xs : List ℕ) → length sets ≡ length xs → AreAlike party sets xs xs
alike_itself party [] [] long = tt
alike_itself party [] (x ∷ xs) long = absurd (omega arith)
alike_itself party (set ∷ sets) [] long = absurd (omega arith)
alike_itself party (set ∷ sets) (x ∷ xs) long = (λ known. refl, alike_itself party sets xs (omega arith))

-- a set and two words for each part
pub alike_map : {X : Type 0} (party : ℕ) (set : X → Parties) (f g : X → ℕ) → ((x : X) → has (set x) party ≡ true → f x ≡ g x) → (parts : List X) → AreAlike party (map set parts) (map f parts) (map g parts)
alike_map party set f g each [] = tt
alike_map party set f g each (x ∷ parts) = (each x, alike_map party set f g each parts)

alike_word : (party : ℕ) (sets : List Parties) (xs ys : List ℕ) → AreAlike party sets xs ys → (column : ℕ) → has (get_or sets column no_party) party ≡ true → word_at column xs ≡ word_at column ys
alike_word party [] xs ys h column known = absurd (in_none party known)
alike_word party (set ∷ sets) [] ys h column known = absurd h
alike_word party (set ∷ sets) (x ∷ xs) [] h column known = absurd h
alike_word party (set ∷ sets) (x ∷ xs) (y ∷ ys) h zero known = h.0 known
alike_word party (set ∷ sets) (x ∷ xs) (y ∷ ys) h (suc column) known = alike_word party sets xs ys h.1 column known

-- rows with the same cut to the columns that pass have the same word in each of these
abbrev SameWord : (ℕ → Bool) → List ℕ → List ℕ → ℕ → Type 0
SameWord p a b column = p column ≡ true → word_at column a ≡ word_at column b

cut_words : (p : ℕ → Bool) (a b columns : List ℕ) → cut (filter p columns) a ≡ cut (filter p columns) b → All (SameWord p a b) columns
cut_words p a b [] same = All-nil (SameWord p a b)
cut_words p a b (column ∷ columns) same = by (cut_words p a b columns) (p column) refl same
  where
    by : (cut (filter p columns) a ≡ cut (filter p columns) b → All (SameWord p a b) columns) → (t : Bool) → p column ≡ t
        → cut (cond t (column ∷ filter p columns) (filter p columns)) a ≡ cut (cond t (column ∷ filter p columns) (filter p columns)) b → All (SameWord p a b) (column ∷ columns)
    by deeper true e now = All-cons (SameWord p a b) column columns (λ passes. ap (λ l. get_or l 0 0) now) (deeper (ap (drop 1) now))
    by deeper false e now = All-cons (SameWord p a b) column columns (λ passes. absurd (true≢false (sym passes ∙ e))) (deeper now)

module _ (party : ℕ) (source : Known) where
  pub known_within : (column : ℕ) → KnowsColumn party source column → column < length source.columns
  known_within column known = elim (cases_lt column (length source.columns)) [
    | inl below ↦ below
    | inr past ↦ absurd (in_none party (subst (λ set. has set party ≡ true) (get_or_past source.columns column no_party past) known))
  ]

  -- rows with the same cut have the same word in each column that the party may know
  pub known_word : (a b : List ℕ) → cut (known_columns party source) a ≡ cut (known_columns party source) b → (column : ℕ) → KnowsColumn party source column → word_at column a ≡ word_at column b
  known_word a b same column known =
      let Q : ℕ → Type 0 = λ c. KnowsColumn party source c → word_at c a ≡ word_at c b in
      let count = length source.columns in
      let below = known_within column known in
      let all = cut_words (λ c. has (column_set source c) party) a b (range_with_len 0 count) same in
      let inside : column < length (range_with_len 0 count) = subst (λ n. column < n) (sym (length-range_with_len 0 count)) below in
      let at : get_or (range_with_len 0 count) column 0 ≡ column = get_or-range_with_len 0 count column 0 below ∙ zero-add column in
      subst Q at (All-get_or Q (range_with_len 0 count) column 0 inside all) known

  -- and rows that are alike have the same cut
  pub alike_cut : (xs ys : List ℕ) → AreAlike party source.columns xs ys → cut (known_columns party source) xs ≡ cut (known_columns party source) ys
  alike_cut xs ys alike =
      let p = λ (c : ℕ). has (column_set source c) party in
      let columns = range_with_len 0 (length source.columns) in
      map_agree (λ c. word_at c xs) (λ c. word_at c ys) (filter p columns)
      (All-weaker (λ c. p c ≡ true) (λ c. word_at c xs ≡ word_at c ys) (λ c passes. alike_word party source.columns xs ys alike c passes) (filter p columns) (filter_passes p columns))

  pub word_depends : (column : ℕ) → KnowsColumn party source column → DependsOn (length source.columns) (known_columns party source) (word_at column)
  word_depends column known a b long long_too same = known_word a b same column known

  pub columns_depend : (columns : List ℕ) → All (KnowsColumn party source) columns → DependsOn (length source.columns) (known_columns party source) (cut columns)
  columns_depend columns all a b long long_too same =
      map_agree (λ c. word_at c a) (λ c. word_at c b) columns (All-weaker (KnowsColumn party source) (λ c. word_at c a ≡ word_at c b) (λ c known. known_word a b same c known) columns all)

  -- some of the columns that the party may know
  pub fewer_columns : OperatorsOfCuts → (columns : List ℕ) → All (KnowsColumn party source) columns → (xs ys : List (List ℕ)) → SameFor party source xs ys → CutsAgree columns xs ys
  fewer_columns cuts columns all xs ys same =
      cuts.fewer (length source.columns) (known_columns party source) columns xs ys (columns_depend columns all) same

  -- the columns that aren't keys, with their sets met with one of the rows
  pub others_alike : (keys : List ℕ) (rows : Parties) (a b : List ℕ) → length a ≡ length source.columns → length b ≡ length source.columns → cut (known_columns party source) a ≡ cut (known_columns party source) b
      → AreAlike party (other_sets source keys rows) (others keys a) (others keys b)
  others_alike keys rows a b long long_too same =
      let columns = λ (n : ℕ). other_columns keys n in
      let alike = alike_map party (met_with source rows) (λ c. word_at c a) (λ c. word_at c b) (λ c known. known_word a b same c (in_both rows (column_set source c) party known).1) (columns (length source.columns)) in
      subst (λ n. AreAlike party (other_sets source keys rows) (cut (columns n) a) (others keys b)) (sym long)
      (subst (λ n. AreAlike party (other_sets source keys rows) (cut (columns (length source.columns)) a) (cut (columns n) b)) (sym long_too) alike)
