-- The first slots of a world have the lengths of the list's.
use Rattle.std.proofs.Common.{◌≡◌, ℕ, zero, suc, ◌+◌, ◌==◌, ◌<◌, Bool, true, false, cond, List, [], ◌∷◌, ◌++◌, length, map, drop, replicate, get_or, refl, sym, ap, ◌∙◌, arith, length-append, drop-cons}
use Rattle.std.specs.Prelude.{◌^◌, nat_lt, Some, slice_get}
use Rattle.std.specs.List.{All, AllByRecursion, AllZip, flat_map, slice_index_or}
use Rattle.std.proofs.lemmas.Bool.{ltb-true, ltb-false}
use Rattle.std.proofs.lemmas.List.{get_or_past, map-append}
use Rattle.std.proofs.lemmas.List.Elements.{recursion_from_All}
use Rattle.lanes.specs.Party.{number_of}
use Rattle.lanes.specs.Word.{AreWords}
use Rattle.lanes.specs.Three.{at}
use Rattle.lanes.specs.declared.three.Three.{Three}
use Rattle.lanes.specs.declared.party.Party.{Party}
use Rattle.lanes.specs.declared.party.Party.TheVariants.{First, Second, Third}
use Rattle.padded.specs.Laws.{PaddedFits}
use Rattle.padded.specs.Table.{pad, padded_columns, padded_valid}
use Rattle.plain_meaning.specs.Fits.{AreRowsOf, IsWorldOf, relations}
use Rattle.plain_operators.specs.Sizes.{IsOfWords}
use Rattle.query_graph.specs.Observers.{is_relation}
use Rattle.query_graph.specs.declared.node.Node.{Node}
use Rattle.step_lists.specs.Possible.{SlotsFit}
use Rattle.lowering.specs.FirstSlots.{first_lengths, first_slots, if_owned, owner_of, relation_lengths, relation_slots, slots_of_relations}

abbrev three : List (List ℕ) → List (List ℕ) → List (List ℕ) → Three (List (List ℕ))
three x y z = record { first = x; second = y; third = z }

pub three_same : {a b c d e f : List (List ℕ)} → a ≡ d → b ≡ e → c ≡ f → three a b c ≡ three d e f
three_same {a} {b} {c} {d} {e} {f} p q r = ap (λ x. three x b c) p ∙ ap (λ y. three d y c) q ∙ ap (λ z. three d e z) r

-- an element at which a list goes on
pub drop_some : {A B : Type 0} (f : A → B) (xs : List A) (r : ℕ) (x : A) → slice_get xs r ≡ Some x → drop r (map f xs) ≡ f x ∷ drop (r + 1) (map f xs)
drop_some f [] r x h = cc
drop_some f (y ∷ xs) zero x h = let e : y ≡ x = cc in ap (λ z. f z ∷ map f xs) e
drop_some f (y ∷ xs) (suc r) x h = let e : suc r + 1 ≡ suc (r + 1) = omega arith in drop_some f xs r x h ∙ ap (λ n. f x ∷ drop n (f y ∷ map f xs)) (sym e)

-- a relation, and any other node, before other nodes
pub relations-here : (node : Node) (nodes : List Node) → is_relation node.shape ≡ true → relations (node ∷ nodes) ≡ node ∷ relations nodes
relations-here node nodes h = ap (λ (b : Bool). cond b (node ∷ relations nodes) (relations nodes)) h

pub relations-not : (node : Node) (nodes : List Node) → is_relation node.shape ≡ false → relations (node ∷ nodes) ≡ relations nodes
relations-not node nodes h = ap (λ (b : Bool). cond b (node ∷ relations nodes) (relations nodes)) h

pub relations_left : (nodes : List Node) (i : ℕ) (node : Node) → i < length nodes → node ≡ get_or nodes i node → is_relation node.shape ≡ true → relations (drop i nodes) ≡ node ∷ relations (drop (i + 1) nodes)
relations_left nodes i node h is r =
    let e : i + 1 ≡ suc i = omega arith in
    ap relations (drop-cons nodes i node h ∙ ap (λ n. n ∷ drop (suc i) nodes) (sym is)) ∙ relations-here node (drop (suc i) nodes) r ∙ ap (λ n. node ∷ relations (drop n nodes)) (sym e)

pub relations_skipped : (nodes : List Node) (i : ℕ) (node : Node) → i < length nodes → node ≡ get_or nodes i node → is_relation node.shape ≡ false → relations (drop i nodes) ≡ relations (drop (i + 1) nodes)
relations_skipped nodes i node h is r =
    let e : i + 1 ≡ suc i = omega arith in
    ap relations (drop-cons nodes i node h ∙ ap (λ n. n ∷ drop (suc i) nodes) (sym is)) ∙ relations-not node (drop (suc i) nodes) r ∙ ap (λ n. relations (drop n nodes)) (sym e)

-- ---- lengths and words

-- a word of a row of words, also beyond its end
word_below : (xs : List ℕ) → IsOfWords xs → (i : ℕ) → get_or xs i 0 < 2 ^ 64
word_below xs h i = by (nat_lt i (length xs)) refl
  where
    by : (b : Bool) → nat_lt i (length xs) ≡ b → get_or xs i 0 < 2 ^ 64
    by true e = h i 0 (ltb-true i (length xs) e)
    by false e = let none : get_or xs i 0 ≡ 0 = get_or_past xs i 0 (ltb-false i (length xs) e) in omega (arith, none)

module _ (facts : PaddedFits) where
  pad_long : (w n : ℕ) (rows : List (List ℕ)) → length (pad w n rows) ≡ w + 1
  pad_long w n rows = length-append (padded_columns w n rows) (padded_valid n rows ∷ []) ∙ ap (λ k. k + 1) (facts.width w n rows)

  all_long : (n : ℕ) (xs : List (List ℕ)) → AllByRecursion (λ x. length x ≡ n) xs → map length xs ≡ replicate (length xs) n
  all_long n [] h = refl
  all_long n (x ∷ xs) h = ap (λ k. k ∷ map length xs) h.0 ∙ ap (λ ks. n ∷ ks) (all_long n xs h.1)

  slots_long : (node : Node) (rows : List (List ℕ)) → map length (relation_slots node rows) ≡ relation_lengths node
  slots_long node rows =
      all_long node.rows (relation_slots node rows) (recursion_from_All (λ x. length x ≡ node.rows) (relation_slots node rows) (facts.lengths (length node.columns) node.rows rows))
      ∙ ap (λ k. replicate k node.rows) (pad_long (length node.columns) node.rows rows)

  pub owned_long : (b : Bool) (node : Node) (rows : List (List ℕ)) → map length (cond b (relation_slots node rows) []) ≡ cond b (relation_lengths node) []
  owned_long true node rows = slots_long node rows
  owned_long false node rows = refl

  pub long_of : (p : Party) (ns : List Node) (world : List (List (List ℕ))) → AllZip AreRowsOf ns world → map length (slots_of_relations p ns world) ≡ flat_map (λ node. if_owned p node (relation_lengths node)) ns
  long_of p [] world h = refl
  long_of p (node ∷ ns) [] h = absurd h
  long_of p (node ∷ ns) (rows ∷ world) h =
      map-append length (if_owned p node (relation_slots node rows)) (slots_of_relations p ns world)
      ∙ ap (λ k. k ++ map length (slots_of_relations p ns world)) (owned_long (owner_of node.shape == number_of p) node rows)
      ∙ ap (λ k. if_owned p node (relation_lengths node) ++ k) (long_of p ns world h.1)

  all_append : (P : List ℕ → Type 0) (xs ys : List (List ℕ)) → AllByRecursion P xs → AllByRecursion P ys → AllByRecursion P (xs ++ ys)
  all_append P [] ys h k = k
  all_append P (x ∷ xs) ys h k = (h.0, all_append P xs ys h.1 k)

  rows_words : (rows : List (List ℕ)) → All IsOfWords rows → All AreWords rows
  rows_words rows h = λ k d inside. record { below = λ i. word_below (slice_index_or rows k d) (h k d inside) i }

  owned_words : (b : Bool) (node : Node) (rows : List (List ℕ)) → All AreWords rows → AllByRecursion AreWords (cond b (relation_slots node rows) [])
  owned_words true node rows h = recursion_from_All AreWords (relation_slots node rows) (facts.words (length node.columns) node.rows rows h)
  owned_words false node rows h = tt

  pub words_of : (p : Party) (ns : List Node) (world : List (List (List ℕ))) → AllZip AreRowsOf ns world → AllByRecursion AreWords (slots_of_relations p ns world)
  words_of p [] world h = tt
  words_of p (node ∷ ns) [] h = absurd h
  words_of p (node ∷ ns) (rows ∷ world) h =
      all_append AreWords (if_owned p node (relation_slots node rows)) (slots_of_relations p ns world) (owned_words (owner_of node.shape == number_of p) node rows (rows_words rows h.0.words)) (words_of p ns world h.1)

  -- the first slots of a world fit a list of these lengths
  pub first_fits : (nodes : List Node) (world : List (List (List ℕ))) → IsWorldOf nodes world → SlotsFit (first_lengths nodes) (first_slots nodes world)
  first_fits nodes world h = record { long = long; below = below }
    where
      long : (p : Party) → map length (at p (first_slots nodes world)) ≡ at p (first_lengths nodes)
      long First = long_of First (relations nodes) world h
      long Second = long_of Second (relations nodes) world h
      long Third = long_of Third (relations nodes) world h

      below : (p : Party) → AllByRecursion AreWords (at p (first_slots nodes world))
      below First = words_of First (relations nodes) world h
      below Second = words_of Second (relations nodes) world h
      below Third = words_of Third (relations nodes) world h
