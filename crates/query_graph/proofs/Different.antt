-- Names that are no second time there differ, and so do their numbers.
use Rattle.std.proofs.Common.{◌≡◌, ℕ, ◌<◌, Bool, true, false, ◌||◌, List, [], ◌∷◌, ◌++◌, Option, None, length, map, get_or, refl, sym, ap, ◌∙◌, arith, length-append}
use Rattle.std.specs.Prelude.{◌≢◌, ◌==◌, AllPairs, slice_get}
use Rattle.std.specs.List.{AllByRecursion, list_any}
use Rattle.std.specs.Option.{option_map_or}
use Rattle.std.specs.Str.{bytes_eq}
use Rattle.std.proofs.lemmas.Bool.Decides.{nat_tests}
use Rattle.std.proofs.lemmas.List.{get_or-map, length-map}
use Rattle.std.proofs.Math.ListN.{get_or-append}
use Rattle.std.proofs.lemmas.List.Elements.{All-from_recursion}
use Rattle.std.proofs.lemmas.List.Folds.{list_any-append, list_any_at}
use Rattle.std.proofs.lemmas.List.Kept.{AllPairs-cons}
use Rattle.std.proofs.lemmas.List.Quantifiers.{all_pairs_push}
use Rattle.std.proofs.lemmas.Slice.Eq.{bytes_eq-Decides}
use Rattle.words.specs.declared.column.Column.{Column}
use Rattle.query_graph.specs.declared.node.Node.{Node}
use Rattle.query_graph.specs.declared.node.Output.{Output}
use Rattle.query_graph.specs.Columns.{key_column, repeated_behind, taken_column}
use Rattle.query_graph.specs.Names.{column_number, is_column, is_node}
use Rattle.query_graph.proofs.Faultless.{both_none, new_of}
use Rattle.query_graph.proofs.Places.{column_at_number}

pub each_of : {A : Type 0} (P Q : A → Type 0) → ((x : A) → P x → Q x) → (xs : List A) → AllByRecursion P xs → AllByRecursion Q xs
each_of P Q more [] all = tt
each_of P Q more (x ∷ xs) all = (more x all.0, each_of P Q more xs all.1)

neither : (a b : Bool) → (a || b) ≡ false → (a ≡ false) × (b ≡ false)
neither true b fails = absurd cc
neither false b fails = (refl, fails)

pub differ : (a b : List ℕ) → bytes_eq a b ≡ false → a ≢ b
differ a b other = λ same. let yes : bytes_eq a b ≡ true = (bytes_eq-Decides a b).1 same in absurd cc

-- columns without a repeated one are new behind those before
new_behind : (line : ℕ) (before columns : List Column) → repeated_behind line before columns ≡ None → AllByRecursion (λ (c : Column). is_column before c.name ≡ false) columns
new_behind line before [] passes = tt
new_behind line before (c ∷ columns) passes =
    let none = both_none (taken_column line before c) (repeated_behind line (before ++ c ∷ []) columns) passes in (
      new_of _ _ none.0,
      each_of (λ (d : Column). is_column (before ++ c ∷ []) d.name ≡ false) (λ (d : Column). is_column before d.name ≡ false)
          (λ d new. (neither _ _ (sym (list_any-append (λ (x : Column). bytes_eq x.name d.name) before (c ∷ [])) ∙ new)).0)
          columns (new_behind line (before ++ c ∷ []) columns none.1),
    )

-- and differ from each other
pub different_behind : (line : ℕ) (before columns : List Column) → repeated_behind line before columns ≡ None → AllPairs (λ (a b : Column). a.name ≢ b.name) columns
different_behind line before [] passes = λ i j d below within. absurd (omega (arith, within))
different_behind line before (c ∷ columns) passes =
    let none = both_none (taken_column line before c) (repeated_behind line (before ++ c ∷ []) columns) passes in
    AllPairs-cons (λ (a b : Column). a.name ≢ b.name) c columns
    (All-from_recursion (λ (d : Column). c.name ≢ d.name) columns
    (each_of (λ (d : Column). is_column (before ++ c ∷ []) d.name ≡ false) (λ (d : Column). c.name ≢ d.name)
    (λ d new. differ c.name d.name
    (neither _ _ (neither _ _ (sym (list_any-append (λ (x : Column). bytes_eq x.name d.name) before (c ∷ [])) ∙ new)).1).0)
    columns (new_behind line (before ++ c ∷ []) columns none.1)))
    (different_behind line (before ++ c ∷ []) columns none.1)

-- a name that no node has differs from each node's
pub names_push : (nodes : List Node) (n : Node) → AllPairs (λ (a b : Node). a.name ≢ b.name) nodes → is_node nodes n.name ≡ false
    → AllPairs (λ (a b : Node). a.name ≢ b.name) (nodes ++ n ∷ [])
names_push nodes n names new =
    all_pairs_push (λ (a b : Node). a.name ≢ b.name) nodes n names
    (λ k d within same.
    let yes : is_node nodes n.name ≡ true = list_any_at (λ (m : Node). bytes_eq m.name n.name) nodes k d within ((bytes_eq-Decides (get_or nodes k d).name n.name).1 same) in
    absurd cc)

same_number : (a b : ℕ) → a ≡ b → (a == b) ≡ true
same_number a b same = grind (arith, nat_tests)

-- a node that no output has differs from each output's
pub outputs_push : (outputs : List Output) (o : Output) → AllPairs (λ (a b : Output). a.node ≢ b.node) outputs
    → list_any (λ (p : Output). p.node == o.node) outputs ≡ false → AllPairs (λ (a b : Output). a.node ≢ b.node) (outputs ++ o ∷ [])
outputs_push outputs o different new =
    all_pairs_push (λ (a b : Output). a.node ≢ b.node) outputs o different
    (λ k d within same.
    let yes : list_any (λ (p : Output). p.node == o.node) outputs ≡ true = list_any_at (λ (p : Output). p.node == o.node) outputs k d within (same_number _ _ same) in
    absurd cc)

keyed : (source rest : List Column) (names : List (List ℕ)) (i : ℕ) (d : List ℕ) → i < length names
    → get_or (map (key_column source) names ++ rest) i (key_column source d) ≡ key_column source (get_or names i d)
keyed source rest names i d within =
    get_or-append (map (key_column source) names) rest (key_column source d) i (rw (length-map names (key_column source)) within)
    ∙ get_or-map (key_column source) names i d (key_column source d) within

behind_keys : (source rest : List Column) (names : List (List ℕ)) (i : ℕ) → i < length names → i < length (map (key_column source) names ++ rest)
behind_keys source rest names i within =
    rw (length-append (map (key_column source) names) rest) (rw (length-map names (key_column source)) (omega (arith, within)))

-- the names of the columns that stand first differ
pub keys_differ : (source rest : List Column) (names : List (List ℕ)) → AllPairs (λ (a b : Column). a.name ≢ b.name) (map (key_column source) names ++ rest)
    → AllPairs (λ (a b : List ℕ). a ≢ b) names
keys_differ source rest names different = λ i j d below within same.
    let before : i < length names = omega (arith, below, within) in
    different i j (key_column source d) below (behind_keys source rest names j within)
    (ap (λ (c : Column). c.name) (keyed source rest names i d before) ∙ (same ∙ sym (ap (λ (c : Column). c.name) (keyed source rest names j d within))))

name_in : Option Column → List ℕ
name_in o = option_map_or (λ (c : Column). c.name) o []

-- a number is that of one name
same_name : (columns : List Column) (a b : List ℕ) → is_column columns a ≡ true → is_column columns b ≡ true → column_number columns a ≡ column_number columns b → a ≡ b
unfolding name_in
same_name columns a b first second same =
    ap name_in (sym (column_at_number columns a first) ∙ (ap (slice_get columns) same ∙ column_at_number columns b second))

-- and so do the numbers of different names
pub numbers_differ : (columns : List Column) (names : List (List ℕ)) → AllByRecursion (λ (n : List ℕ). is_column columns n ≡ true) names
    → AllPairs (λ (a b : List ℕ). a ≢ b) names → AllPairs (λ (a b : ℕ). a ≢ b) (map (column_number columns) names)
numbers_differ columns names known different = λ i j d below within same.
    let last : j < length names = rw (sym (length-map names (column_number columns))) within in
    let first : i < length names = omega (arith, below, last) in
    let all = All-from_recursion (λ (n : List ℕ). is_column columns n ≡ true) names known in
    different i j [] below last
    (same_name columns (get_or names i []) (get_or names j []) (all i [] first) (all j [] last)
    (sym (get_or-map (column_number columns) names i [] d first) ∙ (same ∙ get_or-map (column_number columns) names j [] d last)))
