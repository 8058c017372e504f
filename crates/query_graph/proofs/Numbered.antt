-- In a list without repeated names a name's number is its place.
use Rattle.std.proofs.Common.{◌≡◌, ℕ, ◌+◌, cond, not, List, [], ◌∷◌, Some, suc, zero, ap, ◌∙◌, subst, arith}
use Rattle.std.specs.Prelude.{◌≢◌, AllPairs, slice_get, unwrap_or}
use Rattle.std.specs.List.{prefix_len}
use Rattle.std.specs.Str.{bytes_eq}
use Rattle.std.proofs.lemmas.Option.{get_or_from_slice_get, slice_get_within}
use Rattle.std.proofs.lemmas.Slice.Eq.{bytes_eq-Decides}
use Rattle.words.specs.declared.column.Column.{Column}
use Rattle.query_graph.specs.declared.node.Node.{Node}
use Rattle.query_graph.specs.Laws.{NamesAreNumbers}
use Rattle.query_graph.proofs.Widths.{first_differs, rest_differ, unequal}

module _ {A : Type 0} (name : A → List ℕ) where
  own : (x y : A) (xs : List A) → Some x ≡ Some y → prefix_len (λ z. not (bytes_eq (name z) (name y))) (x ∷ xs) ≡ 0
  own x y xs is =
      let same : name x ≡ name y = ap (λ o. name (unwrap_or o x)) is in
      ap (λ b. cond (not b) (1 + prefix_len (λ z. not (bytes_eq (name z) (name y))) xs) 0) ((bytes_eq-Decides (name x) (name y)).1 same)

  further : (x y : A) (xs : List A) (i : ℕ) → name x ≢ name y → prefix_len (λ z. not (bytes_eq (name z) (name y))) xs ≡ i
      → prefix_len (λ z. not (bytes_eq (name z) (name y))) (x ∷ xs) ≡ suc i
  further x y xs i other rest =
      ap (λ b. cond (not b) (1 + prefix_len (λ z. not (bytes_eq (name z) (name y))) xs) 0) (unequal (name x) (name y) other) ∙ omega (arith, rest)

  pub place_of : (xs : List A) → AllPairs (λ a b. name a ≢ name b) xs → (i : ℕ) (x : A) → slice_get xs i ≡ Some x
      → prefix_len (λ z. not (bytes_eq (name z) (name x))) xs ≡ i
  place_of [] pairs i x is = absurd cc
  place_of (y ∷ xs) pairs zero x is = own y x xs is
  place_of (y ∷ xs) pairs (suc i) x is =
      further y x xs i
      (subst (λ z. name y ≢ name z) (get_or_from_slice_get xs i x y is) (first_differs (λ a b. name a ≢ name b) y xs pairs i y (slice_get_within xs i x is)))
      (place_of xs (rest_differ (λ a b. name a ≢ name b) y xs pairs) i x is)

pub names_are_numbers : NamesAreNumbers
names_are_numbers = record {
  nodes = λ graph is i n at. place_of (λ (m : Node). m.name) graph.nodes is.names i n at;
  columns = λ graph is i n at j c stands. place_of (λ (d : Column). d.name) n.columns (is.nodes i n at).different j c stands;
}
