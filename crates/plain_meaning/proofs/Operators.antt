-- A node's operator is an operator on its sources.
use Rattle.std.proofs.Common.{◌≡◌, ℕ, List, [], ◌∷◌, ◌++◌, Option, Some, None, map, refl, ap, subst}
use Rattle.std.specs.List.{flat_map}
use Rattle.query_graph.specs.declared.operator.Operator.{Operator}
use Rattle.query_graph.specs.declared.operator.Operator.TheVariants.{Relation, Filter, Select, Concat, Join, Group, Distinct}
use Rattle.query_graph.specs.NodeSizes.{unbounded_size}
use Rattle.query_graph.specs.Observers.{sources_of}
use Rattle.query_graph.specs.Sizes as sizes
use Rattle.plain_operators.specs.OnSources as on_sources
use Rattle.plain_meaning.specs.Meaning.{node_rows, rows_of}
use Rattle.plain_meaning.specs.Operators.{NodesAreOperators, operator_of}

-- what holds of each node's own operator holds of the one that is its
own : (P : on_sources.Operator → Type 0) (is operator : on_sources.Operator) → Some is ≡ Some operator → P is → P operator
own P is operator same holds = let e : is ≡ operator = cc in subst P e holds

rows_one_by_one : (earlier : List (List (List ℕ))) (sources : List ℕ) → flat_map (rows_of earlier) sources ≡ flat_map (λ (rows : List (List ℕ)). rows) (map (rows_of earlier) sources)
rows_one_by_one earlier [] = refl
rows_one_by_one earlier (s ∷ sources) = ap (λ rows. rows_of earlier s ++ rows) (rows_one_by_one earlier sources)

rows : (shape : Operator) (operator : on_sources.Operator) (file : List (List ℕ)) (earlier : List (List (List ℕ))) → operator_of shape ≡ Some operator
    → node_rows shape file earlier ≡ on_sources.operator_rows operator (map (rows_of earlier) (sources_of shape))
rows (Relation r) operator file earlier same = absurd cc
rows (Filter f) operator file earlier same = own (λ o. node_rows (Filter f) file earlier ≡ on_sources.operator_rows o (map (rows_of earlier) (sources_of (Filter f)))) _ operator same refl
rows (Select s) operator file earlier same = own (λ o. node_rows (Select s) file earlier ≡ on_sources.operator_rows o (map (rows_of earlier) (sources_of (Select s)))) _ operator same refl
rows (Concat c) operator file earlier same =
    own (λ o. node_rows (Concat c) file earlier ≡ on_sources.operator_rows o (map (rows_of earlier) (sources_of (Concat c)))) on_sources.Concat operator same (rows_one_by_one earlier c.sources)
rows (Join j) operator file earlier same = own (λ o. node_rows (Join j) file earlier ≡ on_sources.operator_rows o (map (rows_of earlier) (sources_of (Join j)))) _ operator same refl
rows (Group g) operator file earlier same = own (λ o. node_rows (Group g) file earlier ≡ on_sources.operator_rows o (map (rows_of earlier) (sources_of (Group g)))) _ operator same refl
rows (Distinct d) operator file earlier same = own (λ o. node_rows (Distinct d) file earlier ≡ on_sources.operator_rows o (map (rows_of earlier) (sources_of (Distinct d)))) _ operator same refl

group_size : (keys : List ℕ) (size : ℕ) → sizes.group_rows keys None size ≡ on_sources.group_size keys size
group_size [] size = refl
group_size (key ∷ keys) size = refl

most : (shape : Operator) (operator : on_sources.Operator) (counts : List ℕ) → operator_of shape ≡ Some operator → unbounded_size shape counts ≡ on_sources.operator_size operator counts
most (Relation r) operator counts same = absurd cc
most (Filter f) operator counts same = own (λ o. unbounded_size (Filter f) counts ≡ on_sources.operator_size o counts) _ operator same refl
most (Select s) operator counts same = own (λ o. unbounded_size (Select s) counts ≡ on_sources.operator_size o counts) _ operator same refl
most (Concat c) operator counts same = own (λ o. unbounded_size (Concat c) counts ≡ on_sources.operator_size o counts) _ operator same refl
most (Join j) operator counts same = own (λ o. unbounded_size (Join j) counts ≡ on_sources.operator_size o counts) _ operator same refl
most (Group g) operator counts same = own (λ o. unbounded_size (Group g) counts ≡ on_sources.operator_size o counts) _ operator same (group_size g.keys _)
most (Distinct d) operator counts same = own (λ o. unbounded_size (Distinct d) counts ≡ on_sources.operator_size o counts) _ operator same refl

pub nodes_are_operators : NodesAreOperators
nodes_are_operators = record { rows = rows; sizes = most }
