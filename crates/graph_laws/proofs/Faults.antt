-- A statement without a fault: its names are known, and its constants fit.
use Rattle.std.proofs.Common.{◌≡◌, ℕ, Bool, true, false, cond, ◌&&◌, List, [], ◌∷◌, Option, Some, None, map, refl}
use Rattle.std.specs.List.{AllByRecursion, AllZip, list_all}
use Rattle.query_text.specs.declared.statement.Body.{Body}
use Rattle.query_graph.specs.declared.fault.GraphFault.{GraphFault}
use Rattle.query_graph.specs.declared.fault.GraphFault.TheVariants.{Kind, Shape, Size}
use Rattle.query_graph.specs.Build.{fault_of, rule_of}
use Rattle.query_graph.specs.Columns.{taken_name}
use Rattle.query_graph.specs.Content.{Content}
use Rattle.query_graph.specs.Faults.{first_fault, first_of, unless}
use Rattle.query_graph.specs.Kinds.{kinds_fit}
use Rattle.query_graph.specs.Shapes.{shape_fits}
use Rattle.query_graph.specs.Sizes.{constants_fit, counts_fit, sizes_fit}
use Rattle.query_graph.specs.Used.{unknown_columns, unknown_name, unknown_node, used_nodes}

pub both_none : (a b : Option GraphFault) → first_of a b ≡ None → (a ≡ None) × (b ≡ None)
both_none (Some fault) b passes = absurd cc
both_none None b passes = (refl, passes)

pub both_true : (a b : Bool) → (a && b) ≡ true → (a ≡ true) × (b ≡ true)
both_true true b holds = (refl, holds)
both_true false b holds = absurd cc

unless_none : (b : Bool) (fault : GraphFault) → unless b fault ≡ None → b ≡ true
unless_none true fault passes = refl
unless_none false fault passes = absurd cc

pub known_of : (b : Bool) (fault : GraphFault) → cond b None (Some fault) ≡ None → b ≡ true
known_of true fault passes = refl
known_of false fault passes = absurd cc

pub record IsFaultless (graph : Content) (line : ℕ) (body : Body) : Type 0 where
  pub nodes : first_fault (unknown_node line graph.nodes) (used_nodes body) ≡ None
  pub columns : unknown_columns line graph.nodes body ≡ None
  pub constants : constants_fit body ≡ true

pub faultless : (graph : Content) (line : ℕ) (body : Body) → fault_of graph line body ≡ None → IsFaultless graph line body
faultless graph line body passes =
    let names = both_none (unknown_name line graph.nodes body) (rule_of graph line body) passes in
    let known = both_none (first_fault (unknown_node line graph.nodes) (used_nodes body)) (unknown_columns line graph.nodes body) names.0 in
    let taken = both_none (taken_name line graph body) _ names.1 in
    let kinds = both_none (unless (kinds_fit graph.nodes body) (Kind line)) _ taken.1 in
    let shape = both_none (unless (shape_fits graph.nodes body) (Shape line)) (unless (sizes_fit graph.nodes body) (Size line)) kinds.1 in
    let sizes = both_true (counts_fit body && constants_fit body) _ (unless_none (sizes_fit graph.nodes body) (Size line) shape.1) in
    record { nodes = known.0; columns = known.1; constants = (both_true (counts_fit body) (constants_fit body) sizes.0).1 }

-- no part of a list has a fault
pub none_faulty : {A : Type 0} (fault : A → Option GraphFault) (xs : List A) → first_fault fault xs ≡ None → AllByRecursion (λ x. fault x ≡ None) xs
none_faulty fault [] passes = tt
none_faulty fault (x ∷ xs) passes =
    let none = both_none (fault x) (first_fault fault xs) passes in
    (none.0, none_faulty fault xs none.1)

-- each part of a list passes
pub all_true : {A : Type 0} (fits : A → Bool) (xs : List A) → list_all fits xs ≡ true → AllByRecursion (λ x. fits x ≡ true) xs
all_true fits [] holds = tt
all_true fits (x ∷ xs) holds =
    let both = both_true (fits x) (list_all fits xs) holds in
    (both.0, all_true fits xs both.1)

pub both_all : {A : Type 0} (P Q : A → Type 0) (xs : List A) → AllByRecursion P xs → AllByRecursion Q xs → AllByRecursion (λ x. P x × Q x) xs
both_all P Q [] first second = tt
both_all P Q (x ∷ xs) first second = ((first.0, second.0), both_all P Q xs first.1 second.1)

-- each part beside what is made of it
pub zip_made : {A B : Type 0} (P : A → Type 0) (make : A → B) (R : A → B → Type 0) → ((x : A) → P x → R x (make x)) → (xs : List A) → AllByRecursion P xs → AllZip R xs (map make xs)
zip_made P make R each [] all = tt
zip_made P make R each (x ∷ xs) all = (each x all.0, zip_made P make R each xs all.1)

pub each_part : {A B : Type 0} (make : A → B) (R : A → B → Type 0) → ((x : A) → R x (make x)) → (xs : List A) → AllZip R xs (map make xs)
each_part make R each [] = tt
each_part make R each (x ∷ xs) = (each x, each_part make R each xs)
