-- A node has one part with all its rows, or a filter, select or concat has those of its sources.
use Rattle.std.proofs.Common.{◌≡◌, ◌≢◌, ℕ, List, [], ◌∷◌, Option, Some, None, length, take, refl, sym, ◌∙◌, ap, arith}
use Rattle.std.specs.Prelude.{slice_get}
use Rattle.std.specs.Option.{option_or}
use Rattle.query_graph.specs.declared.node.Node.{Node}
use Rattle.query_graph.specs.declared.operator.Operator.{Operator}
use Rattle.query_graph.specs.declared.operator.Operator.TheVariants as operators
use Rattle.rewrites.specs.declared.part.Part.{Part}
use Rattle.rewrites.specs.declared.part.PartPlace.{PartPlace}
use Rattle.rewrites.specs.Parts.{clear_place, node_parts, node_place, only_place, operator_place, parts_at, parts_of, placed, source_parts, whole_place}
use Rattle.rewrites.specs.PartRows.{divided}
use Rattle.rewrites.proofs.Values.{value_here}

-- an operator that may have the parts of its sources
abbrev pub IsPushed : Operator → Type 0
IsPushed (operators.Relation r) = ⊥
IsPushed (operators.Filter f) = Unit {0}
IsPushed (operators.Select s) = Unit {0}
IsPushed (operators.Concat c) = Unit {0}
IsPushed (operators.Join j) = ⊥
IsPushed (operators.Group g) = ⊥
IsPushed (operators.Distinct d) = ⊥

-- neither of two is there
none_of_both : {A : Type 0} (a b : Option A) → option_or a b ≡ None → b ≡ None
none_of_both None b none = none
none_of_both (Some x) b none = absurd cc

pub not_placed : (shape : Operator) (parts : List Part) → node_place shape parts ≡ None → operator_place shape parts ≡ None
not_placed (operators.Relation r) parts none = none
not_placed (operators.Filter f) parts none = none_of_both (clear_place f.clear_at) (only_place parts) none
not_placed (operators.Select s) parts none = none_of_both (clear_place s.clear_at) (only_place parts) none
not_placed (operators.Concat c) parts none = none
not_placed (operators.Join j) parts none = none_of_both (clear_place j.clear_at) (Some (whole_place parts)) none
not_placed (operators.Group g) parts none = none_of_both (clear_place g.clear_at) (Some (whole_place parts)) none
not_placed (operators.Distinct d) parts none = none_of_both (clear_place d.clear_at) (Some (whole_place parts)) none

pushes : (shape : Operator) (parts : List Part) → operator_place shape parts ≡ None → IsPushed shape
pushes (operators.Relation r) parts none = absurd cc
pushes (operators.Filter f) parts none = tt
pushes (operators.Select s) parts none = tt
pushes (operators.Concat c) parts none = tt
pushes (operators.Join j) parts none = absurd cc
pushes (operators.Group g) parts none = absurd cc
pushes (operators.Distinct d) parts none = absurd cc

pub is_pushed : (shape : Operator) (parts : List Part) → node_place shape parts ≡ None → IsPushed shape
is_pushed shape parts none = pushes shape parts (not_placed shape parts none)

-- parts that aren't one have no one place
no_place : (rows : ℕ) (place : Option PartPlace) (parts : List Part) → only_place (placed rows place parts) ≡ None → place ≡ None
no_place rows None parts none = refl
no_place rows (Some place) parts none = absurd cc

pub not_one : (parts : List Part) → only_place parts ≡ None → length parts ≢ 1
not_one [] none = λ one. absurd (omega arith)
not_one (part ∷ []) none = λ one. absurd cc
not_one (part ∷ other ∷ parts) none = λ one. absurd (omega arith)

module _ (nodes : List Node) (i : ℕ) (n : Node) (at : slice_get nodes i ≡ Some n) where
  pub parts_here : parts_at (parts_of nodes) i ≡ placed n.rows (node_place n.shape (source_parts n.shape (take i (parts_of nodes)))) (source_parts n.shape (take i (parts_of nodes)))
  parts_here = value_here node_parts [] nodes i n at

  -- what is known of a node whose parts aren't one
  pub record Split : Type 0 where
    pub pushed : IsPushed n.shape
    pub unplaced : node_place n.shape (source_parts n.shape (take i (parts_of nodes))) ≡ None
    pub same : parts_at (parts_of nodes) i ≡ source_parts n.shape (take i (parts_of nodes))

  pub unplaced_split : node_place n.shape (source_parts n.shape (take i (parts_of nodes))) ≡ None → Split
  unplaced_split none = record {
    pushed = is_pushed n.shape (source_parts n.shape (take i (parts_of nodes))) none;
    unplaced = none;
    same = parts_here ∙ ap (λ place. placed n.rows place (source_parts n.shape (take i (parts_of nodes)))) none;
  }

  pub is_split : only_place (parts_at (parts_of nodes) i) ≡ None → Split
  is_split none =
      let all = source_parts n.shape (take i (parts_of nodes)) in
      unplaced_split (no_place n.rows (node_place n.shape all) all (sym (ap only_place parts_here) ∙ none))

-- what holds of all rows as one list, and of the lists of a node that is split, holds of the rows of its parts
pub divided_by : (Q : List (List (List ℕ)) → Type 0) (parts : List Part) (rows : List (List ℕ)) (pieces : List (List (List ℕ))) → Q (rows ∷ []) → (only_place parts ≡ None → Q pieces) → Q (divided parts rows pieces)
divided_by Q [] rows pieces one split = split refl
divided_by Q (part ∷ []) rows pieces one split = one
divided_by Q (part ∷ other ∷ parts) rows pieces one split = split refl

-- the same of two lists for the same parts
pub divided_both : (Q : List (List (List ℕ)) → List (List (List ℕ)) → Type 0) (parts : List Part) (xs ys : List (List ℕ)) (us vs : List (List (List ℕ))) → Q (xs ∷ []) (ys ∷ []) → (only_place parts ≡ None → Q us vs) → Q (divided parts xs us) (divided parts ys vs)
divided_both Q [] xs ys us vs one split = split refl
divided_both Q (part ∷ []) xs ys us vs one split = one
divided_both Q (part ∷ other ∷ parts) xs ys us vs one split = split refl
