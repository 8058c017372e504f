-- What the comparison of two worlds answers: the first part of agreement that fails, and the first place where it fails.
use Rattle.std.specs.Prelude.{◌≡◌, ◌≢◌, ℕ, ◌<◌, false, List, Option, Some, None, length, slice_get}
use Rattle.std.specs.List.{All}
use Rattle.query_graph.specs.Content as graph_content
use Rattle.query_graph.specs.declared.flag.Flag.{Flag}
use Rattle.query_graph.specs.declared.node.Node.{Node}
use Rattle.query_graph.specs.declared.node.Output.{Output}
use Rattle.query_graph.specs.declared.operator.Operator.{Operator}
use Rattle.query_graph.specs.declared.operator.Operator.TheVariants as operators
use Rattle.query_graph.specs.declared.operator.Relation.{Relation}
use Rattle.plain_meaning.specs.Meaning.{meanings, rows_of}
use Rattle.plain_meaning.specs.Plain.{bound_of, is_over}
use Rattle.trust_sets.specs.declared.agreement.Differs.{Differs}
use Rattle.trust_sets.specs.declared.agreement.Differs.TheVariants as differs
use Rattle.trust_sets.specs.declared.known.Known.{Known}
use Rattle.trust_sets.specs.Agreement.{Agree, AnswerAgrees, FilesAgree, OwnFileAgrees, TrustedPartAgrees}

-- no node has more rows than its `at most`
abbrev pub IsWithinBounds : List Node → List (List (List ℕ)) → Type 0
IsWithinBounds nodes world = (number : ℕ) (node : Node) → slice_get nodes number ≡ Some node → is_over (bound_of node.shape) (rows_of (meanings nodes world) number) ≡ false

-- the first number of which P fails
pub record FirstFails (P : ℕ → Type 0) (first : ℕ) : Type 0 where
  pub earlier : (number : ℕ) → number < first → P number
  pub fails : ¬ P first

-- the first number of which P fails, or none where it holds of every number
abbrev pub FirstFailure : (ℕ → Type 0) → Option ℕ → Type 0
FirstFailure P None = (number : ℕ) → P number
FirstFailure P (Some first) = FirstFails P first

-- what is asked of a relation; of another operator nothing
abbrev pub OfRelation : (Relation → Type 0) → Operator → Type 0
OfRelation Asked (operators.Relation r) = Asked r
OfRelation Asked (operators.Filter f) = Unit {0}
OfRelation Asked (operators.Select s) = Unit {0}
OfRelation Asked (operators.Concat c) = Unit {0}
OfRelation Asked (operators.Join j) = Unit {0}
OfRelation Asked (operators.Group g) = Unit {0}
OfRelation Asked (operators.Distinct d) = Unit {0}

-- the file of the relation with this number is in the world
abbrev pub HasFile : List (List (List ℕ)) → ℕ → Operator → Type 0
HasFile world number shape = OfRelation (λ r. number < length world) shape

-- the own files agree, and this is the first relation whose trusted part doesn't
pub record TrustedDiffers (nodes : List Node) (known : List Known) (party : ℕ) (world other : List (List (List ℕ))) (relation : ℕ) : Type 0 where
  pub own : (number : ℕ) → OwnFileAgrees nodes party world other number
  pub first : FirstFails (TrustedPartAgrees nodes known party world other) relation

-- the files agree, and these are the two excesses, which differ
pub record ExcessDiffers (nodes : List Node) (known : List Known) (party : ℕ) (world other : List (List (List ℕ))) (excess other_excess first second : Option Flag) : Type 0 where
  pub files : FilesAgree nodes known party world other
  pub is_first : first ≡ excess
  pub is_second : second ≡ other_excess
  pub differ : excess ≢ other_excess

-- the output in this place, if there is one, agrees
abbrev pub PlaceAgrees : graph_content.Content → ℕ → List (List (List ℕ)) → List (List (List ℕ)) → ℕ → Type 0
PlaceAgrees graph party world other place = (output : Output) → slice_get graph.outputs place ≡ Some output → AnswerAgrees graph.nodes party world other output

-- this is the node of the first output that doesn't agree
pub record FirstAnswerDiffers (graph : graph_content.Content) (party : ℕ) (world other : List (List (List ℕ))) (node : ℕ) : Type 0 where
  pub place : ℕ
  pub output : Output
  pub at : slice_get graph.outputs place ≡ Some output
  pub is : output.node ≡ node
  pub first : FirstFails (PlaceAgrees graph party world other) place

-- that node, or none where every output agrees
abbrev pub FirstAnswer : graph_content.Content → ℕ → List (List (List ℕ)) → List (List (List ℕ)) → Option ℕ → Type 0
FirstAnswer graph party world other None = All (AnswerAgrees graph.nodes party world other) graph.outputs
FirstAnswer graph party world other (Some node) = FirstAnswerDiffers graph party world other node

-- the files agree and neither world has an excess, and this is the node of the first output that doesn't agree
pub record AnswerDiffers (graph : graph_content.Content) (known : List Known) (party : ℕ) (world other : List (List (List ℕ))) (excess other_excess : Option Flag) (node : ℕ) : Type 0 where
  pub files : FilesAgree graph.nodes known party world other
  pub same_excess : excess ≡ other_excess
  pub none : excess ≡ None
  pub first : FirstAnswerDiffers graph party world other node

-- the answer for two worlds, each with its first excess: none exactly where they agree for the party
abbrev pub IsDifference : graph_content.Content → List Known → ℕ → List (List (List ℕ)) → List (List (List ℕ)) → Option Flag → Option Flag → Option Differs → Type 0
IsDifference graph known party world other excess other_excess None = Agree graph known party world other excess other_excess
IsDifference graph known party world other excess other_excess (Some (differs.OwnFile relation)) = FirstFails (OwnFileAgrees graph.nodes party world other) relation
IsDifference graph known party world other excess other_excess (Some (differs.Trusted relation)) = TrustedDiffers graph.nodes known party world other relation
IsDifference graph known party world other excess other_excess (Some (differs.Excess first second)) = ExcessDiffers graph.nodes known party world other excess other_excess first second
IsDifference graph known party world other excess other_excess (Some (differs.Answer node)) = AnswerDiffers graph known party world other excess other_excess node

-- two answers for the same worlds are equal
abbrev pub DifferencesAreOne : Type 0
DifferencesAreOne = (graph : graph_content.Content) (known : List Known) (party : ℕ) (world other : List (List (List ℕ))) (excess other_excess : Option Flag) (a b : Option Differs)
    → IsDifference graph known party world other excess other_excess a → IsDifference graph known party world other excess other_excess b → a ≡ b
