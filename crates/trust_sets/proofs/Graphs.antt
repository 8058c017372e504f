-- What the nodes of a graph have.
use Rattle.std.proofs.Common.{◌≡◌, ℕ, ◌<◌, ◌^◌, List, [], Option, Some, None, length, refl, arith}
use Rattle.std.specs.Prelude.{slice_get}
use Rattle.std.specs.Option.{option_map_or}
use Rattle.query_graph.specs.declared.node.Node.{Node}
use Rattle.query_graph.specs.declared.operator.Operator.{Operator}
use Rattle.query_graph.specs.declared.operator.Operator.TheVariants as operators
use Rattle.query_graph.specs.Content.{Content}
use Rattle.query_graph.specs.IsGraph.{FitsSources, IsGraph}
use Rattle.trust_sets.specs.Faults.{columns_at}
use Rattle.trust_sets.specs.Trust.{HasOwner}

fitting_owner : (nodes : List Node) (i : ℕ) (n : Node) (shape : Operator) → FitsSources nodes i n shape → HasOwner shape
fitting_owner nodes i n (operators.Relation r) fits = fits.owner
fitting_owner nodes i n (operators.Filter f) fits = tt
fitting_owner nodes i n (operators.Select s) fits = tt
fitting_owner nodes i n (operators.Concat c) fits = tt
fitting_owner nodes i n (operators.Join j) fits = tt
fitting_owner nodes i n (operators.Group g) fits = tt
fitting_owner nodes i n (operators.Distinct d) fits = tt

-- a relation of a graph has a party as its owner
pub node_owner : (graph : Content) → IsGraph graph → (i : ℕ) (n : Node) → slice_get graph.nodes i ≡ Some n → HasOwner n.shape
node_owner graph fits i n at = fitting_owner graph.nodes i n n.shape (fits.nodes i n at).sources

few_of : (found : Option Node) → ((n : Node) → found ≡ Some n → length n.columns < 2 ^ 32) → length (option_map_or (λ (n : Node). n.columns) found []) < 2 ^ 32
few_of None each = omega arith
few_of (Some n) each = each n refl

-- each node of a graph has few columns
pub few_columns : (graph : Content) → IsGraph graph → (node : ℕ) → length (columns_at graph.nodes node) < 2 ^ 32
few_columns graph fits node =
    few_of (slice_get graph.nodes node) (λ n at. let few = (fits.nodes node n at).few_columns in omega (arith, few))
