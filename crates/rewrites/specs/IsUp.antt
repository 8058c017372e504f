-- What it takes to be up, in plain facts.
use Rattle.std.specs.Prelude.{◌≡◌, ℕ, ◌<◌, true, None, Some, ◌⊎◌, ◌↔◌, slice_get}
use Rattle.std.specs.List.{list_any}
use Rattle.query_graph.specs.declared.node.Node.{Node}
use Rattle.query_graph.specs.declared.operator.Operator.TheVariants as operators
use Rattle.query_graph.specs.declared.operator.Select.{Select}
use Rattle.query_graph.specs.Content.{Content}
use Rattle.query_graph.specs.NodeSizes.{width_at}
use Rattle.rewrites.specs.Parts.{is_joint, parts_at, parts_of}
use Rattle.rewrites.specs.Rewritten.{rewritten_of}
use Rattle.rewrites.specs.Up.{is_answer, is_copy, is_first_source, is_up_at, used_nodes, uses}

-- a later node that is up has this one as its source
pub record IsUnderUp (graph : Content) (i : ℕ) : Type 0 where
  pub user : ℕ
  pub later : i < user
  pub node : Node
  pub at : slice_get graph.nodes user ≡ Some node
  pub up : is_up_at (rewritten_of graph).up user ≡ true
  pub source : is_first_source i node.shape ≡ true

-- the select with this number names no party, has a joint part under it, copies each column of its source, and is used
-- once, by an output or by a select that is up
pub record IsUp (graph : Content) (i : ℕ) (s : Select) : Type 0 where
  pub free : s.clear_at ≡ None
  pub joint : list_any (λ part. is_joint part) (parts_at (parts_of graph.nodes) s.source) ≡ true
  pub copied : (column : ℕ) → column < width_at graph.nodes s.source → list_any (λ item. is_copy column item) s.items ≡ true
  pub once : uses (used_nodes graph) i ≡ 1
  pub user : (is_answer graph i ≡ true) ⊎ IsUnderUp graph i

-- exactly the selects of which this holds are up, and no other node is
pub record UpInWords : Type 0 where
  pub selects : (graph : Content) (i : ℕ) (node : Node) → slice_get graph.nodes i ≡ Some node → is_up_at (rewritten_of graph).up i ≡ true → (s : Select) × (node.shape ≡ operators.Select s)
  pub exactly : (graph : Content) (i : ℕ) (node : Node) (s : Select) → slice_get graph.nodes i ≡ Some node → node.shape ≡ operators.Select s → is_up_at (rewritten_of graph).up i ≡ true ↔ IsUp graph i s
