-- The operator of a node on its sources' tables.
use Rattle.std.proofs.Common.{◌≡◌, ℕ, ◌<◌, Bool, false, true, true≢false, List, [], ◌∷◌, get_or, map, refl, sym, ap, ◌∙◌, subst, arith}
use Rattle.std.specs.Prelude.{Option, Some, None, IsSomeAnd, is_some, ◌||◌, slice_get}
use Rattle.std.specs.List.{All, AllByRecursion, AllZip}
use Rattle.std.specs.Option.{option_map_or}
use Rattle.std.proofs.lemmas.List.Elements.{All-from_recursion, recursion_from_All}
use Rattle.plain_meaning.specs.Operators.{NodesAreOperators, operator_of}
use Rattle.plain_operators.specs.OnSources as on_sources
use Rattle.query_graph.specs.Content.{Content}
use Rattle.query_graph.specs.IsGraph.{IsGraph, rows_at}
use Rattle.query_graph.specs.NodeSizes.{IsNodeOf, NodesAreWritten, unbounded_size, width_at}
use Rattle.query_graph.specs.Observers.{at_most_of, clear_at_of, is_relation, parts_at_most_of, sources_of, via_of}
use Rattle.query_graph.specs.declared.node.Node.{Node}
use Rattle.shared_ops.specs.Joint.{AreJoint, IsJoint}
use Rattle.shared_ops.specs.NodeLaws.{NodesFitTables}
use Rattle.shared_ops.specs.Nodes.{MakesNode, MakesOf, sizes_of, widths_of}
use Rattle.query_graph.specs.declared.operator.Operator.{Operator}
use Rattle.wires.specs.Environment.{Environment}
use Rattle.shared_ops.specs.declared.joint.Joint.{Joint}
use Rattle.step_lists.specs.Layout.{Layout, Steps, layout_of}
use Rattle.clear_tasks.specs.declared.task.ClearTask.{ClearTask}
use Rattle.lowering.specs.Pieces.{AddsQuietly, AreWorkable, IsWorkedNode}
use Rattle.step_lists.specs.declared.step.Step.{Step}
use Rattle.lowering.specs.Stored.{AreRegisters}
use Rattle.lowering.specs.Unbuilt.{is_written}
use Rattle.lowering.proofs.Elements.{at_within, below_length, within}

-- tables of some nodes
abbrev pub AreTables : List Node → Layout → List ℕ → List Joint → Type 0
AreTables nodes l sources tables = AllZip (λ s t. AreRegisters l (rows_at nodes s) (width_at nodes s) t) sources tables

pub sizes_are : (nodes : List Node) (l : Layout) (ss : List ℕ) (ts : List Joint) → AreTables nodes l ss ts → sizes_of ts ≡ map (rows_at nodes) ss
sizes_are nodes l [] [] h = refl
sizes_are nodes l [] (t ∷ ts) h = absurd h
sizes_are nodes l (s ∷ ss) [] h = absurd h
sizes_are nodes l (s ∷ ss) (t ∷ ts) h = ap (λ n. n ∷ sizes_of ts) h.0.rows_are ∙ ap (λ ns. rows_at nodes s ∷ ns) (sizes_are nodes l ss ts h.1)

pub widths_are : (nodes : List Node) (l : Layout) (ss : List ℕ) (ts : List Joint) → AreTables nodes l ss ts → widths_of ts ≡ map (width_at nodes) ss
widths_are nodes l [] [] h = refl
widths_are nodes l [] (t ∷ ts) h = absurd h
widths_are nodes l (s ∷ ss) [] h = absurd h
widths_are nodes l (s ∷ ss) (t ∷ ts) h = ap (λ n. n ∷ widths_of ts) h.0.wide ∙ ap (λ ns. width_at nodes s ∷ ns) (widths_are nodes l ss ts h.1)

each_joint : (nodes : List Node) (l : Layout) (ss : List ℕ) (ts : List Joint) → AreTables nodes l ss ts → AllByRecursion (IsJoint l.registers) ts
each_joint nodes l [] [] h = tt
each_joint nodes l [] (t ∷ ts) h = absurd h
each_joint nodes l (s ∷ ss) [] h = absurd h
each_joint nodes l (s ∷ ss) (t ∷ ts) h = (h.0.joint, each_joint nodes l ss ts h.1)

pub are_joint : (nodes : List Node) (l : Layout) (ss : List ℕ) (ts : List Joint) → AreTables nodes l ss ts → AreJoint l.registers ts
are_joint nodes l ss ts h = All-from_recursion (IsJoint l.registers) ts (each_joint nodes l ss ts h)

each_some : (nodes : List Node) (l : Layout) (ss : List ℕ) (ts : List Joint) → AllByRecursion (λ s. 0 < rows_at nodes s) ss → AreTables nodes l ss ts → AllByRecursion (λ t. 0 < t.rows) ts
each_some nodes l [] [] k h = tt
each_some nodes l [] (t ∷ ts) k h = absurd h
each_some nodes l (s ∷ ss) [] k h = absurd h
each_some nodes l (s ∷ ss) (t ∷ ts) k h = (omega (arith, k.0, h.0.rows_are), each_some nodes l ss ts k.1 h.1)

none_written : {A : Type 0} (o : Option A) → is_some o ≡ false → o ≡ None
none_written None h = refl
none_written (Some x) h = absurd (true≢false h)

or_false : (a b : Bool) → (a || b) ≡ false → (a ≡ false) × (b ≡ false)
or_false true b h = absurd (true≢false h)
or_false false b h = (refl, h)

module _ (graph : Content) (is_graph : IsGraph graph) (i : ℕ) (node : Node) (is_node : slice_get graph.nodes i ≡ Some node) where
  pub node_of : IsNodeOf graph i node
  node_of = record { is_graph = is_graph; is_node = is_node }

  -- each source has a row
  pub some_rows : NodesAreWritten → (l : Layout) (ts : List Joint) → AreTables graph.nodes l (sources_of node.shape) ts → All (λ t. 0 < t.rows) ts
  some_rows written l ts h =
      All-from_recursion (λ t. 0 < t.rows) ts
      (each_some graph.nodes l (sources_of node.shape) ts (all (sources_of node.shape) (recursion_from_All (λ s. s < i) (sources_of node.shape) (written.sources graph i node (record { is_graph = is_graph; is_node = is_node })))) h)
    where
      rows_some : (s : ℕ) → s < i → 0 < rows_at graph.nodes s
      rows_some s below =
          let k = below_length graph.nodes i node is_node in
          let found = within graph.nodes s (omega (arith, k, below)) in
          let few = (is_graph.nodes s found.0 found.1).some_rows in
          let e : rows_at graph.nodes s ≡ found.0.rows = ap (λ (o : Option Node). option_map_or (λ n. n.rows) o 0) found.1 in
          omega (arith, few, e)

      all : (ss : List ℕ) → AllByRecursion (λ s. s < i) ss → AllByRecursion (λ s. 0 < rows_at graph.nodes s) ss
      all [] k = tt
      all (s ∷ ss) k = (rows_some s k.0, all ss k.1)

  -- and without a bound the operator's rows are the node's
  pub few_rows : NodesFitTables → NodesAreOperators → is_relation node.shape ≡ false → at_most_of node.shape ≡ None → parts_at_most_of node.shape ≡ None
      → unbounded_size node.shape (map (rows_at graph.nodes) (sources_of node.shape)) ≡ node.rows
  few_rows fit operators no_relation bound parts =
      let known = fit.known node.shape no_relation in
      operators.sizes node.shape known.0 (map (rows_at graph.nodes) (sources_of node.shape)) known.1
      ∙ fit.rows graph i node known.0 (record { is_graph = is_graph; is_node = is_node }) known.1 bound parts

-- what a caller knows of the node that is worked
pub record IsWorkable (graph : Content) (list : Steps ClearTask) (i : ℕ) (node : Node) (tables : List Joint) : Type 0 where
  pub is_node : slice_get graph.nodes i ≡ Some node
  pub no_relation : is_relation node.shape ≡ false
  pub at_most : at_most_of node.shape ≡ None
  pub parts_at_most : parts_at_most_of node.shape ≡ None
  pub made : AreTables graph.nodes (layout_of list) (sources_of node.shape) tables

no_bound : (node : Node) → is_written node.shape ≡ false → (at_most_of node.shape ≡ None) × (parts_at_most_of node.shape ≡ None)
no_bound node h =
    let one = or_false (is_some (at_most_of node.shape) || is_some (parts_at_most_of node.shape) || is_some (via_of node.shape)) (is_some (clear_at_of node.shape)) h in
    let two = or_false (is_some (at_most_of node.shape) || is_some (parts_at_most_of node.shape)) (is_some (via_of node.shape)) one.0 in
    let three = or_false (is_some (at_most_of node.shape)) (is_some (parts_at_most_of node.shape)) two.0 in
    (none_written (at_most_of node.shape) three.0, none_written (parts_at_most_of node.shape) three.1)

pub workable : (graph : Content) (list : Steps ClearTask) (i : ℕ) (node : Node) (tables : List Joint) → AreWorkable graph list i tables → slice_get graph.nodes i ≡ Some node → IsWorkable graph list i node tables
workable graph list i node tables h is =
    subst (λ n. IsWorkable graph list i n tables) (let e = sym h.is_node ∙ is in cc)
    (record { is_node = h.is_node; no_relation = h.no_relation; at_most = (no_bound h.node h.unwritten).0; parts_at_most = (no_bound h.node h.unwritten).1; made = h.made })

-- a node of a graph, by its number
pub number_node : (nodes : List Node) (i : ℕ) (n : Node) (node : Node) → slice_get nodes i ≡ Some n → node ≡ get_or nodes i node → slice_get nodes i ≡ Some node
number_node nodes i n node is e = at_within nodes i node (below_length nodes i n is) ∙ ap Some (sym e)

-- what is made of a node is what is made of its operator
pub made_of : (possible : Environment → Type 0) (registers : List ℕ) (t : Joint) (shape : Operator) (tables : List Joint) (operator : on_sources.Operator)
    → operator_of shape ≡ Some operator → MakesNode possible registers t shape tables → MakesOf possible registers t operator tables
made_of possible registers t shape tables operator e h = subst (λ o. IsSomeAnd o (λ x. MakesOf possible registers t x tables)) e h

pub worked_as : {nodes : List Node} {a b : Steps ClearTask} {node other : Node} {tables : List Joint} {t : Joint} → node ≡ other → IsWorkedNode nodes a b node tables t → IsWorkedNode nodes a b other tables t
worked_as {nodes} {a} {b} {node} {other} {tables} {t} e h = subst (λ n. IsWorkedNode nodes a b n tables t) e h

pub adds_as : {a b : Steps ClearTask} {may : Step ClearTask → Bool} {m n : ℕ} → m ≡ n → AddsQuietly a b may m → AddsQuietly a b may n
adds_as {a} {b} {may} {m} {n} e h = subst (AddsQuietly a b may) e h
