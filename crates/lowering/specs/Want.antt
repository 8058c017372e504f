-- What a query's plan shows each party of a world: no more than this.
use Rattle.std.specs.Prelude.{ℕ, List, [], ◌++◌, take}
use Rattle.std.specs.List.{flat_map}
use Rattle.lanes.specs.Party.{number_of}
use Rattle.lanes.specs.declared.party.Party.{Party}
use Rattle.padded.specs.Table.{opened_rows}
use Rattle.plain_meaning.specs.Meaning.{meanings, rows_of}
use Rattle.query_graph.specs.Content.{Content}
use Rattle.query_graph.specs.IsGraph.{rows_at}
use Rattle.query_graph.specs.NodeSizes.{width_at}
use Rattle.query_graph.specs.Parties.{has}
use Rattle.query_graph.specs.declared.node.Node.{Node}
use Rattle.query_graph.specs.declared.node.Output.{Output}
use Rattle.step_lists.specs.Seen.{Seen, Rows, only}

-- a node that is worked on shares shows nothing to anyone
abbrev pub shown_by_node : Content → List (List (List ℕ)) → Node → Party → List Seen
shown_by_node graph world node v = []

-- an output shows its recipients the rows of its node, each with a 1 behind it, and rows of zeros up to the declared rows
abbrev pub shown_by_output : Content → List (List (List ℕ)) → Output → Party → List Seen
shown_by_output graph world output v =
    only (has output.recipients (number_of v)) (Rows (opened_rows (width_at graph.nodes output.node) (rows_at graph.nodes output.node) (rows_of (meanings graph.nodes world) output.node)))

-- the first nodes and the first outputs, so many
abbrev pub shown_by_first : Content → ℕ → ℕ → List (List (List ℕ)) → Party → List Seen
shown_by_first graph nodes outputs world v =
    flat_map (λ node. shown_by_node graph world node v) (take nodes graph.nodes) ++ flat_map (λ output. shown_by_output graph world output v) (take outputs graph.outputs)

-- all of them
abbrev pub shown_by : Content → List (List (List ℕ)) → Party → List Seen
shown_by graph world v =
    flat_map (λ node. shown_by_node graph world node v) graph.nodes ++ flat_map (λ output. shown_by_output graph world output v) graph.outputs
