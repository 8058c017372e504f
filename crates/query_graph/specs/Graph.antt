-- How what a graph keeps is its nodes and outputs.
use Rattle.query_graph.specs.declared.graph.Graph.TheInside.{Inside}
use Rattle.query_graph.specs.Content.{Content}

abbrev pub content_of : Inside → Content
content_of graph = record { nodes = graph.nodes.items; outputs = graph.outputs.items }
