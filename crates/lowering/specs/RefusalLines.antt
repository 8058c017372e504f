-- With which line a text is refused.
use Rattle.std.specs.Prelude.{◌≡◌, ℕ, List}
use Rattle.query_graph.specs.Content.{Content}
use Rattle.query_graph.specs.TextGraph.{HasGraph}
use Rattle.query_text.specs.declared.query.ReadFault.{ReadFault}
use Rattle.query_text.specs.declared.query.ReadFault.TheVariants as reading
use Rattle.lowering.specs.Lines.{graph_refused, text_refused, trust_refused}
use Rattle.lowering.specs.declared.fault.Refusal.{Refusal}
use Rattle.lowering.specs.declared.fault.Refusal.TheVariants.{Text, Graph, Trust}

-- the place in the text; want of memory is no refusal
abbrev pub IsTextLine : ReadFault → List ℕ → Type 0
IsTextLine (reading.Text line column) bytes = bytes ≡ text_refused line column
IsTextLine reading.Memory bytes = ⊥

-- names of nodes and columns are those of the text's graph
abbrev pub IsRefusalLine : List ℕ → Refusal → List ℕ → Type 0
IsRefusalLine text (Text fault) bytes = IsTextLine fault bytes
IsRefusalLine text (Graph fault) bytes = bytes ≡ graph_refused fault
IsRefusalLine text (Trust fault) bytes = (graph : Content) → HasGraph text graph → bytes ≡ trust_refused graph.nodes fault
