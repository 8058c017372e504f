-- Rows that are the same for a party, and that each operator keeps them so.
use Rattle.std.specs.Prelude.{◌≡◌, ℕ, List, length, map}
use Rattle.std.specs.List.{All, flat_map}
use Rattle.query_graph.specs.Content as graph_content
use Rattle.query_graph.specs.IsGraph.{IsGraph}
use Rattle.query_graph.specs.declared.operand.Aggregate.{Aggregate}
use Rattle.query_graph.specs.declared.operand.Item.{Item}
use Rattle.query_graph.specs.declared.operand.Test.{Test}
use Rattle.plain_operators.specs.Cuts.{SameCut}
use Rattle.plain_operators.specs.Items.{holds_of, item_word}
use Rattle.plain_operators.specs.Operators.{distinct_rows, joined_rows, kept_rows, rows_of_items}
use Rattle.plain_meaning.specs.Convert.{aggregate_of, item_of, test_of}
use Rattle.plain_meaning.specs.Fits.{IsWorldOf}
use Rattle.plain_operators.specs.OnSources.{group_of_rows}
use Rattle.plain_meaning.specs.Meaning.{meanings, rows_of}
use Rattle.trust_sets.specs.declared.known.Known.{Known}
use Rattle.trust_sets.specs.Agreement.{FilesAgree, known_columns}
use Rattle.trust_sets.specs.Known.{known_at, known_concat, known_distinct, known_filter, known_group, known_join, known_nodes, known_select}
use Rattle.trust_sets.specs.Laws.{KnowsRows}

-- two lists of rows as wide as the columns, and the columns that the party may know have the same bag of rows
abbrev pub SameFor : ℕ → Known → List (List ℕ) → List (List ℕ) → Type 0
SameFor party source xs ys = SameCut (length source.columns) (known_columns party source) xs ys

-- the same for the party, where it may know the rows
abbrev pub SameIfKnown : ℕ → Known → List (List ℕ) → List (List ℕ) → Type 0
SameIfKnown party source xs ys = KnowsRows party source → SameFor party source xs ys

-- for each operator: where the party may know the new rows they are the same for it, if the rows of each source are
-- that it may know. A source is given by its sets and twice by its rows; the sources of a concat are numbered
pub record TrustSteps : Type 0 where
  pub filter : (party : ℕ) (source : Known) (tests : List Test) (xs ys : List (List ℕ)) → SameIfKnown party source xs ys
      → SameIfKnown party (known_filter source tests) (kept_rows (map holds_of (map test_of tests)) xs) (kept_rows (map holds_of (map test_of tests)) ys)
  pub select : (party : ℕ) (source : Known) (items : List Item) (xs ys : List (List ℕ)) → SameIfKnown party source xs ys
      → SameIfKnown party (known_select source items) (rows_of_items (map item_word (map item_of items)) xs) (rows_of_items (map item_word (map item_of items)) ys)
  pub concat : (party width : ℕ) (sources : List ℕ) (known : ℕ → Known) (xs ys : ℕ → List (List ℕ)) → All (λ s. length (known s).columns ≡ width) sources
      → All (λ s. SameIfKnown party (known s) (xs s) (ys s)) sources → SameIfKnown party (known_concat (map known sources)) (flat_map xs sources) (flat_map ys sources)
  pub join : (party : ℕ) (left right : Known) (keys : List (ℕ × ℕ)) (xs ys us vs : List (List ℕ)) → SameIfKnown party left xs ys → SameIfKnown party right us vs
      → SameIfKnown party (known_join left right keys) (joined_rows keys xs us) (joined_rows keys ys vs)
  pub group : (party : ℕ) (source : Known) (keys : List ℕ) (aggregates : List Aggregate) (xs ys : List (List ℕ)) → SameIfKnown party source xs ys
      → SameIfKnown party (known_group source keys aggregates) (group_of_rows keys (map aggregate_of aggregates) xs) (group_of_rows keys (map aggregate_of aggregates) ys)
  pub distinct : (party : ℕ) (source : Known) (xs ys : List (List ℕ)) → SameIfKnown party source xs ys
      → SameIfKnown party (known_distinct source) (distinct_rows xs) (distinct_rows ys)

-- in two worlds of a graph whose files agree for a party, each node whose rows it may know is the same for it
abbrev pub TrustLemma : Type 0
TrustLemma = (graph : graph_content.Content) (party : ℕ) (world other : List (List (List ℕ))) → IsGraph graph → IsWorldOf graph.nodes world → IsWorldOf graph.nodes other
    → FilesAgree graph.nodes (known_nodes graph.nodes) party world other
    → (node : ℕ) → SameIfKnown party (known_at (known_nodes graph.nodes) node) (rows_of (meanings graph.nodes world) node) (rows_of (meanings graph.nodes other) node)
