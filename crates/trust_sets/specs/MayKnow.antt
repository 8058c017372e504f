-- What a party may know of columns: what they need of the sources, and that they are the same for it in agreeing worlds.
use Rattle.std.specs.Prelude.{◌≡◌, ℕ, ◌+◌, ⊤, List, Option, Some, length, map, slice_get}
use Rattle.std.specs.List.{All}
use Rattle.query_graph.specs.Content as graph_content
use Rattle.query_graph.specs.IsGraph.{IsGraph}
use Rattle.query_graph.specs.declared.flag.Flag.{Flag}
use Rattle.query_graph.specs.declared.operand.Aggregate.{Aggregate}
use Rattle.query_graph.specs.declared.operand.Aggregate.TheVariants as aggregates
use Rattle.query_graph.specs.declared.operand.Test.{Test}
use Rattle.plain_operators.specs.Columns.{other_columns}
use Rattle.plain_operators.specs.Cuts.{CutsAgree}
use Rattle.plain_operators.specs.Operators.{left_keys, right_keys}
use Rattle.plain_meaning.specs.Fits.{IsWorldOf}
use Rattle.plain_meaning.specs.Meaning.{meanings, rows_of}
use Rattle.trust_sets.specs.declared.known.Known.{Known}
use Rattle.trust_sets.specs.Agreement.{Agree, FilesAgree}
use Rattle.trust_sets.specs.Known.{known_at, known_concat, known_filter, known_group, known_join, known_nodes}
use Rattle.trust_sets.specs.Laws.{KnowsColumn, KnowsRows}
use Rattle.trust_sets.specs.Steps.{SameFor, SameIfKnown}

-- the party may know the column that an aggregate gathers
abbrev pub KnowsAggregate : ℕ → Known → Aggregate → Type 0
KnowsAggregate party source (aggregates.Sum column) = KnowsColumn party source column
KnowsAggregate party source aggregates.Count = ⊤
KnowsAggregate party source (aggregates.Least column) = KnowsColumn party source column
KnowsAggregate party source (aggregates.Greatest column) = KnowsColumn party source column

-- who may know a column of an operator's rows may know the columns of its sources from which it comes: the same of a
-- filter's; of a concat's the same of every source, as of its rows; the column of an aggregate, which stands behind the
-- keys; a join's other columns, which stand behind the keys, the left's before the right's
pub record WhatColumnsNeed : Type 0 where
  pub filtered : (party : ℕ) (source : Known) (tests : List Test) (column : ℕ) → KnowsColumn party (known_filter source tests) column → KnowsColumn party source column
  pub appended_rows : (party : ℕ) (sources : List ℕ) (known : ℕ → Known) → KnowsRows party (known_concat (map known sources)) → All (λ s. KnowsRows party (known s)) sources
  pub appended : (party : ℕ) (sources : List ℕ) (known : ℕ → Known) (column : ℕ) → KnowsColumn party (known_concat (map known sources)) column → All (λ s. KnowsColumn party (known s) column) sources
  pub aggregated : (party : ℕ) (source : Known) (keys : List ℕ) (wanted : List Aggregate) (i : ℕ) (aggregate : Aggregate) → slice_get wanted i ≡ Some aggregate
      → KnowsColumn party (known_group source keys wanted) (length keys + i) → KnowsAggregate party source aggregate
  pub joined_left : (party : ℕ) (left right : Known) (keys : List (ℕ × ℕ)) (i column : ℕ) → slice_get (other_columns (left_keys keys) (length left.columns)) i ≡ Some column
      → KnowsColumn party (known_join left right keys) (length keys + i) → KnowsColumn party left column
  pub joined_right : (party : ℕ) (left right : Known) (keys : List (ℕ × ℕ)) (i column : ℕ) → slice_get (other_columns (right_keys keys) (length right.columns)) i ≡ Some column
      → KnowsColumn party (known_join left right keys) (length keys + length (other_columns (left_keys keys) (length left.columns)) + i) → KnowsColumn party right column

-- columns that a party may each know: of rows that are the same for it, and so of a node whose rows it may know in two
-- worlds whose files agree for it, they have the same bag
pub record KnownColumnsAreSame : Type 0 where
  pub rows : (party : ℕ) (source : Known) (columns : List ℕ) (xs ys : List (List ℕ)) → All (KnowsColumn party source) columns → SameFor party source xs ys → CutsAgree columns xs ys
  pub nodes : (graph : graph_content.Content) (party : ℕ) (world other : List (List (List ℕ))) → IsGraph graph → IsWorldOf graph.nodes world → IsWorldOf graph.nodes other
      → FilesAgree graph.nodes (known_nodes graph.nodes) party world other
      → (node : ℕ) (columns : List ℕ) → KnowsRows party (known_at (known_nodes graph.nodes) node) → All (KnowsColumn party (known_at (known_nodes graph.nodes) node)) columns
      → CutsAgree columns (rows_of (meanings graph.nodes world) node) (rows_of (meanings graph.nodes other) node)

-- rows that are the same for a party are so with fewer known columns, and each source's rows are with the columns that it
-- may know of a concat: these are the parts of the concat
pub record RowsNarrow : Type 0 where
  pub fewer : (party : ℕ) (more less : Known) (xs ys : List (List ℕ)) → length more.columns ≡ length less.columns → (KnowsRows party less → KnowsRows party more)
      → ((column : ℕ) → KnowsColumn party less column → KnowsColumn party more column) → SameIfKnown party more xs ys → SameIfKnown party less xs ys
  pub part : (party width : ℕ) (sources : List ℕ) (known : ℕ → Known) (place source : ℕ) (xs ys : List (List ℕ)) → All (λ s. length (known s).columns ≡ width) sources
      → slice_get sources place ≡ Some source → SameIfKnown party (known source) xs ys → SameIfKnown party (known_concat (map known sources)) xs ys

-- agreement of two worlds is an equivalence
pub record AgreementIsEquivalence : Type 0 where
  pub itself : (graph : graph_content.Content) (known : List Known) (party : ℕ) (world : List (List (List ℕ))) (excess : Option Flag) → Agree graph known party world world excess excess
  pub back : (graph : graph_content.Content) (known : List Known) (party : ℕ) (world other : List (List (List ℕ))) (excess other_excess : Option Flag)
      → Agree graph known party world other excess other_excess → Agree graph known party other world other_excess excess
  pub along : (graph : graph_content.Content) (known : List Known) (party : ℕ) (world other third : List (List (List ℕ))) (excess other_excess third_excess : Option Flag)
      → Agree graph known party world other excess other_excess → Agree graph known party other third other_excess third_excess → Agree graph known party world third excess third_excess
