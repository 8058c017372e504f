use Rattle.std.proofs.Common.{◌≡◌, ℕ, ◌++◌, List, drop}
use Rattle.plain_meaning.specs.Columns.{columns_at}
use Rattle.plain_meaning.specs.Meaning.{meanings}
use Rattle.plain_meaning.specs.Plain.{IsPlain}
use Rattle.rewrites.specs.Parts.{parts_at, parts_of}
use Rattle.rewrites.specs.PartRows.{pieces_at, pieces_of}
use Rattle.places.specs.Excess.{party_rows, rows_at_party}
use Rattle.places.proofs.party_rows.party_table.Given as goal

-- the rows so far, and those of the parts that are left
abbrev pub invariant-loop-number : goal.invariant-loop-number
invariant-loop-number l = record {
  columns : l.pooled.columns ≡ columns_at l.graph.nodes l.node;
  rows : (world : List (List (List ℕ))) → IsPlain l.graph.nodes world l.rows.tables l.rows.over
      → party_rows l.graph world l.node l.party ≡ l.pooled.rows ++ rows_at_party l.party (drop l.number (parts_at (parts_of l.graph.nodes) l.node)) (drop l.number (pieces_at (pieces_of l.graph.nodes (meanings l.graph.nodes world)) l.node));
}
