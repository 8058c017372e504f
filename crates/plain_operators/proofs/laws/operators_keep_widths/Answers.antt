use Rattle.std.proofs.Common.{◌≡◌, length, map}
use Rattle.std.specs.List.{list_all}
use Rattle.std.proofs.lemmas.List.{length-map}
use Rattle.std.proofs.lemmas.List.Elements.{All-filter, All-map}
use Rattle.plain_operators.proofs.DistinctRows.{All-distinct_rows}
use Rattle.plain_operators.proofs.Sizes.{grouped_rows-AllWide, joined_rows-AllWide, whole_table_rows-AllWide}
use Rattle.plain_operators.proofs.Lists.{All-each}
use Rattle.plain_operators.proofs.laws.operators_keep_widths.Goals as goal

pub returns : goal.returns
returns c = record {
  kept = λ tests width rows. All-filter (λ row. list_all (λ test. test row) tests) (λ row. length row ≡ width) rows;
  items = λ items rows. All-map (λ row. length row ≡ length items) (λ row. map (λ item. item row) items) rows (All-each (λ row. length (map (λ item. item row) items) ≡ length items) (λ row. length-map items (λ item. item row)) rows);
  joined = joined_rows-AllWide;
  distinct = λ width. All-distinct_rows (λ row. length row ≡ width);
  grouped = grouped_rows-AllWide;
  whole = whole_table_rows-AllWide;
}
