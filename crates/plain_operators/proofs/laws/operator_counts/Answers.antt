use Rattle.std.proofs.Common.{map}
use Rattle.std.specs.List.{list_all}
use Rattle.std.proofs.lemmas.List.{length-map}
use Rattle.plain_operators.proofs.Sizes.{length-distinct_rows-le, length-grouped_rows-le, length-joined_rows-le, length-whole_table_rows-le}
use Rattle.plain_operators.proofs.Lists.{length-filter-le}
use Rattle.plain_operators.proofs.laws.operator_counts.Goals as goal

pub returns : goal.returns
returns c = record {
  kept = λ tests. length-filter-le (λ row. list_all (λ test. test row) tests);
  items = λ items rows. length-map rows (λ row. map (λ item. item row) items);
  joined = length-joined_rows-le;
  distinct = length-distinct_rows-le;
  grouped = length-grouped_rows-le;
  whole = length-whole_table_rows-le;
}
