use Rattle.std.proofs.Common.{◌<◌, ◌^◌, map}
use Rattle.std.specs.List.{list_all}
use Rattle.std.proofs.lemmas.List.Elements.{All-filter, All-map, All-weaker}
use Rattle.plain_operators.specs.Sizes.{IsOfWords}
use Rattle.plain_operators.proofs.DistinctRows.{All-distinct_rows}
use Rattle.plain_operators.proofs.Sizes.{grouped_rows-IsOfWords, joined_rows-IsOfWords, whole_table_rows-IsOfWords}
use Rattle.plain_operators.proofs.laws.operators_keep_words.Goals as goal

pub returns : goal.returns
returns c = record {
  kept = λ tests. All-filter (λ row. list_all (λ test. test row) tests) IsOfWords;
  items = λ items rows each words. All-map IsOfWords (λ row. map (λ item. item row) items) rows (All-weaker IsOfWords (λ row. IsOfWords (map (λ item. item row) items)) (λ row h. All-map (λ word. word < 2 ^ 64) (λ item. item row) items (each row h)) rows words);
  joined = joined_rows-IsOfWords;
  distinct = All-distinct_rows IsOfWords;
  grouped = grouped_rows-IsOfWords;
  whole = whole_table_rows-IsOfWords;
}
