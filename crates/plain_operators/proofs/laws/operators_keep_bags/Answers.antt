use Rattle.std.specs.List.{list_all}
use Rattle.std.proofs.Common.{map}
use Rattle.plain_operators.proofs.BagFacts.{BagLaws}
use Rattle.plain_operators.specs.Laws.{OperatorsKeepBags}
use Rattle.plain_operators.proofs.DistinctRows.{SameBag-distinct_rows}
use Rattle.plain_operators.proofs.Groups.{grouped_rows-SameBag, whole_table_rows-SameBag}
use Rattle.plain_operators.proofs.Joins.{joined_rows-SameBag}
use Rattle.plain_operators.proofs.laws.operators_keep_bags.Goals as goal

-- from the laws of bags
keep_bags : BagLaws → OperatorsKeepBags
keep_bags laws = record {
  kept = λ tests. laws.filters (λ row. list_all (λ test. test row) tests);
  items = λ items. laws.maps (λ row. map (λ item. item row) items);
  joined = λ keys xs ys us vs. joined_rows-SameBag laws keys;
  distinct = λ xs ys. SameBag-distinct_rows;
  grouped = λ keys aggregates xs ys. grouped_rows-SameBag laws keys aggregates;
  whole = λ aggregates xs ys. whole_table_rows-SameBag laws aggregates;
}

pub returns : goal.returns
returns c = keep_bags
    (record {
      keep = c.bags_keep_rows.ensures;
      maps = c.bags_of_map.ensures;
      filters = c.bags_of_filter.ensures;
      flat_maps = c.bags_of_flat_map.ensures;
      folds = c.fold_of_words.ensures;
      words = c.words_of_rows.ensures;
    })
