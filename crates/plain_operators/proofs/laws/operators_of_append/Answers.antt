use Rattle.std.specs.List.{list_all}
use Rattle.std.proofs.Common.{map}
use Rattle.std.proofs.lemmas.List.{map-append}
use Rattle.std.proofs.lemmas.List.Concat.{flat_map-append}
use Rattle.std.proofs.lemmas.List.Elements.{filter-append}
use Rattle.plain_operators.specs.Operators.{joined_rows_of}
use Rattle.plain_operators.proofs.Joins.{joined_rows-append_right}
use Rattle.plain_operators.proofs.laws.operators_of_append.Goals as goal

pub returns : goal.returns
returns c = record {
  kept = λ tests. filter-append (λ row. list_all (λ test. test row) tests);
  items = λ items. map-append (λ row. map (λ item. item row) items);
  left = λ keys xs ys rights. flat_map-append (joined_rows_of keys rights) xs ys;
  right = joined_rows-append_right c.bags_of_flat_map.ensures;
}
