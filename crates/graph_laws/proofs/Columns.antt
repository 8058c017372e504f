-- The columns of a declaration, of items, of keys and of aggregates have the written names and kinds.
use Rattle.std.proofs.Common.{◌≡◌, ℕ, List, ◌++◌, None, map, refl}
use Rattle.std.specs.List.{AllZip}
use Rattle.words.specs.declared.column.Column.{Column}
use Rattle.query_text.specs.declared.operand.KindText.{KindText}
use Rattle.query_text.specs.declared.operand.KindText.TheVariants as written
use Rattle.query_text.specs.declared.operand.Op.{Op}
use Rattle.query_text.specs.declared.operand.Op.TheVariants as ops
use Rattle.query_text.specs.declared.operand.OperandText.{OperandText}
use Rattle.query_text.specs.declared.operand.OperandText.TheVariants as operands
use Rattle.query_text.specs.declared.parts.AggregateText.{AggregateText}
use Rattle.query_text.specs.declared.parts.AggregateText.TheVariants as aggregates
use Rattle.query_text.specs.declared.parts.ColumnText.{ColumnText}
use Rattle.query_text.specs.declared.parts.ItemText.{ItemText}
use Rattle.query_text.specs.declared.parts.ItemText.TheVariants as items
use Rattle.query_graph.specs.Columns.{aggregate_column, declared_column, item_column, key_column}
use Rattle.query_graph.specs.Faults.{first_fault}
use Rattle.query_graph.specs.Kinds.{declared_kind, operand_kind, result_kind}
use Rattle.query_graph.specs.Names.{column_kind}
use Rattle.query_graph.specs.Used.{unknown_column, unknown_in_aggregate, unknown_in_item, unknown_operand}
use Rattle.graph_laws.specs.Columns.{AggregateHasColumn, DeclaresColumn, GroupHasColumns, IsDeclared, IsGiven, IsKindNamed, IsKindOf, ItemHasColumn, KeyHasColumn}
use Rattle.graph_laws.proofs.Faults.{each_part, none_faulty, zip_made}
use Rattle.graph_laws.proofs.Known.{known_column}
use Rattle.graph_laws.proofs.Parts.{known_both}

kind_declared : (kind : KindText) → IsDeclared kind (declared_kind kind)
kind_declared written.Num = refl
kind_declared written.Text = refl

kind_given : (op : Op) → IsGiven op (result_kind op)
kind_given (ops.Compare cmp) = refl
kind_given ops.Add = refl
kind_given ops.Sub = refl
kind_given ops.Mul = refl
kind_given ops.And = refl
kind_given ops.Or = refl

kind_named : (line : ℕ) (source : List Column) (name : List ℕ) → unknown_column line source source name ≡ None → IsKindNamed source name (column_kind source name)
kind_named line source name passes =
    let found = known_column source name (known_both line source source name passes).0 in
    (_, found.column, found.is, found.same)

kind_of_operand : (line : ℕ) (source : List Column) (o : OperandText) → unknown_operand line source source o ≡ None → IsKindOf source o (operand_kind source o)
kind_of_operand line source (operands.Name name) passes = kind_named line source name passes
kind_of_operand line source (operands.Number n) passes = refl
kind_of_operand line source (operands.Quoted text) passes = refl
kind_of_operand line source operands.True passes = refl
kind_of_operand line source operands.False passes = refl

item_column_made : (line : ℕ) (source : List Column) (i : ItemText) → unknown_in_item line source source i ≡ None → ItemHasColumn source i (item_column source i)
item_column_made line source (items.Same name) passes = record { named = refl; kind = kind_named line source name passes }
item_column_made line source (items.Copied new o) passes = record { named = refl; kind = kind_of_operand line source o passes }
item_column_made line source (items.Computed new left op right) passes = record { named = refl; kind = kind_given op }

aggregate_column_made : (line : ℕ) (source : List Column) (a : AggregateText) → unknown_in_aggregate line source source a ≡ None → AggregateHasColumn source a (aggregate_column source a)
aggregate_column_made line source (aggregates.Sum new name) passes = record { named = refl; kind = refl }
aggregate_column_made line source (aggregates.Count new) passes = record { named = refl; kind = refl }
aggregate_column_made line source (aggregates.Least new name) passes = record { named = refl; kind = kind_named line source name passes }
aggregate_column_made line source (aggregates.Greatest new name) passes = record { named = refl; kind = kind_named line source name passes }

-- the lists of them
pub declared_columns : (columns : List ColumnText) → AllZip DeclaresColumn columns (map declared_column columns)
declared_columns columns = each_part declared_column DeclaresColumn (λ c. record { named = refl; kind = kind_declared c.kind }) columns

pub item_columns : (line : ℕ) (source : List Column) (items : List ItemText) → first_fault (unknown_in_item line source source) items ≡ None
    → AllZip (ItemHasColumn source) items (map (item_column source) items)
item_columns line source items passes =
    zip_made (λ i. unknown_in_item line source source i ≡ None) (item_column source) (ItemHasColumn source) (item_column_made line source) items
    (none_faulty (unknown_in_item line source source) items passes)

key_columns : (line : ℕ) (source : List Column) (keys : List (List ℕ)) → first_fault (unknown_column line source source) keys ≡ None
    → AllZip (KeyHasColumn source) keys (map (key_column source) keys)
key_columns line source keys passes =
    zip_made (λ k. unknown_column line source source k ≡ None) (key_column source) (KeyHasColumn source)
    (λ k none. record { named = refl; kind = kind_named line source k none }) keys (none_faulty (unknown_column line source source) keys passes)

aggregate_columns : (line : ℕ) (source : List Column) (aggregates : List AggregateText) → first_fault (unknown_in_aggregate line source source) aggregates ≡ None
    → AllZip (AggregateHasColumn source) aggregates (map (aggregate_column source) aggregates)
aggregate_columns line source aggregates passes =
    zip_made (λ a. unknown_in_aggregate line source source a ≡ None) (aggregate_column source) (AggregateHasColumn source) (aggregate_column_made line source) aggregates
    (none_faulty (unknown_in_aggregate line source source) aggregates passes)

pub group_columns : (line : ℕ) (source : List Column) (keys : List (List ℕ)) (aggregates : List AggregateText) → first_fault (unknown_column line source source) keys ≡ None
    → first_fault (unknown_in_aggregate line source source) aggregates ≡ None
    → GroupHasColumns source keys aggregates (map (key_column source) keys ++ map (aggregate_column source) aggregates)
group_columns line source keys aggregates known known_too = record {
  first = map (key_column source) keys;
  others = map (aggregate_column source) aggregates;
  all = refl;
  of_keys = key_columns line source keys known;
  of_aggregates = aggregate_columns line source aggregates known_too;
}
