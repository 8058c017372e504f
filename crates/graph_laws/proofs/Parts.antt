-- Operands, tests, items, keys and aggregates are the written ones, where their names are known.
use Rattle.std.proofs.Common.{◌≡◌, ℕ, true, List, None, map, refl}
use Rattle.std.specs.List.{AllByRecursion, AllZip, list_all}
use Rattle.words.specs.declared.column.Column.{Column}
use Rattle.query_tokens.specs.Token.{IsToken}
use Rattle.query_text.specs.Spelling.{item, operand, test}
use Rattle.query_text.specs.declared.operand.OperandText.{OperandText}
use Rattle.query_text.specs.declared.operand.OperandText.TheVariants as operands
use Rattle.query_text.specs.declared.parts.AggregateText.{AggregateText}
use Rattle.query_text.specs.declared.parts.AggregateText.TheVariants as aggregates
use Rattle.query_text.specs.declared.parts.ItemText.{ItemText}
use Rattle.query_text.specs.declared.parts.ItemText.TheVariants as items
use Rattle.query_text.specs.declared.parts.TestText.{TestText}
use Rattle.query_graph.specs.Build.{key_numbers}
use Rattle.query_graph.specs.Faults.{first_fault}
use Rattle.query_graph.specs.Names.{column_number, is_column}
use Rattle.query_graph.specs.Operators.{aggregate_of, item_of, operand_of, test_of}
use Rattle.query_graph.specs.Sizes.{constant_fits, item_constants_fit, test_constants_fit}
use Rattle.query_graph.specs.Used.{unknown_column, unknown_in_aggregate, unknown_in_item, unknown_in_test, unknown_operand}
use Rattle.graph_laws.specs.Parts.{WritesAggregate, WritesItem, WritesKey, WritesName, WritesOperand, WritesTest}
use Rattle.graph_laws.proofs.Faults.{all_true, both_all, both_none, both_true, known_of, none_faulty, zip_made}
use Rattle.graph_laws.proofs.Known.{known_column}
use Rattle.graph_laws.proofs.Texts.{AreTokens, text_has_word}

-- a name without a fault is known on both sides
pub known_both : (line : ℕ) (left right : List Column) (name : List ℕ) → unknown_column line left right name ≡ None → (is_column left name ≡ true) × (is_column right name ≡ true)
known_both line left right name passes = both_true (is_column left name) (is_column right name) (known_of _ _ passes)

name_written : (source : List Column) (name : List ℕ) → is_column source name ≡ true → WritesName source name (column_number source name)
name_written source name known = let found = known_column source name known in (found.column, found.is)

pub key_written : (line : ℕ) (left right : List Column) (name : List ℕ) → unknown_column line left right name ≡ None → WritesKey left right name (key_numbers left right name)
key_written line left right name passes =
    let known = known_both line left right name passes in
    (name_written left name known.0, name_written right name known.1)

pub operand_written : (line : ℕ) (source : List Column) (o : OperandText) → IsToken (operand o) → constant_fits o ≡ true → unknown_operand line source source o ≡ None
    → WritesOperand source o (operand_of source o)
operand_written line source (operands.Name name) token fits passes = name_written source name (known_both line source source name passes).0
operand_written line source (operands.Number n) token fits passes = refl
operand_written line source (operands.Quoted text) token fits passes = text_has_word text token fits
operand_written line source operands.True token fits passes = refl
operand_written line source operands.False token fits passes = refl

test_written : (line : ℕ) (source : List Column) (t : TestText) → AreTokens (test t) → test_constants_fit t ≡ true → unknown_in_test line source source t ≡ None
    → WritesTest source t (test_of source t)
test_written line source t are fits passes =
    let none = both_none (unknown_operand line source source t.left) (unknown_operand line source source t.right) passes in
    let both = both_true (constant_fits t.left) (constant_fits t.right) fits in
    record { left = operand_written line source t.left are.0 both.0 none.0; cmp = refl; right = operand_written line source t.right are.1.1.0 both.1 none.1 }

item_written : (line : ℕ) (source : List Column) (i : ItemText) → AreTokens (item i) → item_constants_fit i ≡ true → unknown_in_item line source source i ≡ None
    → WritesItem source i (item_of source i)
item_written line source (items.Same name) are fits passes = name_written source name (known_both line source source name passes).0
item_written line source (items.Copied new o) are fits passes = operand_written line source o are.1.1.0 fits passes
item_written line source (items.Computed new left op right) are fits passes =
    let none = both_none (unknown_operand line source source left) (unknown_operand line source source right) passes in
    let both = both_true (constant_fits left) (constant_fits right) fits in
    (operand_written line source left are.1.1.0 both.0 none.0, refl, operand_written line source right are.1.1.1.1.0 both.1 none.1)

aggregate_written : (line : ℕ) (source : List Column) (a : AggregateText) → unknown_in_aggregate line source source a ≡ None → WritesAggregate source a (aggregate_of source a)
aggregate_written line source (aggregates.Sum new name) passes = name_written source name (known_both line source source name passes).0
aggregate_written line source (aggregates.Count new) passes = tt
aggregate_written line source (aggregates.Least new name) passes = name_written source name (known_both line source source name passes).0
aggregate_written line source (aggregates.Greatest new name) passes = name_written source name (known_both line source source name passes).0

-- the lists of them
pub tests_written : (line : ℕ) (source : List Column) (tests : List TestText) → AllByRecursion (λ t. AreTokens (test t)) tests → list_all test_constants_fit tests ≡ true
    → first_fault (unknown_in_test line source source) tests ≡ None → AllZip (WritesTest source) tests (map (test_of source) tests)
tests_written line source tests are fit passes =
    let fits = all_true test_constants_fit tests fit in
    let none = none_faulty (unknown_in_test line source source) tests passes in
    zip_made _ (test_of source) (WritesTest source) (λ t known. test_written line source t known.0 known.1.0 known.1.1) tests
    (both_all (λ t. AreTokens (test t)) _ tests are (both_all (λ t. test_constants_fit t ≡ true) (λ t. unknown_in_test line source source t ≡ None) tests fits none))

pub items_written : (line : ℕ) (source : List Column) (items : List ItemText) → AllByRecursion (λ i. AreTokens (item i)) items → list_all item_constants_fit items ≡ true
    → first_fault (unknown_in_item line source source) items ≡ None → AllZip (WritesItem source) items (map (item_of source) items)
items_written line source items are fit passes =
    let fits = all_true item_constants_fit items fit in
    let none = none_faulty (unknown_in_item line source source) items passes in
    zip_made _ (item_of source) (WritesItem source) (λ i known. item_written line source i known.0 known.1.0 known.1.1) items
    (both_all (λ i. AreTokens (item i)) _ items are (both_all (λ i. item_constants_fit i ≡ true) (λ i. unknown_in_item line source source i ≡ None) items fits none))

pub keys_written : (line : ℕ) (left right : List Column) (keys : List (List ℕ)) → first_fault (unknown_column line left right) keys ≡ None
    → AllZip (WritesKey left right) keys (map (key_numbers left right) keys)
keys_written line left right keys passes =
    zip_made (λ k. unknown_column line left right k ≡ None) (key_numbers left right) (WritesKey left right) (key_written line left right) keys
    (none_faulty (unknown_column line left right) keys passes)

pub names_written : (line : ℕ) (source : List Column) (names : List (List ℕ)) → first_fault (unknown_column line source source) names ≡ None
    → AllZip (WritesName source) names (map (column_number source) names)
names_written line source names passes =
    zip_made (λ n. unknown_column line source source n ≡ None) (column_number source) (WritesName source)
    (λ n known. name_written source n (known_both line source source n known).0) names
    (none_faulty (unknown_column line source source) names passes)

pub aggregates_written : (line : ℕ) (source : List Column) (aggregates : List AggregateText) → first_fault (unknown_in_aggregate line source source) aggregates ≡ None
    → AllZip (WritesAggregate source) aggregates (map (aggregate_of source) aggregates)
aggregates_written line source aggregates passes =
    zip_made (λ a. unknown_in_aggregate line source source a ≡ None) (aggregate_of source) (WritesAggregate source) (aggregate_written line source) aggregates
    (none_faulty (unknown_in_aggregate line source source) aggregates passes)
