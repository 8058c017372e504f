-- The text of an answer is read back.
use Rattle.std.proofs.Common.{◌≡◌, ℕ, suc, ◌≤◌, ◌<◌, ◌+◌, arith, List, [], ◌∷◌, ◌++◌, length, map, Result, Ok, refl, sym, ap, ◌∙◌, subst}
use Rattle.std.specs.Prelude.{All}
use Rattle.std.specs.List.{AllByRecursion, AllZip, flat_map}
use Rattle.std.proofs.lemmas.List.{length-map}
use Rattle.std.proofs.lemmas.List.Elements.{recursion_from_All}
use Rattle.std.proofs.lemmas.List.Sorted.{All-permutation, length_permutation}
use Rattle.bags.specs.Bag.{SameBag}
use Rattle.bags.specs.Laws.{BagsAreEquivalence, BagsArePermutations, SortedIsInOrder}
use Rattle.bags.specs.Sorted.{sorted}
use Rattle.csv.proofs.RoundTrip as trip
use Rattle.csv.specs.Writing.{default_writer, read_back, row_text}
use Rattle.words.specs.Columns.{kinds_of, names_of}
use Rattle.words.specs.Texts.{TextsComeBack}
use Rattle.words.specs.declared.column.Column.{Column}
use Rattle.words.specs.declared.column.Kind.{Kind}
use Rattle.tables.specs.Answer.{answer_of, fields_written_of, record_text, rows_text}
use Rattle.tables.specs.Content.{Content}
use Rattle.tables.specs.File.{table_in}
use Rattle.tables.specs.declared.fault.TableFault.{TableFault}
use Rattle.table_laws.specs.Answers.{AnswersComeBack, AnswersTellBags}
use Rattle.table_laws.specs.Fields.{IsValue}
use Rattle.table_laws.specs.Files.{WritesRow, records_of}
use Rattle.table_laws.proofs.Fields.{values_back}
use Rattle.table_laws.proofs.Files.{files_are_tables}
use Rattle.table_laws.proofs.Written.{file_records, some_back}

-- the fields that are written for a row of values write it
row_back : TextsComeBack → (kinds : List Kind) (row : List ℕ) → AllZip IsValue kinds row → WritesRow kinds (fields_written_of kinds row) row
row_back texts [] [] values = record { wide = refl; words = tt }
row_back texts [] (word ∷ row) values = absurd values
row_back texts (kind ∷ kinds) [] values = absurd values
row_back texts (kind ∷ kinds) (word ∷ row) values =
    let rest = row_back texts kinds row values.1 in
    record { wide = ap suc rest.wide; words = (values_back texts kind word values.0, rest.words) }

rows_back : TextsComeBack → (kinds : List Kind) (rows : List (List ℕ)) → AllByRecursion (λ row. AllZip IsValue kinds row) rows → AllZip (WritesRow kinds) (map (fields_written_of kinds) rows) rows
rows_back texts kinds [] values = tt
rows_back texts kinds (row ∷ rows) values = (row_back texts kinds row values.0, rows_back texts kinds rows values.1)

-- and are read as they are
rows_same : TextsComeBack → (kinds : List Kind) (rows : List (List ℕ)) → 0 < length kinds → AllByRecursion (λ row. AllZip IsValue kinds row) rows
    → map read_back (map (fields_written_of kinds) rows) ≡ map (fields_written_of kinds) rows
rows_same texts kinds [] some values = refl
rows_same texts kinds (row ∷ rows) some values =
    let wide = (row_back texts kinds row values.0).wide in
    rw (some_back (fields_written_of kinds row) (omega (arith, wide, some)), rows_same texts kinds rows some values.1) refl

-- the text is that of the records
records_text : (columns : List Column) (rows : List (List ℕ)) → flat_map (record_text columns) rows ≡ trip.rows_text (map (fields_written_of (kinds_of columns)) rows)
unfolding trip.rows_text
records_text columns [] = refl
records_text columns (row ∷ rows) = ap (λ t. record_text columns row ++ t) (records_text columns rows)

answer_text : (columns : List Column) (rows : List (List ℕ)) → rows_text columns rows ≡ trip.rows_text (names_of columns ∷ map (fields_written_of (kinds_of columns)) rows)
unfolding trip.rows_text
answer_text columns rows = ap (λ t. row_text default_writer (names_of columns) ++ t) (records_text columns rows)

-- rows of values in this order
rows_read : TextsComeBack → (columns : List Column) (declared : ℕ) (rows : List (List ℕ)) → 0 < length columns → All (λ name. All (λ byte. byte < 128) name) (names_of columns)
    → All (λ row. AllZip IsValue (kinds_of columns) row) rows → length rows ≤ declared → table_in columns declared (rows_text columns rows) ≡ Ok (record { columns = columns; rows = rows })
rows_read texts columns declared rows some ascii values few =
    let each = recursion_from_All (λ row. AllZip IsValue (kinds_of columns) row) rows values in
    let names : 0 < length (names_of columns) = omega (arith, some, length-map columns (λ (c : Column). c.name)) in
    let kinds : 0 < length (kinds_of columns) = omega (arith, some, length-map columns (λ (c : Column). c.kind)) in
    let behind = map (fields_written_of (kinds_of columns)) rows in
    let read : records_of (rows_text columns rows) ≡ names_of columns ∷ behind =
    ap records_of (answer_text columns rows) ∙ file_records (names_of columns) behind names ascii ∙ ap (λ rest. names_of columns ∷ rest) (rows_same texts (kinds_of columns) rows kinds each) in
    (files_are_tables columns declared (rows_text columns rows) (record { columns = columns; rows = rows })).1
    (record { same = refl; few = few; behind = behind; headed = read; rows = rows_back texts (kinds_of columns) rows each })

pub answers_come_back : TextsComeBack → SortedIsInOrder → BagsAreEquivalence → BagsArePermutations → AnswersComeBack
answers_come_back texts order bags permutations table declared writable few =
    let moved = (permutations table.rows (sorted table.rows)).0 (bags.back (sorted table.rows) table.rows (order.same_bag table.rows)) in
    let values = All-permutation (λ row. AllZip IsValue (kinds_of table.columns) row) table.rows (sorted table.rows) moved writable.rows in
    let most : length (sorted table.rows) ≤ declared = omega (arith, few, length_permutation table.rows (sorted table.rows) moved) in
    record {
      again = record { columns = table.columns; rows = sorted table.rows };
      read = rows_read texts table.columns declared (sorted table.rows) writable.some writable.names values most;
      columns = refl;
      bag = order.same_bag table.rows;
      ordered = order.in_order table.rows;
    }

-- what two texts are read as
same_ok : (read : Result Content TableFault) (a b : Content) → read ≡ Ok a → read ≡ Ok b → a ≡ b
same_ok read a b one other =
    let both : (let r : Result Content TableFault = Ok a in r) ≡ Ok b = sym one ∙ other in
    cc

pub answers_tell_bags : AnswersComeBack → BagsAreEquivalence → AnswersTellBags
answers_tell_bags back bags a b columns left right same =
    let most = length a.rows + length b.rows in
    let one = back a most left (omega arith) in
    let other = back b most right (omega arith) in
    let read : table_in a.columns most (answer_of a) ≡ Ok other.again = ap (λ cs. table_in cs most (answer_of a)) columns ∙ ap (table_in b.columns most) same ∙ other.read in
    let again : one.again ≡ other.again = same_ok (table_in a.columns most (answer_of a)) one.again other.again one.read read in
    let bag : SameBag one.again.rows b.rows = subst (λ (t : Content). SameBag t.rows b.rows) (sym again) other.bag in
    bags.along a.rows one.again.rows b.rows (bags.back one.again.rows a.rows one.bag) bag
