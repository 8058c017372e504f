-- How a fault is told, behind the name of its file.
use Rattle.std.specs.Prelude.{ℕ, zero, suc, List, [], ◌∷◌, ◌++◌, codes}
use Rattle.std.specs.Fmt.{decimal}
use Rattle.words.specs.declared.num.ValueFault.{ValueFault}
use Rattle.words.specs.declared.num.ValueFault.TheVariants.{NotNumber, TooLarge, TextLong, TextByte}
use Rattle.tables.specs.declared.fault.TableFault.{TableFault}
use Rattle.tables.specs.declared.fault.TableFault.TheVariants.{Header, Rows, Fields, Value, Memory}

-- the name of the column of this number
abbrev pub name_at : List (List ℕ) → ℕ → List ℕ
name_at [] column = []
name_at (name ∷ names) zero = name
name_at (name ∷ names) (suc column) = name_at names column

-- why a field is no value
abbrev pub reason : ValueFault → List ℕ
reason NotNumber = codes "not a number"
reason TooLarge = codes "too large"
reason TextLong = codes "text too long"
reason TextByte = codes "text byte"

-- more records than were declared
abbrev pub rows_told : ℕ → ℕ → List ℕ
rows_told declared found = decimal found ++ (codes " records, at most " ++ decimal declared)

-- a record that has more or fewer fields than there are columns, by its number
abbrev pub fields_told : ℕ → List ℕ
fields_told line = codes "record " ++ decimal line ++ codes ": fields"

-- a field that is no value, by its record's number and its column's name
abbrev pub value_told : ℕ → List ℕ → ValueFault → List ℕ
value_told line name fault = codes "record " ++ decimal line ++ codes " column " ++ name ++ codes ": " ++ reason fault

-- a fault, under columns of these names
abbrev pub told : List (List ℕ) → TableFault → List ℕ
told names Header = codes "header"
told names (Rows declared found) = rows_told declared found
told names (Fields line) = fields_told line
told names (Value line column fault) = value_told line (name_at names column) fault
told names Memory = codes "out of memory"
