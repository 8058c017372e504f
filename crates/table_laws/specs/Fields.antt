-- What a field writes, and what it is read as.
use Rattle.std.specs.Prelude.{◌≡◌, ℕ, ◌<◌, ◌≤◌, ◌^◌, ◌↔◌, List, Ok, length}
use Rattle.std.specs.Str.Parse.{IsNumeral, digits_value}
use Rattle.words.specs.Columns.{word_of}
use Rattle.words.specs.declared.column.Kind.{Kind}
use Rattle.words.specs.declared.column.Kind.TheVariants.{Num, Text, Flag}
use Rattle.tables.specs.Answer.{written}

-- digits, one at least, whose decimal value is this number
pub record Spells (field : List ℕ) (number : ℕ) : Type 0 where
  pub digits : IsNumeral 10 field
  pub value : digits_value 10 field ≡ number

-- a word that some field writes in a column of this kind
abbrev pub IsValue : Kind → ℕ → Type 0
IsValue kind word = (field : List ℕ) × (word_of kind field ≡ Ok word)

-- such digits, and no fewer are
pub record SpellsShortest (field : List ℕ) (number : ℕ) : Type 0 where
  pub spells : Spells field number
  pub least : (other : List ℕ) → Spells other number → length field ≤ length other

-- numbers and flags are written as the shortest digits, texts as their bytes; values are read back, and exactly digits as numbers
pub record FieldsComeBack : Type 0 where
  pub numbers : (word : ℕ) → word < 2 ^ 64 → SpellsShortest (written Num word) word × (word_of Num (written Num word) ≡ Ok word)
  pub flags : (word : ℕ) → word < 2 ^ 64 → SpellsShortest (written Flag word) word
  pub texts : (field : List ℕ) (word : ℕ) → word_of Text field ≡ Ok word → written Text word ≡ field
  pub values : (kind : Kind) (word : ℕ) → IsValue kind word → word_of kind (written kind word) ≡ Ok word
  pub spelled : (field : List ℕ) (word : ℕ) → (word_of Num field ≡ Ok word) ↔ (Spells field word × (word < 2 ^ 64))
