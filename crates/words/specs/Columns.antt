-- Names of columns, and what a field means in a column.
use Rattle.std.specs.Prelude.{ℕ, List, map, Result}
use Rattle.words.specs.Numbers.{number_of}
use Rattle.words.specs.Texts.{text_of}
use Rattle.words.specs.declared.column.Column.{Column}
use Rattle.words.specs.declared.column.Kind.{Kind}
use Rattle.words.specs.declared.column.Kind.TheVariants.{Num, Text, Flag}
use Rattle.words.specs.declared.num.ValueFault.{ValueFault}

-- the names of columns, in order
abbrev pub names_of : List Column → List (List ℕ)
names_of columns = map (λ c. c.name) columns

-- the kinds of columns, in order
abbrev pub kinds_of : List Column → List Kind
kinds_of columns = map (λ c. c.kind) columns

-- the word that a field's bytes write in a column of this kind, or why they write none; files have no flags
abbrev pub word_of : Kind → List ℕ → Result ℕ ValueFault
word_of Num bytes = number_of bytes
word_of Text bytes = text_of bytes
word_of Flag bytes = number_of bytes
