-- The columns that a statement makes: those of a declaration, of the items of a select, of the keys and aggregates of a group.
use Rattle.std.specs.Prelude.{◌≡◌, ℕ, List, ◌++◌}
use Rattle.std.specs.List.{AllZip}
use Rattle.words.specs.declared.column.Column.{Column}
use Rattle.words.specs.declared.column.Kind.{Kind}
use Rattle.words.specs.declared.column.Kind.TheVariants.{Num, Text, Flag}
use Rattle.query_text.specs.declared.operand.KindText.{KindText}
use Rattle.query_text.specs.declared.operand.KindText.TheVariants as written
use Rattle.query_text.specs.declared.operand.Op.{Op}
use Rattle.query_text.specs.declared.operand.Op.TheVariants.{Compare, Add, Sub, Mul, And, Or}
use Rattle.query_text.specs.declared.operand.OperandText.{OperandText}
use Rattle.query_text.specs.declared.operand.OperandText.TheVariants.{Name, Number, Quoted, True, False}
use Rattle.query_text.specs.declared.parts.AggregateText.{AggregateText}
use Rattle.query_text.specs.declared.parts.AggregateText.TheVariants.{Sum, Count, Least, Greatest}
use Rattle.query_text.specs.declared.parts.ColumnText.{ColumnText}
use Rattle.query_text.specs.declared.parts.ItemText.{ItemText}
use Rattle.query_text.specs.declared.parts.ItemText.TheVariants.{Same, Copied, Computed}
use Rattle.graph_laws.specs.Parts.{IsColumnNamed}

-- the column has this name, and a kind of which this is true
pub record HasColumn (name : List ℕ) (IsKind : Kind → Type 0) (column : Column) : Type 0 where
  pub named : column.name ≡ name
  pub kind : IsKind column.kind

-- a declared kind
abbrev pub IsDeclared : KindText → Kind → Type 0
IsDeclared written.Num kind = kind ≡ Num
IsDeclared written.Text kind = kind ≡ Text

-- the kind of the source's column with this name
abbrev pub IsKindNamed : List Column → List ℕ → Kind → Type 0
IsKindNamed source name kind = (number : ℕ) × (column : Column) × IsColumnNamed source name number column × (kind ≡ column.kind)

-- the kind of a written operand
abbrev pub IsKindOf : List Column → OperandText → Kind → Type 0
IsKindOf source (Name name) kind = IsKindNamed source name kind
IsKindOf source (Number n) kind = kind ≡ Num
IsKindOf source (Quoted text) kind = kind ≡ Text
IsKindOf source True kind = kind ≡ Flag
IsKindOf source False kind = kind ≡ Flag

-- the kind of what an operation gives
abbrev pub IsGiven : Op → Kind → Type 0
IsGiven (Compare cmp) kind = kind ≡ Flag
IsGiven Add kind = kind ≡ Num
IsGiven Sub kind = kind ≡ Num
IsGiven Mul kind = kind ≡ Num
IsGiven And kind = kind ≡ Flag
IsGiven Or kind = kind ≡ Flag

-- C KIND [trust PS]
abbrev pub DeclaresColumn : ColumnText → Column → Type 0
DeclaresColumn c column = HasColumn c.name (IsDeclared c.kind) column

-- a key's column: the source's
abbrev pub KeyHasColumn : List Column → List ℕ → Column → Type 0
KeyHasColumn source name column = HasColumn name (IsKindNamed source name) column

-- C, or C = OPERAND, or C = OPERAND OP OPERAND
abbrev pub ItemHasColumn : List Column → ItemText → Column → Type 0
ItemHasColumn source (Same name) column = HasColumn name (IsKindNamed source name) column
ItemHasColumn source (Copied new operand) column = HasColumn new (IsKindOf source operand) column
ItemHasColumn source (Computed new left op right) column = HasColumn new (IsGiven op) column

-- C = sum C, C = count, C = least C, or C = greatest C
abbrev pub AggregateHasColumn : List Column → AggregateText → Column → Type 0
AggregateHasColumn source (Sum new name) column = HasColumn new (λ kind. kind ≡ Num) column
AggregateHasColumn source (Count new) column = HasColumn new (λ kind. kind ≡ Num) column
AggregateHasColumn source (Least new name) column = HasColumn new (IsKindNamed source name) column
AggregateHasColumn source (Greatest new name) column = HasColumn new (IsKindNamed source name) column

-- of a group the keys' columns, and then those of the aggregates
pub record GroupHasColumns (source : List Column) (keys : List (List ℕ)) (aggregates : List AggregateText) (columns : List Column) : Type 0 where
  pub first : List Column
  pub others : List Column
  pub all : columns ≡ first ++ others
  pub of_keys : AllZip (KeyHasColumn source) keys first
  pub of_aggregates : AllZip (AggregateHasColumn source) aggregates others
