-- The files of a graph's relations, and the tables that they are.
use Rattle.std.specs.Prelude.{◌≡◌, ◌≢◌, All, ℕ, List, [], ◌∷◌, ◌++◌, length, map, Option, Some, Result, Ok, Err, IfSome, codes, ⊤}
use Rattle.std.specs.Prelude.{Vec}
use Rattle.std.specs.Global.{Global}
use Rattle.std.specs.Str.{IsUtf8}
use Rattle.outside.specs.Folder.{Files}
use Rattle.words.specs.declared.column.Column.{Column}
use Rattle.words.specs.declared.column.Kind.TheVariants.{Flag}
use Rattle.query_graph.specs.declared.node.Node.{Node}
use Rattle.tables.specs.Content.{Content}
use Rattle.tables.specs.File.{table_in}
use Rattle.tables.specs.Outcome.{and_then, map_ok}
use Rattle.tables.specs.declared.fault.TableFault.{TableFault}
use Rattle.conclave_top.specs.declared.end.Stop.{Stop}
use Rattle.conclave_top.specs.declared.end.Stop.TheVariants.{Line, Memory}
use Rattle.conclave_top.specs.Lines.{file_line}

-- the name of a relation's file behind the name of its folder
abbrev pub file_of : List ℕ → Node → List ℕ
file_of folder node = folder ++ (node.name ++ codes ".csv")

-- a relation as a file keeps it: its name is a text, and no column is a flag
pub record IsStored (node : Node) : Type 0 where
  pub name : IsUtf8 node.name
  pub columns : All (λ (c : Column). c.kind ≢ Flag) node.columns

-- the names of these relations' files in a folder
abbrev pub file_names : List ℕ → List Node → List (List ℕ)
file_names folder nodes = map (file_of folder) nodes

-- a folder that tells its files has these bytes under these names
abbrev pub AreHeld : Option Files → List (List ℕ) → List (List ℕ) → Type 0
AreHeld files names bytes = IfSome files (λ told. map told names ≡ map Some bytes)

-- the table of a relation's file, or the line of its fault
abbrev pub or_line : List ℕ → Node → Result Content TableFault → Result Content (List ℕ)
or_line folder node (Ok table) = Ok table
or_line folder node (Err fault) = Err (file_line (file_of folder node) node.columns fault)

abbrev pub table_of : List ℕ → Node → List ℕ → Result Content (List ℕ)
table_of folder node bytes = or_line folder node (table_in node.columns node.rows bytes)

-- the tables of these relations' files, or the line of the first fault
abbrev pub tables_of : List ℕ → List Node → List (List ℕ) → Result (List Content) (List ℕ)
tables_of folder [] bytes = Ok []
tables_of folder (node ∷ nodes) [] = Ok []
tables_of folder (node ∷ nodes) (first ∷ bytes) =
    and_then (table_of folder node first) (λ table. map_ok (λ tables. table ∷ tables) (tables_of folder nodes bytes))

-- these are the bytes of these relations' files in a folder
pub record AreBytes (files : Option Files) (folder : List ℕ) (nodes : List Node) (bytes : List (List ℕ)) : Type 0 where
  pub held : AreHeld files (file_names folder nodes) bytes
  pub count : length bytes ≡ length nodes

-- the call gave exactly this table, or this line, or had no memory
abbrev pub GivesTable : Result Content Stop → Result Content (List ℕ) → Type 0
GivesTable (Ok table) answer = answer ≡ Ok table
GivesTable (Err (Line line)) answer = answer ≡ Err line.items
GivesTable (Err Memory) answer = ⊤

-- the same of all tables
abbrev pub GivesTables : Result (Vec Content Global) Stop → Result (List Content) (List ℕ) → Type 0
GivesTables (Ok tables) answer = answer ≡ Ok tables.items
GivesTables (Err (Line line)) answer = answer ≡ Err line.items
GivesTables (Err Memory) answer = ⊤
