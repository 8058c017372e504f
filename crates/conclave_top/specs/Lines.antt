-- The lines that the stream for errors gets, by what went wrong.
use Rattle.std.specs.Prelude.{ℕ, slice_get, List, [], ◌∷◌, ◌++◌, codes}
use Rattle.std.specs.Fmt.{decimal}
use Rattle.lowering.specs.Lines.{name_of_node}
use Rattle.query_graph.specs.declared.node.Node.{Node}
use Rattle.trust_sets.specs.declared.agreement.Differs.{Differs}
use Rattle.trust_sets.specs.declared.agreement.Differs.TheVariants as differs
use Rattle.tables.specs.FaultText.{told}
use Rattle.tables.specs.declared.fault.TableFault.{TableFault}
use Rattle.tapes.specs.declared.tape_bytes.TapeFault.{TapeFault}
use Rattle.tapes.specs.declared.tape_bytes.TapeFault.TheVariants as tapes
use Rattle.words.specs.Columns.{names_of}
use Rattle.words.specs.declared.column.Column.{Column}

-- a line feed
abbrev pub line_end : List ℕ
line_end = 10 ∷ []

-- the usage line
abbrev pub usage_line : List ℕ
usage_line =
    codes "usage: conclave plan Q, plain Q, tape Q SEED T, run Q T [TURNS], audit Q PARTY A B T, replay Q PARTY T V, party Q PARTY T [PORT], make N" ++ line_end

-- the line of a statement that no command carries out yet
abbrev pub not_built : ℕ → List ℕ
not_built line = codes "refused: not built line " ++ (decimal line ++ line_end)

-- the line of a file that is no table of a declaration of these columns
abbrev pub file_line : List ℕ → List Column → TableFault → List ℕ
file_line file columns fault = (codes "file " ++ (file ++ codes ": ")) ++ (told (names_of columns) fault ++ line_end)

-- what is wrong with a tape, and at which draw; want of memory is no fault of it
abbrev pub tape_fault : TapeFault → List ℕ
tape_fault (tapes.Short draw) = codes "short at " ++ decimal draw
tape_fault (tapes.Long draw) = codes "long at " ++ decimal draw
tape_fault (tapes.NotOrder draw) = codes "not an order at " ++ decimal draw
tape_fault tapes.Memory = []

-- the line of a file that is no tape for a plan
abbrev pub tape_line : List ℕ → TapeFault → List ℕ
tape_line file fault = codes "tape " ++ (file ++ (codes ": " ++ (tape_fault fault ++ line_end)))

-- the line of two worlds that don't agree for a party, by the first part that fails
abbrev pub disagree_line : List Node → Differs → List ℕ
disagree_line nodes (differs.OwnFile relation) = codes "disagree: own file " ++ (name_of_node (slice_get nodes relation) ++ line_end)
disagree_line nodes (differs.Trusted relation) = codes "disagree: trusted part of " ++ (name_of_node (slice_get nodes relation) ++ line_end)
disagree_line nodes (differs.Excess first second) = codes "disagree: excess" ++ line_end
disagree_line nodes (differs.Answer output) = codes "disagree: answer " ++ (name_of_node (slice_get nodes output) ++ line_end)

-- the line of an answer that is written to a file, by its count of rows
abbrev pub answer_line : List ℕ → ℕ → List ℕ
answer_line file rows = file ++ (codes " " ++ (decimal rows ++ (codes " rows" ++ line_end)))

-- the lines of a twin that is written to a file, and of the number of words of a view
abbrev pub twin_lines : List ℕ → ℕ → List ℕ
twin_lines file words = codes "twin " ++ (file ++ (line_end ++ (codes "equal " ++ (decimal words ++ (codes " words" ++ line_end)))))

-- the line of a fault of the folder or of the output
abbrev pub outside_line : List ℕ
outside_line = codes "outside fault" ++ line_end

-- the line of want of memory
abbrev pub memory_line : List ℕ
memory_line = codes "out of memory" ++ line_end
