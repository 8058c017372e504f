-- The first statement that asks for more than the sets of trust and of release allow.
use Rattle.std.specs.Prelude.{ℕ, ◌+◌, nat_le, Bool, true, false, not, ◌&&◌, ◌||◌, ◌==◌, if◌then◌else◌, List, [], ◌∷◌, Option, Some, None, Result, Ok, Err, slice_get}
use Rattle.std.specs.List.{list_any}
use Rattle.std.specs.Option.{is_none, option_map, option_map_or, option_or}
use Rattle.words.specs.declared.column.Column.{Column}
use Rattle.query_graph.specs.declared.node.Node.{Node}
use Rattle.query_graph.specs.declared.node.Output.{Output}
use Rattle.query_graph.specs.declared.operator.Operator.{Operator}
use Rattle.query_graph.specs.declared.operator.Operator.TheVariants as operators
use Rattle.query_graph.specs.Content.{Content}
use Rattle.query_graph.specs.Observers.{clear_at_of, via_of}
use Rattle.query_graph.specs.Parties.{has}
use Rattle.plain_operators.specs.Columns.{is_key}
use Rattle.trust_sets.specs.declared.fault.TrustFault.{TrustFault}
use Rattle.trust_sets.specs.declared.fault.TrustFault.TheVariants as faults
use Rattle.trust_sets.specs.declared.known.Known.{Known}
use Rattle.trust_sets.specs.declared.withheld.Withheld.{Withheld}
use Rattle.trust_sets.specs.Known.{column_set, known_at}
use Rattle.trust_sets.specs.Release.{withheld_at, withheld_from}
use Rattle.trust_sets.specs.Trust.{Trust}

-- the party that a statement names by `via` or by `clear at`
abbrev pub named_by : Operator → Option ℕ
named_by shape = option_or (via_of shape) (clear_at_of shape)

-- a key of a join on the right, or on the left
abbrev pub is_key_of_side : Bool → List (ℕ × ℕ) → ℕ → Bool
is_key_of_side true keys column = list_any (λ (key : ℕ × ℕ). key.1 == column) keys
is_key_of_side false keys column = list_any (λ (key : ℕ × ℕ). key.0 == column) keys

-- whether that party is to know this column of the source, which may be a join's right one: with `via` a key,
-- with `clear at` each
abbrev pub is_needed : Operator → Bool → ℕ → Bool
is_needed (operators.Relation r) right column = true
is_needed (operators.Filter f) right column = true
is_needed (operators.Select s) right column = true
is_needed (operators.Concat c) right column = true
is_needed (operators.Join j) right column = is_none j.via || is_key_of_side right j.keys column
is_needed (operators.Group g) right column = is_none g.via || is_key g.keys column
is_needed (operators.Distinct d) right column = true

-- the columns of the node with this number
abbrev pub columns_at : List Node → ℕ → List Column
columns_at nodes node = option_map_or (λ (n : Node). n.columns) (slice_get nodes node) []

-- the first column of a source, from this number on, that the party is to know and isn't trusted with
abbrev pub untrusted_column : Operator → Bool → Known → ℕ → ℕ → List Column → Option ℕ
untrusted_column shape right source party number [] = None
untrusted_column shape right source party number (column ∷ columns) =
    if is_needed shape right number && not (has (column_set source number) party) then Some number
    else untrusted_column shape right source party (number + 1) columns

-- the fault of a node in one source
abbrev pub source_fault : Content → List Known → ℕ → Node → ℕ → Bool → ℕ → Option TrustFault
source_fault graph known number node party right source =
    option_map (faults.Trust node.line number source party) (untrusted_column node.shape right (known_at known source) party 0 (columns_at graph.nodes source))

-- the fault of a node whose statement names this party
abbrev pub sources_fault : Content → List Known → ℕ → Node → ℕ → Operator → Option TrustFault
sources_fault graph known number node party (operators.Relation r) = None
sources_fault graph known number node party (operators.Filter f) = source_fault graph known number node party false f.source
sources_fault graph known number node party (operators.Select s) = source_fault graph known number node party false s.source
sources_fault graph known number node party (operators.Concat c) = None
sources_fault graph known number node party (operators.Join j) =
    option_or (source_fault graph known number node party false j.left) (source_fault graph known number node party true j.right)
sources_fault graph known number node party (operators.Group g) = source_fault graph known number node party false g.source
sources_fault graph known number node party (operators.Distinct d) = source_fault graph known number node party false d.source

abbrev pub fault_at : Content → List Known → ℕ → Node → Option ℕ → Option TrustFault
fault_at graph known number node None = None
fault_at graph known number node (Some party) = sources_fault graph known number node party node.shape

abbrev pub node_fault : Content → List Known → ℕ → Node → Option TrustFault
node_fault graph known number node = fault_at graph known number node (named_by node.shape)

-- the fault of the first node that has one, from this number on
abbrev pub nodes_fault : Content → List Known → ℕ → List Node → Option TrustFault
nodes_fault graph known number [] = None
nodes_fault graph known number (node ∷ nodes) = option_or (node_fault graph known number node) (nodes_fault graph known (number + 1) nodes)

-- the fault of an output for one recipient: the first relation under its node that isn't released to that party
abbrev pub recipient_fault : List Withheld → Output → ℕ → Option TrustFault
recipient_fault withheld output party =
    if has output.recipients party then option_map (faults.Release output.line output.node party) (withheld_from (withheld_at withheld output.node) party) else None

-- of an output: that of its lowest recipient that has one
abbrev pub output_fault : List Withheld → Output → Option TrustFault
output_fault withheld output =
    option_or (recipient_fault withheld output 1) (option_or (recipient_fault withheld output 2) (recipient_fault withheld output 3))

abbrev pub outputs_fault : List Withheld → List Output → Option TrustFault
outputs_fault withheld [] = None
outputs_fault withheld (output ∷ outputs) = option_or (output_fault withheld output) (outputs_fault withheld outputs)

abbrev pub line_of : TrustFault → ℕ
line_of (faults.Trust line node origin party column) = line
line_of (faults.Release line output party relation) = line

-- the fault of the earlier line
abbrev pub earlier_fault : Option TrustFault → Option TrustFault → Option TrustFault
earlier_fault None b = b
earlier_fault (Some a) None = Some a
earlier_fault (Some a) (Some b) = Some (if nat_le (line_of a) (line_of b) then a else b)

-- the fault of the first statement that has one
abbrev pub first_fault : Content → Trust → Option TrustFault
first_fault graph trust = earlier_fault (nodes_fault graph trust.known 0 graph.nodes) (outputs_fault trust.withheld graph.outputs)

-- a check passes exactly where there is no fault, and else answers it
abbrev pub checked : Option TrustFault → Result (Unit {0}) TrustFault
checked None = Ok tt
checked (Some fault) = Err fault
