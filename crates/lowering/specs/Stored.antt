-- Padded tables that a list of steps stores: in slots of one party, or in registers.
use Rattle.std.specs.Prelude.{◌≡◌, ℕ, ◌+◌, ◌<◌, ◌≤◌, List, Some, length, map, slice_get}
use Rattle.std.specs.List.{range_with_len}
use Rattle.bags.specs.Bag.{SameBag}
use Rattle.lanes.specs.Three.{at}
use Rattle.lanes.specs.declared.party.Party.{Party}
use Rattle.padded.specs.Table.{AreBits, Table, table_rows}
use Rattle.query_graph.specs.IsGraph.{rows_at}
use Rattle.query_graph.specs.NodeSizes.{width_at}
use Rattle.query_graph.specs.declared.node.Node.{Node}
use Rattle.shared_ops.specs.Joint.{IsJoint, column_words, valid_words}
use Rattle.shared_ops.specs.declared.joint.Joint.{Joint}
use Rattle.step_lists.specs.Draws.{ThreeTapes}
use Rattle.step_lists.specs.Layout.{Layout, Steps, layout_of, party_of, shape_of}
use Rattle.step_lists.specs.Open.{Open, SlotWords, open_of, register, slot}
use Rattle.step_lists.specs.OpenFits.{OpenFits}
use Rattle.step_lists.specs.Possible.{Possible}
use Rattle.step_lists.specs.declared.step.Shape.TheVariants as shapes
use Rattle.lowering.specs.declared.stored.Stored.{Stored}
use Rattle.lowering.specs.declared.stored.Stored.TheVariants.{Clear, Shared}

-- a slot of a party with so many words
pub record IsSlotOf (l : Layout) (p : Party) (count s : ℕ) : Type 0 where
  pub inside : s < length (at p l.slots)
  pub shape : shape_of l p s ≡ shapes.Words count

-- registers of so many rows, one for each of so many columns and one of valid words
pub record AreRegisters (l : Layout) (rows width : ℕ) (t : Joint) : Type 0 where
  pub joint : IsJoint l.registers t
  pub rows_are : t.rows ≡ rows
  pub wide : length t.columns.items ≡ width

-- the slots or registers of a table of so many rows and columns were made: those of the columns, and behind them that of
-- the valid words
abbrev pub IsMade : Layout → ℕ → ℕ → Stored → Type 0
IsMade l rows width (Clear party first) = (k : ℕ) → k ≤ width → IsSlotOf l (party_of party) rows (first + k)
IsMade l rows width (Shared t) = AreRegisters l rows width t

-- each of the first nodes as it is stored
abbrev pub AreMade : List Node → Layout → List Stored → Type 0
AreMade nodes l parts = (s : ℕ) (part : Stored) → slice_get parts s ≡ Some part → IsMade l (rows_at nodes s) (width_at nodes s) part

-- the table of so many columns in open values
abbrev pub table_in : Open → ℕ → Stored → Table
table_in o width (Clear party first) = record { columns = map (slot o (party_of party)) (range_with_len first width); valid = slot o (party_of party) (first + width) }
table_in o width (Shared t) = record { columns = column_words (register o) t; valid = valid_words (register o) t }

-- a list stores a table of so many rows and columns: in each world, loaded into the first slots, and under all tapes under
-- which the list doesn't stop, its valid words are 0 or 1 and its valid rows have this bag
pub record Stores {T W : Type 0} (answer : T → List (List ℕ) → List (List ℕ)) (load : W → SlotWords) (list : Steps T) (rows width : ℕ) (stored : Stored) (meaning : W → List (List ℕ)) : Type 0 where
  pub made : IsMade (layout_of list) rows width stored
  pub bits : (w : W) (ds : ThreeTapes) → Possible answer list (load w) ds → AreBits (table_in (open_of answer list (load w) ds) width stored).valid
  pub bag : (w : W) (ds : ThreeTapes) → Possible answer list (load w) ds → SameBag (table_rows (table_in (open_of answer list (load w) ds) width stored)) (meaning w)

-- in each environment values have the lengths and shapes of the layout, as those of every well-formed list have
abbrev pub IsShaped : {T : Type 0} → (T → List (List ℕ) → List (List ℕ)) → Steps T → Type 0
IsShaped answer list = (slots : SlotWords) (ds : ThreeTapes) → Possible answer list slots ds → OpenFits (layout_of list) (open_of answer list slots ds)
