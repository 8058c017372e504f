-- The records that a text, or a reader in the midst of it, has left.
use Rattle.std.specs.Prelude.{◌≡◌, ℕ, ◌+◌, ◌∷◌, List, [], true, false, Option, Some, IsSome, length}
use Rattle.std.specs.Option.{option_map_or}
use Rattle.std.proofs.Common.{Bor}
use Rattle.csv.specs.Machine.{ends_at_end}
use Rattle.csv.specs.Reading.{Ready, default_config, is_flexible, reader_config, reader_state, reader_trim, records_from, source_of}
use Rattle.csv.specs.declared.parser.Config.{Config}
use Rattle.csv.specs.declared.parser.State.{State}
use Rattle.csv.specs.declared.reader.Reader.{Reader}
use Rattle.csv.specs.declared.reader.Trim.TheVariants as trim

-- the records that a text has left from a state
abbrev pub records_left : Config → State → List ℕ → List (List (List ℕ))
records_left cfg s xs = records_from cfg (length xs + 1) s xs

-- a reader of bytes in memory
abbrev pub BytesReader : Type 0
BytesReader = Reader (Bor (List ℕ))

-- the bytes that are left under it
abbrev pub bytes_left : BytesReader → Option (List ℕ)
bytes_left reader = source_of (λ (s : Bor (List ℕ)). Some s.now) reader

-- it reads by csv's defaults, records of any number of fields, stands between two records, and its bytes are known
pub record IsReading (reader : BytesReader) : Type 0 where
  pub config : reader_config reader ≡ default_config
  pub trim : reader_trim reader ≡ trim.None
  pub flexible : is_flexible reader ≡ true
  pub ready : Ready reader
  pub between : ends_at_end (reader_state reader) ≡ false
  pub known : IsSome (bytes_left reader)

-- the records that it has yet to give
abbrev pub unread : BytesReader → List (List (List ℕ))
unread reader = option_map_or (records_left default_config (reader_state reader)) (bytes_left reader) []

-- the next record was taken
pub record TakesRecord (old new : BytesReader) (fields : List (List ℕ)) : Type 0 where
  pub reading : IsReading new
  pub taken : unread old ≡ fields ∷ unread new
