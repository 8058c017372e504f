-- The files of tapes, and what their bytes are to a plan.
use Rattle.std.specs.Prelude.{◌≡◌, ◌≢◌, ℕ, ◌<◌, List, Option, Result, Ok, Err, ⊤}
use Rattle.outside.specs.Folder.{Files}
use Rattle.joint_machine.specs.Left.{draws_of}
use Rattle.lanes.specs.Party.{number_of}
use Rattle.lanes.specs.Three.{at}
use Rattle.lanes.specs.declared.party.Party.{Party}
use Rattle.lanes.specs.declared.three.Three.{Three}
use Rattle.step_lists.specs.Draws.{ThreeTapes}
use Rattle.tapes.specs.ReadTape.{ReadsTape}
use Rattle.tapes.specs.declared.draw.Draw.{Draw}
use Rattle.tapes.specs.declared.draw.Need.{Need}
use Rattle.tapes.specs.declared.tape.Tapes.{Tapes}
use Rattle.tapes.specs.declared.tape_bytes.TapeFault.{TapeFault}
use Rattle.tapes.specs.declared.tape_bytes.TapeFault.TheVariants as faults
use Rattle.conclave_top.specs.declared.end.Stop.{Stop}
use Rattle.conclave_top.specs.declared.end.Stop.TheVariants.{Line, Memory}
use Rattle.conclave_top.specs.Lines.{tape_line}
use Rattle.conclave_top.specs.PartyFiles.{of_parties, tape_file}
use Rattle.conclave_top.specs.Relations.{AreHeld}

-- the bytes of a folder's three tapes of a name
abbrev pub tape_names : List ℕ → List (List ℕ)
tape_names tapes = of_parties (tape_file tapes)

abbrev pub AreTapeBytes : Option Files → List ℕ → Three (List ℕ) → Type 0
AreTapeBytes files tapes bytes = AreHeld files (tape_names tapes) (of_parties (λ party. at party bytes))

-- bytes that spell a tape for these needs
abbrev pub Spells : Three (List Need) → Three (List ℕ) → Party → List Draw → Type 0
Spells needs bytes party draws = ReadsTape (at party needs) (at party bytes) (Ok draws)

-- each tape's bytes spell these draws
abbrev pub AreSpelled : Three (List Need) → Three (List ℕ) → ThreeTapes → Type 0
AreSpelled needs bytes draws = (party : Party) → Spells needs bytes party (at party draws)

-- a tape's bytes spell none, and its line says at which draw
pub record IsFaultyTape (needs : List Need) (bytes tapes : List ℕ) (party : Party) (line : List ℕ) : Type 0 where
  pub fault : TapeFault
  pub real : fault ≢ faults.Memory
  pub faulty : ReadsTape needs bytes (Err fault)
  pub says : line ≡ tape_line (tape_file tapes party) fault

-- the first tape whose bytes spell none, and the first draw that doesn't fit
pub record IsTapeFault (needs : Three (List Need)) (bytes : Three (List ℕ)) (tapes line : List ℕ) : Type 0 where
  pub party : Party
  pub earlier : (other : Party) → number_of other < number_of party → (draws : List Draw) × Spells needs bytes other draws
  pub faulty : IsFaultyTape (at party needs) (at party bytes) tapes party line

-- the call gave exactly this tape, or this line, or had no memory
abbrev pub GivesTape : List Need → List ℕ → List ℕ → Party → Result (List Draw) Stop → Type 0
GivesTape needs bytes name party (Ok tape) = ReadsTape needs bytes (Ok tape)
GivesTape needs bytes name party (Err (Line line)) = IsFaultyTape needs bytes name party line.items
GivesTape needs bytes name party (Err Memory) = ⊤

-- the same of all three
abbrev pub GivesTapes : Three (List Need) → Three (List ℕ) → List ℕ → Result Tapes Stop → Type 0
GivesTapes needs bytes name (Ok tapes) = AreSpelled needs bytes (draws_of tapes)
GivesTapes needs bytes name (Err (Line line)) = IsTapeFault needs bytes name line.items
GivesTapes needs bytes name (Err Memory) = ⊤
