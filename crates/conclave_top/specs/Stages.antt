-- What the commands that run a plan over files have in common: they read the files of relations and then those of tapes, and
-- go on where the first are tables and the second fit the plan.
use Rattle.std.specs.Prelude.{◌≡◌, ℕ, List, [], ◌++◌, Option, Result, Ok, Err, ◌⊎◌}
use Rattle.outside.specs.Folder.{Files}
use Rattle.lanes.specs.declared.three.Three.{Three}
use Rattle.lowering.specs.Plan.{Plan}
use Rattle.step_lists.specs.Draws.{ThreeTapes, schedule_of}
use Rattle.conclave_top.specs.declared.end.Cause.TheVariants.{Faulty, Unfit}
use Rattle.conclave_top.specs.Due.{Due, stops}
use Rattle.conclave_top.specs.Job.{IsDueBehind, Job}
use Rattle.conclave_top.specs.Tapes.{AreSpelled, AreTapeBytes, IsTapeFault, tape_names}

-- ---- tapes

-- the bytes of tapes fit the plan, and this is due on what they spell
pub record IsDueOnDraws (plan : Plan) (on : ThreeTapes → Job) (bytes : Three (List ℕ)) (due : Due) : Type 0 where
  pub draws : ThreeTapes
  pub spelled : AreSpelled (schedule_of plan.list) bytes draws
  pub is_due : (on draws).due due

-- or the first tape that doesn't fit is told
pub record IsUnfitOn (tapes : List ℕ) (plan : Plan) (bytes : Three (List ℕ)) (due : Due) : Type 0 where
  pub line : List ℕ
  pub fault : IsTapeFault (schedule_of plan.list) bytes tapes line
  pub is : due ≡ stops Unfit [] line

-- they fit, and nothing stands in the way of the result
pub record AreReadyTapes (plan : Plan) (on : ThreeTapes → Job) (bytes : Three (List ℕ)) : Type 0 where
  pub draws : ThreeTapes
  pub spelled : AreSpelled (schedule_of plan.list) bytes draws
  pub ready : (on draws).ready

-- behind all reads
abbrev pub with_bytes_job : List ℕ → Plan → (ThreeTapes → Job) → Three (List ℕ) → Job
with_bytes_job tapes plan on bytes = record { reads = []; due = λ due. IsDueOnDraws plan on bytes due ⊎ IsUnfitOn tapes plan bytes due; ready = AreReadyTapes plan on bytes }

-- over the bytes of tapes
pub record IsDueOnTapes (files : Option Files) (tapes : List ℕ) (plan : Plan) (on : ThreeTapes → Job) (due : Due) : Type 0 where
  pub bytes : Three (List ℕ)
  pub are : AreTapeBytes files tapes bytes
  pub is : IsDueBehind (tape_names tapes) (with_bytes_job tapes plan on bytes) due

-- they are there and ready
pub record HasTapes (files : Option Files) (tapes : List ℕ) (plan : Plan) (on : ThreeTapes → Job) : Type 0 where
  pub bytes : Three (List ℕ)
  pub are : AreTapeBytes files tapes bytes
  pub fit : AreReadyTapes plan on bytes

-- what is left to do behind the relations' tables
abbrev pub tapes_job : Option Files → List ℕ → Plan → (ThreeTapes → Job) → Job
tapes_job files tapes plan on = record { reads = tape_names tapes; due = IsDueOnTapes files tapes plan on; ready = HasTapes files tapes plan on }

-- ---- tables

-- files of relations: their names in the order in which they are read, their bytes in a folder, and what these come to: the
-- tables that they are, or the line of the first that is none
pub record Source (T : Type 0) : Type 1 where
  pub Bytes : Type 0
  pub names : List (List ℕ)
  pub Hold : Option Files → Bytes → Type 0
  pub read : Bytes → Result T (List ℕ)

-- over the tables of the relations; no tape is read where a file is none
abbrev pub over_tables_job : {T : Type 0} → Option Files → List ℕ → Plan → (T → ThreeTapes → Job) → Result T (List ℕ) → Job
over_tables_job files tapes plan on (Err line) = record { reads = tape_names tapes; due = λ due. due ≡ stops Faulty [] line; ready = ⊥ }
over_tables_job files tapes plan on (Ok tables) = tapes_job files tapes plan (on tables)

-- over the bytes of the relations' files
pub record IsDueOnFiles {T : Type 0} (files : Option Files) (source : Source T) (tapes : List ℕ) (plan : Plan) (on : T → ThreeTapes → Job) (due : Due) : Type 0 where
  pub bytes : source.Bytes
  pub are : source.Hold files bytes
  pub is : IsDueBehind source.names (over_tables_job files tapes plan on (source.read bytes)) due

-- all files are there, those of the relations are tables, and those of the tapes are ready
pub record HasFiles {T : Type 0} (files : Option Files) (source : Source T) (tapes : List ℕ) (plan : Plan) (on : T → ThreeTapes → Job) : Type 0 where
  pub bytes : source.Bytes
  pub are : source.Hold files bytes
  pub tables : T
  pub read : source.read bytes ≡ Ok tables
  pub fit : HasTapes files tapes plan (on tables)

-- a command that reads relations and tapes, and then works on their tables and draws
abbrev pub files_job : {T : Type 0} → Option Files → Source T → List ℕ → Plan → (T → ThreeTapes → Job) → Job
files_job files source tapes plan on = record { reads = source.names ++ tape_names tapes; due = IsDueOnFiles files source tapes plan on; ready = HasFiles files source tapes plan on }
