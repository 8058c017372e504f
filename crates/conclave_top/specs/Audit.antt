-- What `audit` has to do on the plan of its query: to show that a party can't tell two worlds apart by the words that it
-- gets, by the tape with which the second one sends it the same words; or to tell where they differ in what it may know.
use Rattle.std.specs.Prelude.{◌≡◌, ℕ, ◌+◌, List, [], ◌∷◌, ◌++◌, length, Option, Some, None, Result, Ok, Err, Vec, ◌⊎◌, codes, ⊤}
use Rattle.std.specs.Global.{Global}
use Rattle.outside.specs.Folder.{Files}
use Rattle.clear_tasks.specs.ClearTask.{answer}
use Rattle.lanes.specs.Party.{before, number_of}
use Rattle.lanes.specs.declared.party.Party.{Party}
use Rattle.lowering.specs.Plan.{Plan}
use Rattle.plain_meaning.specs.Plain.{rows_of_tables}
use Rattle.query_graph.specs.Content.{Content}
use Rattle.step_lists.specs.Draws.{ThreeTapes}
use Rattle.step_lists.specs.Machine.{View, joint_of, view_of}
use Rattle.step_lists.specs.Twin.{twin_tape, twin_tapes}
use Rattle.tables.specs.Content as table
use Rattle.tables.specs.Outcome.{and_then, map_ok}
use Rattle.tapes.specs.Bytes.{tape_bytes}
use Rattle.tapes.specs.declared.draw.Draw.{Draw}
use Rattle.trust_sets.specs.Agreement.{Agree}
use Rattle.trust_sets.specs.Differs.{IsDifference}
use Rattle.trust_sets.specs.Known.{known_nodes}
use Rattle.trust_sets.specs.declared.agreement.Differs.{Differs}
use Rattle.conclave_top.specs.declared.end.Cause.TheVariants.{Disagree}
use Rattle.conclave_top.specs.declared.end.Stop.{Stop}
use Rattle.conclave_top.specs.declared.end.Stop.TheVariants.{Line, Memory}
use Rattle.conclave_top.specs.declared.worlds.Two.{Two}
use Rattle.conclave_top.specs.Due.{Due, does, stops}
use Rattle.conclave_top.specs.Job.{Job}
use Rattle.conclave_top.specs.Lines.{disagree_line, twin_lines}
use Rattle.conclave_top.specs.PartyFiles.{twin_file}
use Rattle.conclave_top.specs.Question.{Question}
use Rattle.conclave_top.specs.Run.{first_slots_of, relation_source}
use Rattle.conclave_top.specs.Stages.{Source, files_job}

-- ---- two worlds

-- the tables of two worlds
abbrev pub Worlds : Type 0
Worlds = List table.Content × List table.Content

-- files of both are read, those of the second behind those of the first, and then those of the first are looked at first
abbrev pub both : {A B : Type 0} → Result A (List ℕ) → Result B (List ℕ) → Result (A × B) (List ℕ)
both first second = and_then first (λ a. map_ok (λ b. (a, b)) second)

abbrev pub both_sources : {A B : Type 0} → Source A → Source B → Source (A × B)
both_sources first second = record {
  Bytes = first.Bytes × second.Bytes;
  names = first.names ++ second.names;
  Hold = λ files bytes. first.Hold files bytes.0 × second.Hold files bytes.1;
  read = λ bytes. both (first.read bytes.0) (second.read bytes.1);
}

-- the call gave exactly these tables, or the line of the first file that is none, or had no memory
abbrev pub GivesBoth : Result (Two (Vec table.Content Global)) Stop → Result (List table.Content) (List ℕ) → Result (List table.Content) (List ℕ) → Type 0
GivesBoth (Ok tables) first second = both first second ≡ Ok (tables.first.items, tables.second.items)
GivesBoth (Err (Line line)) first second = both first second ≡ Err line.items
GivesBoth (Err Memory) first second = ⊤

-- what stands before the name of a file in a folder
abbrev pub inside : List ℕ → List ℕ
inside folder = folder ++ codes "/"

abbrev pub world_source : List ℕ → Content → Source (List table.Content)
world_source folder graph = relation_source (inside folder) graph

abbrev pub worlds_source : Question → Content → Source Worlds
worlds_source asked graph = both_sources (world_source asked.first graph) (world_source asked.second graph)

-- the two worlds differ for the party first in this, and where in nothing they agree; a plan's graph has no bound, so no world
-- of it has an excess
abbrev pub IsDifferenceFor : Plan → Party → Worlds → Option Differs → Type 0
IsDifferenceFor plan party worlds differs =
    IsDifference plan.graph (known_nodes plan.graph.nodes) (number_of party) (rows_of_tables worlds.0) (rows_of_tables worlds.1) None None differs

abbrev pub AgreeFor : Plan → Party → Worlds → Type 0
AgreeFor plan party worlds = Agree plan.graph (known_nodes plan.graph.nodes) (number_of party) (rows_of_tables worlds.0) (rows_of_tables worlds.1) None None

-- ---- the twin

-- the words that a party gets in a world, and how many they are
abbrev pub view_in : Plan → Party → List table.Content → ThreeTapes → View
view_in plan party tables draws = view_of party (joint_of answer plan.list (first_slots_of plan tables) draws)

abbrev pub words_of : View → ℕ
words_of view = length view.from_next + length view.from_before

-- from the first world to the second the twin of the tape that the party doesn't hold, and the tapes with it in its place
abbrev pub twin_in : Plan → Party → Worlds → ThreeTapes → List Draw
twin_in plan party worlds draws = twin_tape answer party plan.list (first_slots_of plan worlds.0) (first_slots_of plan worlds.1) draws

abbrev pub twins_in : Plan → Party → Worlds → ThreeTapes → ThreeTapes
twins_in plan party worlds draws = twin_tapes answer party plan.list (first_slots_of plan worlds.0) (first_slots_of plan worlds.1) draws

-- the file of the twin, and what is printed
abbrev pub audit_writes : Question → Plan → Worlds → ThreeTapes → List (List ℕ × List ℕ)
audit_writes asked plan worlds draws = (twin_file asked.tapes (before asked.party), tape_bytes (twin_in plan asked.party worlds draws)) ∷ []

abbrev pub audit_output : Question → Plan → Worlds → ThreeTapes → List ℕ
audit_output asked plan worlds draws = twin_lines (twin_file asked.tapes (before asked.party)) (words_of (view_in plan asked.party worlds.0 draws))

-- ---- what is due

-- the worlds agree: the twin is written, with which the party gets in the second world the very words that it gets in the
-- first, and their number is told
pub record IsTwin (asked : Question) (plan : Plan) (worlds : Worlds) (draws : ThreeTapes) (due : Due) : Type 0 where
  pub agree : AgreeFor plan asked.party worlds
  pub equal : view_in plan asked.party worlds.1 (twins_in plan asked.party worlds draws) ≡ view_in plan asked.party worlds.0 draws
  pub is : due ≡ does [] (audit_writes asked plan worlds draws) (audit_output asked plan worlds draws)

-- or they don't, and the first part that fails is told
pub record IsDisagreement (asked : Question) (plan : Plan) (worlds : Worlds) (due : Due) : Type 0 where
  pub differs : Differs
  pub first : IsDifferenceFor plan asked.party worlds (Some differs)
  pub is : due ≡ stops Disagree [] (disagree_line plan.graph.nodes differs)

abbrev pub audit_on : Question → Plan → Worlds → ThreeTapes → Job
audit_on asked plan worlds draws = record {
  reads = [];
  due = λ due. IsTwin asked plan worlds draws due ⊎ IsDisagreement asked plan worlds due;
  ready = AgreeFor plan asked.party worlds;
}

abbrev pub audit_job : Option Files → Question → Plan → Job
audit_job files asked plan = files_job files (worlds_source asked plan.graph) asked.tapes plan (audit_on asked plan)
