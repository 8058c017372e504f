-- What `tape` has to do on the plan of its query: to write the tapes of a seed.
use Rattle.std.specs.Prelude.{◌≡◌, ℕ, List, [], ⊤}
use Rattle.lanes.specs.Party.{number_of}
use Rattle.lanes.specs.Three.{at}
use Rattle.lanes.specs.declared.party.Party.{Party}
use Rattle.lowering.specs.Plan.{Plan}
use Rattle.step_lists.specs.Draws.{ThreeTapes, schedule_of}
use Rattle.tapes.specs.Bytes.{tape_bytes}
use Rattle.tapes.specs.Made.{IsMadeTape}
use Rattle.conclave_top.specs.Due.{Due, does}
use Rattle.conclave_top.specs.Job.{Job}
use Rattle.conclave_top.specs.PartyFiles.{of_parties, tape_file}

-- the tapes of a seed for the schedule of a plan's list
abbrev pub AreSeeded : ℕ → Plan → ThreeTapes → Type 0
AreSeeded seed plan draws = (party : Party) → IsMadeTape seed (number_of party) (at party (schedule_of plan.list)) (at party draws)

-- their three files
abbrev pub tape_writes : List ℕ → ThreeTapes → List (List ℕ × List ℕ)
tape_writes tapes draws = of_parties (λ party. (tape_file tapes party, tape_bytes (at party draws)))

-- they are written, and nothing is printed
pub record IsTaped (seed : ℕ) (tapes : List ℕ) (plan : Plan) (due : Due) : Type 0 where
  pub draws : ThreeTapes
  pub seeded : AreSeeded seed plan draws
  pub is : due ≡ does [] (tape_writes tapes draws) []

abbrev pub tape_job : ℕ → List ℕ → Plan → Job
tape_job seed tapes plan = record { reads = []; due = IsTaped seed tapes plan; ready = ⊤ }
