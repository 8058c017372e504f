-- The jobs of each command.
use Rattle.std.specs.Prelude.{ℕ, List, [], ◌∷◌, Option, Some}
use Rattle.outside.specs.Folder.{Files}
use Rattle.conclave_top.specs.declared.end.End.{End}
use Rattle.conclave_top.specs.Audit.{audit_job}
use Rattle.conclave_top.specs.Command.{Command, plain, plan, tape, run, audit}
use Rattle.conclave_top.specs.Compile.{graphs}
use Rattle.conclave_top.specs.Due.{Due}
use Rattle.conclave_top.specs.End.{Ended}
use Rattle.conclave_top.specs.Job.{Job, HasQueryJob}
use Rattle.conclave_top.specs.Outside.{Ports}
use Rattle.conclave_top.specs.Plain.{plain_job}
use Rattle.conclave_top.specs.Plans.{plans}
use Rattle.conclave_top.specs.PlanText.{plan_job}
use Rattle.conclave_top.specs.Run.{run_job}
use Rattle.conclave_top.specs.Tape.{tape_job}

-- this holds of one job of a command over these files
abbrev pub HasJob : Option Files → Command → (Job → Type 0) → Type 0
HasJob files (plain query) holds = HasQueryJob files query graphs (plain_job files) holds
HasJob files (plan query) holds = HasQueryJob files query graphs plan_job holds
HasJob files (tape query seed tapes) holds = HasQueryJob files query plans (tape_job seed tapes) holds
HasJob files (run query tapes) holds = HasQueryJob files query plans (run_job files tapes) holds
HasJob files (audit query asked) holds = HasQueryJob files query plans (audit_job files asked) holds

-- what is due for a command
abbrev pub IsDue : Option Files → Command → Due → Type 0
IsDue files command due = HasJob files command (λ job. job.due due)

-- nothing stands in the way of a command's result
abbrev pub IsReady : Option Files → Command → Type 0
IsReady files command = HasJob files command (λ job. job.ready)

-- how a command ended
abbrev pub CommandEnded : Command → Ports → Ports → End → Type 0
CommandEnded command old new end = HasJob old.folder.files command (λ job. Ended job old new end)

-- the file of a command's query
abbrev pub query_of : Command → Option (List ℕ)
query_of (plain query) = Some query
query_of (plan query) = Some query
query_of (tape query seed tapes) = Some query
query_of (run query tapes) = Some query
query_of (audit query asked) = Some query

-- the statuses that a command can answer
abbrev pub statuses_of : Command → List ℕ
statuses_of (plain query) = 0 ∷ 2 ∷ 3 ∷ 8 ∷ 9 ∷ []
statuses_of (plan query) = 0 ∷ 2 ∷ 8 ∷ 9 ∷ []
statuses_of (tape query seed tapes) = 0 ∷ 2 ∷ 8 ∷ 9 ∷ []
statuses_of (run query tapes) = 0 ∷ 2 ∷ 3 ∷ 4 ∷ 8 ∷ 9 ∷ []
statuses_of (audit query asked) = 0 ∷ 2 ∷ 3 ∷ 4 ∷ 6 ∷ 8 ∷ 9 ∷ []
