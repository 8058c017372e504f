-- Ends of the commands that work by a plan, in the stages before they have it.
use Rattle.std.proofs.Common.{ℕ, List, [], ◌∷◌, Option, Err, inl, inr, refl}
use Rattle.outside.specs.Folder.{Files, Holds}
use Rattle.lowering.specs.Plan.{Plan}
use Rattle.conclave_top.specs.declared.end.Cause.TheVariants.{Refused}
use Rattle.conclave_top.specs.declared.end.End.{End}
use Rattle.conclave_top.specs.declared.end.Stop.{Stop}
use Rattle.conclave_top.specs.declared.end.Stop.TheVariants as lines
use Rattle.conclave_top.specs.Due as dues
use Rattle.conclave_top.specs.Effect.{HasRead}
use Rattle.conclave_top.specs.End.{Ended, EndedReading, end_of}
use Rattle.conclave_top.specs.Job.{HasQueryJob, IsRefusal, Job, refusal}
use Rattle.conclave_top.specs.Outside.{FolderState, Ports, StreamState}
use Rattle.conclave_top.specs.Plans.{HasPlanIn, IsRefusedPlan, Plans, plans}
use Rattle.conclave_top.proofs.Ends.{Says, ended_behind, says_within, stopped_reading}
use Rattle.conclave_top.proofs.Folders.{at}

-- a text that has no plan
refused_says : (text : List ℕ) (stop : Stop) → Plans text (Err stop) → Says (IsRefusedPlan text) stop
refused_says text (lines.Line line) is = is
refused_says text lines.Memory is = tt

pub refused_plan : (files : Option Files) (query text : List ℕ) (stop : Stop) (old new : FolderState) → Holds files query text → HasRead (query ∷ []) old new → Plans text (Err stop)
    → EndedReading (refusal files query plans) old new (end_of Refused stop)
refused_plan files query text stop old new held read is =
    stopped_reading (refusal files query plans) Refused stop old new read
    (says_within (IsRefusedPlan text) (λ line. IsRefusal files query plans (dues.stops Refused (query ∷ []) line)) stop
    (λ line refused. record { text = text; line = line; held = held; refused = refused; is = refl }) (refused_says text stop is))

-- the job on the plan of a query's text is the command's, and so is that without a plan
pub ended_on_plan : (files : Option Files) (query : List ℕ) (jobs : Plan → Job) (plan : Plan) (old mid : FolderState) (out : StreamState) (new : Ports) (end : End)
    → HasPlanIn files query plan → HasRead (query ∷ []) old mid → Ended (jobs plan) (at mid out) new end → HasQueryJob files query plans jobs (λ job. Ended job (at old out) new end)
ended_on_plan files query jobs plan old mid out new end has read ends =
    inr (record { plan = plan; text = has.text; held = has.held; gives = has.compiled; job = ended_behind (query ∷ []) (jobs plan) old mid out new end read ends })

pub ended_planless : (files : Option Files) (query : List ℕ) (jobs : Plan → Job) (old new : FolderState) (out : StreamState) (end : End)
    → EndedReading (refusal files query plans) old new end → HasQueryJob files query plans jobs (λ job. Ended job (at old out) (at new out) end)
ended_planless files query jobs old new out end ends = inl (ends out)
