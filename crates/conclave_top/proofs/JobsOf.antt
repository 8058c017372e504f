-- A job of a command, for all that is said of it.
use Rattle.std.proofs.Common.{◌≡◌, ℕ, List, [], ◌∷◌, Option, Some, None, Result, Ok, Err, inl, inr, arith, refl, ap, ◌∙◌}
use Rattle.std.specs.List.{Contains}
use Rattle.outside.specs.Folder.{Files}
use Rattle.lowering.specs.Plan.{Plan}
use Rattle.query_graph.specs.Content.{Content}
use Rattle.tables.specs.Content as table
use Rattle.conclave_top.specs.Audit.{audit_job}
use Rattle.conclave_top.specs.Bounds.{first_bound}
use Rattle.conclave_top.specs.Command.{Command, plain, plan, tape, run, audit}
use Rattle.conclave_top.specs.Compile.{graphs}
use Rattle.conclave_top.specs.Due.{Due}
use Rattle.conclave_top.specs.Job.{Compilation, Job, behind, refusal}
use Rattle.conclave_top.specs.Jobs.{HasJob, IsDue, statuses_of}
use Rattle.conclave_top.specs.Laws.{IsOnGraph}
use Rattle.conclave_top.specs.Plain.{answered, graph_files, job_for, plain_job, tables_in}
use Rattle.conclave_top.specs.Plans.{plans}
use Rattle.conclave_top.specs.PlanText.{plan_job, plan_text}
use Rattle.conclave_top.specs.Question.{Question}
use Rattle.conclave_top.specs.Run.{run_job}
use Rattle.conclave_top.specs.Tape.{tape_job}
use Rattle.conclave_top.proofs.FairJobs.{AreFair, fair_audit, fair_behind, fair_for, fair_printed, fair_refusal, fair_run, fair_tape}

-- 0, a refusal's 2, 8 and 9 are listed for each command
done_listed : (command : Command) → Contains (statuses_of command) 0
done_listed (plain query) = (0, omega arith, refl)
done_listed (plan query) = (0, omega arith, refl)
done_listed (tape query seed tapes) = (0, omega arith, refl)
done_listed (run query tapes) = (0, omega arith, refl)
done_listed (audit query asked) = (0, omega arith, refl)

refused_listed : (command : Command) → Contains (statuses_of command) 2
refused_listed (plain query) = (1, omega arith, refl)
refused_listed (plan query) = (1, omega arith, refl)
refused_listed (tape query seed tapes) = (1, omega arith, refl)
refused_listed (run query tapes) = (1, omega arith, refl)
refused_listed (audit query asked) = (1, omega arith, refl)

pub failed_listed : (command : Command) → Contains (statuses_of command) 8
failed_listed (plain query) = (3, omega arith, refl)
failed_listed (plan query) = (2, omega arith, refl)
failed_listed (tape query seed tapes) = (2, omega arith, refl)
failed_listed (run query tapes) = (4, omega arith, refl)
failed_listed (audit query asked) = (5, omega arith, refl)

pub memory_listed : (command : Command) → Contains (statuses_of command) 9
memory_listed (plain query) = (4, omega arith, refl)
memory_listed (plan query) = (3, omega arith, refl)
memory_listed (tape query seed tapes) = (3, omega arith, refl)
memory_listed (run query tapes) = (5, omega arith, refl)
memory_listed (audit query asked) = (6, omega arith, refl)

-- a job on a plan has fair outcomes
fair_plain : (files : Option Files) (query : List ℕ) (graph : Content) → AreFair (statuses_of (plain query)) (behind (query ∷ []) (plain_job files graph))
fair_plain files query graph =
    fair_behind (statuses_of (plain query)) (query ∷ []) (plain_job files graph).reads (plain_job files graph)
    (fair_for (statuses_of (plain query)) files graph (first_bound graph.nodes) (done_listed (plain query)) (refused_listed (plain query)) (2, omega arith, refl))

fair_plan : (query : List ℕ) (graph : Content) → AreFair (statuses_of (plan query)) (behind (query ∷ []) (plan_job graph))
fair_plan query graph =
    fair_behind (statuses_of (plan query)) (query ∷ []) [] (plan_job graph) (fair_printed (statuses_of (plan query)) (plan_text graph) (done_listed (plan query)))

fair_taped : (query : List ℕ) (seed : ℕ) (tapes : List ℕ) (on : Plan) → AreFair (statuses_of (tape query seed tapes)) (behind (query ∷ []) (tape_job seed tapes on))
fair_taped query seed tapes on =
    fair_behind (statuses_of (tape query seed tapes)) (query ∷ []) [] (tape_job seed tapes on)
    (fair_tape (statuses_of (tape query seed tapes)) seed tapes on (done_listed (tape query seed tapes)))

fair_ran : (files : Option Files) (query tapes : List ℕ) (on : Plan) → AreFair (statuses_of (run query tapes)) (behind (query ∷ []) (run_job files tapes on))
fair_ran files query tapes on =
    fair_behind (statuses_of (run query tapes)) (query ∷ []) (run_job files tapes on).reads (run_job files tapes on)
    (fair_run (statuses_of (run query tapes)) files tapes on (done_listed (run query tapes)) (2, omega arith, refl) (3, omega arith, refl))

fair_audited : (files : Option Files) (query : List ℕ) (asked : Question) (on : Plan) → AreFair (statuses_of (audit query asked)) (behind (query ∷ []) (audit_job files asked on))
fair_audited files query asked on =
    fair_behind (statuses_of (audit query asked)) (query ∷ []) (audit_job files asked on).reads (audit_job files asked on)
    (fair_audit (statuses_of (audit query asked)) files asked on (done_listed (audit query asked)) (2, omega arith, refl) (3, omega arith, refl) (4, omega arith, refl))

-- and on a graph writes no file
abbrev pub IsQuiet : Job → Type 0
IsQuiet job = (due : Due) → job.due due → due.writes ≡ []

quiet_refusal : {P : Type 0} (files : Option Files) (query : List ℕ) (compilation : Compilation P) → IsQuiet (refusal files query compilation)
quiet_refusal files query compilation due is = ap (λ (d : Due). d.writes) is.is

quiet_behind : (first : List (List ℕ)) (job : Job) → IsQuiet job → IsQuiet (behind first job)
quiet_behind first job quiet due is = ap (λ (d : Due). d.writes) is.is ∙ quiet is.own is.is_due

quiet_answered : (reads : List (List ℕ)) (graph : Content) (answer : Result (List table.Content) (List ℕ)) → (answered reads graph answer).writes ≡ []
quiet_answered reads graph (Ok tables) = refl
quiet_answered reads graph (Err line) = refl

quiet_for : (files : Option Files) (graph : Content) (bound : Option ℕ) → IsQuiet (job_for files graph bound)
quiet_for files graph (Some line) due is = ap (λ (d : Due). d.writes) is
quiet_for files graph None due is = ap (λ (d : Due). d.writes) is.is ∙ quiet_answered (graph_files graph) graph (tables_in graph is.bytes)

quiet_plan : (graph : Content) → IsQuiet (plan_job graph)
quiet_plan graph due is = ap (λ (d : Due). d.writes) is

-- a job of a command: what holds of it holds of a job of the command, and its outcomes are fair
pub record JobOf (files : Option Files) (command : Command) (holds : Job → Type 0) : Type 1 where
  pub job : Job
  pub within : (other : Job → Type 0) → other job → HasJob files command other
  pub fair : AreFair (statuses_of command) job
  pub quiet : IsOnGraph command → IsQuiet job
  pub is : holds job

pub job_of : (files : Option Files) (command : Command) (holds : Job → Type 0) → HasJob files command holds → JobOf files command holds
job_of files (plain query) holds (inl is) = record {
  job = refusal files query graphs;
  within = λ other held. inl held;
  fair = fair_refusal (statuses_of (plain query)) files query graphs (refused_listed (plain query));
  quiet = λ on. quiet_refusal files query graphs;
  is = is;
}
job_of files (plain query) holds (inr on) = record {
  job = behind (query ∷ []) (plain_job files on.plan);
  within = λ other held. inr (record { plan = on.plan; text = on.text; held = on.held; gives = on.gives; job = held });
  fair = fair_plain files query on.plan;
  quiet = λ graph. quiet_behind (query ∷ []) (plain_job files on.plan) (quiet_for files on.plan (first_bound on.plan.nodes));
  is = on.job;
}
job_of files (plan query) holds (inl is) = record {
  job = refusal files query graphs;
  within = λ other held. inl held;
  fair = fair_refusal (statuses_of (plan query)) files query graphs (refused_listed (plan query));
  quiet = λ on. quiet_refusal files query graphs;
  is = is;
}
job_of files (plan query) holds (inr on) = record {
  job = behind (query ∷ []) (plan_job on.plan);
  within = λ other held. inr (record { plan = on.plan; text = on.text; held = on.held; gives = on.gives; job = held });
  fair = fair_plan query on.plan;
  quiet = λ graph. quiet_behind (query ∷ []) (plan_job on.plan) (quiet_plan on.plan);
  is = on.job;
}
job_of files (tape query seed tapes) holds (inl is) = record {
  job = refusal files query plans;
  within = λ other held. inl held;
  fair = fair_refusal (statuses_of (tape query seed tapes)) files query plans (refused_listed (tape query seed tapes));
  quiet = λ on. absurd on;
  is = is;
}
job_of files (tape query seed tapes) holds (inr on) = record {
  job = behind (query ∷ []) (tape_job seed tapes on.plan);
  within = λ other held. inr (record { plan = on.plan; text = on.text; held = on.held; gives = on.gives; job = held });
  fair = fair_taped query seed tapes on.plan;
  quiet = λ graph. absurd graph;
  is = on.job;
}
job_of files (run query tapes) holds (inl is) = record {
  job = refusal files query plans;
  within = λ other held. inl held;
  fair = fair_refusal (statuses_of (run query tapes)) files query plans (refused_listed (run query tapes));
  quiet = λ on. absurd on;
  is = is;
}
job_of files (run query tapes) holds (inr on) = record {
  job = behind (query ∷ []) (run_job files tapes on.plan);
  within = λ other held. inr (record { plan = on.plan; text = on.text; held = on.held; gives = on.gives; job = held });
  fair = fair_ran files query tapes on.plan;
  quiet = λ graph. absurd graph;
  is = on.job;
}
job_of files (audit query asked) holds (inl is) = record {
  job = refusal files query plans;
  within = λ other held. inl held;
  fair = fair_refusal (statuses_of (audit query asked)) files query plans (refused_listed (audit query asked));
  quiet = λ on. absurd on;
  is = is;
}
job_of files (audit query asked) holds (inr on) = record {
  job = behind (query ∷ []) (audit_job files asked on.plan);
  within = λ other held. inr (record { plan = on.plan; text = on.text; held = on.held; gives = on.gives; job = held });
  fair = fair_audited files query asked on.plan;
  quiet = λ graph. absurd graph;
  is = on.job;
}

-- what is due for it is due for the command
pub due_of : (files : Option Files) (command : Command) (holds : Job → Type 0) (of : JobOf files command holds) (due : Due) → of.job.due due → IsDue files command due
due_of files command holds of due is = of.within (λ job. job.due due) is
