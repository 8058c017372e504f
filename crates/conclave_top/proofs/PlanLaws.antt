-- What the outcome of a call with a plan that is handed in comes to.
use Rattle.std.proofs.Common.{◌≡◌, ℕ, List, Option, Some, None, inl, inr, arith, refl, subst}
use Rattle.std.specs.List.{Contains}
use Rattle.outside.specs.Folder.{Files}
use Rattle.lowering.specs.Plan.{Plan}
use Rattle.tapes.specs.Laws.{MadeTapeIsOnly}
use Rattle.trust_sets.specs.Differs.{DifferencesAreOne}
use Rattle.conclave_top.specs.Audit.{audit_job}
use Rattle.conclave_top.specs.Command.{Command, plain, plan, tape, run, audit, command_of}
use Rattle.conclave_top.specs.Due.{Due}
use Rattle.conclave_top.specs.Job.{Job}
use Rattle.conclave_top.specs.Laws.{IsDueWith, Keeps, WithAPlan, statuses_with, told_files}
use Rattle.conclave_top.specs.Outcome.{JobOutcome, Settles}
use Rattle.conclave_top.specs.Outside.{Outside}
use Rattle.conclave_top.specs.Question.{Question}
use Rattle.conclave_top.specs.Run.{run_job}
use Rattle.conclave_top.specs.Tape.{tape_job}
use Rattle.conclave_top.specs.With.{HasPlanJob}
use Rattle.conclave_top.proofs.Exact.{failed_for, listed_for}
use Rattle.conclave_top.proofs.FairJobs.{AreFair, fair_audit, fair_run, fair_tape}
use Rattle.conclave_top.proofs.Keeping.{keeps_for}
use Rattle.conclave_top.proofs.OneJobs.{HasOneDue, IsReadyDone, one_audit, one_ran, one_taped, ready_audit, ready_ran, ready_taped}

-- the job of a command on a plan
pub record PlanJobOf (known : Option Files) (on : Plan) (command : Option Command) (holds : Job → Type 0) : Type 1 where
  pub job : Job
  pub within : (other : Job → Type 0) → other job → HasPlanJob known on command other
  pub fair : AreFair (statuses_with command) job
  pub failed_listed : Contains (statuses_with command) 8
  pub memory_listed : Contains (statuses_with command) 9
  pub one : (files : Files) → known ≡ Some files → HasOneDue job
  pub done : (files : Files) → known ≡ Some files → IsReadyDone job
  pub is : holds job

-- what is so of a job over the files that a folder tells is so over a folder that tells them
one_told : (known : Option Files) (files : Files) (jobs : Option Files → Job) → known ≡ Some files → HasOneDue (jobs (Some files)) → HasOneDue (jobs known)
one_told known files jobs told one first second a b = one first second (subst (λ fs. (jobs fs).due first) told a) (subst (λ fs. (jobs fs).due second) told b)

ready_told : (known : Option Files) (files : Files) (jobs : Option Files → Job) → known ≡ Some files → IsReadyDone (jobs (Some files)) → IsReadyDone (jobs known)
ready_told known files jobs told done due ready is = done due (subst (λ fs. (jobs fs).ready) told ready) (subst (λ fs. (jobs fs).due due) told is)

plan_job_of : MadeTapeIsOnly → DifferencesAreOne → (known : Option Files) (on : Plan) (command : Option Command) (holds : Job → Type 0) → HasPlanJob known on command holds → PlanJobOf known on command holds
plan_job_of made differ known on None holds is = absurd is
plan_job_of made differ known on (Some (plain query)) holds is = absurd is
plan_job_of made differ known on (Some (plan query)) holds is = absurd is
plan_job_of made differ known on (Some (tape query seed tapes)) holds is = record {
  job = tape_job seed tapes on;
  within = λ other held. held;
  fair = fair_tape (statuses_with (Some (tape query seed tapes))) seed tapes on (0, omega arith, refl);
  failed_listed = (1, omega arith, refl);
  memory_listed = (2, omega arith, refl);
  one = λ files told. one_taped made seed tapes on;
  done = λ files told. ready_taped seed tapes on;
  is = is;
}
plan_job_of made differ known on (Some (run query tapes)) holds is = record {
  job = run_job known tapes on;
  within = λ other held. held;
  fair = fair_run (statuses_with (Some (run query tapes))) known tapes on (0, omega arith, refl) (1, omega arith, refl) (2, omega arith, refl);
  failed_listed = (3, omega arith, refl);
  memory_listed = (4, omega arith, refl);
  one = λ files told. one_told known files (λ fs. run_job fs tapes on) told (one_ran files tapes on);
  done = λ files told. ready_told known files (λ fs. run_job fs tapes on) told (ready_ran files tapes on);
  is = is;
}
plan_job_of made differ known on (Some (audit query asked)) holds is = record {
  job = audit_job known asked on;
  within = λ other held. held;
  fair = fair_audit (statuses_with (Some (audit query asked))) known asked on (0, omega arith, refl) (1, omega arith, refl) (2, omega arith, refl) (3, omega arith, refl);
  failed_listed = (4, omega arith, refl);
  memory_listed = (5, omega arith, refl);
  one = λ files told. one_told known files (λ fs. audit_job fs asked on) told (one_audit differ files asked on);
  done = λ files told. ready_told known files (λ fs. audit_job fs asked on) told (ready_audit differ files asked on);
  is = is;
}

-- on a plan one outcome at most is due
one_due : MadeTapeIsOnly → DifferencesAreOne → (files : Files) (on : Plan) (command : Command) (first second : Due) → IsDueWith (Some files) on command first → IsDueWith (Some files) on command second → first ≡ second
one_due made differ files on (plain query) first second a b = absurd a
one_due made differ files on (plan query) first second a b = absurd a
one_due made differ files on (tape query seed tapes) first second a b = one_taped made seed tapes on first second a b
one_due made differ files on (run query tapes) first second a b = one_ran files tapes on first second a b
one_due made differ files on (audit query asked) first second a b = one_audit differ files asked on first second a b

-- what is due comes, and nothing else does
only_for : (known : Option Files) (on : Plan) (command : Option Command) (job : Job) (old new : Outside) (status : ℕ) → ((due : Due) → job.due due → HasPlanJob known on command (λ j. j.due due))
    → (status ≡ 8 → ⊥) → (status ≡ 9 → ⊥) → JobOutcome job old new status → (due : Due) × (HasPlanJob known on command (λ j. j.due due) × Settles due old new status)
only_for known on command job old new status within eight nine (inl settled) = (settled.due, (within settled.due settled.is_due, settled.settles))
only_for known on command job old new status within eight nine (inr (inl failed)) = absurd (eight failed.status_is)
only_for known on command job old new status within eight nine (inr (inr memory)) = absurd (nine memory.memory.status_is)

pub with_a_plan : MadeTapeIsOnly → DifferencesAreOne → WithAPlan
with_a_plan made differ = record {
  one_due = λ files on command first second a b. one_due made differ files on command first second a b;
  keeps = λ on words old new status outcome.
      let of = plan_job_of made differ (told_files old) on (command_of words) (λ job. JobOutcome job old new status) outcome in
      of.within (λ job. Keeps job old new status) (keeps_for (statuses_with (command_of words)) of.job old new status of.fair of.one of.done of.is);
  only = λ on words old new status outcome eight nine.
      let of = plan_job_of made differ (told_files old) on (command_of words) (λ job. JobOutcome job old new status) outcome in
      only_for (told_files old) on (command_of words) of.job old new status (λ due is. of.within (λ job. job.due due) is) eight nine of.is;
  listed = λ on words old new status outcome.
      let of = plan_job_of made differ (told_files old) on (command_of words) (λ job. JobOutcome job old new status) outcome in
      listed_for (statuses_with (command_of words)) of.job old new status of.fair of.failed_listed of.memory_listed of.is;
  failed_only = λ on words old new status outcome is.
      let of = plan_job_of made differ (told_files old) on (command_of words) (λ job. JobOutcome job old new status) outcome in
      failed_for (statuses_with (command_of words)) of.job old new status of.fair is of.is;
}
