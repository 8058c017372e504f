-- Each status comes exactly where it is due.
use Rattle.std.proofs.Common.{◌≡◌, ℕ, List, Option, Some, None, ◌⊎◌, inl, inr, arith, ap, refl, sym, ◌∙◌, subst}
use Rattle.std.specs.List.{Contains}
use Rattle.outside.specs.Folder.{Files}
use Rattle.query_graph.specs.TextGraph.{TextsHaveGraphs}
use Rattle.conclave_top.specs.Command.{Command, command_of}
use Rattle.conclave_top.specs.Due.{Due}
use Rattle.conclave_top.specs.Job.{Job}
use Rattle.conclave_top.specs.Jobs.{HasJob, IsDue, statuses_of}
use Rattle.conclave_top.specs.Laws.{Came, Comes, IsOfText, Keeps, OneDue, OneJob, ReadyIsDone, Run, StatusesAreExact, TakenIsPlanned, told_files}
use Rattle.conclave_top.specs.Outcome.{JobOutcome, OutcomeOf, Settles}
use Rattle.conclave_top.specs.Outside.{Outside, HasFailed}
use Rattle.conclave_top.proofs.FairJobs.{AreFair, IsFair}
use Rattle.conclave_top.proofs.JobsOf.{JobOf, due_of, failed_listed, job_of, memory_listed}
use Rattle.conclave_top.proofs.Keeping.{apart, comes_for, keeps_for}
use Rattle.conclave_top.proofs.Planned.{faulty_comes, taped}
use Rattle.conclave_top.proofs.SomeDues.{ready_due}

pub outcome_of : (words : List (List ℕ)) (command : Command) (old new : Outside) (status : ℕ) → Run words command old new status → OutcomeOf (Some command) old new status
outcome_of words command old new status run = subst (λ c. OutcomeOf c old new status) run.form run.outcome

pub job_of_run : (words : List (List ℕ)) (command : Command) (old new : Outside) (status : ℕ) → Run words command old new status → JobOf (told_files old) command (λ job. JobOutcome job old new status)
job_of_run words command old new status run = job_of (told_files old) command (λ job. JobOutcome job old new status) (outcome_of words command old new status run)

abbrev pub HasBoth : Option Files → Command → Due → Due → Type 0
HasBoth files command first second = HasJob files command (λ job. job.due first × job.due second)

abbrev pub HasReady : Option Files → Command → Due → Type 0
HasReady files command due = HasJob files command (λ job. job.ready × job.due due)

-- a call has one job, and keeps to all of it
keeps_of : OneDue → (command : Command) (old new : Outside) (status : ℕ) (of : JobOf (told_files old) command (λ job. JobOutcome job old new status)) → Keeps of.job old new status
keeps_of one command old new status of =
    keeps_for (statuses_of command) of.job old new status of.fair
    (λ files told first second a b. one.for_a_job files command first second
    (subst (λ fs. HasBoth fs command first second) told (of.within (λ job. job.due first × job.due second) (a, b))))
    (λ files told due ready is. one.when_ready files command due (subst (λ fs. HasReady fs command due) told (of.within (λ job. job.ready × job.due due) (ready, is))))
    of.is

pub one_job : OneDue → OneJob
one_job one words command old new status run =
    let of = job_of_run words command old new status run in
    of.within (λ job. Keeps job old new status) (keeps_of one command old new status of)

-- a status of an outcome that is due is none of 1, 8 and 9
not_one : (statuses : List ℕ) (reads : List (List ℕ)) (due : Due) (status : ℕ) → IsFair statuses reads due → status ≡ due.status → status ≡ 1 → ⊥
not_one statuses reads due status fair is one = omega (arith, fair.within, is, one)

not_eight : (statuses : List ℕ) (reads : List (List ℕ)) (due : Due) (status : ℕ) → IsFair statuses reads due → status ≡ due.status → status ≡ 8 → ⊥
not_eight statuses reads due status fair is eight = omega (arith, fair.within, is, eight)

-- what is due comes
pub comes : OneDue → (words : List (List ℕ)) (command : Command) (files : Files) (old new : Outside) (status : ℕ) (due : Due) → Run words command old new status
    → told_files old ≡ Some files → IsOfText command due → IsDue (Some files) command due → Comes (Settles due old new status) old new status
comes one words command files old new status due run told by is_due =
    let of = job_of_run words command old new status run in
    comes_for of.job old new status due
    (λ other is. sym (one.for_a_command files command due other by is_due (subst (λ fs. IsDue fs command other) told (due_of (told_files old) command (λ job. JobOutcome job old new status) of other is)))) of.is

-- and nothing else does
only_for : (command : Command) (job : Job) (old new : Outside) (status : ℕ) → ((due : Due) → job.due due → IsDue (told_files old) command due)
    → (status ≡ 8 → ⊥) → (status ≡ 9 → ⊥) → JobOutcome job old new status → Came command old new status
only_for command job old new status within eight nine (inl settled) = record { due = settled.due; is_due = within settled.due settled.is_due; settles = settled.settles }
only_for command job old new status within eight nine (inr (inl failed)) = absurd (eight failed.status_is)
only_for command job old new status within eight nine (inr (inr memory)) = absurd (nine memory.memory.status_is)

pub listed_for : (statuses : List ℕ) (job : Job) (old new : Outside) (status : ℕ) → AreFair statuses job → Contains statuses 8 → Contains statuses 9 → JobOutcome job old new status → Contains statuses status
listed_for statuses job old new status fair eight nine (inl settled) = subst (Contains statuses) (sym settled.settles.status_is) (fair settled.due settled.is_due).listed
listed_for statuses job old new status fair eight nine (inr (inl failed)) = subst (Contains statuses) (sym failed.status_is) eight
listed_for statuses job old new status fair eight nine (inr (inr memory)) = subst (Contains statuses) (sym memory.memory.status_is) nine

-- 1 and 8 over any folder
usage_of : (command : Option Command) (old new : Outside) (status : ℕ) → command ≡ None → OutcomeOf command old new status → (status ≡ 1) ⊎ (status ≡ 9)
usage_of None old new status is (inl settled) = inl (settled.settles.status_is ∙ ap (λ (due : Due). due.status) settled.is_due)
usage_of None old new status is (inr memory) = inr memory.memory.status_is
usage_of (Some command) old new status is outcome = cc

no_usage : (statuses : List ℕ) (job : Job) (old new : Outside) (status : ℕ) → AreFair statuses job → status ≡ 1 → JobOutcome job old new status → ⊥
no_usage statuses job old new status fair is (inl settled) = not_one statuses job.reads settled.due status (fair settled.due settled.is_due) settled.settles.status_is is
no_usage statuses job old new status fair is (inr (inl failed)) = apart status 1 8 is failed.status_is (λ e. cc)
no_usage statuses job old new status fair is (inr (inr memory)) = apart status 1 9 is memory.memory.status_is (λ e. cc)

usage_only_of : (command : Option Command) (old new : Outside) (status : ℕ) → OutcomeOf command old new status → status ≡ 1 → command ≡ None
usage_only_of None old new status outcome is = refl
usage_only_of (Some command) old new status outcome is =
    let of = job_of (told_files old) command (λ job. JobOutcome job old new status) outcome in
    absurd (no_usage (statuses_of command) of.job old new status of.fair is of.is)

pub failed_for : (statuses : List ℕ) (job : Job) (old new : Outside) (status : ℕ) → AreFair statuses job → status ≡ 8 → JobOutcome job old new status → HasFailed old.ports new.ports
failed_for statuses job old new status fair is (inl settled) =
    absurd (not_eight statuses job.reads settled.due status (fair settled.due settled.is_due) settled.settles.status_is is)
failed_for statuses job old new status fair is (inr (inl failed)) = failed.failed
failed_for statuses job old new status fair is (inr (inr memory)) = absurd (apart status 8 9 is memory.memory.status_is (λ e. cc))

failed_only_of : (command : Option Command) (old new : Outside) (status : ℕ) → OutcomeOf command old new status → status ≡ 8 → HasFailed old.ports new.ports
failed_only_of None old new status (inl settled) is = absurd (apart status 1 8 (settled.settles.status_is ∙ ap (λ (due : Due). due.status) settled.is_due) is (λ e. cc))
failed_only_of None old new status (inr memory) is = absurd (apart status 8 9 is memory.memory.status_is (λ e. cc))
failed_only_of (Some command) old new status outcome is =
    let of = job_of (told_files old) command (λ job. JobOutcome job old new status) outcome in
    failed_for (statuses_of command) of.job old new status of.fair is of.is

pub statuses_are_exact : TextsHaveGraphs → OneDue → TakenIsPlanned → StatusesAreExact
statuses_are_exact texts one planned = record {
  usage = λ words old new status outcome none. usage_of (command_of words) old new status none outcome;
  usage_only = λ words old new status outcome is. usage_only_of (command_of words) old new status outcome is;
  comes = λ words command files old new status due run told by is_due. comes one words command files old new status due run told by is_due;
  faulty = λ words query text tapes files bytes line old new status built run told held all read.
      faulty_comes texts planned words query text tapes files bytes line old new status built run told held all read;
  only = λ words command old new status run eight nine.
      let of = job_of_run words command old new status run in
      only_for command of.job old new status (due_of (told_files old) command (λ job. JobOutcome job old new status) of) eight nine of.is;
  listed = λ words command old new status run.
      let of = job_of_run words command old new status run in
      listed_for (statuses_of command) of.job old new status of.fair (failed_listed command) (memory_listed command) of.is;
  failed_only = λ words old new status outcome is. failed_only_of (command_of words) old new status outcome is;
}

-- a command that is ready is done
ready_comes : (due : Due) (old new : Outside) (status : ℕ) → due.status ≡ 0 → Comes (Settles due old new status) old new status → Comes (status ≡ 0) old new status
ready_comes due old new status zero (inl settles) = inl (settles.status_is ∙ zero)
ready_comes due old new status zero (inr others) = inr others

pub ready_is_done : OneDue → TakenIsPlanned → ReadyIsDone
ready_is_done one planned = record {
  on_graph = λ words command files old new status run told on ready.
      let due = ready_due files command on ready in
      ready_comes due.0 old new status due.1.1 (comes one words command files old new status due.0 run told (inl on) due.1.0);
  taped = λ words query text seed tapes files old new status run told held built. taped planned words query text seed tapes files old new status run told held built;
}
