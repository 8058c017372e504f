-- What a command has to do, from a moment on.
use Rattle.std.specs.Prelude.{◌≡◌, ℕ, List, [], ◌∷◌, ◌++◌, Option, ◌⊎◌}
use Rattle.outside.specs.Folder.{Files, Holds}
use Rattle.conclave_top.specs.declared.end.Cause.TheVariants.{Refused}
use Rattle.conclave_top.specs.Due as dues

-- the names that are read, in order; the outcomes that are due over what the folder holds; and when that is the result
pub record Job : Type 1 where
  pub reads : List (List ℕ)
  pub due : dues.Due → Type 0
  pub ready : Type 0

-- a due outcome of a job behind other reads
pub record IsDueBehind (first : List (List ℕ)) (job : Job) (due : dues.Due) : Type 0 where
  pub own : dues.Due
  pub is_due : job.due own
  pub is : due ≡ dues.behind first own

-- a job behind other reads
abbrev pub behind : List (List ℕ) → Job → Job
behind first job = record { reads = first ++ job.reads; due = IsDueBehind first job; ready = job.ready }

-- nothing is read, and one outcome is due
abbrev pub only : dues.Due → Job
only outcome = record { reads = []; due = λ due. due ≡ outcome; ready = outcome.status ≡ 0 }

-- these names are read, and before all of them are nothing is due
abbrev pub reading : List (List ℕ) → Job
reading names = record { reads = names; due = λ due. ⊥; ready = ⊥ }

-- what a text is compiled to: it is refused with a line, or has a plan
pub record Compilation (P : Type 0) : Type 1 where
  pub refuses : List ℕ → List ℕ → Type 0
  pub gives : List ℕ → P → Type 0

-- the text of the query's file is refused
pub record IsRefusal {P : Type 0} (files : Option Files) (query : List ℕ) (compilation : Compilation P) (due : dues.Due) : Type 0 where
  pub text : List ℕ
  pub line : List ℕ
  pub held : Holds files query text
  pub refused : compilation.refuses text line
  pub is : due ≡ dues.stops Refused (query ∷ []) line

-- before there is a plan: the query is read, and only a refusal is due
abbrev pub refusal : {P : Type 0} → Option Files → List ℕ → Compilation P → Job
refusal files query compilation = record { reads = query ∷ []; due = IsRefusal files query compilation; ready = ⊥ }

-- this holds of the job on one plan of the query's text
pub record HasPlan {P : Type 0} (files : Option Files) (query : List ℕ) (compilation : Compilation P) (jobs : P → Job) (holds : Job → Type 0) : Type 0 where
  pub plan : P
  pub text : List ℕ
  pub held : Holds files query text
  pub gives : compilation.gives text plan
  pub job : holds (behind (query ∷ []) (jobs plan))

-- this holds of one job of a command on a query: that without a plan, or that on one plan
abbrev pub HasQueryJob : {P : Type 0} → Option Files → List ℕ → Compilation P → (P → Job) → (Job → Type 0) → Type 0
HasQueryJob files query compilation jobs holds = holds (refusal files query compilation) ⊎ HasPlan files query compilation jobs holds
