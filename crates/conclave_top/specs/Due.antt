-- An outcome that is due for a command, as data.
use Rattle.std.specs.Prelude.{ℕ, List, [], ◌++◌, map}
use Rattle.conclave_top.specs.declared.end.Cause.{Cause}
use Rattle.conclave_top.specs.declared.end.Cause.TheVariants.{Usage, Refused, Faulty, Unfit, Disagree}
use Rattle.conclave_top.specs.Lines.{usage_line}

-- the status, the names that are read before it, the line that tells it, the files that are written, each name with its
-- bytes, and what the output gets
pub record Due : Type 0 where
  pub status : ℕ
  pub reads : List (List ℕ)
  pub line : List ℕ
  pub writes : List (List ℕ × List ℕ)
  pub output : List ℕ

-- the status of a cause
abbrev pub status_of : Cause → ℕ
status_of Usage = 1
status_of Refused = 2
status_of Faulty = 3
status_of Unfit = 4
status_of Disagree = 6

-- behind these reads there is no result, and this line tells the cause
abbrev pub stops : Cause → List (List ℕ) → List ℕ → Due
stops cause reads line = record { status = status_of cause; reads = reads; line = line; writes = []; output = [] }

-- behind these reads there is a result: these files are written, and then this is printed
abbrev pub does : List (List ℕ) → List (List ℕ × List ℕ) → List ℕ → Due
does reads writes output = record { status = 0; reads = reads; line = []; writes = writes; output = output }

-- the words are no command
abbrev pub usage : Due
usage = stops Usage [] usage_line

-- the same behind other reads
abbrev pub behind : List (List ℕ) → Due → Due
behind first due = record due { reads = first ++ due.reads }

-- the names of writes
abbrev pub names_of : List (List ℕ × List ℕ) → List (List ℕ)
names_of writes = map (λ write. write.0) writes
