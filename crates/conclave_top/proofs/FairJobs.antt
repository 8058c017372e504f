-- What each outcome that is due for a command has in common.
use Rattle.std.proofs.Common.{◌≡◌, ℕ, ◌≤◌, List, [], ◌∷◌, ◌++◌, Option, Some, None, Result, Ok, Err, ◌⊎◌, inl, inr, append_assoc, arith, refl, ap, sym, subst, ◌∙◌}
use Rattle.std.specs.List.{Contains}
use Rattle.outside.specs.Folder.{Files}
use Rattle.lanes.specs.declared.three.Three.{Three}
use Rattle.lowering.specs.Plan.{Plan}
use Rattle.query_graph.specs.Content.{Content}
use Rattle.step_lists.specs.Draws.{ThreeTapes}
use Rattle.tables.specs.Content as table
use Rattle.conclave_top.specs.declared.end.Cause.{Cause}
use Rattle.conclave_top.specs.declared.end.Cause.TheVariants.{Disagree, Faulty, Refused, Unfit}
use Rattle.conclave_top.specs.Answers.{printed}
use Rattle.conclave_top.specs.Audit.{Worlds, audit_job, audit_on, audit_output, audit_writes, worlds_source}
use Rattle.conclave_top.specs.Due as dues
use Rattle.conclave_top.specs.Job.{Compilation, Job, behind, only, refusal}
use Rattle.conclave_top.specs.Lines.{disagree_line, not_built}
use Rattle.conclave_top.specs.Plain.{answered, graph_files, job_for, tables_in}
use Rattle.conclave_top.specs.Question.{Question}
use Rattle.conclave_top.specs.Run.{relation_source, run_job, run_on, run_output, run_writes}
use Rattle.conclave_top.specs.Stages.{Source, files_job, over_tables_job, with_bytes_job}
use Rattle.conclave_top.specs.Tape.{tape_job, tape_writes}
use Rattle.conclave_top.specs.Tapes.{tape_names}

-- the last of these names weren't read, and there is no result
pub record IsEarly (names : List (List ℕ)) (due : dues.Due) : Type 0 where
  pub left : List (List ℕ)
  pub front : names ≡ due.reads ++ left
  pub undone : due.status ≡ 0 → ⊥

-- the status is one of these, and none of 1, 8 and 9; a result has no line, and without a result nothing is printed and no
-- file is written; the names are read, or without a result the first of them
pub record IsFair (statuses : List ℕ) (names : List (List ℕ)) (due : dues.Due) : Type 0 where
  pub listed : Contains statuses due.status
  pub within : (due.status ≡ 0) ⊎ ((2 ≤ due.status) × (due.status ≤ 7))
  pub silent : due.status ≡ 0 → due.line ≡ []
  pub unprinted : (due.status ≡ 0 → ⊥) → due.output ≡ []
  pub kept : (due.status ≡ 0 → ⊥) → due.writes ≡ []
  pub reads : (due.reads ≡ names) ⊎ IsEarly names due

-- the same of each outcome of a job that reads these names
abbrev pub AreFairFor : List ℕ → List (List ℕ) → Job → Type 0
AreFairFor statuses names job = (due : dues.Due) → job.due due → IsFair statuses names due

abbrev pub AreFair : List ℕ → Job → Type 0
AreFair statuses job = AreFairFor statuses job.reads job

fair_stop : (statuses : List ℕ) (cause : Cause) (names reads : List (List ℕ)) (line : List ℕ) → Contains statuses (dues.status_of cause)
    → 2 ≤ dues.status_of cause → dues.status_of cause ≤ 7 → ((reads ≡ names) ⊎ IsEarly names (dues.stops cause reads line)) → IsFair statuses names (dues.stops cause reads line)
fair_stop statuses cause names reads line listed least most read =
    record { listed = listed; within = inr (least, most); silent = λ zero. absurd (omega (arith, zero, least)); unprinted = λ e. refl; kept = λ e. refl; reads = read }

fair_refused : (statuses : List ℕ) (reads : List (List ℕ)) (line : List ℕ) → Contains statuses 2 → IsFair statuses reads (dues.stops Refused reads line)
fair_refused statuses reads line listed = fair_stop statuses Refused reads reads line listed (omega arith) (omega arith) (inl refl)

fair_faulty : (statuses : List ℕ) (reads : List (List ℕ)) (line : List ℕ) → Contains statuses 3 → IsFair statuses reads (dues.stops Faulty reads line)
fair_faulty statuses reads line listed = fair_stop statuses Faulty reads reads line listed (omega arith) (omega arith) (inl refl)

fair_unfit : (statuses : List ℕ) (reads : List (List ℕ)) (line : List ℕ) → Contains statuses 4 → IsFair statuses reads (dues.stops Unfit reads line)
fair_unfit statuses reads line listed = fair_stop statuses Unfit reads reads line listed (omega arith) (omega arith) (inl refl)

fair_done : (statuses : List ℕ) (reads : List (List ℕ)) (writes : List (List ℕ × List ℕ)) (output : List ℕ) → Contains statuses 0 → IsFair statuses reads (dues.does reads writes output)
fair_done statuses reads writes output listed =
    record { listed = listed; within = inl refl; silent = λ e. refl; unprinted = λ not. absurd (not refl); kept = λ not. absurd (not refl); reads = inl refl }

-- behind other reads
reads_behind : (first names : List (List ℕ)) (due : dues.Due) → ((due.reads ≡ names) ⊎ IsEarly names due)
    → ((first ++ due.reads ≡ first ++ names) ⊎ IsEarly (first ++ names) (dues.behind first due))
reads_behind first names due (inl all) = inl (ap (λ ns. first ++ ns) all)
reads_behind first names due (inr early) =
    inr (record { left = early.left; front = ap (λ ns. first ++ ns) early.front ∙ sym (append_assoc first due.reads early.left); undone = early.undone })

pub fair_behind : (statuses : List ℕ) (first names : List (List ℕ)) (job : Job) → AreFairFor statuses names job → AreFairFor statuses (first ++ names) (behind first job)
fair_behind statuses first names job fair due is =
    let own = fair is.own is.is_due in
    subst (IsFair statuses (first ++ names)) (sym is.is)
    (record {
      listed = own.listed;
      within = own.within;
      silent = own.silent;
      unprinted = own.unprinted;
      kept = own.kept;
      reads = reads_behind first names is.own own.reads;
    })

pub fair_only : (statuses : List ℕ) (due : dues.Due) → IsFair statuses [] due → AreFair statuses (only due)
fair_only statuses due fair other is = subst (IsFair statuses []) (sym is) fair

-- among more statuses
abbrev pub AreAmong : List ℕ → List ℕ → Type 0
AreAmong some statuses = (status : ℕ) → Contains some status → Contains statuses status

pub fair_among : (some statuses : List ℕ) (job : Job) → AreAmong some statuses → AreFair some job → AreFair statuses job
fair_among some statuses job among fair due is =
    let own = fair due is in
    record { listed = among due.status own.listed; within = own.within; silent = own.silent; unprinted = own.unprinted; kept = own.kept; reads = own.reads }

-- a refusal before there is a plan
pub fair_refusal : {P : Type 0} (statuses : List ℕ) (files : Option Files) (query : List ℕ) (compilation : Compilation P) → Contains statuses 2 → AreFair statuses (refusal files query compilation)
fair_refusal statuses files query compilation two due is = subst (IsFair statuses (query ∷ [])) (sym is.is) (fair_refused statuses (query ∷ []) is.line two)

-- `plain` and `plan` on a graph
fair_answered : (statuses : List ℕ) (reads : List (List ℕ)) (graph : Content) (answer : Result (List table.Content) (List ℕ)) → Contains statuses 0 → Contains statuses 3
    → IsFair statuses reads (answered reads graph answer)
fair_answered statuses reads graph (Ok tables) zero three = fair_done statuses reads [] (printed graph tables) zero
fair_answered statuses reads graph (Err line) zero three = fair_faulty statuses reads line three

pub fair_for : (statuses : List ℕ) (files : Option Files) (graph : Content) (bound : Option ℕ) → Contains statuses 0 → Contains statuses 2 → Contains statuses 3 → AreFair statuses (job_for files graph bound)
fair_for statuses files graph (Some line) zero two three due is = fair_only statuses (dues.stops Refused [] (not_built line)) (fair_refused statuses [] (not_built line) two) due is
fair_for statuses files graph None zero two three due is =
    subst (IsFair statuses (graph_files graph)) (sym is.is) (fair_answered statuses (graph_files graph) graph (tables_in graph is.bytes) zero three)

pub fair_printed : (statuses : List ℕ) (text : List ℕ) → Contains statuses 0 → AreFair statuses (only (dues.does [] [] text))
fair_printed statuses text zero = fair_only statuses (dues.does [] [] text) (fair_done statuses [] [] text zero)

-- `tape`, `run` and `audit` on a plan
pub fair_tape : (statuses : List ℕ) (seed : ℕ) (tapes : List ℕ) (plan : Plan) → Contains statuses 0 → AreFair statuses (tape_job seed tapes plan)
fair_tape statuses seed tapes plan zero due is = subst (IsFair statuses []) (sym is.is) (fair_done statuses [] (tape_writes tapes is.draws) [] zero)

fair_with_bytes : (statuses : List ℕ) (tapes : List ℕ) (plan : Plan) (on : ThreeTapes → Job) (bytes : Three (List ℕ)) → Contains statuses 4 → ((draws : ThreeTapes) → AreFairFor statuses [] (on draws))
    → AreFairFor statuses [] (with_bytes_job tapes plan on bytes)
fair_with_bytes statuses tapes plan on bytes four fair due (inl here) = fair here.draws due here.is_due
fair_with_bytes statuses tapes plan on bytes four fair due (inr unfit) = subst (IsFair statuses []) (sym unfit.is) (fair_unfit statuses [] unfit.line four)

unread : (statuses : List ℕ) (tapes line : List ℕ) → Contains statuses 3 → IsFair statuses (tape_names tapes) (dues.stops Faulty [] line)
unread statuses tapes line three =
    fair_stop statuses Faulty (tape_names tapes) [] line three (omega arith) (omega arith) (inr (record { left = tape_names tapes; front = refl; undone = λ zero. absurd (omega (arith, zero)) }))

fair_over_tables : {T : Type 0} (statuses : List ℕ) (files : Option Files) (tapes : List ℕ) (plan : Plan) (on : T → ThreeTapes → Job) (answer : Result T (List ℕ)) → Contains statuses 3 → Contains statuses 4
    → ((tables : T) (draws : ThreeTapes) → AreFairFor statuses [] (on tables draws)) → AreFairFor statuses (tape_names tapes) (over_tables_job files tapes plan on answer)
fair_over_tables statuses files tapes plan on (Err line) three four fair due is = subst (IsFair statuses (tape_names tapes)) (sym is) (unread statuses tapes line three)
fair_over_tables statuses files tapes plan on (Ok tables) three four fair due is =
    fair_behind statuses (tape_names tapes) [] (with_bytes_job tapes plan (on tables) is.bytes) (fair_with_bytes statuses tapes plan (on tables) is.bytes four (fair tables)) due is.is

fair_on_files : {T : Type 0} (statuses : List ℕ) (files : Option Files) (source : Source T) (tapes : List ℕ) (plan : Plan) (on : T → ThreeTapes → Job) → Contains statuses 3 → Contains statuses 4
    → ((tables : T) (draws : ThreeTapes) → AreFairFor statuses [] (on tables draws)) → AreFair statuses (files_job files source tapes plan on)
fair_on_files statuses files source tapes plan on three four fair due is =
    fair_behind statuses source.names (tape_names tapes) (over_tables_job files tapes plan on (source.read is.bytes))
    (fair_over_tables statuses files tapes plan on (source.read is.bytes) three four fair) due is.is

pub fair_run : (statuses : List ℕ) (files : Option Files) (tapes : List ℕ) (plan : Plan) → Contains statuses 0 → Contains statuses 3 → Contains statuses 4 → AreFair statuses (run_job files tapes plan)
fair_run statuses files tapes plan zero three four =
    fair_on_files statuses files (relation_source [] plan.graph) tapes plan (run_on tapes plan) three four
    (λ tables draws due is. subst (IsFair statuses []) (sym is) (fair_done statuses [] (run_writes tapes plan tables draws) (run_output plan tables) zero))

fair_audited : (statuses : List ℕ) (asked : Question) (plan : Plan) (worlds : Worlds) (draws : ThreeTapes) → Contains statuses 0 → Contains statuses 6 → AreFairFor statuses [] (audit_on asked plan worlds draws)
fair_audited statuses asked plan worlds draws zero six due (inl twin) =
    subst (IsFair statuses []) (sym twin.is) (fair_done statuses [] (audit_writes asked plan worlds draws) (audit_output asked plan worlds draws) zero)
fair_audited statuses asked plan worlds draws zero six due (inr other) =
    subst (IsFair statuses []) (sym other.is) (fair_stop statuses Disagree [] [] (disagree_line plan.graph.nodes other.differs) six (omega arith) (omega arith) (inl refl))

pub fair_audit : (statuses : List ℕ) (files : Option Files) (asked : Question) (plan : Plan) → Contains statuses 0 → Contains statuses 3 → Contains statuses 4 → Contains statuses 6
    → AreFair statuses (audit_job files asked plan)
fair_audit statuses files asked plan zero three four six =
    fair_on_files statuses files (worlds_source asked plan.graph) asked.tapes plan (audit_on asked plan) three four (λ worlds draws. fair_audited statuses asked plan worlds draws zero six)
