-- A query that a command takes has a plan for it, on which the call's job is.
use Rattle.std.proofs.Common.{◌≡◌, ℕ, List, [], ◌∷◌, Option, Some, None, option_map, map, Result, Ok, Err, inl, inr, arith, refl, ap, sym, ◌∙◌, subst}
use Rattle.lowering.specs.Compiled.{IsPlanOf}
use Rattle.lowering.specs.Plan.{Plan}
use Rattle.outside.specs.Folder.{Files, Holds}
use Rattle.query_text.specs.Laws.{HasOneReading}
use Rattle.query_graph.specs.Content.{Content}
use Rattle.query_graph.specs.TextGraph.{HasGraph, TextsHaveGraphs}
use Rattle.tables.specs.Content as table
use Rattle.trust_sets.specs.declared.fault.TrustFault.{TrustFault}
use Rattle.conclave_top.specs.Audit.{audit_job}
use Rattle.conclave_top.specs.Bounds.{first_bound}
use Rattle.conclave_top.specs.Command.{Command, plain, plan, tape, run, audit}
use Rattle.conclave_top.specs.Compile.{IsCompiled, graphs}
use Rattle.conclave_top.specs.declared.end.Cause.TheVariants.{Faulty}
use Rattle.conclave_top.specs.Due as dues
use Rattle.conclave_top.specs.Job.{Compilation, HasPlan, HasQueryJob, Job, refusal}
use Rattle.conclave_top.specs.Jobs.{HasJob, IsDue, query_of}
use Rattle.conclave_top.specs.Laws.{Comes, HasJobOnPlan, IsBuilt, IsTaken, Keeps, OneJob, Run, TakenIsPlanned, told_files}
use Rattle.lowering.specs.Lines.{trust_refused}
use Rattle.conclave_top.specs.Outcome.{JobOutcome, Settles}
use Rattle.conclave_top.specs.Outside.{Outside}
use Rattle.conclave_top.specs.Plain.{answered, graph_files, job_for, plain_job, tables_in}
use Rattle.conclave_top.specs.Plans.{plans}
use Rattle.conclave_top.specs.PlanText.{plan_job}
use Rattle.conclave_top.specs.Run.{run_job}
use Rattle.conclave_top.specs.Tape.{tape_job}
use Rattle.conclave_top.proofs.Dues.{not_compiled, same_text}
use Rattle.conclave_top.proofs.OneJobs.{IsUnrefused, unrefused_audit, unrefused_behind, unrefused_ran, unrefused_taped, zero_two}
use Rattle.conclave_top.proofs.RefusedPlans.{not_planned, same_of_some, unbounded}
use Rattle.conclave_top.proofs.SomeDues.{faulty}

-- a text that isn't refused
abbrev pub IsUnrefusedBy : {P : Type 0} → Compilation P → List ℕ → Type 0
IsUnrefusedBy compilation text = (line : List ℕ) → compilation.refuses text line → ⊥

-- of such no refusal is due
none_refused : {P : Type 0} (files : Files) (query text : List ℕ) (compilation : Compilation P) → files query ≡ Some text → IsUnrefusedBy compilation text
    → (due : dues.Due) → (refusal (Some files) query compilation).due due → ⊥
none_refused files query text compilation held unrefused due is =
    unrefused is.line (subst (λ t. compilation.refuses t is.line) (same_text files query is.text text is.held held) is.refused)

unrefused_on : {P : Type 0} (files : Files) (query text : List ℕ) (compilation : Compilation P) (jobs : P → Job) → files query ≡ Some text → IsUnrefusedBy compilation text
    → ((on : P) → compilation.gives text on → IsUnrefused (jobs on)) → (due : dues.Due) → HasQueryJob (Some files) query compilation jobs (λ job. job.due due) → due.status ≡ 2 → ⊥
unrefused_on files query text compilation jobs held unrefused jobs_are due (inl is) two = none_refused files query text compilation held unrefused due is
unrefused_on files query text compilation jobs held unrefused jobs_are due (inr on) two =
    unrefused_behind (query ∷ []) (jobs on.plan)
    (jobs_are on.plan (subst (λ t. compilation.gives t on.plan) (same_text files query on.text text on.held held) on.gives)) due on.job two

-- a text that is accepted and of which nothing is unbuilt is refused by none
compiled : (text : List ℕ) (built : IsBuilt text) → IsCompiled text built.graph
compiled text built = record { has = built.accepted.has; passes = ap (λ (fault : Option TrustFault). option_map (trust_refused built.graph.nodes) fault) built.accepted.passes }

unrefused_answered : (reads : List (List ℕ)) (graph : Content) (answer : Result (List table.Content) (List ℕ)) → (answered reads graph answer).status ≡ 2 → ⊥
unrefused_answered reads graph (Ok tables) two = omega (arith, two)
unrefused_answered reads graph (Err line) two = omega (arith, two)

unrefused_for : (files : Option Files) (graph : Content) (bound : Option ℕ) → bound ≡ None → IsUnrefused (job_for files graph bound)
unrefused_for files graph (Some line) none due is two = cc
unrefused_for files graph None none due is two =
    unrefused_answered (graph_files graph) graph (tables_in graph is.bytes) (sym (ap (λ (d : dues.Due). d.status) is.is) ∙ two)

unrefused_plain : TextsHaveGraphs → (files : Option Files) (text : List ℕ) → IsBuilt text → (graph : Content) → IsCompiled text graph → IsUnrefused (plain_job files graph)
unrefused_plain texts files text built graph is =
    let same : built.graph ≡ graph = texts.one_graph text built.graph graph built.accepted.has is.has in
    unrefused_for files graph (first_bound graph.nodes) (sym (ap (λ (g : Content). first_bound g.nodes) same) ∙ unbounded built.graph built.built)

unrefused_printed : (graph : Content) → IsUnrefused (plan_job graph)
unrefused_printed graph due is two = zero_two due.status (ap (λ (d : dues.Due). d.status) is) two

query_is : (files : Files) (other query text : List ℕ) → Some other ≡ Some query → files query ≡ Some text → files other ≡ Some text
query_is files other query text is held = ap files (same_of_some other query is) ∙ held

unrefused : HasOneReading → TextsHaveGraphs → (files : Files) (command : Command) (query text : List ℕ) (due : dues.Due) → query_of command ≡ Some query → files query ≡ Some text → IsBuilt text
    → IsDue (Some files) command due → due.status ≡ 2 → ⊥
unrefused reading texts files (plain other) query text due is held built is_due two =
    unrefused_on files other text graphs (plain_job (Some files)) (query_is files other query text is held)
    (λ line refused. not_compiled reading text line built.graph refused (compiled text built))
    (λ graph gives. unrefused_plain texts (Some files) text built graph gives) due is_due two
unrefused reading texts files (plan other) query text due is held built is_due two =
    unrefused_on files other text graphs plan_job (query_is files other query text is held)
    (λ line refused. not_compiled reading text line built.graph refused (compiled text built))
    (λ graph gives. unrefused_printed graph) due is_due two
unrefused reading texts files (tape other seed tapes) query text due is held built is_due two =
    unrefused_on files other text plans (tape_job seed tapes) (query_is files other query text is held)
    (λ line refused. not_planned texts text line refused built) (λ on gives. unrefused_taped seed tapes on) due is_due two
unrefused reading texts files (run other tapes) query text due is held built is_due two =
    unrefused_on files other text plans (run_job (Some files) tapes) (query_is files other query text is held)
    (λ line refused. not_planned texts text line refused built) (λ on gives. unrefused_ran (Some files) tapes on) due is_due two
unrefused reading texts files (audit other asked) query text due is held built is_due two =
    unrefused_on files other text plans (audit_job (Some files) asked) (query_is files other query text is held)
    (λ line refused. not_planned texts text line refused built) (λ on gives. unrefused_audit (Some files) asked on) due is_due two

-- a call on such a text was left before there was a plan, or has its job on one
not_settled : {P : Type 0} (known : Option Files) (files : Files) (query text : List ℕ) (compilation : Compilation P) → known ≡ Some files → files query ≡ Some text
    → IsUnrefusedBy compilation text → (due : dues.Due) → (refusal known query compilation).due due → ⊥
not_settled known files query text compilation told held unrefused due is =
    none_refused files query text compilation held unrefused due (subst (λ fs. (refusal fs query compilation).due due) told is)

left_early : {P : Type 0} (known : Option Files) (files : Files) (query text : List ℕ) (compilation : Compilation P) (holds : Type 0) (old new : Outside) (status : ℕ) → known ≡ Some files
    → files query ≡ Some text → IsUnrefusedBy compilation text → JobOutcome (refusal known query compilation) old new status → Comes holds old new status
left_early known files query text compilation holds old new status told held unrefused (inl settled) =
    absurd (not_settled known files query text compilation told held unrefused settled.due settled.is_due)
left_early known files query text compilation holds old new status told held unrefused (inr (inl failed)) = inr (inl (failed.status_is, failed.failed))
left_early known files query text compilation holds old new status told held unrefused (inr (inr memory)) = inr (inr memory.memory.status_is)

planned_on : {P : Type 0} (files : Files) (query text : List ℕ) (compilation : Compilation P) (jobs : P → Job) (old new : Outside) (status : ℕ) → told_files old ≡ Some files
    → files query ≡ Some text → IsUnrefusedBy compilation text → HasQueryJob (told_files old) query compilation jobs (λ job. Keeps job old new status)
    → Comes (HasPlan (told_files old) query compilation jobs (λ job. Keeps job old new status)) old new status
planned_on files query text compilation jobs old new status told held unrefused (inr on) = inl on
planned_on files query text compilation jobs old new status told held unrefused (inl early) =
    left_early (told_files old) files query text compilation (HasPlan (told_files old) query compilation jobs (λ job. Keeps job old new status)) old new status told held unrefused early.outcome

planned : HasOneReading → TextsHaveGraphs → (command : Command) (files : Files) (query text : List ℕ) (old new : Outside) (status : ℕ) → HasJob (told_files old) command (λ job. Keeps job old new status)
    → told_files old ≡ Some files → query_of command ≡ Some query → files query ≡ Some text → IsTaken command text
    → Comes (HasJobOnPlan (told_files old) command (λ job. Keeps job old new status)) old new status
planned reading texts (plain other) files query text old new status has told is held taken =
    planned_on files other text graphs (plain_job (told_files old)) old new status told (query_is files other query text is held)
    (λ line refused. not_compiled reading text line taken.0 refused taken.1) has
planned reading texts (plan other) files query text old new status has told is held taken =
    planned_on files other text graphs plan_job old new status told (query_is files other query text is held)
    (λ line refused. not_compiled reading text line taken.0 refused taken.1) has
planned reading texts (tape other seed tapes) files query text old new status has told is held taken =
    planned_on files other text plans (tape_job seed tapes) old new status told (query_is files other query text is held)
    (λ line refused. not_planned texts text line refused taken) has
planned reading texts (run other tapes) files query text old new status has told is held taken =
    planned_on files other text plans (run_job (told_files old) tapes) old new status told (query_is files other query text is held)
    (λ line refused. not_planned texts text line refused taken) has
planned reading texts (audit other asked) files query text old new status has told is held taken =
    planned_on files other text plans (audit_job (told_files old) asked) old new status told (query_is files other query text is held)
    (λ line refused. not_planned texts text line refused taken) has

pub taken_is_planned : HasOneReading → TextsHaveGraphs → OneJob → TakenIsPlanned
taken_is_planned reading texts one = record {
  unrefused = λ files command query text due is held built is_due two. unrefused reading texts files command query text due is held built is_due two;
  planned = λ words command files query text old new status call told is held taken.
      planned reading texts command files query text old new status (one words command old new status call) told is held taken;
}

-- so `tape` of it is done
taped_for : (query : List ℕ) (seed : ℕ) (tapes : List ℕ) (files : Files) (old new : Outside) (status : ℕ) → told_files old ≡ Some files
    → Comes (HasJobOnPlan (told_files old) (tape query seed tapes) (λ job. Keeps job old new status)) old new status → Comes (status ≡ 0) old new status
taped_for query seed tapes files old new status told (inl on) = on.job.ready files told tt
taped_for query seed tapes files old new status told (inr others) = inr others

pub taped : TakenIsPlanned → (words : List (List ℕ)) (query text : List ℕ) (seed : ℕ) (tapes : List ℕ) (files : Files) (old new : Outside) (status : ℕ) → Run words (tape query seed tapes) old new status
    → told_files old ≡ Some files → files query ≡ Some text → IsBuilt text → Comes (status ≡ 0) old new status
taped law words query text seed tapes files old new status call told held built =
    taped_for query seed tapes files old new status told (law.planned words (tape query seed tapes) files query text old new status call told refl held built)

-- and `run` of it tells the first file that is no table: the plan has the text's graph
pub graph_on : TextsHaveGraphs → (known : Option Files) (files : Files) (query text other : List ℕ) (graph : Content) (on : Plan) → known ≡ Some files → files query ≡ Some text → HasGraph text graph
    → Holds known query other → IsPlanOf other on → graph ≡ on.graph
graph_on texts known files query text other graph on told held has known_text planned =
    let same : text ≡ other = same_text files query text other held (subst (λ fs. Holds fs query other) told known_text) in
    texts.one_graph other graph on.graph (subst (λ t. HasGraph t graph) same has) planned.accepted.has

faulty_for : TextsHaveGraphs → (query text tapes : List ℕ) (files : Files) (bytes : List (List ℕ)) (line : List ℕ) (old new : Outside) (status : ℕ) (graph : Content) → HasGraph text graph
    → told_files old ≡ Some files → files query ≡ Some text → map files (graph_files graph) ≡ map Some bytes → tables_in graph bytes ≡ Err line
    → Comes (HasJobOnPlan (told_files old) (run query tapes) (λ job. Keeps job old new status)) old new status
    → Comes (Settles (dues.stops Faulty (query ∷ graph_files graph) line) old new status) old new status
faulty_for texts query text tapes files bytes line old new status graph has told held all read (inr others) = inr others
faulty_for texts query text tapes files bytes line old new status graph has told held all read (inl on) =
    let same : graph ≡ on.plan.graph = graph_on texts (told_files old) files query text on.text graph on.plan told held has on.held on.gives in
    let due : (run_job (Some files) tapes on.plan).due (dues.stops Faulty (graph_files on.plan.graph) line) =
    faulty files on.plan tapes bytes line (subst (λ (g : Content). map files (graph_files g) ≡ map Some bytes) same all) (subst (λ (g : Content). tables_in g bytes ≡ Err line) same read) in
    on.job.comes files (dues.stops Faulty (query ∷ graph_files graph) line) told
    (record {
      own = dues.stops Faulty (graph_files on.plan.graph) line;
      is_due = subst (λ (fs : Option Files). (run_job fs tapes on.plan).due (dues.stops Faulty (graph_files on.plan.graph) line)) (sym told) due;
      is = ap (λ (g : Content). dues.stops Faulty (query ∷ graph_files g) line) same;
    })

pub faulty_comes : TextsHaveGraphs → TakenIsPlanned → (words : List (List ℕ)) (query text tapes : List ℕ) (files : Files) (bytes : List (List ℕ)) (line : List ℕ) (old new : Outside) (status : ℕ) (built : IsBuilt text)
    → Run words (run query tapes) old new status → told_files old ≡ Some files → files query ≡ Some text → map files (graph_files built.graph) ≡ map Some bytes → tables_in built.graph bytes ≡ Err line
    → Comes (Settles (dues.stops Faulty (query ∷ graph_files built.graph) line) old new status) old new status
faulty_comes texts law words query text tapes files bytes line old new status built call told held all read =
    faulty_for texts query text tapes files bytes line old new status built.graph built.accepted.has told held all read
    (law.planned words (run query tapes) files query text old new status call told refl held built)
