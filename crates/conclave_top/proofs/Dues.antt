-- Over a folder that tells its files one outcome at most is due.
use Rattle.std.proofs.Common.{◌≡◌, ℕ, List, [], ◌∷◌, Some, inl, inr, ap, sym, ◌∙◌, subst}
use Rattle.outside.specs.Folder.{Files}
use Rattle.query_text.specs.Laws.{HasOneReading}
use Rattle.query_graph.specs.Build.{graph_of}
use Rattle.query_graph.specs.Content.{Content}
use Rattle.query_graph.specs.TextGraph.{TextsHaveGraphs}
use Rattle.tapes.specs.Laws.{MadeTapeIsOnly}
use Rattle.trust_sets.specs.Differs.{DifferencesAreOne}
use Rattle.conclave_top.specs.declared.end.Cause.TheVariants.{Refused}
use Rattle.conclave_top.specs.Audit.{audit_job}
use Rattle.conclave_top.specs.Bounds.{first_bound}
use Rattle.conclave_top.specs.Command.{Command, plain, plan, tape, run, audit}
use Rattle.conclave_top.specs.Compile.{IsCompiled, IsRefusedText, graphs, refusal_of}
use Rattle.conclave_top.specs.Due as dues
use Rattle.conclave_top.specs.Job.{Compilation, HasQueryJob, Job, refusal}
use Rattle.conclave_top.specs.Jobs.{HasJob, IsDue}
use Rattle.conclave_top.specs.Laws.{IsOfText, OneDue}
use Rattle.lowering.specs.Lines.{text_refused}
use Rattle.conclave_top.specs.Plain.{plain_job}
use Rattle.conclave_top.specs.Plans.{plans}
use Rattle.conclave_top.specs.PlanText.{plan_job, plan_text}
use Rattle.conclave_top.specs.Run.{run_job}
use Rattle.conclave_top.specs.Tape.{tape_job}
use Rattle.conclave_top.proofs.OneJobs.{HasOneDue, IsReadyDone, IsUnrefused, one_audit, one_behind, one_for, one_only, one_ran, one_taped, ready_audit, ready_behind, ready_for, ready_only, ready_ran, ready_taped, unrefused_audit, unrefused_ran, unrefused_taped}
use Rattle.conclave_top.proofs.RefusedPlans.{not_planned, one_plan_line, same_of_some, some_is_not_none}

-- a text is refused a graph with one line
same_refusal : HasOneReading → (text line other : List ℕ) → IsRefusedText text line → IsRefusedText text other → line ≡ other
same_refusal reading text line other (inl a) (inl b) =
    let place = (reading text).3 a.line a.column b.line b.column a.fault b.fault in
    a.says ∙ ap (λ n. text_refused n a.column) place.0 ∙ ap (text_refused b.line) place.1 ∙ sym b.says
same_refusal reading text line other (inl a) (inr b) = absurd ((reading text).2 b.statements a.line a.column b.read a.fault)
same_refusal reading text line other (inr a) (inl b) = absurd ((reading text).2 a.statements b.line b.column a.read b.fault)
same_refusal reading text line other (inr a) (inr b) =
    let same : a.statements ≡ b.statements = (reading text).1 a.statements b.statements a.read b.read in
    same_of_some line other (sym a.refused ∙ ap (λ s. refusal_of (graph_of s)) same ∙ b.refused)

-- and it isn't compiled then
pub not_compiled : HasOneReading → (text line : List ℕ) (graph : Content) → IsRefusedText text line → IsCompiled text graph → ⊥
not_compiled reading text line graph (inl a) compiled = (reading text).2 compiled.has.statements a.line a.column compiled.has.read a.fault
not_compiled reading text line graph (inr a) compiled =
    let same : a.statements ≡ compiled.has.statements = (reading text).1 a.statements compiled.has.statements a.read compiled.has.read in
    some_is_not_none line (refusal_of (graph_of a.statements)) a.refused (ap (λ s. refusal_of (graph_of s)) same ∙ (ap refusal_of compiled.has.built ∙ compiled.passes))

-- a file has one text
pub same_text : (files : Files) (query text other : List ℕ) → files query ≡ Some text → files query ≡ Some other → text ≡ other
same_text files query text other first second = same_of_some text other (sym first ∙ second)

-- texts are refused with one line
abbrev pub HasOneLine : {P : Type 0} → Compilation P → Type 0
HasOneLine compilation = (text line other : List ℕ) → compilation.refuses text line → compilation.refuses text other → line ≡ other

-- and such a text isn't compiled
abbrev pub IsEither : {P : Type 0} → Compilation P → Type 0
IsEither {P = P} compilation = (text line : List ℕ) (on : P) → compilation.refuses text line → compilation.gives text on → ⊥

plans_either : TextsHaveGraphs → IsEither plans
plans_either texts text line on refused planned = not_planned texts text line refused (record { graph = on.graph; accepted = planned.accepted; built = planned.built })

-- before there is a plan
one_refusal : {P : Type 0} (files : Files) (query : List ℕ) (compilation : Compilation P) → HasOneLine compilation → HasOneDue (refusal (Some files) query compilation)
one_refusal files query compilation lines first second a b =
    let line : a.line ≡ b.line = lines b.text a.line b.line (subst (λ t. compilation.refuses t a.line) (same_text files query a.text b.text a.held b.held) a.refused) b.refused in
    a.is ∙ ap (dues.stops Refused (query ∷ [])) line ∙ sym b.is

-- for a job
one_on_job : {P : Type 0} (files : Files) (query : List ℕ) (compilation : Compilation P) (jobs : P → Job) → HasOneLine compilation → ((on : P) → HasOneDue (jobs on))
    → (first second : dues.Due) → HasQueryJob (Some files) query compilation jobs (λ job. job.due first × job.due second) → first ≡ second
one_on_job files query compilation jobs lines one first second (inl both) = one_refusal files query compilation lines first second both.0 both.1
one_on_job files query compilation jobs lines one first second (inr on) = one_behind (query ∷ []) (jobs on.plan) (one on.plan) first second on.job.0 on.job.1

one_for_a_job : HasOneReading → TextsHaveGraphs → MadeTapeIsOnly → DifferencesAreOne → (files : Files) (command : Command) (first second : dues.Due)
    → HasJob (Some files) command (λ job. job.due first × job.due second) → first ≡ second
one_for_a_job reading texts made differ files (plain query) first second =
    one_on_job files query graphs (plain_job (Some files)) (same_refusal reading) (λ graph. one_for files graph (first_bound graph.nodes)) first second
one_for_a_job reading texts made differ files (plan query) first second =
    one_on_job files query graphs plan_job (same_refusal reading) (λ graph. one_only (dues.does [] [] (plan_text graph))) first second
one_for_a_job reading texts made differ files (tape query seed tapes) first second =
    one_on_job files query plans (tape_job seed tapes) (one_plan_line reading texts) (λ on. one_taped made seed tapes on) first second
one_for_a_job reading texts made differ files (run query tapes) first second =
    one_on_job files query plans (run_job (Some files) tapes) (one_plan_line reading texts) (λ on. one_ran files tapes on) first second
one_for_a_job reading texts made differ files (audit query asked) first second =
    one_on_job files query plans (audit_job (Some files) asked) (one_plan_line reading texts) (λ on. one_audit differ files asked on) first second

-- for a command whose plan is its query's graph
one_on_graph : HasOneReading → TextsHaveGraphs → (files : Files) (query : List ℕ) (jobs : Content → Job) → ((graph : Content) → HasOneDue (jobs graph)) → (first second : dues.Due)
    → HasQueryJob (Some files) query graphs jobs (λ job. job.due first) → HasQueryJob (Some files) query graphs jobs (λ job. job.due second) → first ≡ second
one_on_graph reading texts files query jobs one first second (inl a) (inl b) = one_refusal files query graphs (same_refusal reading) first second a b
one_on_graph reading texts files query jobs one first second (inl a) (inr b) =
    absurd (not_compiled reading b.text a.line b.plan (subst (λ t. IsRefusedText t a.line) (same_text files query a.text b.text a.held b.held) a.refused) b.gives)
one_on_graph reading texts files query jobs one first second (inr a) (inl b) =
    absurd (not_compiled reading a.text b.line a.plan (subst (λ t. IsRefusedText t b.line) (same_text files query b.text a.text b.held a.held) b.refused) a.gives)
one_on_graph reading texts files query jobs one first second (inr a) (inr b) =
    let gives : IsCompiled b.text a.plan = subst (λ t. IsCompiled t a.plan) (same_text files query a.text b.text a.held b.held) a.gives in
    let same : a.plan ≡ b.plan = texts.one_graph b.text a.plan b.plan gives.has b.gives.has in
    let own : a.job.own ≡ b.job.own = one b.plan a.job.own b.job.own (subst (λ g. (jobs g).due a.job.own) same a.job.is_due) b.job.is_due in
    a.job.is ∙ ap (dues.behind (query ∷ [])) own ∙ sym b.job.is

-- a refusal, where on a plan nothing is refused
one_refused : {P : Type 0} (files : Files) (query : List ℕ) (compilation : Compilation P) (jobs : P → Job) → HasOneLine compilation → IsEither compilation → ((on : P) → IsUnrefused (jobs on))
    → (first second : dues.Due) → first.status ≡ 2 → HasQueryJob (Some files) query compilation jobs (λ job. job.due first)
    → HasQueryJob (Some files) query compilation jobs (λ job. job.due second) → first ≡ second
one_refused files query compilation jobs lines either unrefused first second two (inl a) (inl b) = one_refusal files query compilation lines first second a b
one_refused files query compilation jobs lines either unrefused first second two (inl a) (inr b) =
    absurd (either b.text a.line b.plan (subst (λ t. compilation.refuses t a.line) (same_text files query a.text b.text a.held b.held) a.refused) b.gives)
one_refused files query compilation jobs lines either unrefused first second two (inr a) b =
    absurd (unrefused a.plan a.job.own a.job.is_due (sym (ap (λ (d : dues.Due). d.status) a.job.is) ∙ two))

one_for_a_command : HasOneReading → TextsHaveGraphs → (files : Files) (command : Command) (first second : dues.Due) → IsOfText command first
    → IsDue (Some files) command first → IsDue (Some files) command second → first ≡ second
one_for_a_command reading texts files (plain query) first second by a b =
    one_on_graph reading texts files query (plain_job (Some files)) (λ graph. one_for files graph (first_bound graph.nodes)) first second a b
one_for_a_command reading texts files (plan query) first second by a b =
    one_on_graph reading texts files query plan_job (λ graph. one_only (dues.does [] [] (plan_text graph))) first second a b
one_for_a_command reading texts files (tape query seed tapes) first second (inl on) a b = absurd on
one_for_a_command reading texts files (tape query seed tapes) first second (inr two) a b =
    one_refused files query plans (tape_job seed tapes) (one_plan_line reading texts) (plans_either texts) (λ on. unrefused_taped seed tapes on) first second two a b
one_for_a_command reading texts files (run query tapes) first second (inl on) a b = absurd on
one_for_a_command reading texts files (run query tapes) first second (inr two) a b =
    one_refused files query plans (run_job (Some files) tapes) (one_plan_line reading texts) (plans_either texts) (λ on. unrefused_ran (Some files) tapes on) first second two a b
one_for_a_command reading texts files (audit query asked) first second (inl on) a b = absurd on
one_for_a_command reading texts files (audit query asked) first second (inr two) a b =
    one_refused files query plans (audit_job (Some files) asked) (one_plan_line reading texts) (plans_either texts) (λ on. unrefused_audit (Some files) asked on) first second two a b

-- where a job is ready its result is due
ready_on_job : {P : Type 0} (files : Files) (query : List ℕ) (compilation : Compilation P) (jobs : P → Job) → ((on : P) → IsReadyDone (jobs on))
    → (due : dues.Due) → HasQueryJob (Some files) query compilation jobs (λ job. job.ready × job.due due) → due.status ≡ 0
ready_on_job files query compilation jobs done due (inl both) = absurd both.0
ready_on_job files query compilation jobs done due (inr on) = ready_behind (query ∷ []) (jobs on.plan) (done on.plan) due on.job.0 on.job.1

ready_for_a_job : DifferencesAreOne → (files : Files) (command : Command) (due : dues.Due) → HasJob (Some files) command (λ job. job.ready × job.due due) → due.status ≡ 0
ready_for_a_job differ files (plain query) due = ready_on_job files query graphs (plain_job (Some files)) (λ graph. ready_for files graph (first_bound graph.nodes)) due
ready_for_a_job differ files (plan query) due = ready_on_job files query graphs plan_job (λ graph. ready_only (dues.does [] [] (plan_text graph))) due
ready_for_a_job differ files (tape query seed tapes) due = ready_on_job files query plans (tape_job seed tapes) (λ on. ready_taped seed tapes on) due
ready_for_a_job differ files (run query tapes) due = ready_on_job files query plans (run_job (Some files) tapes) (λ on. ready_ran files tapes on) due
ready_for_a_job differ files (audit query asked) due = ready_on_job files query plans (audit_job (Some files) asked) (λ on. ready_audit differ files asked on) due

pub one_due : HasOneReading → TextsHaveGraphs → MadeTapeIsOnly → DifferencesAreOne → OneDue
one_due reading texts made differ = record {
  for_a_job = λ files command first second both. one_for_a_job reading texts made differ files command first second both;
  for_a_command = λ files command first second by a b. one_for_a_command reading texts files command first second by a b;
  when_ready = λ files command due both. ready_for_a_job differ files command due both;
}
