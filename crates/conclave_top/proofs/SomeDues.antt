-- Where an outcome is due.
use Rattle.std.proofs.Common.{◌≡◌, ℕ, ◌<◌, ◌^◌, List, [], ◌∷◌, ◌++◌, length, map, Option, Some, None, Result, Ok, Err, ◌⊎◌, inl, inr, arith, refl, ap, sym, ◌∙◌, subst}
use Rattle.std.specs.Prelude.{slice_index}
use Rattle.std.proofs.lemmas.List.{append-nil, length-map}
use Rattle.outside.specs.Folder.{Files}
use Rattle.lanes.specs.Party.{number_of}
use Rattle.lanes.specs.Three.{at}
use Rattle.lanes.specs.declared.party.Party.{Party}
use Rattle.lanes.specs.declared.party.Party.TheVariants.{First, Second, Third}
use Rattle.lanes.specs.declared.three.Three.{Three}
use Rattle.lowering.specs.Compiled.{IsPlanOf}
use Rattle.lowering.specs.Isolated.{IsIsolated}
use Rattle.lowering.specs.Plan.{Plan}
use Rattle.plain_meaning.specs.Fits.{relations}
use Rattle.query_text.specs.Laws.{HasOneReading}
use Rattle.query_text.specs.Text.{IsFaultAt, IsQuery}
use Rattle.query_text.specs.declared.statement.Statement.{Statement}
use Rattle.query_graph.specs.Build.{graph_of}
use Rattle.query_graph.specs.Content.{Content}
use Rattle.query_graph.specs.TextGraph.{TextsHaveGraphs}
use Rattle.query_graph.specs.declared.fault.GraphFault.{GraphFault}
use Rattle.step_lists.specs.Draws.{ThreeTapes, schedule_of}
use Rattle.tables.specs.Content as table
use Rattle.tables.specs.File.{ReadTablesFit}
use Rattle.tapes.specs.Laws.{BytesHaveAnswer, SeedsHaveTapes}
use Rattle.tapes.specs.Made.{IsMadeTape}
use Rattle.tapes.specs.ReadTape.{ReadsTape}
use Rattle.tapes.specs.declared.draw.Draw.{Draw}
use Rattle.tapes.specs.declared.draw.Need.{Need}
use Rattle.tapes.specs.declared.tape_bytes.TapeFault.{TapeFault}
use Rattle.tapes.specs.declared.tape_bytes.TapeFault.TheVariants as faults
use Rattle.conclave_top.specs.declared.end.Cause.TheVariants.{Disagree, Faulty, Refused, Unfit}
use Rattle.conclave_top.specs.Audit.{AgreeFor, Worlds, audit_job, audit_on, audit_output, audit_writes, inside, worlds_source}
use Rattle.conclave_top.specs.Bounds.{first_bound}
use Rattle.conclave_top.specs.Command.{Command, plain, plan, tape, run, audit}
use Rattle.conclave_top.specs.Compile.{IsCompiled, IsRefusedText, graph_refusal, graphs, refusal_of}
use Rattle.conclave_top.specs.Due as dues
use Rattle.conclave_top.specs.Job.{Compilation, HasQueryJob, Job}
use Rattle.conclave_top.specs.Jobs.{IsDue, IsReady, query_of}
use Rattle.conclave_top.specs.Laws.{HasWorlds, IsDueWith, IsOnGraph, Refuses, SomeDue, audit_reads}
use Rattle.conclave_top.specs.Lines.{disagree_line, not_built, tape_line}
use Rattle.lowering.specs.Lines.{graph_refused, text_refused}
use Rattle.conclave_top.specs.PartyFiles.{of_parties, tape_file}
use Rattle.conclave_top.specs.Plain.{answered, graph_files, job_for, plain_job, tables_in}
use Rattle.conclave_top.specs.Plans.{plans}
use Rattle.conclave_top.specs.PlanText.{plan_job, plan_text}
use Rattle.conclave_top.specs.Question.{Question}
use Rattle.conclave_top.specs.Relations.{AreBytes, file_of, tables_of}
use Rattle.conclave_top.specs.Run.{relation_source, run_job, run_on, run_output, run_writes}
use Rattle.conclave_top.specs.Stages.{Source, files_job, over_tables_job, tapes_job, with_bytes_job}
use Rattle.conclave_top.specs.Tape.{AreSeeded, tape_job}
use Rattle.conclave_top.specs.Tapes.{AreSpelled, IsFaultyTape, IsTapeFault, Spells, tape_names}
use Rattle.conclave_top.proofs.AuditEnds.{both_ok, equal_views, world_fits}
use Rattle.conclave_top.proofs.EachText.{each_text}
use Rattle.conclave_top.proofs.OneTapes.{three}
use Rattle.conclave_top.proofs.RefusedPlans.{same_of_some}
use Rattle.conclave_top.proofs.StageEnds.{spelled_fit}

-- each text is refused or compiled
each_graph : (statements : List Statement) (graph : Content) → graph_of statements ≡ Ok graph → (refusal : Option (List ℕ)) → graph_refusal graph ≡ refusal
    → ((line : List ℕ) × (refusal_of (graph_of statements) ≡ Some line)) ⊎ ((graph : Content) × (graph_of statements ≡ Ok graph) × (refusal_of (graph_of statements) ≡ None))
each_graph statements graph is (Some line) refused = inl (line, ap refusal_of is ∙ refused)
each_graph statements graph is None passes = inr (graph, is, ap refusal_of is ∙ passes)

each_query : (statements : List Statement) (answer : Result Content GraphFault) → graph_of statements ≡ answer
    → ((line : List ℕ) × (refusal_of (graph_of statements) ≡ Some line)) ⊎ ((graph : Content) × (graph_of statements ≡ Ok graph) × (refusal_of (graph_of statements) ≡ None))
each_query statements (Err fault) is = inl (graph_refused fault, ap refusal_of is)
each_query statements (Ok graph) is = each_graph statements graph is (graph_refusal graph) refl

of_query : (text : List ℕ) (statements : List Statement) → IsQuery text statements
    → ((line : List ℕ) × (refusal_of (graph_of statements) ≡ Some line)) ⊎ ((graph : Content) × (graph_of statements ≡ Ok graph) × (refusal_of (graph_of statements) ≡ None))
    → ((line : List ℕ) × IsRefusedText text line) ⊎ ((graph : Content) × IsCompiled text graph)
of_query text statements read (inl refused) = inl (refused.0, inr (record { statements = statements; read = read; refused = refused.1 }))
of_query text statements read (inr built) = inr (built.0, record { has = record { statements = statements; read = read; built = built.1 }; passes = sym (ap refusal_of built.1) ∙ built.2 })

of_reading : (text : List ℕ) → ((q : List Statement) × IsQuery text q) ⊎ ((line : ℕ) × (column : ℕ) × IsFaultAt text line column)
    → ((line : List ℕ) × IsRefusedText text line) ⊎ ((graph : Content) × IsCompiled text graph)
of_reading text (inl q) = of_query text q.0 q.1 (each_query q.0 (graph_of q.0) refl)
of_reading text (inr f) = inl (text_refused f.0 f.1, inl (record { line = f.0; column = f.1; fault = f.2; says = refl }))

-- what is due on a plan is due for its query, and so is a refusal
due_on : {P : Type 0} (files : Files) (query text : List ℕ) (compilation : Compilation P) (jobs : P → Job) (on : P) (due : dues.Due) → files query ≡ Some text → compilation.gives text on
    → (jobs on).due due → HasQueryJob (Some files) query compilation jobs (λ job. job.due (dues.behind (query ∷ []) due))
due_on files query text compilation jobs on due held gives is_due =
    inr (record { plan = on; text = text; held = held; gives = gives; job = record { own = due; is_due = is_due; is = refl } })

due_refused : {P : Type 0} (files : Files) (query text line : List ℕ) (compilation : Compilation P) (jobs : P → Job) → files query ≡ Some text → compilation.refuses text line
    → HasQueryJob (Some files) query compilation jobs (λ job. job.due (dues.stops Refused (query ∷ []) line))
due_refused files query text line compilation jobs held refused = inl (record { text = text; line = line; held = held; refused = refused; is = refl })

-- the files of relations, as many as there are
are_bytes : (files : Files) (graph : Content) (bytes : List (List ℕ)) → map files (graph_files graph) ≡ map Some bytes → AreBytes (Some files) [] (relations graph.nodes) bytes
are_bytes files graph bytes held = record {
  held = held;
  count = sym (length-map bytes Some) ∙ sym (ap length held) ∙ length-map (graph_files graph) files ∙ length-map (relations graph.nodes) (file_of []);
}

due_answered : (files : Files) (graph : Content) (bytes : List (List ℕ)) → first_bound graph.nodes ≡ None → map files (graph_files graph) ≡ map Some bytes
    → (plain_job (Some files) graph).due (answered (graph_files graph) graph (tables_in graph bytes))
due_answered files graph bytes none held =
    subst (λ o. (job_for (Some files) graph o).due (answered (graph_files graph) graph (tables_in graph bytes))) (sym none) (record { bytes = bytes; are = are_bytes files graph bytes held; is = refl })

answered_from : (query : List ℕ) (graph : Content) (answer : Result (List table.Content) (List ℕ))
    → dues.behind (query ∷ []) (answered (graph_files graph) graph answer) ≡ answered (query ∷ graph_files graph) graph answer
answered_from query graph (Ok tables) = refl
answered_from query graph (Err line) = refl

refused_due : (files : Files) (command : Command) (query text line : List ℕ) → query_of command ≡ Some query → files query ≡ Some text → Refuses command text line
    → IsDue (Some files) command (dues.stops Refused (query ∷ []) line)
refused_due files (plain other) query text line is held refused =
    subst (λ q. HasQueryJob (Some files) q graphs (plain_job (Some files)) (λ job. job.due (dues.stops Refused (query ∷ []) line))) (sym (same_of_some other query is))
    (due_refused files query text line graphs (plain_job (Some files)) held refused)
refused_due files (plan other) query text line is held refused =
    subst (λ q. HasQueryJob (Some files) q graphs plan_job (λ job. job.due (dues.stops Refused (query ∷ []) line))) (sym (same_of_some other query is))
    (due_refused files query text line graphs plan_job held refused)
refused_due files (tape other seed tapes) query text line is held refused =
    subst (λ q. HasQueryJob (Some files) q plans (tape_job seed tapes) (λ job. job.due (dues.stops Refused (query ∷ []) line))) (sym (same_of_some other query is))
    (due_refused files query text line plans (tape_job seed tapes) held refused)
refused_due files (run other tapes) query text line is held refused =
    subst (λ q. HasQueryJob (Some files) q plans (run_job (Some files) tapes) (λ job. job.due (dues.stops Refused (query ∷ []) line))) (sym (same_of_some other query is))
    (due_refused files query text line plans (run_job (Some files) tapes) held refused)
refused_due files (audit other asked) query text line is held refused =
    subst (λ q. HasQueryJob (Some files) q plans (audit_job (Some files) asked) (λ job. job.due (dues.stops Refused (query ∷ []) line))) (sym (same_of_some other query is))
    (due_refused files query text line plans (audit_job (Some files) asked) held refused)

on_plan : (files : Files) (command : Command) (query text : List ℕ) (on : Plan) (due : dues.Due) → query_of command ≡ Some query → files query ≡ Some text → IsPlanOf text on
    → IsDueWith (Some files) on command due → IsDue (Some files) command (dues.behind (query ∷ []) due)
on_plan files (plain other) query text on due is held gives is_due = absurd is_due
on_plan files (plan other) query text on due is held gives is_due = absurd is_due
on_plan files (tape other seed tapes) query text on due is held gives is_due =
    subst (λ q. HasQueryJob (Some files) q plans (tape_job seed tapes) (λ job. job.due (dues.behind (query ∷ []) due))) (sym (same_of_some other query is))
    (due_on files query text plans (tape_job seed tapes) on due held gives is_due)
on_plan files (run other tapes) query text on due is held gives is_due =
    subst (λ q. HasQueryJob (Some files) q plans (run_job (Some files) tapes) (λ job. job.due (dues.behind (query ∷ []) due))) (sym (same_of_some other query is))
    (due_on files query text plans (run_job (Some files) tapes) on due held gives is_due)
on_plan files (audit other asked) query text on due is held gives is_due =
    subst (λ q. HasQueryJob (Some files) q plans (audit_job (Some files) asked) (λ job. job.due (dues.behind (query ∷ []) due))) (sym (same_of_some other query is))
    (due_on files query text plans (audit_job (Some files) asked) on due held gives is_due)

-- on a plan: a seed's tapes
seeded_by : (seed : ℕ) (on : Plan) (first second third : List Draw) → IsMadeTape seed 1 (at First (schedule_of on.list)) first → IsMadeTape seed 2 (at Second (schedule_of on.list)) second
    → IsMadeTape seed 3 (at Third (schedule_of on.list)) third → AreSeeded seed on (three first second third)
seeded_by seed on first second third a b c First = a
seeded_by seed on first second third a b c Second = b
seeded_by seed on first second third a b c Third = c

seeded : SeedsHaveTapes → (seed : ℕ) (on : Plan) → (draws : ThreeTapes) × AreSeeded seed on draws
seeded exist seed on =
    let first = exist seed 1 (at First (schedule_of on.list)) in
    let second = exist seed 2 (at Second (schedule_of on.list)) in
    let third = exist seed 3 (at Third (schedule_of on.list)) in
    (three first.0 second.0 third.0, seeded_by seed on first.0 second.0 third.0 first.1 second.1 third.1)

-- or what is due over relations and tapes: a file that is no table, a tape that doesn't fit, what is due on the draws
due_over : {T : Type 0} (files : Files) (source : Source T) (tapes : List ℕ) (made : Plan) (on : T → ThreeTapes → Job) (bytes : source.Bytes) (answer : Result T (List ℕ)) (own due : dues.Due)
    → source.Hold (Some files) bytes → source.read bytes ≡ answer → (over_tables_job (Some files) tapes made on answer).due own → due ≡ dues.behind source.names own → (files_job (Some files) source tapes made on).due due
due_over {T = T} files source tapes made on bytes answer own due held read is_due is = record {
  bytes = bytes;
  are = held;
  is = record { own = own; is_due = subst (λ (a : Result T (List ℕ)). (over_tables_job (Some files) tapes made on a).due own) (sym read) is_due; is = is };
}

due_on_tapes : (files : Files) (tapes : List ℕ) (made : Plan) (on : ThreeTapes → Job) (taped : Three (List ℕ)) (own : dues.Due)
    → map files (tape_names tapes) ≡ map Some (of_parties (λ party. at party taped)) → (with_bytes_job tapes made on taped).due own → (tapes_job (Some files) tapes made on).due (dues.behind (tape_names tapes) own)
due_on_tapes files tapes made on taped own held is_due = record { bytes = taped; are = held; is = record { own = own; is_due = is_due; is = refl } }

faulty_on : {T : Type 0} (files : Files) (source : Source T) (tapes : List ℕ) (made : Plan) (on : T → ThreeTapes → Job) (bytes : source.Bytes) (line : List ℕ) → source.Hold (Some files) bytes → source.read bytes ≡ Err line
    → (files_job (Some files) source tapes made on).due (dues.stops Faulty source.names line)
faulty_on files source tapes made on bytes line held read =
    due_over files source tapes made on bytes (Err line) (dues.stops Faulty [] line) (dues.stops Faulty source.names line) held read refl
    (ap (λ ns. dues.stops Faulty ns line) (sym (append-nil source.names)))

unfit_on : {T : Type 0} (files : Files) (source : Source T) (tapes : List ℕ) (made : Plan) (on : T → ThreeTapes → Job) (bytes : source.Bytes) (tables : T) (taped : Three (List ℕ)) (line : List ℕ) → source.Hold (Some files) bytes
    → source.read bytes ≡ Ok tables → map files (tape_names tapes) ≡ map Some (of_parties (λ party. at party taped)) → IsTapeFault (schedule_of made.list) taped tapes line
    → (files_job (Some files) source tapes made on).due (dues.stops Unfit (source.names ++ tape_names tapes) line)
unfit_on files source tapes made on bytes tables taped line held read held_tapes fault =
    due_over files source tapes made on bytes (Ok tables) (dues.behind (tape_names tapes) (dues.stops Unfit [] line)) (dues.stops Unfit (source.names ++ tape_names tapes) line) held read
    (due_on_tapes files tapes made (on tables) taped (dues.stops Unfit [] line) held_tapes (inr (record { line = line; fault = fault; is = refl }))) refl

due_on_draws : {T : Type 0} (files : Files) (source : Source T) (tapes : List ℕ) (made : Plan) (on : T → ThreeTapes → Job) (bytes : source.Bytes) (tables : T) (taped : Three (List ℕ)) (draws : ThreeTapes) (own : dues.Due)
    → source.Hold (Some files) bytes → source.read bytes ≡ Ok tables → map files (tape_names tapes) ≡ map Some (of_parties (λ party. at party taped)) → AreSpelled (schedule_of made.list) taped draws
    → (on tables draws).due own → (files_job (Some files) source tapes made on).due (dues.behind source.names (dues.behind (tape_names tapes) own))
due_on_draws files source tapes made on bytes tables taped draws own held read held_tapes spelled is_due =
    due_over files source tapes made on bytes (Ok tables) (dues.behind (tape_names tapes) own) (dues.behind source.names (dues.behind (tape_names tapes) own)) held read
    (due_on_tapes files tapes made (on tables) taped own held_tapes (inl (record { draws = draws; spelled = spelled; is_due = is_due }))) refl

-- of `run`
pub faulty : (files : Files) (on : Plan) (tapes : List ℕ) (bytes : List (List ℕ)) (line : List ℕ) → map files (graph_files on.graph) ≡ map Some bytes → tables_in on.graph bytes ≡ Err line
    → (run_job (Some files) tapes on).due (dues.stops Faulty (graph_files on.graph) line)
faulty files on tapes bytes line held read = faulty_on files (relation_source [] on.graph) tapes on (run_on tapes on) bytes line (are_bytes files on.graph bytes held) read

-- of `audit`: nothing that an isolated plan sends the party is another in the second world
audited : ReadTablesFit → (files : Files) (on : Plan) (asked : Question) (worlds : Worlds) (taped : Three (List ℕ)) (draws : ThreeTapes) → HasWorlds files on asked worlds
    → map files (tape_names asked.tapes) ≡ map Some (of_parties (λ party. at party taped)) → AreSpelled (schedule_of on.list) taped draws → IsIsolated on → AgreeFor on asked.party worlds
    → (audit_job (Some files) asked on).due (dues.does (audit_reads asked on) (audit_writes asked on worlds draws) (audit_output asked on worlds draws))
audited fit files on asked worlds taped draws has held_tapes spelled isolated agree =
    let bytes = has.bytes in
    let read = both_ok (tables_of (inside asked.first) (relations on.graph.nodes) bytes.0) (tables_of (inside asked.second) (relations on.graph.nodes) bytes.1) worlds.0 worlds.1 has.read in
    let first = world_fits fit (inside asked.first) on.graph bytes.0 worlds.0 has.held.0.count read.0 in
    let second = world_fits fit (inside asked.second) on.graph bytes.1 worlds.1 has.held.1.count read.1 in
    let equal = equal_views on asked.party worlds draws isolated first second agree (spelled_fit on taped draws spelled) in
    due_on_draws files (worlds_source asked on.graph) asked.tapes on (audit_on asked on) bytes worlds taped draws (dues.does [] (audit_writes asked on worlds draws) (audit_output asked on worlds draws))
    has.held has.read held_tapes spelled (inl (record { agree = agree; equal = equal; is = refl }))

-- bytes spell a tape, or none
abbrev pub HasTape : List Need → List ℕ → List ℕ → Party → Type 0
HasTape needs bytes tapes party = ((draws : List Draw) × ReadsTape needs bytes (Ok draws)) ⊎ ((line : List ℕ) × IsFaultyTape needs bytes tapes party line)

tape_or_fault : (needs : List Need) (bytes tapes : List ℕ) (party : Party) (answer : Result (List Draw) TapeFault) → ¬ (answer ≡ Err faults.Memory) → ReadsTape needs bytes answer → HasTape needs bytes tapes party
tape_or_fault needs bytes tapes party (Ok draws) real reads = inl (draws, reads)
tape_or_fault needs bytes tapes party (Err fault) real reads =
    inr (tape_line (tape_file tapes party) fault, record { fault = fault; real = λ same. real (ap Err same); faulty = reads; says = refl })

-- three tapes fit, or a first one doesn't
spelled_by : (needs : Three (List Need)) (taped : Three (List ℕ)) (first second third : List Draw) → ReadsTape (at First needs) (at First taped) (Ok first)
    → ReadsTape (at Second needs) (at Second taped) (Ok second) → ReadsTape (at Third needs) (at Third taped) (Ok third) → AreSpelled needs taped (three first second third)
spelled_by needs taped first second third a b c First = a
spelled_by needs taped first second third a b c Second = b
spelled_by needs taped first second third a b c Third = c

before_first : (needs : Three (List Need)) (taped : Three (List ℕ)) (other : Party) → number_of other < 1 → (draws : List Draw) × Spells needs taped other draws
before_first needs taped First less = absurd (omega (arith, less))
before_first needs taped Second less = absurd (omega (arith, less))
before_first needs taped Third less = absurd (omega (arith, less))

before_second : (needs : Three (List Need)) (taped : Three (List ℕ)) → ((draws : List Draw) × Spells needs taped First draws) → (other : Party) → number_of other < 2
    → (draws : List Draw) × Spells needs taped other draws
before_second needs taped first First less = first
before_second needs taped first Second less = absurd (omega (arith, less))
before_second needs taped first Third less = absurd (omega (arith, less))

before_third : (needs : Three (List Need)) (taped : Three (List ℕ)) → ((draws : List Draw) × Spells needs taped First draws) → ((draws : List Draw) × Spells needs taped Second draws)
    → (other : Party) → number_of other < 3 → (draws : List Draw) × Spells needs taped other draws
before_third needs taped first second First less = first
before_third needs taped first second Second less = second
before_third needs taped first second Third less = absurd (omega (arith, less))

fit_three : (needs : Three (List Need)) (taped : Three (List ℕ)) (tapes : List ℕ) → HasTape (at First needs) (at First taped) tapes First → HasTape (at Second needs) (at Second taped) tapes Second
    → HasTape (at Third needs) (at Third taped) tapes Third → ((draws : ThreeTapes) × AreSpelled needs taped draws) ⊎ ((line : List ℕ) × IsTapeFault needs taped tapes line)
fit_three needs taped tapes (inr fault) b c = inr (fault.0, record { party = First; earlier = before_first needs taped; faulty = fault.1 })
fit_three needs taped tapes (inl a) (inr fault) c = inr (fault.0, record { party = Second; earlier = before_second needs taped a; faulty = fault.1 })
fit_three needs taped tapes (inl a) (inl b) (inr fault) = inr (fault.0, record { party = Third; earlier = before_third needs taped a b; faulty = fault.1 })
fit_three needs taped tapes (inl a) (inl b) (inl c) = inl (three a.0 b.0 c.0, spelled_by needs taped a.0 b.0 c.0 a.1 b.1 c.1)

fit : BytesHaveAnswer → (needs : Three (List Need)) (taped : Three (List ℕ)) (tapes : List ℕ) → ((party : Party) (k : ℕ) → slice_index (at party taped) k < 2 ^ 8)
    → ((draws : ThreeTapes) × AreSpelled needs taped draws) ⊎ ((line : List ℕ) × IsTapeFault needs taped tapes line)
fit answers needs taped tapes small =
    let of = λ (party : Party). answers (at party needs) (at party taped) (small party) in
    fit_three needs taped tapes
    (tape_or_fault (at First needs) (at First taped) tapes First (of First).0 (of First).1.0 (of First).1.1)
    (tape_or_fault (at Second needs) (at Second taped) tapes Second (of Second).0 (of Second).1.0 (of Second).1.1)
    (tape_or_fault (at Third needs) (at Third taped) tapes Third (of Third).0 (of Third).1.0 (of Third).1.1)

pub some_due : HasOneReading → TextsHaveGraphs → SeedsHaveTapes → BytesHaveAnswer → ReadTablesFit → SomeDue
some_due reading texts exist answers tables = record {
  refused = λ files command query text line is held refused. refused_due files command query text line is held refused;
  planned = λ files query text graph held compiled. due_on files query text graphs plan_job graph (dues.does [] [] (plan_text graph)) held compiled refl;
  bounded = λ files query text graph line held compiled bound.
      due_on files query text graphs (plain_job (Some files)) graph (dues.stops Refused [] (not_built line)) held compiled
      (subst (λ o. (job_for (Some files) graph o).due (dues.stops Refused [] (not_built line))) (sym bound) refl);
  answered = λ files query text graph bytes held compiled none all.
      let due = answered (graph_files graph) graph (tables_in graph bytes) in
      subst (λ d. HasQueryJob (Some files) query graphs (plain_job (Some files)) (λ job. job.due d)) (answered_from query graph (tables_in graph bytes))
      (due_on files query text graphs (plain_job (Some files)) graph due held compiled (due_answered files graph bytes none all));
  each = λ text. of_reading text (reading text).0;
  each_plan = λ text. each_text reading texts text;
  on_plan = λ files command query text on due is held gives is_due. on_plan files command query text on due is held gives is_due;
  taped = λ files on query seed tapes draws seeds. record { draws = draws; seeded = seeds; is = refl };
  seeded = λ seed on. seeded exist seed on;
  faulty = λ files on query tapes bytes line held read. faulty files on tapes bytes line held read;
  unfit = λ files on query tapes bytes tables taped line held read held_tapes fault.
      unfit_on files (relation_source [] on.graph) tapes on (run_on tapes on) bytes tables taped line (are_bytes files on.graph bytes held) read held_tapes fault;
  ran = λ files on query tapes bytes tables taped draws held read held_tapes spelled.
      due_on_draws files (relation_source [] on.graph) tapes on (run_on tapes on) bytes tables taped draws (dues.does [] (run_writes tapes on tables draws) (run_output on tables))
      (are_bytes files on.graph bytes held) read held_tapes spelled refl;
  misread = λ files on query asked bytes line held read. faulty_on files (worlds_source asked on.graph) asked.tapes on (audit_on asked on) bytes line held read;
  untold = λ files on query asked worlds taped line has held_tapes fault.
      unfit_on files (worlds_source asked on.graph) asked.tapes on (audit_on asked on) has.bytes worlds taped line has.held has.read held_tapes fault;
  audited = λ files on query asked worlds taped draws has held_tapes spelled isolated agree. audited tables files on asked worlds taped draws has held_tapes spelled isolated agree;
  disagreed = λ files on query asked worlds taped draws differs has held_tapes spelled first.
      due_on_draws files (worlds_source asked on.graph) asked.tapes on (audit_on asked on) has.bytes worlds taped draws (dues.stops Disagree [] (disagree_line on.graph.nodes differs))
      has.held has.read held_tapes spelled (inr (record { differs = differs; first = first; is = refl }));
  fit = λ needs taped tapes small. fit answers needs taped tapes small;
}

-- where a command on a graph is ready its result is due
ready_for : (files : Files) (graph : Content) (bound : Option ℕ) → (job_for (Some files) graph bound).ready → (due : dues.Due) × ((job_for (Some files) graph bound).due due × (due.status ≡ 0))
ready_for files graph (Some line) ready = (dues.stops Refused [] (not_built line), (refl, ready))
ready_for files graph None ready = (
  answered (graph_files graph) graph (tables_in graph ready.bytes),
  (record { bytes = ready.bytes; are = ready.are; is = refl }, ap (λ answer. (answered (graph_files graph) graph answer).status) ready.read),
)

ready_on : (files : Files) (query : List ℕ) (jobs : Content → Job) → ((graph : Content) → (jobs graph).ready → (due : dues.Due) × ((jobs graph).due due × (due.status ≡ 0)))
    → HasQueryJob (Some files) query graphs jobs (λ job. job.ready) → (due : dues.Due) × (HasQueryJob (Some files) query graphs jobs (λ job. job.due due) × (due.status ≡ 0))
ready_on files query jobs ready (inl none) = absurd none
ready_on files query jobs ready (inr on) =
    let result = ready on.plan on.job in
    (dues.behind (query ∷ []) result.0, (due_on files query on.text graphs jobs on.plan result.0 on.held on.gives result.1.0, result.1.1))

pub ready_due : (files : Files) (command : Command) → IsOnGraph command → IsReady (Some files) command → (due : dues.Due) × (IsDue (Some files) command due × (due.status ≡ 0))
ready_due files (plain query) on ready = ready_on files query (plain_job (Some files)) (λ graph. ready_for files graph (first_bound graph.nodes)) ready
ready_due files (plan query) on ready = ready_on files query plan_job (λ graph ready. (dues.does [] [] (plan_text graph), (refl, refl))) ready
ready_due files (tape query seed tapes) on ready = absurd on
ready_due files (run query tapes) on ready = absurd on
ready_due files (audit query asked) on ready = absurd on
