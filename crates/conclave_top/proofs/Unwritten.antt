-- The names that `tape`, `run` and `audit` don't write.
use Rattle.std.proofs.Common.{◌≡◌, ℕ, Bool, false, ◌||◌, List, [], ◌∷◌, ◌++◌, map, Option, Some, None, Result, Ok, Err, inl, inr, ap, refl, ◌∙◌}
use Rattle.std.specs.Prelude.{slice_get}
use Rattle.std.specs.List.{flat_map, list_any}
use Rattle.std.proofs.lemmas.List.{map-append}
use Rattle.outside.specs.Folder.{Files}
use Rattle.lanes.specs.Party.{before}
use Rattle.lanes.specs.declared.party.Party.{Party}
use Rattle.lanes.specs.declared.three.Three.{Three}
use Rattle.lowering.specs.Plan.{Plan}
use Rattle.plain_meaning.specs.Meaning.{meanings}
use Rattle.plain_meaning.specs.Plain.{rows_of_tables}
use Rattle.query_graph.specs.declared.node.Node.{Node}
use Rattle.query_graph.specs.declared.node.Output.{Output}
use Rattle.step_lists.specs.Draws.{ThreeTapes}
use Rattle.tables.specs.Content as table
use Rattle.conclave_top.specs.AnswerFiles.{answer_write, answers_at, answers_of, answers_to, recipients_of}
use Rattle.conclave_top.specs.Audit.{Worlds, audit_job, audit_on, worlds_source}
use Rattle.conclave_top.specs.Due.{Due, names_of}
use Rattle.conclave_top.specs.Job.{Compilation, Job, behind, refusal}
use Rattle.conclave_top.specs.Laws.{IsUnwritten, names_at, run_names}
use Rattle.conclave_top.specs.PartyFiles.{answer_file, of_parties, twin_file, view_file}
use Rattle.conclave_top.specs.Question.{Question}
use Rattle.conclave_top.specs.Run.{links_of, relation_source, run_job, run_on, run_writes, view_writes}
use Rattle.conclave_top.specs.Stages.{Source, files_job, over_tables_job, with_bytes_job}
use Rattle.conclave_top.specs.Tape.{tape_job}
use Rattle.conclave_top.specs.Tapes.{tape_names}
use Rattle.conclave_top.proofs.Keeping.{is_of, names_then}

-- before there is a plan nothing is written; behind reads the same is
pub unwritten_refusal : {P : Type 0} (name : List ℕ) (files : Option Files) (query : List ℕ) (compilation : Compilation P) → IsUnwritten name (refusal files query compilation)
unwritten_refusal name files query compilation due is = ap (λ (d : Due). list_any (is_of name) (names_of d.writes)) is.is

pub unwritten_behind : (name : List ℕ) (first : List (List ℕ)) (job : Job) → IsUnwritten name job → IsUnwritten name (behind first job)
unwritten_behind name first job unwritten due is = ap (λ (d : Due). list_any (is_of name) (names_of d.writes)) is.is ∙ unwritten is.own is.is_due

-- `tape`
pub unwritten_taped : (name : List ℕ) (seed : ℕ) (tapes : List ℕ) (on : Plan) → list_any (is_of name) (tape_names tapes) ≡ false → IsUnwritten name (tape_job seed tapes on)
unwritten_taped name seed tapes on none due is = ap (λ (d : Due). list_any (is_of name) (names_of d.writes)) is.is ∙ none

-- the names of answers are those of the graph
names_to : (rows : List (List (List ℕ))) (parties : List Party) (number : ℕ) (node : Option Node) → names_of (map answer_write (answers_at rows parties number node)) ≡ names_at parties node
names_to rows parties number None = refl
names_to rows [] number (Some node) = refl
names_to rows (party ∷ parties) number (Some node) = ap (λ ns. answer_file node party ∷ ns) (names_to rows parties number (Some node))

names_of_answers : (nodes : List Node) (rows : List (List (List ℕ))) (outputs : List Output)
    → names_of (map answer_write (flat_map (answers_to nodes rows) outputs)) ≡ flat_map (λ (output : Output). names_at (recipients_of output.recipients) (slice_get nodes output.node)) outputs
names_of_answers nodes rows [] = refl
names_of_answers nodes rows (output ∷ outputs) =
    let here = answers_to nodes rows output in
    let others = flat_map (answers_to nodes rows) outputs in
    let rest = flat_map (λ (out : Output). names_at (recipients_of out.recipients) (slice_get nodes out.node)) outputs in
    ap names_of (map-append answer_write here others) ∙ names_then (map answer_write here) (map answer_write others)
    ∙ ap (λ ns. ns ++ names_of (map answer_write others)) (names_to rows (recipients_of output.recipients) output.node (slice_get nodes output.node))
    ∙ ap (λ ns. names_at (recipients_of output.recipients) (slice_get nodes output.node) ++ ns) (names_of_answers nodes rows outputs)

names_of_run : (tapes : List ℕ) (on : Plan) (tables : List table.Content) (draws : ThreeTapes) → names_of (run_writes tapes on tables draws) ≡ run_names tapes on.graph
names_of_run tapes on tables draws =
    names_then (view_writes tapes (links_of on tables draws)) (map answer_write (answers_of on.graph tables))
    ∙ ap (λ ns. of_parties (view_file tapes) ++ ns) (names_of_answers on.graph.nodes (meanings on.graph.nodes (rows_of_tables tables)) on.graph.outputs)

-- a command that reads relations and tapes
unwritten_with_bytes : (name tapes : List ℕ) (plan : Plan) (on : ThreeTapes → Job) (bytes : Three (List ℕ)) → ((draws : ThreeTapes) → IsUnwritten name (on draws)) → IsUnwritten name (with_bytes_job tapes plan on bytes)
unwritten_with_bytes name tapes plan on bytes unwritten due (inl here) = unwritten here.draws due here.is_due
unwritten_with_bytes name tapes plan on bytes unwritten due (inr unfit) = ap (λ (d : Due). list_any (is_of name) (names_of d.writes)) unfit.is

unwritten_over_tables : {T : Type 0} (name : List ℕ) (files : Option Files) (tapes : List ℕ) (plan : Plan) (on : T → ThreeTapes → Job) (answer : Result T (List ℕ))
    → ((tables : T) (draws : ThreeTapes) → IsUnwritten name (on tables draws)) → IsUnwritten name (over_tables_job files tapes plan on answer)
unwritten_over_tables name files tapes plan on (Err line) unwritten due is = ap (λ (d : Due). list_any (is_of name) (names_of d.writes)) is
unwritten_over_tables name files tapes plan on (Ok tables) unwritten due is =
    unwritten_behind name (tape_names tapes) (with_bytes_job tapes plan (on tables) is.bytes) (unwritten_with_bytes name tapes plan (on tables) is.bytes (unwritten tables)) due is.is

unwritten_on_files : {T : Type 0} (name : List ℕ) (files : Option Files) (source : Source T) (tapes : List ℕ) (plan : Plan) (on : T → ThreeTapes → Job) → ((tables : T) (draws : ThreeTapes) → IsUnwritten name (on tables draws))
    → IsUnwritten name (files_job files source tapes plan on)
unwritten_on_files name files source tapes plan on unwritten due is =
    unwritten_behind name source.names (over_tables_job files tapes plan on (source.read is.bytes)) (unwritten_over_tables name files tapes plan on (source.read is.bytes) unwritten) due is.is

-- `run` and `audit`
pub unwritten_ran : (name : List ℕ) (files : Option Files) (tapes : List ℕ) (on : Plan) → list_any (is_of name) (run_names tapes on.graph) ≡ false → IsUnwritten name (run_job files tapes on)
unwritten_ran name files tapes on none =
    unwritten_on_files name files (relation_source [] on.graph) tapes on (run_on tapes on)
    (λ tables draws due is. ap (λ (d : Due). list_any (is_of name) (names_of d.writes)) is ∙ ap (list_any (is_of name)) (names_of_run tapes on tables draws) ∙ none)

unwritten_audited : (name : List ℕ) (asked : Question) (plan : Plan) (worlds : Worlds) (draws : ThreeTapes) → is_of name (twin_file asked.tapes (before asked.party)) ≡ false
    → IsUnwritten name (audit_on asked plan worlds draws)
unwritten_audited name asked plan worlds draws none due (inl twin) =
    ap (λ (d : Due). list_any (is_of name) (names_of d.writes)) twin.is ∙ ap (λ (b : Bool). b || false) none
unwritten_audited name asked plan worlds draws none due (inr other) = ap (λ (d : Due). list_any (is_of name) (names_of d.writes)) other.is

pub unwritten_audit : (name : List ℕ) (files : Option Files) (asked : Question) (on : Plan) → is_of name (twin_file asked.tapes (before asked.party)) ≡ false → IsUnwritten name (audit_job files asked on)
unwritten_audit name files asked on none =
    unwritten_on_files name files (worlds_source asked on.graph) asked.tapes on (audit_on asked on) (λ worlds draws. unwritten_audited name asked on worlds draws none)
