-- For each job one outcome at most is due, and where it is ready that is its result.
use Rattle.std.proofs.Common.{◌≡◌, ℕ, ◌<◌, List, [], ◌∷◌, map, Option, Some, None, Result, Ok, Err, inl, inr, arith, refl, ap, sym, subst, ◌∙◌}
use Rattle.outside.specs.Folder.{Files}
use Rattle.lanes.specs.Party.{number_of}
use Rattle.lanes.specs.Three.{at}
use Rattle.lanes.specs.declared.party.Party.{Party}
use Rattle.lanes.specs.declared.party.Party.TheVariants.{First, Second, Third}
use Rattle.lanes.specs.declared.three.Three.{Three}
use Rattle.lowering.specs.Plan.{Plan}
use Rattle.plain_meaning.specs.Plain.{rows_of_tables}
use Rattle.query_graph.specs.Content.{Content}
use Rattle.step_lists.specs.Draws.{ThreeTapes, schedule_of}
use Rattle.tables.specs.Content as table
use Rattle.tapes.specs.Laws.{MadeTapeIsOnly}
use Rattle.trust_sets.specs.Differs.{DifferencesAreOne}
use Rattle.trust_sets.specs.Known.{known_nodes}
use Rattle.trust_sets.specs.declared.agreement.Differs.{Differs}
use Rattle.conclave_top.specs.declared.end.Cause.TheVariants.{Disagree, Refused, Unfit}
use Rattle.conclave_top.specs.Audit.{AgreeFor, IsDifferenceFor, Worlds, audit_job, audit_on, inside, worlds_source}
use Rattle.conclave_top.specs.Due as dues
use Rattle.conclave_top.specs.Job.{Job, behind, only}
use Rattle.conclave_top.specs.Lines.{disagree_line, not_built}
use Rattle.conclave_top.specs.PartyFiles.{of_parties}
use Rattle.conclave_top.specs.Plain.{answer_job, answered, graph_files, job_for, tables_in}
use Rattle.conclave_top.specs.Question.{Question}
use Rattle.conclave_top.specs.Run.{relation_source, run_job, run_on, run_output, run_writes}
use Rattle.conclave_top.specs.Stages.{Source, files_job, over_tables_job, tapes_job, with_bytes_job}
use Rattle.conclave_top.specs.Tape.{tape_job, tape_writes}
use Rattle.conclave_top.specs.Tapes.{AreTapeBytes, tape_names}
use Rattle.conclave_top.proofs.OneTapes.{one_spelling, one_tape_fault, same_three, spelled_or_faulty}
use Rattle.conclave_top.proofs.RefusedPlans.{same_of_some, some_is_not_none}

-- a list is told by its items in Some
pub same_of_somes : {A : Type 0} (xs ys : List A) → map Some xs ≡ map Some ys → xs ≡ ys
same_of_somes [] [] same = refl
same_of_somes [] (y ∷ ys) same = cc
same_of_somes (x ∷ xs) [] same = cc
same_of_somes (x ∷ xs) (y ∷ ys) same =
    let first : x ≡ y = cc in
    let others : map Some xs ≡ map Some ys = cc in
    rw (first, same_of_somes xs ys others) refl

-- of a job one outcome at most is due; where it is ready that is its result
abbrev pub HasOneDue : Job → Type 0
HasOneDue job = (first second : dues.Due) → job.due first → job.due second → first ≡ second

abbrev pub IsReadyDone : Job → Type 0
IsReadyDone job = (due : dues.Due) → job.ready → job.due due → due.status ≡ 0

pub one_behind : (first : List (List ℕ)) (job : Job) → HasOneDue job → HasOneDue (behind first job)
one_behind first job one x y a b = a.is ∙ ap (dues.behind first) (one a.own b.own a.is_due b.is_due) ∙ sym b.is

pub ready_behind : (first : List (List ℕ)) (job : Job) → IsReadyDone job → IsReadyDone (behind first job)
ready_behind first job done due ready is = ap (λ (d : dues.Due). d.status) is.is ∙ done is.own ready is.is_due

pub one_only : (due : dues.Due) → HasOneDue (only due)
one_only due first second a b = a ∙ sym b

pub ready_only : (outcome : dues.Due) → IsReadyDone (only outcome)
ready_only outcome due ready is = ap (λ (d : dues.Due). d.status) is ∙ ready

-- `plain` on a graph
one_answered : (files : Files) (graph : Content) → HasOneDue (answer_job (Some files) graph)
one_answered files graph first second a b =
    let bytes : a.bytes ≡ b.bytes = same_of_somes a.bytes b.bytes (sym a.are.held ∙ b.are.held) in
    a.is ∙ ap (λ bs. answered (graph_files graph) graph (tables_in graph bs)) bytes ∙ sym b.is

ready_answered : (files : Files) (graph : Content) → IsReadyDone (answer_job (Some files) graph)
ready_answered files graph due ready is =
    let bytes : is.bytes ≡ ready.bytes = same_of_somes is.bytes ready.bytes (sym is.are.held ∙ ready.are.held) in
    ap (λ (d : dues.Due). d.status) is.is ∙ ap (λ (answer : Result (List table.Content) (List ℕ)). (answered (graph_files graph) graph answer).status) (ap (tables_in graph) bytes ∙ ready.read)

pub one_for : (files : Files) (graph : Content) (bound : Option ℕ) → HasOneDue (job_for (Some files) graph bound)
one_for files graph (Some line) = one_only (dues.stops Refused [] (not_built line))
one_for files graph None = one_answered files graph

pub ready_for : (files : Files) (graph : Content) (bound : Option ℕ) → IsReadyDone (job_for (Some files) graph bound)
ready_for files graph (Some line) = ready_only (dues.stops Refused [] (not_built line))
ready_for files graph None = ready_answered files graph

-- `tape` on a plan
pub one_taped : MadeTapeIsOnly → (seed : ℕ) (tapes : List ℕ) (on : Plan) → HasOneDue (tape_job seed tapes on)
one_taped made seed tapes on x y a b =
    let same = λ (party : Party). made seed (number_of party) (at party (schedule_of on.list)) (at party a.draws) (at party b.draws) (a.seeded party) (b.seeded party) in
    let draws : a.draws ≡ b.draws = same_three a.draws b.draws (same First) (same Second) (same Third) in
    a.is ∙ ap (λ (ds : ThreeTapes). dues.does [] (tape_writes tapes ds) []) draws ∙ sym b.is

pub ready_taped : (seed : ℕ) (tapes : List ℕ) (on : Plan) → IsReadyDone (tape_job seed tapes on)
ready_taped seed tapes on due ready is = ap (λ (d : dues.Due). d.status) is.is

-- a command that reads relations and tapes, from the bytes of tapes back to the files
one_with_bytes : (tapes : List ℕ) (plan : Plan) (on : ThreeTapes → Job) (bytes : Three (List ℕ)) → ((draws : ThreeTapes) → HasOneDue (on draws)) → HasOneDue (with_bytes_job tapes plan on bytes)
one_with_bytes tapes plan on bytes one x y (inl a) (inl b) =
    let draws : a.draws ≡ b.draws = one_spelling (schedule_of plan.list) bytes a.draws b.draws a.spelled b.spelled in
    one b.draws x y (subst (λ (ds : ThreeTapes). (on ds).due x) draws a.is_due) b.is_due
one_with_bytes tapes plan on bytes one x y (inl a) (inr b) = absurd (spelled_or_faulty (schedule_of plan.list) bytes a.draws tapes b.line a.spelled b.fault)
one_with_bytes tapes plan on bytes one x y (inr a) (inl b) = absurd (spelled_or_faulty (schedule_of plan.list) bytes b.draws tapes a.line b.spelled a.fault)
one_with_bytes tapes plan on bytes one x y (inr a) (inr b) =
    a.is ∙ ap (dues.stops Unfit []) (one_tape_fault (schedule_of plan.list) bytes tapes a.line b.line a.fault b.fault) ∙ sym b.is

ready_with_bytes : (tapes : List ℕ) (plan : Plan) (on : ThreeTapes → Job) (bytes : Three (List ℕ)) → ((draws : ThreeTapes) → IsReadyDone (on draws)) → IsReadyDone (with_bytes_job tapes plan on bytes)
ready_with_bytes tapes plan on bytes done due ready (inl here) =
    let draws : here.draws ≡ ready.draws = one_spelling (schedule_of plan.list) bytes here.draws ready.draws here.spelled ready.spelled in
    done ready.draws due ready.ready (subst (λ (ds : ThreeTapes). (on ds).due due) draws here.is_due)
ready_with_bytes tapes plan on bytes done due ready (inr unfit) = absurd (spelled_or_faulty (schedule_of plan.list) bytes ready.draws tapes unfit.line ready.spelled unfit.fault)

-- a folder has three tapes' bytes once
same_party_bytes : (a b : Three (List ℕ)) → of_parties (λ party. at party a) ≡ of_parties (λ party. at party b) → a ≡ b
same_party_bytes a b same = same_three a b (cc) (cc) (cc)

one_tape_bytes : (files : Files) (tapes : List ℕ) (a b : Three (List ℕ)) → AreTapeBytes (Some files) tapes a → AreTapeBytes (Some files) tapes b → a ≡ b
one_tape_bytes files tapes a b first second =
    same_party_bytes a b (same_of_somes (of_parties (λ party. at party a)) (of_parties (λ party. at party b)) (sym first ∙ second))

one_on_tapes : (files : Files) (tapes : List ℕ) (plan : Plan) (on : ThreeTapes → Job) → ((draws : ThreeTapes) → HasOneDue (on draws)) → HasOneDue (tapes_job (Some files) tapes plan on)
one_on_tapes files tapes plan on one x y a b =
    let bytes : a.bytes ≡ b.bytes = one_tape_bytes files tapes a.bytes b.bytes a.are b.are in
    a.is.is ∙ ap (dues.behind (tape_names tapes)) (one_with_bytes tapes plan on b.bytes one a.is.own b.is.own
    (subst (λ (bs : Three (List ℕ)). (with_bytes_job tapes plan on bs).due a.is.own) bytes a.is.is_due) b.is.is_due) ∙ sym b.is.is

ready_on_tapes : (files : Files) (tapes : List ℕ) (plan : Plan) (on : ThreeTapes → Job) → ((draws : ThreeTapes) → IsReadyDone (on draws)) → IsReadyDone (tapes_job (Some files) tapes plan on)
ready_on_tapes files tapes plan on done due ready is =
    let bytes : is.bytes ≡ ready.bytes = one_tape_bytes files tapes is.bytes ready.bytes is.are ready.are in
    ap (λ (d : dues.Due). d.status) is.is.is ∙ ready_with_bytes tapes plan on ready.bytes done is.is.own ready.fit
    (subst (λ (bs : Three (List ℕ)). (with_bytes_job tapes plan on bs).due is.is.own) bytes is.is.is_due)

one_over_tables : {T : Type 0} (files : Files) (tapes : List ℕ) (plan : Plan) (on : T → ThreeTapes → Job) (answer : Result T (List ℕ)) → ((tables : T) (draws : ThreeTapes) → HasOneDue (on tables draws))
    → HasOneDue (over_tables_job (Some files) tapes plan on answer)
one_over_tables files tapes plan on (Err line) one x y a b = a ∙ sym b
one_over_tables files tapes plan on (Ok tables) one x y a b = one_on_tapes files tapes plan (on tables) (one tables) x y a b

-- a folder has the bytes of relations once
abbrev pub HasOneSource : {T : Type 0} → Source T → Type 0
HasOneSource source = (files : Files) (a b : source.Bytes) → source.Hold (Some files) a → source.Hold (Some files) b → a ≡ b

one_on_files : {T : Type 0} (files : Files) (source : Source T) (tapes : List ℕ) (plan : Plan) (on : T → ThreeTapes → Job) → HasOneSource source → ((tables : T) (draws : ThreeTapes) → HasOneDue (on tables draws))
    → HasOneDue (files_job (Some files) source tapes plan on)
one_on_files files source tapes plan on held one x y a b =
    let bytes : a.bytes ≡ b.bytes = held files a.bytes b.bytes a.are b.are in
    a.is.is ∙ ap (dues.behind source.names) (one_over_tables files tapes plan on (source.read b.bytes) one a.is.own b.is.own
    (subst (λ (bs : source.Bytes). (over_tables_job (Some files) tapes plan on (source.read bs)).due a.is.own) bytes a.is.is_due) b.is.is_due) ∙ sym b.is.is

ready_on_files : {T : Type 0} (files : Files) (source : Source T) (tapes : List ℕ) (plan : Plan) (on : T → ThreeTapes → Job) → HasOneSource source → ((tables : T) (draws : ThreeTapes) → IsReadyDone (on tables draws))
    → IsReadyDone (files_job (Some files) source tapes plan on)
ready_on_files {T = T} files source tapes plan on held done due ready is =
    let bytes : is.bytes ≡ ready.bytes = held files is.bytes ready.bytes is.are ready.are in
    let read : source.read is.bytes ≡ Ok ready.tables = ap source.read bytes ∙ ready.read in
    ap (λ (d : dues.Due). d.status) is.is.is ∙ ready_on_tapes files tapes plan (on ready.tables) (done ready.tables) is.is.own ready.fit
    (subst (λ (answer : Result T (List ℕ)). (over_tables_job (Some files) tapes plan on answer).due is.is.own) read is.is.is_due)

-- `run`
one_relations : (folder : List ℕ) (graph : Content) → HasOneSource (relation_source folder graph)
one_relations folder graph files a b first second = same_of_somes a b (sym first.held ∙ second.held)

pub one_ran : (files : Files) (tapes : List ℕ) (on : Plan) → HasOneDue (run_job (Some files) tapes on)
one_ran files tapes on =
    one_on_files files (relation_source [] on.graph) tapes on (run_on tapes on) (one_relations [] on.graph)
    (λ tables draws. one_only (dues.does [] (run_writes tapes on tables draws) (run_output on tables)))

pub ready_ran : (files : Files) (tapes : List ℕ) (on : Plan) → IsReadyDone (run_job (Some files) tapes on)
ready_ran files tapes on =
    ready_on_files files (relation_source [] on.graph) tapes on (run_on tapes on) (one_relations [] on.graph)
    (λ tables draws. ready_only (dues.does [] (run_writes tapes on tables draws) (run_output on tables)))

-- `audit`
one_worlds : (asked : Question) (graph : Content) → HasOneSource (worlds_source asked graph)
one_worlds asked graph files a b first second =
    let one : a.0 ≡ b.0 = one_relations (inside asked.first) graph files a.0 b.0 first.0 second.0 in
    let other : a.1 ≡ b.1 = one_relations (inside asked.second) graph files a.1 b.1 first.1 second.1 in
    rw (one, other) refl

-- two worlds agree or differ, and differ first in one part
agree_or_differ : DifferencesAreOne → (plan : Plan) (party : Party) (worlds : Worlds) (differs : Differs) → AgreeFor plan party worlds → IsDifferenceFor plan party worlds (Some differs) → ⊥
agree_or_differ law plan party worlds differs agree first =
    some_is_not_none differs (Some differs) refl
    (sym (law plan.graph (known_nodes plan.graph.nodes) (number_of party) (rows_of_tables worlds.0) (rows_of_tables worlds.1) None None None (Some differs) agree first))

one_audited : DifferencesAreOne → (asked : Question) (plan : Plan) (worlds : Worlds) (draws : ThreeTapes) → HasOneDue (audit_on asked plan worlds draws)
one_audited law asked plan worlds draws x y (inl a) (inl b) = a.is ∙ sym b.is
one_audited law asked plan worlds draws x y (inl a) (inr b) = absurd (agree_or_differ law plan asked.party worlds b.differs a.agree b.first)
one_audited law asked plan worlds draws x y (inr a) (inl b) = absurd (agree_or_differ law plan asked.party worlds a.differs b.agree a.first)
one_audited law asked plan worlds draws x y (inr a) (inr b) =
    let same = law plan.graph (known_nodes plan.graph.nodes) (number_of asked.party) (rows_of_tables worlds.0) (rows_of_tables worlds.1) None None (Some a.differs) (Some b.differs) a.first b.first in
    a.is ∙ ap (λ d. dues.stops Disagree [] (disagree_line plan.graph.nodes d)) (same_of_some a.differs b.differs same) ∙ sym b.is

ready_audited : DifferencesAreOne → (asked : Question) (plan : Plan) (worlds : Worlds) (draws : ThreeTapes) → IsReadyDone (audit_on asked plan worlds draws)
ready_audited law asked plan worlds draws due ready (inl twin) = ap (λ (d : dues.Due). d.status) twin.is
ready_audited law asked plan worlds draws due ready (inr other) = absurd (agree_or_differ law plan asked.party worlds other.differs ready other.first)

pub one_audit : DifferencesAreOne → (files : Files) (asked : Question) (on : Plan) → HasOneDue (audit_job (Some files) asked on)
one_audit law files asked on =
    one_on_files files (worlds_source asked on.graph) asked.tapes on (audit_on asked on) (one_worlds asked on.graph) (λ worlds draws. one_audited law asked on worlds draws)

pub ready_audit : DifferencesAreOne → (files : Files) (asked : Question) (on : Plan) → IsReadyDone (audit_job (Some files) asked on)
ready_audit law files asked on =
    ready_on_files files (worlds_source asked on.graph) asked.tapes on (audit_on asked on) (one_worlds asked on.graph) (λ worlds draws. ready_audited law asked on worlds draws)

-- on a plan nothing is refused
abbrev pub IsUnrefused : Job → Type 0
IsUnrefused job = (due : dues.Due) → job.due due → due.status ≡ 2 → ⊥

pub zero_two : (status : ℕ) → status ≡ 0 → status ≡ 2 → ⊥
zero_two status zero two = omega (arith, zero, two)

apart_two : (n status : ℕ) → status ≡ n → 2 < n → status ≡ 2 → ⊥
apart_two n status is more two = omega (arith, is, more, two)

pub unrefused_behind : (first : List (List ℕ)) (job : Job) → IsUnrefused job → IsUnrefused (behind first job)
unrefused_behind first job unrefused due is two = unrefused is.own is.is_due (sym (ap (λ (d : dues.Due). d.status) is.is) ∙ two)

pub unrefused_taped : (seed : ℕ) (tapes : List ℕ) (on : Plan) → IsUnrefused (tape_job seed tapes on)
unrefused_taped seed tapes on due is two = zero_two due.status (ap (λ (d : dues.Due). d.status) is.is) two

unrefused_with_bytes : (tapes : List ℕ) (plan : Plan) (on : ThreeTapes → Job) (bytes : Three (List ℕ)) → ((draws : ThreeTapes) → IsUnrefused (on draws)) → IsUnrefused (with_bytes_job tapes plan on bytes)
unrefused_with_bytes tapes plan on bytes unrefused due (inl here) two = unrefused here.draws due here.is_due two
unrefused_with_bytes tapes plan on bytes unrefused due (inr unfit) two = apart_two 4 due.status (ap (λ (d : dues.Due). d.status) unfit.is) (omega arith) two

unrefused_over_tables : {T : Type 0} (files : Option Files) (tapes : List ℕ) (plan : Plan) (on : T → ThreeTapes → Job) (answer : Result T (List ℕ)) → ((tables : T) (draws : ThreeTapes) → IsUnrefused (on tables draws))
    → IsUnrefused (over_tables_job files tapes plan on answer)
unrefused_over_tables files tapes plan on (Err line) unrefused due is two = apart_two 3 due.status (ap (λ (d : dues.Due). d.status) is) (omega arith) two
unrefused_over_tables files tapes plan on (Ok tables) unrefused due is two =
    unrefused_behind (tape_names tapes) (with_bytes_job tapes plan (on tables) is.bytes) (unrefused_with_bytes tapes plan (on tables) is.bytes (unrefused tables)) due is.is two

unrefused_on_files : {T : Type 0} (files : Option Files) (source : Source T) (tapes : List ℕ) (plan : Plan) (on : T → ThreeTapes → Job) → ((tables : T) (draws : ThreeTapes) → IsUnrefused (on tables draws))
    → IsUnrefused (files_job files source tapes plan on)
unrefused_on_files files source tapes plan on unrefused due is two =
    unrefused_behind source.names (over_tables_job files tapes plan on (source.read is.bytes)) (unrefused_over_tables files tapes plan on (source.read is.bytes) unrefused) due is.is two

pub unrefused_ran : (files : Option Files) (tapes : List ℕ) (on : Plan) → IsUnrefused (run_job files tapes on)
unrefused_ran files tapes on =
    unrefused_on_files files (relation_source [] on.graph) tapes on (run_on tapes on) (λ tables draws due is two. zero_two due.status (ap (λ (d : dues.Due). d.status) is) two)

unrefused_audited : (asked : Question) (plan : Plan) (worlds : Worlds) (draws : ThreeTapes) → IsUnrefused (audit_on asked plan worlds draws)
unrefused_audited asked plan worlds draws due (inl twin) two = zero_two due.status (ap (λ (d : dues.Due). d.status) twin.is) two
unrefused_audited asked plan worlds draws due (inr other) two = apart_two 6 due.status (ap (λ (d : dues.Due). d.status) other.is) (omega arith) two

pub unrefused_audit : (files : Option Files) (asked : Question) (on : Plan) → IsUnrefused (audit_job files asked on)
unrefused_audit files asked on = unrefused_on_files files (worlds_source asked on.graph) asked.tapes on (audit_on asked on) (unrefused_audited asked on)
