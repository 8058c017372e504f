-- What an outcome says of a command line, in both directions.
use Rattle.std.specs.Prelude.{◌≡◌, ◌<◌, ◌^◌, ℕ, List, [], ◌∷◌, ◌++◌, Option, Some, None, option_map, false, map, Ok, Err, ◌⊎◌, bytes_eq, slice_get, slice_index, ⊤}
use Rattle.std.specs.List.{Contains, flat_map, list_any}
use Rattle.lanes.specs.Party.{before}
use Rattle.lanes.specs.Three.{at}
use Rattle.lanes.specs.declared.party.Party.{Party}
use Rattle.lanes.specs.declared.three.Three.{Three}
use Rattle.lowering.specs.Compiled.{IsPlanOf}
use Rattle.lowering.specs.Isolated.{IsIsolated}
use Rattle.lowering.specs.Plan.{Plan}
use Rattle.lowering.specs.Refusals.{IsAccepted}
use Rattle.lowering.specs.Unbuilt.{unbuilt}
use Rattle.outside.specs.Folder.{Files}
use Rattle.query_graph.specs.Content.{Content}
use Rattle.query_graph.specs.TextGraph.{HasGraph}
use Rattle.query_graph.specs.declared.node.Node.{Node}
use Rattle.query_graph.specs.declared.node.Output.{Output}
use Rattle.step_lists.specs.Draws.{ThreeTapes, schedule_of}
use Rattle.tables.specs.Content as table
use Rattle.tapes.specs.declared.draw.Need.{Need}
use Rattle.trust_sets.specs.declared.agreement.Differs.{Differs}
use Rattle.conclave_top.specs.declared.end.Cause.TheVariants.{Disagree, Faulty, Refused, Unfit}
use Rattle.conclave_top.specs.AnswerFiles.{recipients_of}
use Rattle.conclave_top.specs.Audit.{AgreeFor, IsDifferenceFor, Worlds, audit_job, audit_output, audit_writes, worlds_source}
use Rattle.conclave_top.specs.Bounds.{first_bound}
use Rattle.conclave_top.specs.Command.{Command, plain, plan, tape, run, audit, command_of}
use Rattle.conclave_top.specs.Compile.{IsCompiled, IsRefusedText, graphs}
use Rattle.conclave_top.specs.Due.{Due, behind, does, names_of, stops}
use Rattle.conclave_top.specs.Effect.{Called}
use Rattle.conclave_top.specs.Job.{HasPlan, Job}
use Rattle.conclave_top.specs.Jobs.{HasJob, IsDue, IsReady, query_of, statuses_of}
use Rattle.conclave_top.specs.Lines.{disagree_line, not_built}
use Rattle.conclave_top.specs.Outcome.{JobOutcome, Outcome, Settles}
use Rattle.conclave_top.specs.Outside.{Outside, HasFailed}
use Rattle.conclave_top.specs.PartyFiles.{answer_file, of_parties, twin_file, view_file}
use Rattle.conclave_top.specs.Plain.{answered, graph_files, plain_job, tables_in}
use Rattle.conclave_top.specs.Plans.{IsRefusedPlan, plans}
use Rattle.conclave_top.specs.PlanText.{plan_job, plan_text}
use Rattle.conclave_top.specs.Question.{Question}
use Rattle.conclave_top.specs.Run.{run_job, run_output, run_writes}
use Rattle.conclave_top.specs.Tape.{AreSeeded, tape_job, tape_writes}
use Rattle.conclave_top.specs.Tapes.{AreSpelled, IsTapeFault, tape_names}
use Rattle.conclave_top.specs.With.{HasPlanJob, OutcomeWith}

-- the files that a folder tells at this moment
abbrev pub told_files : Outside → Option Files
told_files outside = outside.ports.folder.files

-- the bytes under a name, where the files are told
abbrev pub bytes_at : List ℕ → Option Files → Option (Option (List ℕ))
bytes_at name files = option_map (λ told. told name) files

-- a run of a command
pub record Run (words : List (List ℕ)) (command : Command) (old new : Outside) (status : ℕ) : Type 0 where
  pub outcome : Outcome words old new status
  pub form : command_of words ≡ Some command

-- this comes, unless a count rose or memory failed
abbrev pub Comes : Type 0 → Outside → Outside → ℕ → Type 0
Comes due old new status = due ⊎ (((status ≡ 8) × HasFailed old.ports new.ports) ⊎ (status ≡ 9))

-- an outcome that was due came
pub record Came (command : Command) (old new : Outside) (status : ℕ) : Type 0 where
  pub due : Due
  pub is_due : IsDue (told_files old) command due
  pub settles : Settles due old new status

-- the command works by its query's graph; a text has one graph, and many correct plans
abbrev pub IsOnGraph : Command → Type 0
IsOnGraph (plain query) = ⊤
IsOnGraph (plan query) = ⊤
IsOnGraph (tape query seed tapes) = ⊥
IsOnGraph (run query tapes) = ⊥
IsOnGraph (audit query asked) = ⊥

-- such a command, or a refusal: what is due hangs on no choice of a plan
abbrev pub IsOfText : Command → Due → Type 0
IsOfText command due = IsOnGraph command ⊎ (due.status ≡ 2)

-- the text is accepted, and nothing that it asks for is unbuilt
pub record IsBuilt (text : List ℕ) : Type 0 where
  pub graph : Content
  pub accepted : IsAccepted text graph
  pub built : unbuilt graph ≡ None

-- the command doesn't refuse the text before it has a plan
abbrev pub IsTaken : Command → List ℕ → Type 0
IsTaken (plain query) text = (graph : Content) × IsCompiled text graph
IsTaken (plan query) text = (graph : Content) × IsCompiled text graph
IsTaken (tape query seed tapes) text = IsBuilt text
IsTaken (run query tapes) text = IsBuilt text
IsTaken (audit query asked) text = IsBuilt text

-- or it does, with this line
abbrev pub Refuses : Command → List ℕ → List ℕ → Type 0
Refuses (plain query) text line = IsRefusedText text line
Refuses (plan query) text line = IsRefusedText text line
Refuses (tape query seed tapes) text line = IsRefusedPlan text line
Refuses (run query tapes) text line = IsRefusedPlan text line
Refuses (audit query asked) text line = IsRefusedPlan text line

-- this holds of a command's job on one plan of its query's text
abbrev pub HasJobOnPlan : Option Files → Command → (Job → Type 0) → Type 0
HasJobOnPlan files (plain query) holds = HasPlan files query graphs (plain_job files) holds
HasJobOnPlan files (plan query) holds = HasPlan files query graphs plan_job holds
HasJobOnPlan files (tape query seed tapes) holds = HasPlan files query plans (tape_job seed tapes) holds
HasJobOnPlan files (run query tapes) holds = HasPlan files query plans (run_job files tapes) holds
HasJobOnPlan files (audit query asked) holds = HasPlan files query plans (audit_job files asked) holds

-- what is due for a command with a plan that is handed in
abbrev pub IsDueWith : Option Files → Plan → Command → Due → Type 0
IsDueWith files on command due = HasPlanJob files on (Some command) (λ job. job.due due)

-- no outcome of a job writes a file of this name
abbrev pub IsUnwritten : List ℕ → Job → Type 0
IsUnwritten name job = (due : Due) → job.due due → list_any (λ written. bytes_eq written name) (names_of due.writes) ≡ false

-- names that an outcome of the job writes; all that are read were called before
pub record AreWrites (job : Job) (called writes : List (List ℕ)) : Type 0 where
  pub due : Due
  pub is_due : job.due due
  pub names : writes ≡ names_of due.writes
  pub more : List (List ℕ)
  pub after : called ≡ job.reads ++ more

-- the names called are the first of those that are read, or all of them and then the first of those that are written; on
-- 0 they are all of both
pub record CallsAreFronts (job : Job) (old new : Outside) (status : ℕ) : Type 0 where
  pub writes : List (List ℕ)
  pub called : List (List ℕ)
  pub left : List (List ℕ)
  pub front : job.reads ++ writes ≡ called ++ left
  pub calls : Called called old.ports.folder new.ports.folder
  pub written : (writes ≡ []) ⊎ AreWrites job called writes
  pub whole : status ≡ 0 → left ≡ []

-- all that a call keeps to for its job
pub record Keeps (job : Job) (old new : Outside) (status : ℕ) : Type 0 where
  pub outcome : JobOutcome job old new status
  -- over a folder that tells its files what is due comes, and where the job is ready its result does
  pub comes : (files : Files) (due : Due) → told_files old ≡ Some files → job.due due → Comes (Settles due old new status) old new status
  pub ready : (files : Files) → told_files old ≡ Some files → job.ready → Comes (status ≡ 0) old new status
  -- reads come first
  pub calls : CallsAreFronts job old new status
  -- a file that no outcome of the job writes keeps its bytes
  pub unwritten : (name : List ℕ) → IsUnwritten name job → bytes_at name (told_files new) ≡ bytes_at name (told_files old)
  -- without a result all files keep theirs, unless something failed; only a result is printed, and it tells no error
  pub undone : (status ≡ 0 → ⊥) → (status ≡ 8 → ⊥) → (status ≡ 9 → ⊥) → told_files new ≡ told_files old
  pub unprinted : (status ≡ 0 → ⊥) → new.ports.out.taken ≡ old.ports.out.taken
  pub silent : status ≡ 0 → new.err.taken ≡ old.err.taken

-- a folder has the files of both worlds of an audit, and they are these tables
pub record HasWorlds (files : Files) (on : Plan) (asked : Question) (worlds : Worlds) : Type 0 where
  pub bytes : (worlds_source asked on.graph).Bytes
  pub held : (worlds_source asked on.graph).Hold (Some files) bytes
  pub read : (worlds_source asked on.graph).read bytes ≡ Ok worlds

-- the names that it reads then
abbrev pub audit_reads : Question → Plan → List (List ℕ)
audit_reads asked on = (worlds_source asked on.graph).names ++ tape_names asked.tapes

-- over a folder that tells its files one outcome at most is due: for a job; and for a command, where its query is refused
-- or it works by the graph. Where a job is ready that is its result
pub record OneDue : Type 0 where
  pub for_a_job : (files : Files) (command : Command) (first second : Due) → HasJob (Some files) command (λ job. job.due first × job.due second) → first ≡ second
  pub for_a_command : (files : Files) (command : Command) (first second : Due) → IsOfText command first → IsDue (Some files) command first → IsDue (Some files) command second → first ≡ second
  pub when_ready : (files : Files) (command : Command) (due : Due) → HasJob (Some files) command (λ job. job.ready × job.due due) → due.status ≡ 0

-- and one is due where the query's file is there and it is refused; where it is compiled and for `plain` has a bound or
-- all its relations' files are there; and on a plan for `tape`, and for `run` and `audit` where its files and tapes are
-- there
pub record SomeDue : Type 0 where
  pub refused : (files : Files) (command : Command) (query text line : List ℕ) → query_of command ≡ Some query → files query ≡ Some text → Refuses command text line
      → IsDue (Some files) command (stops Refused (query ∷ []) line)
  pub planned : (files : Files) (query text : List ℕ) (graph : Content) → files query ≡ Some text → IsCompiled text graph
      → IsDue (Some files) (plan query) (does (query ∷ []) [] (plan_text graph))
  pub bounded : (files : Files) (query text : List ℕ) (graph : Content) (line : ℕ) → files query ≡ Some text → IsCompiled text graph → first_bound graph.nodes ≡ Some line
      → IsDue (Some files) (plain query) (stops Refused (query ∷ []) (not_built line))
  pub answered : (files : Files) (query text : List ℕ) (graph : Content) (bytes : List (List ℕ)) → files query ≡ Some text → IsCompiled text graph → first_bound graph.nodes ≡ None
      → map files (graph_files graph) ≡ map Some bytes → IsDue (Some files) (plain query) (answered (query ∷ graph_files graph) graph (tables_in graph bytes))
  -- each text is refused or compiled; it is refused a plan, or is accepted and asks for nothing that is unbuilt
  pub each : (text : List ℕ) → ((line : List ℕ) × IsRefusedText text line) ⊎ ((graph : Content) × IsCompiled text graph)
  pub each_plan : (text : List ℕ) → ((line : List ℕ) × IsRefusedPlan text line) ⊎ IsBuilt text
  -- on a plan of the query's text that is due behind the query which is due on it
  pub on_plan : (files : Files) (command : Command) (query text : List ℕ) (on : Plan) (due : Due) → query_of command ≡ Some query → files query ≡ Some text → IsPlanOf text on
      → IsDueWith (Some files) on command due → IsDue (Some files) command (behind (query ∷ []) due)
  -- the tapes of the seed; there are some
  pub taped : (files : Files) (on : Plan) (query : List ℕ) (seed : ℕ) (tapes : List ℕ) (draws : ThreeTapes) → AreSeeded seed on draws
      → IsDueWith (Some files) on (tape query seed tapes) (does [] (tape_writes tapes draws) [])
  pub seeded : (seed : ℕ) (on : Plan) → (draws : ThreeTapes) × AreSeeded seed on draws
  -- the first file that is no table; else the first tape that doesn't fit; else views and answers
  pub faulty : (files : Files) (on : Plan) (query tapes : List ℕ) (bytes : List (List ℕ)) (line : List ℕ) → map files (graph_files on.graph) ≡ map Some bytes → tables_in on.graph bytes ≡ Err line
      → IsDueWith (Some files) on (run query tapes) (stops Faulty (graph_files on.graph) line)
  pub unfit : (files : Files) (on : Plan) (query tapes : List ℕ) (bytes : List (List ℕ)) (tables : List table.Content) (taped : Three (List ℕ)) (line : List ℕ)
      → map files (graph_files on.graph) ≡ map Some bytes → tables_in on.graph bytes ≡ Ok tables → map files (tape_names tapes) ≡ map Some (of_parties (λ party. at party taped))
      → IsTapeFault (schedule_of on.list) taped tapes line → IsDueWith (Some files) on (run query tapes) (stops Unfit (graph_files on.graph ++ tape_names tapes) line)
  pub ran : (files : Files) (on : Plan) (query tapes : List ℕ) (bytes : List (List ℕ)) (tables : List table.Content) (taped : Three (List ℕ)) (draws : ThreeTapes)
      → map files (graph_files on.graph) ≡ map Some bytes → tables_in on.graph bytes ≡ Ok tables → map files (tape_names tapes) ≡ map Some (of_parties (λ party. at party taped))
      → AreSpelled (schedule_of on.list) taped draws
      → IsDueWith (Some files) on (run query tapes) (does (graph_files on.graph ++ tape_names tapes) (run_writes tapes on tables draws) (run_output on tables))
  -- of `audit` the same; over tapes that fit the twin where the worlds agree, and else the first part that differs
  pub misread : (files : Files) (on : Plan) (query : List ℕ) (asked : Question) (bytes : (worlds_source asked on.graph).Bytes) (line : List ℕ) → (worlds_source asked on.graph).Hold (Some files) bytes
      → (worlds_source asked on.graph).read bytes ≡ Err line → IsDueWith (Some files) on (audit query asked) (stops Faulty (worlds_source asked on.graph).names line)
  pub untold : (files : Files) (on : Plan) (query : List ℕ) (asked : Question) (worlds : Worlds) (taped : Three (List ℕ)) (line : List ℕ)
      → HasWorlds files on asked worlds → map files (tape_names asked.tapes) ≡ map Some (of_parties (λ party. at party taped))
      → IsTapeFault (schedule_of on.list) taped asked.tapes line → IsDueWith (Some files) on (audit query asked) (stops Unfit (audit_reads asked on) line)
  pub audited : (files : Files) (on : Plan) (query : List ℕ) (asked : Question) (worlds : Worlds) (taped : Three (List ℕ)) (draws : ThreeTapes)
      → HasWorlds files on asked worlds → map files (tape_names asked.tapes) ≡ map Some (of_parties (λ party. at party taped)) → AreSpelled (schedule_of on.list) taped draws
      → IsIsolated on → AgreeFor on asked.party worlds → IsDueWith (Some files) on (audit query asked) (does (audit_reads asked on) (audit_writes asked on worlds draws) (audit_output asked on worlds draws))
  pub disagreed : (files : Files) (on : Plan) (query : List ℕ) (asked : Question) (worlds : Worlds) (taped : Three (List ℕ)) (draws : ThreeTapes) (differs : Differs)
      → HasWorlds files on asked worlds → map files (tape_names asked.tapes) ≡ map Some (of_parties (λ party. at party taped)) → AreSpelled (schedule_of on.list) taped draws
      → IsDifferenceFor on asked.party worlds (Some differs) → IsDueWith (Some files) on (audit query asked) (stops Disagree (audit_reads asked on) (disagree_line on.graph.nodes differs))
  -- bytes of three tapes fit, or a first one doesn't
  pub fit : (needs : Three (List Need)) (taped : Three (List ℕ)) (tapes : List ℕ) → ((party : Party) (k : ℕ) → slice_index (at party taped) k < 2 ^ 8)
      → ((draws : ThreeTapes) × AreSpelled needs taped draws) ⊎ ((line : List ℕ) × IsTapeFault needs taped tapes line)

-- a call has one job, and keeps to all of this for it
abbrev pub OneJob : Type 0
OneJob = (words : List (List ℕ)) (command : Command) (old new : Outside) (status : ℕ) → Run words command old new status → HasJob (told_files old) command (λ job. Keeps job old new status)

-- a query that is accepted and asks for nothing that is unbuilt is refused by no command; one that a command takes has a
-- plan for it, on which the call's job is
pub record TakenIsPlanned : Type 0 where
  pub unrefused : (files : Files) (command : Command) (query text : List ℕ) (due : Due) → query_of command ≡ Some query → files query ≡ Some text → IsBuilt text
      → IsDue (Some files) command due → due.status ≡ 2 → ⊥
  pub planned : (words : List (List ℕ)) (command : Command) (files : Files) (query text : List ℕ) (old new : Outside) (status : ℕ) → Run words command old new status
      → told_files old ≡ Some files → query_of command ≡ Some query → files query ≡ Some text → IsTaken command text
      → Comes (HasJobOnPlan (told_files old) command (λ job. Keeps job old new status)) old new status

-- each status comes exactly where it is due; 8 only where a count rose; only 9 is free
pub record StatusesAreExact : Type 0 where
  pub usage : (words : List (List ℕ)) (old new : Outside) (status : ℕ) → Outcome words old new status → command_of words ≡ None → (status ≡ 1) ⊎ (status ≡ 9)
  pub usage_only : (words : List (List ℕ)) (old new : Outside) (status : ℕ) → Outcome words old new status → status ≡ 1 → command_of words ≡ None
  -- what is due comes, over a folder that tells its files; what hangs on a plan does by `Keeps`
  pub comes : (words : List (List ℕ)) (command : Command) (files : Files) (old new : Outside) (status : ℕ) (due : Due) → Run words command old new status
      → told_files old ≡ Some files → IsOfText command due → IsDue (Some files) command due → Comes (Settles due old new status) old new status
  -- so does the line of the first file that is no table, for `run` too, whatever its plan
  pub faulty : (words : List (List ℕ)) (query text tapes : List ℕ) (files : Files) (bytes : List (List ℕ)) (line : List ℕ) (old new : Outside) (status : ℕ) (built : IsBuilt text)
      → Run words (run query tapes) old new status → told_files old ≡ Some files → files query ≡ Some text → map files (graph_files built.graph) ≡ map Some bytes
      → tables_in built.graph bytes ≡ Err line → Comes (Settles (stops Faulty (query ∷ graph_files built.graph) line) old new status) old new status
  -- and nothing else does
  pub only : (words : List (List ℕ)) (command : Command) (old new : Outside) (status : ℕ) → Run words command old new status
      → (status ≡ 8 → ⊥) → (status ≡ 9 → ⊥) → Came command old new status
  pub listed : (words : List (List ℕ)) (command : Command) (old new : Outside) (status : ℕ) → Run words command old new status → Contains (statuses_of command) status
  pub failed_only : (words : List (List ℕ)) (old new : Outside) (status : ℕ) → Outcome words old new status → status ≡ 8 → HasFailed old.ports new.ports

-- over a folder that tells its files nothing but a count that rose or want of memory keeps a command from its result
pub record ReadyIsDone : Type 0 where
  -- where its query is compiled, and for `plain` has no bound and its relations' files are tables
  pub on_graph : (words : List (List ℕ)) (command : Command) (files : Files) (old new : Outside) (status : ℕ) → Run words command old new status
      → told_files old ≡ Some files → IsOnGraph command → IsReady (Some files) command → Comes (status ≡ 0) old new status
  -- `tape` of a query that is accepted and asks for nothing that is unbuilt
  pub taped : (words : List (List ℕ)) (query text : List ℕ) (seed : ℕ) (tapes : List ℕ) (files : Files) (old new : Outside) (status : ℕ) → Run words (tape query seed tapes) old new status
      → told_files old ≡ Some files → files query ≡ Some text → IsBuilt text → Comes (status ≡ 0) old new status

abbrev pub ReadsComeFirst : Type 0
ReadsComeFirst = (words : List (List ℕ)) (command : Command) (old new : Outside) (status : ℕ) → Run words command old new status
    → HasJob (told_files old) command (λ job. CallsAreFronts job old new status)

-- words that are no command, or a command that writes no file
abbrev pub WritesNothing : Option Command → Type 0
WritesNothing None = ⊤
WritesNothing (Some command) = IsOnGraph command

-- the files of a graph's answers, each node's for these parties; those and the views are what `run` writes
abbrev pub names_at : List Party → Option Node → List (List ℕ)
names_at parties None = []
names_at parties (Some node) = map (answer_file node) parties

abbrev pub answer_names : Content → List (List ℕ)
answer_names graph = flat_map (λ (output : Output). names_at (recipients_of output.recipients) (slice_get graph.nodes output.node)) graph.outputs

abbrev pub run_names : List ℕ → Content → List (List ℕ)
run_names tapes graph = of_parties (view_file tapes) ++ answer_names graph

-- what a run leaves as it was
pub record LeavesTheRest : Type 0 where
  -- the output, unless the status is 0, and the stream for errors where it is
  pub unprinted : (words : List (List ℕ)) (old new : Outside) (status : ℕ) → Outcome words old new status → (status ≡ 0 → ⊥) → new.ports.out.taken ≡ old.ports.out.taken
  pub silent : (words : List (List ℕ)) (old new : Outside) (status : ℕ) → Outcome words old new status → status ≡ 0 → new.err.taken ≡ old.err.taken
  -- each file that no outcome of the command's job writes
  pub unwritten : (words : List (List ℕ)) (command : Command) (old new : Outside) (status : ℕ) (name : List ℕ) → Run words command old new status
      → HasJob (told_files old) command (λ job. IsUnwritten name job → bytes_at name (told_files new) ≡ bytes_at name (told_files old))
  -- of `tape` all but its three, and of `run` all but the views and the answers of its query's graph
  pub untaped : (words : List (List ℕ)) (query : List ℕ) (seed : ℕ) (tapes : List ℕ) (old new : Outside) (status : ℕ) (name : List ℕ) → Run words (tape query seed tapes) old new status
      → list_any (λ written. bytes_eq written name) (tape_names tapes) ≡ false → bytes_at name (told_files new) ≡ bytes_at name (told_files old)
  pub unran : (words : List (List ℕ)) (query text tapes : List ℕ) (graph : Content) (files : Files) (old new : Outside) (status : ℕ) (name : List ℕ) → Run words (run query tapes) old new status
      → told_files old ≡ Some files → files query ≡ Some text → HasGraph text graph
      → list_any (λ written. bytes_eq written name) (run_names tapes graph) ≡ false → bytes_at name (told_files new) ≡ bytes_at name (told_files old)
  -- of `audit` all but the twin
  pub unaudited : (words : List (List ℕ)) (query : List ℕ) (asked : Question) (old new : Outside) (status : ℕ) (name : List ℕ) → Run words (audit query asked) old new status
      → bytes_eq (twin_file asked.tapes (before asked.party)) name ≡ false → bytes_at name (told_files new) ≡ bytes_at name (told_files old)
  -- all files, where nothing is written, and where there is no result and nothing failed
  pub kept : (words : List (List ℕ)) (old new : Outside) (status : ℕ) → Outcome words old new status → WritesNothing (command_of words) → told_files new ≡ told_files old
  pub undone : (words : List (List ℕ)) (old new : Outside) (status : ℕ) → Outcome words old new status → (status ≡ 0 → ⊥) → (status ≡ 8 → ⊥) → (status ≡ 9 → ⊥) → told_files new ≡ told_files old
  pub uncalled : (words : List (List ℕ)) (old new : Outside) (status : ℕ) → Outcome words old new status → command_of words ≡ None → new.ports.folder.calls ≡ old.ports.folder.calls

-- the statuses that a command with a plan that is handed in can answer
abbrev pub statuses_with : Option Command → List ℕ
statuses_with None = []
statuses_with (Some (plain query)) = []
statuses_with (Some (plan query)) = []
statuses_with (Some (tape query seed tapes)) = 0 ∷ 8 ∷ 9 ∷ []
statuses_with (Some (run query tapes)) = 0 ∷ 3 ∷ 4 ∷ 8 ∷ 9 ∷ []
statuses_with (Some (audit query asked)) = 0 ∷ 3 ∷ 4 ∷ 6 ∷ 8 ∷ 9 ∷ []

-- the same of a call with a plan that is handed in: all of it holds on that plan, and no name is read before those of the
-- job on it
pub record WithAPlan : Type 0 where
  pub one_due : (files : Files) (on : Plan) (command : Command) (first second : Due) → IsDueWith (Some files) on command first → IsDueWith (Some files) on command second → first ≡ second
  pub keeps : (on : Plan) (words : List (List ℕ)) (old new : Outside) (status : ℕ) → OutcomeWith on words old new status
      → HasPlanJob (told_files old) on (command_of words) (λ job. Keeps job old new status)
  pub only : (on : Plan) (words : List (List ℕ)) (old new : Outside) (status : ℕ) → OutcomeWith on words old new status → (status ≡ 8 → ⊥) → (status ≡ 9 → ⊥)
      → (due : Due) × (HasPlanJob (told_files old) on (command_of words) (λ job. job.due due) × Settles due old new status)
  pub listed : (on : Plan) (words : List (List ℕ)) (old new : Outside) (status : ℕ) → OutcomeWith on words old new status → Contains (statuses_with (command_of words)) status
  pub failed_only : (on : Plan) (words : List (List ℕ)) (old new : Outside) (status : ℕ) → OutcomeWith on words old new status → status ≡ 8 → HasFailed old.ports new.ports
