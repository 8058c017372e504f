-- What an outcome comes to for its job.
use Rattle.std.proofs.Common.{◌≡◌, ℕ, Bool, true, false, ◌||◌, List, [], ◌∷◌, ◌++◌, take, drop, Option, Some, None, ◌⊎◌, inl, inr, option_map, append_assoc, ap, refl, sym, ◌∙◌, subst}
use Rattle.std.specs.Prelude.{bytes_eq, cond}
use Rattle.std.specs.List.{list_any}
use Rattle.std.specs.Map.{update, update_all}
use Rattle.std.proofs.lemmas.List.{append-nil, map-append, take-append-drop}
use Rattle.std.proofs.lemmas.List.Folds.{list_any-append}
use Rattle.outside.specs.Folder.{Files}
use Rattle.conclave_top.specs.Due.{Due, names_of}
use Rattle.conclave_top.specs.Effect.{Called, IsCutOff, IsReading, IsWriting, Written}
use Rattle.conclave_top.specs.Job.{Job}
use Rattle.conclave_top.specs.Laws.{CallsAreFronts, Comes, IsUnwritten, Keeps, bytes_at, told_files}
use Rattle.conclave_top.specs.Outcome.{JobOutcome, Settles}
use Rattle.conclave_top.specs.Outside.{FolderState, Outside, StreamState, Tells, gained}
use Rattle.conclave_top.proofs.FairJobs.{AreFair, IsEarly}
use Rattle.conclave_top.proofs.Folders.{gained_nil, written_none}
use Rattle.conclave_top.proofs.OneJobs.{HasOneDue, IsReadyDone}

pub apart : (status m n : ℕ) → status ≡ m → status ≡ n → (m ≡ n → ⊥) → ⊥
apart status m n first second not = not (sym first ∙ second)

-- what is due comes, and where a job is ready its result does
pub comes_for : (job : Job) (old new : Outside) (status : ℕ) (due : Due) → ((other : Due) → job.due other → other ≡ due) → JobOutcome job old new status → Comes (Settles due old new status) old new status
comes_for job old new status due same (inl settled) = inl (subst (λ d. Settles d old new status) (same settled.due settled.is_due) settled.settles)
comes_for job old new status due same (inr (inl failed)) = inr (inl (failed.status_is, failed.failed))
comes_for job old new status due same (inr (inr memory)) = inr (inr memory.memory.status_is)

ready_for : (job : Job) (old new : Outside) (status : ℕ) → IsReadyDone job → job.ready → JobOutcome job old new status → Comes (status ≡ 0) old new status
ready_for job old new status done ready (inl settled) = inl (settled.settles.status_is ∙ done settled.due ready settled.is_due)
ready_for job old new status done ready (inr (inl failed)) = inr (inl (failed.status_is, failed.failed))
ready_for job old new status done ready (inr (inr memory)) = inr (inr memory.memory.status_is)

-- a file whose name isn't written
or_left : (a b : Bool) → (a || b) ≡ false → a ≡ false
or_left true b is = is
or_left false b is = refl

or_right : (a b : Bool) → (a || b) ≡ false → b ≡ false
or_right true b is = cc
or_right false b is = is

abbrev pub is_of : List ℕ → List ℕ → Bool
is_of name written = bytes_eq written name

same_bytes : (name : List ℕ) (writes : List (List ℕ × List ℕ)) (files : Files) → list_any (is_of name) (names_of writes) ≡ false → update_all bytes_eq files writes name ≡ files name
same_bytes name [] files none = refl
same_bytes name (write ∷ writes) files none =
    let here : bytes_eq write.0 name ≡ false = or_left (bytes_eq write.0 name) (list_any (is_of name) (names_of writes)) none in
    let behind : list_any (is_of name) (names_of writes) ≡ false = or_right (bytes_eq write.0 name) (list_any (is_of name) (names_of writes)) none in
    same_bytes name writes (update bytes_eq files write.0 (Some write.1)) behind ∙ ap (λ b. cond b (Some write.1) (files name)) here

told_bytes : (name : List ℕ) (writes : List (List ℕ × List ℕ)) (files : Option Files) → list_any (is_of name) (names_of writes) ≡ false
    → bytes_at name (option_map (λ told. update_all bytes_eq told writes) files) ≡ bytes_at name files
told_bytes name writes None none = refl
told_bytes name writes (Some files) none = ap Some (same_bytes name writes files none)

written_bytes : (name : List ℕ) (writes : List (List ℕ × List ℕ)) (old new : FolderState) → list_any (is_of name) (names_of writes) ≡ false → Written writes old new → bytes_at name new.files ≡ bytes_at name old.files
written_bytes name writes old new none written = ap (bytes_at name) written ∙ told_bytes name writes old.files none

-- the first writes have the first names
pub names_then : (first more : List (List ℕ × List ℕ)) → names_of (first ++ more) ≡ names_of first ++ names_of more
names_then first more = map-append (λ (write : List ℕ × List ℕ). write.0) first more

front_none : (name : List ℕ) (writes first more : List (List ℕ × List ℕ)) → writes ≡ first ++ more → list_any (is_of name) (names_of writes) ≡ false → list_any (is_of name) (names_of first) ≡ false
front_none name writes first more front none =
    or_left (list_any (is_of name) (names_of first)) (list_any (is_of name) (names_of more))
    (sym (list_any-append (is_of name) (names_of first) (names_of more)) ∙ ap (list_any (is_of name)) (sym (names_then first more)) ∙ ap (λ ws. list_any (is_of name) (names_of ws)) (sym front) ∙ none)

left_bytes : (name : List ℕ) (job : Job) (old new : FolderState) → IsUnwritten name job → (IsReading job.reads old new ⊎ IsWriting job old new) → bytes_at name new.files ≡ bytes_at name old.files
left_bytes name job old new unwritten (inl reading) = ap (bytes_at name) reading.files
left_bytes name job old new unwritten (inr writing) =
    written_bytes name writing.cut.written old new
    (front_none name writing.due.writes writing.cut.written writing.cut.left writing.cut.front (unwritten writing.due writing.is_due)) writing.cut.files

pub unwritten_for : (name : List ℕ) (job : Job) (old new : Outside) (status : ℕ) → JobOutcome job old new status → IsUnwritten name job → bytes_at name (told_files new) ≡ bytes_at name (told_files old)
unwritten_for name job old new status (inl settled) unwritten =
    written_bytes name settled.due.writes old.ports.folder new.ports.folder (unwritten settled.due settled.is_due) settled.settles.done.files
unwritten_for name job old new status (inr (inl failed)) unwritten = left_bytes name job old.ports.folder new.ports.folder unwritten failed.left.at
unwritten_for name job old new status (inr (inr memory)) unwritten = left_bytes name job old.ports.folder new.ports.folder unwritten memory.left.at

-- the names called: all that are read and those of the first files, and of the next, if its write failed
tried_front : (names of_left tried : List (List ℕ)) → ((tried ≡ []) ⊎ (tried ≡ take 1 of_left)) → (left : List (List ℕ)) × (names ++ of_left ≡ (names ++ tried) ++ left)
tried_front names of_left tried (inl none) = (of_left, ap (λ ns. ns ++ of_left) (sym (append-nil names) ∙ ap (λ ns. names ++ ns) (sym none)))
tried_front names of_left tried (inr one) =
    (drop 1 of_left, ap (λ ns. names ++ ns) (sym (take-append-drop 1 of_left) ∙ ap (λ ns. ns ++ drop 1 of_left) (sym one)) ∙ sym (append_assoc names tried (drop 1 of_left)))

-- where nothing is to be written nothing is tried
pub none_tried : (writes written left : List (List ℕ × List ℕ)) (tried : List (List ℕ)) → writes ≡ [] → writes ≡ written ++ left → ((tried ≡ []) ⊎ (tried ≡ take 1 (names_of left)))
    → names_of written ++ tried ≡ []
none_tried writes (write ∷ written) left tried none front is = cc
none_tried writes [] (write ∷ left) tried none front is = cc
none_tried writes [] [] tried none front (inl empty) = empty
none_tried writes [] [] tried none front (inr empty) = empty

-- the first of the names that are read, and nothing else
fronts_early : (job : Job) (old new : Outside) (status : ℕ) (called left : List (List ℕ)) → job.reads ≡ called ++ left → Called called old.ports.folder new.ports.folder → (status ≡ 0 → ⊥)
    → CallsAreFronts job old new status
fronts_early job old new status called left front calls undone =
    record { writes = []; called = called; left = left; front = append-nil job.reads ∙ front; calls = calls; written = inl refl; whole = λ zero. absurd (undone zero) }

-- all of them, and the first of those that are written
fronts_late : (job : Job) (old new : Outside) (status : ℕ) (due : Due) (more left : List (List ℕ)) → job.due due → due.reads ≡ job.reads → names_of due.writes ≡ more ++ left
    → Called (due.reads ++ more) old.ports.folder new.ports.folder → (status ≡ 0 → left ≡ []) → CallsAreFronts job old new status
fronts_late job old new status due more left is_due reads front calls whole = record {
  writes = names_of due.writes;
  called = due.reads ++ more;
  left = left;
  front = ap (λ ns. ns ++ names_of due.writes) (sym reads) ∙ ap (λ ns. due.reads ++ ns) front ∙ sym (append_assoc due.reads more left);
  calls = calls;
  written = inr (record { due = due; is_due = is_due; names = refl; more = more; after = ap (λ ns. ns ++ more) reads });
  whole = whole;
}

-- nothing was called behind reads
called_alone : (reads more : List (List ℕ)) (old new : FolderState) → more ≡ [] → Called (reads ++ more) old new → Called reads old new
called_alone reads more old new none calls = subst (λ ns. Called ns old new) (ap (λ ns. reads ++ ns) none ∙ append-nil reads) calls

fronts_writing : (job : Job) (old new : Outside) (status : ℕ) (due : Due) → (status ≡ 0 → ⊥) → job.due due → IsCutOff due.reads due.writes old.ports.folder new.ports.folder
    → ((due.status ≡ 0 → ⊥) → due.writes ≡ []) → ((due.reads ≡ job.reads) ⊎ IsEarly job.reads due) → CallsAreFronts job old new status
fronts_writing job old new status due undone is_due cut kept (inl reads) =
    let tried = tried_front (names_of cut.written) (names_of cut.left) cut.tried cut.is_tried in
    let split : names_of due.writes ≡ (names_of cut.written ++ cut.tried) ++ tried.0 = ap names_of cut.front ∙ names_then cut.written cut.left ∙ tried.1 in
    fronts_late job old new status due (names_of cut.written ++ cut.tried) tried.0 is_due reads split cut.calls (λ zero. absurd (undone zero))
fronts_writing job old new status due undone is_due cut kept (inr early) =
    let none : names_of cut.written ++ cut.tried ≡ [] = none_tried due.writes cut.written cut.left cut.tried (kept early.undone) cut.front cut.is_tried in
    fronts_early job old new status due.reads early.left early.front
    (called_alone due.reads (names_of cut.written ++ cut.tried) old.ports.folder new.ports.folder none cut.calls) undone

fronts_at : (statuses : List ℕ) (job : Job) (old new : Outside) (status : ℕ) → AreFair statuses job → (status ≡ 0 → ⊥)
    → (IsReading job.reads old.ports.folder new.ports.folder ⊎ IsWriting job old.ports.folder new.ports.folder) → CallsAreFronts job old new status
fronts_at statuses job old new status fair undone (inl reading) = fronts_early job old new status reading.called reading.left reading.front reading.calls undone
fronts_at statuses job old new status fair undone (inr writing) =
    let own = fair writing.due writing.is_due in
    fronts_writing job old new status writing.due undone writing.is_due writing.cut own.kept own.reads

fronts_settled : (job : Job) (old new : Outside) (status : ℕ) (due : Due) → job.due due → Settles due old new status
    → ((due.status ≡ 0 → ⊥) → due.writes ≡ []) → ((due.reads ≡ job.reads) ⊎ IsEarly job.reads due) → CallsAreFronts job old new status
fronts_settled job old new status due is_due settles kept (inl reads) =
    fronts_late job old new status due (names_of due.writes) [] is_due reads (sym (append-nil (names_of due.writes))) settles.done.calls (λ zero. refl)
fronts_settled job old new status due is_due settles kept (inr early) =
    fronts_early job old new status due.reads early.left early.front
    (called_alone due.reads (names_of due.writes) old.ports.folder new.ports.folder (ap names_of (kept early.undone)) settles.done.calls)
    (λ zero. early.undone (sym settles.status_is ∙ zero))

pub fronts_for : (statuses : List ℕ) (job : Job) (old new : Outside) (status : ℕ) → AreFair statuses job → JobOutcome job old new status → CallsAreFronts job old new status
fronts_for statuses job old new status fair (inl settled) =
    let own = fair settled.due settled.is_due in
    fronts_settled job old new status settled.due settled.is_due settled.settles own.kept own.reads
fronts_for statuses job old new status fair (inr (inl failed)) = fronts_at statuses job old new status fair (λ zero. apart status 0 8 zero failed.status_is (λ e. cc)) failed.left.at
fronts_for statuses job old new status fair (inr (inr memory)) = fronts_at statuses job old new status fair (λ zero. apart status 0 9 zero memory.memory.status_is (λ e. cc)) memory.left.at

-- the output, where there is no result
pub gained_none : (bytes : List ℕ) (old new : StreamState) → bytes ≡ [] → new.taken ≡ gained bytes old.taken → new.taken ≡ old.taken
gained_none bytes old new none is = is ∙ ap (λ bs. gained bs old.taken) none ∙ gained_nil old.taken

pub unprinted_for : (statuses : List ℕ) (job : Job) (old new : Outside) (status : ℕ) → AreFair statuses job → (status ≡ 0 → ⊥) → JobOutcome job old new status → new.ports.out.taken ≡ old.ports.out.taken
unprinted_for statuses job old new status fair not (inl settled) =
    gained_none settled.due.output old.ports.out new.ports.out ((fair settled.due settled.is_due).unprinted (λ zero. not (settled.settles.status_is ∙ zero))) settled.settles.done.out
unprinted_for statuses job old new status fair not (inr (inl failed)) = failed.left.out
unprinted_for statuses job old new status fair not (inr (inr memory)) = memory.left.out

-- the stream for errors, where there is one
told_none : (line : List ℕ) (old new : StreamState) → line ≡ [] → Tells line old new → new.taken ≡ old.taken
told_none line old new none (inl told) = gained_none line old new none told
told_none line old new none (inr untold) = untold.0

pub silent_for : (statuses : List ℕ) (job : Job) (old new : Outside) (status : ℕ) → AreFair statuses job → status ≡ 0 → JobOutcome job old new status → new.err.taken ≡ old.err.taken
silent_for statuses job old new status fair zero (inl settled) =
    told_none settled.due.line old.err new.err ((fair settled.due settled.is_due).silent (sym settled.settles.status_is ∙ zero)) settled.settles.told
silent_for statuses job old new status fair zero (inr (inl failed)) = absurd (apart status 0 8 zero failed.status_is (λ e. cc))
silent_for statuses job old new status fair zero (inr (inr memory)) = absurd (apart status 0 9 zero memory.memory.status_is (λ e. cc))

-- all files, where nothing is written
pub kept_none : (writes : List (List ℕ × List ℕ)) (old new : FolderState) → writes ≡ [] → Written writes old new → new.files ≡ old.files
kept_none writes old new none written = written_none old new (subst (λ ws. Written ws old new) none written)

pub undone_for : (statuses : List ℕ) (job : Job) (old new : Outside) (status : ℕ) → AreFair statuses job → JobOutcome job old new status → (status ≡ 0 → ⊥) → (status ≡ 8 → ⊥) → (status ≡ 9 → ⊥)
    → told_files new ≡ told_files old
undone_for statuses job old new status fair (inl settled) zero eight nine =
    kept_none settled.due.writes old.ports.folder new.ports.folder ((fair settled.due settled.is_due).kept (λ is. zero (settled.settles.status_is ∙ is))) settled.settles.done.files
undone_for statuses job old new status fair (inr (inl failed)) zero eight nine = absurd (eight failed.status_is)
undone_for statuses job old new status fair (inr (inr memory)) zero eight nine = absurd (nine memory.memory.status_is)

-- all of it
pub keeps_for : (statuses : List ℕ) (job : Job) (old new : Outside) (status : ℕ) → AreFair statuses job → ((files : Files) → told_files old ≡ Some files → HasOneDue job)
    → ((files : Files) → told_files old ≡ Some files → IsReadyDone job) → JobOutcome job old new status → Keeps job old new status
keeps_for statuses job old new status fair one done outcome = record {
  outcome = outcome;
  comes = λ files due told is_due. comes_for job old new status due (λ other is. one files told other due is is_due) outcome;
  ready = λ files told ready. ready_for job old new status (done files told) ready outcome;
  calls = fronts_for statuses job old new status fair outcome;
  unwritten = λ name unwritten. unwritten_for name job old new status outcome unwritten;
  undone = λ zero eight nine. undone_for statuses job old new status fair outcome zero eight nine;
  unprinted = λ not. unprinted_for statuses job old new status fair not outcome;
  silent = λ zero. silent_for statuses job old new status fair zero outcome;
}
