-- What was called and written, one after the other.
use Rattle.std.proofs.Common.{◌≡◌, ℕ, ◌≤◌, List, [], ◌++◌, Option, Some, None, inl, inr, refl, ap, sym, subst, ◌∙◌, arith, option_map, append_assoc}
use Rattle.std.specs.Prelude.{bytes_eq}
use Rattle.std.specs.Map.{update_all}
use Rattle.std.proofs.lemmas.List.{append-nil}
use Rattle.outside.specs.Cause.{Rose}
use Rattle.conclave_top.specs.declared.end.Cause.{Cause}
use Rattle.conclave_top.specs.Due.{Due, behind, names_of, stops}
use Rattle.conclave_top.specs.Effect.{Called, HasRead, IsCutOff, IsDone, IsReading, Written}
use Rattle.conclave_top.specs.Outside.{FolderState, HasFailed, Ports, StreamState, gained}

-- a folder and an output
abbrev pub at : FolderState → StreamState → Ports
at folder out = record { folder = folder; out = out }

pub gained_nil : {A : Type 0} (known : Option (List A)) → gained [] known ≡ known
gained_nil None = refl
gained_nil (Some known) = ap Some (append-nil known)

gained_twice : {A : Type 0} (first more : List A) (known : Option (List A)) → gained more (gained first known) ≡ gained (first ++ more) known
gained_twice first more None = refl
gained_twice first more (Some known) = ap Some (append_assoc known first more)

pub same_option : {A : Type 0} (known : Option A) → option_map (λ x. x) known ≡ known
same_option None = refl
same_option (Some known) = refl

pub called_nothing : (old new : FolderState) → new.calls ≡ old.calls → Called [] old new
called_nothing old new same = same ∙ sym (gained_nil old.calls)

-- some names called, and then others
pub called_then : (first names : List (List ℕ)) (old mid new : FolderState) → Called first old mid → Called names mid new → Called (first ++ names) old new
called_then first names old mid new a b = b ∙ ap (gained names) a ∙ gained_twice first names old.calls

pub written_nothing : (old new : FolderState) → new.files ≡ old.files → Written [] old new
written_nothing old new same = same ∙ sym (same_option old.files)

pub written_none : (old new : FolderState) → Written [] old new → new.files ≡ old.files
written_none old new written = written ∙ same_option old.files

-- a count that rose from a later moment rose from an earlier one
pub rose_before : (first second last : ℕ) → first ≤ second → Rose second last → Rose first last
rose_before first second last later rose = omega arith

pub failed_before : (old mid : FolderState) (out : StreamState) (new : Ports) → old.faults ≤ mid.faults → HasFailed (at mid out) new → HasFailed (at old out) new
failed_before old mid out new later (inl rose) = inl (rose_before old.faults mid.faults new.folder.faults later rose)
failed_before old mid out new later (inr rose) = inr rose

-- behind reads: writes, a front of reads, all that is due
pub written_behind : (first : List (List ℕ)) (writes : List (List ℕ × List ℕ)) (old mid new : FolderState) → HasRead first old mid → Written writes mid new → Written writes old new
written_behind first writes old mid new read written = written ∙ ap (option_map (λ files. update_all bytes_eq files writes)) read.files

pub reading_behind : (first names : List (List ℕ)) (old mid new : FolderState) → HasRead first old mid → IsReading names mid new → IsReading (first ++ names) old new
reading_behind first names old mid new read reading = record {
  called = first ++ reading.called;
  left = reading.left;
  front = ap (λ ns. first ++ ns) reading.front ∙ sym (append_assoc first reading.called reading.left);
  files = reading.files ∙ read.files;
  calls = called_then first reading.called old mid new read.calls reading.calls;
}

pub cut_behind : (first reads : List (List ℕ)) (writes : List (List ℕ × List ℕ)) (old mid new : FolderState) → HasRead first old mid → IsCutOff reads writes mid new → IsCutOff (first ++ reads) writes old new
cut_behind first reads writes old mid new read cut = record {
  written = cut.written;
  left = cut.left;
  front = cut.front;
  tried = cut.tried;
  is_tried = cut.is_tried;
  files = written_behind first cut.written old mid new read cut.files;
  calls = subst (λ ns. Called ns old new) (sym (append_assoc first reads (names_of cut.written ++ cut.tried)))
      (called_then first (reads ++ (names_of cut.written ++ cut.tried)) old mid new read.calls cut.calls);
}

pub done_behind : (first : List (List ℕ)) (due : Due) (old mid : FolderState) (out : StreamState) (new : Ports) → HasRead first old mid → IsDone due (at mid out) new → IsDone (behind first due) (at old out) new
done_behind first due old mid out new read done = record {
  files = written_behind first due.writes old mid new.folder read done.files;
  calls = subst (λ ns. Called ns old new.folder) (sym (append_assoc first due.reads (names_of due.writes)))
      (called_then first (due.reads ++ names_of due.writes) old mid new.folder read.calls done.calls);
  out = done.out;
}

pub read_nothing : (folder : FolderState) → HasRead [] folder folder
read_nothing folder = record { files = refl; calls = called_nothing folder folder refl; later = omega arith }

-- all of the names, or none
pub reading_all : (names : List (List ℕ)) (old new : FolderState) → HasRead names old new → IsReading names old new
reading_all names old new read = record { called = names; left = []; front = sym (append-nil names); files = read.files; calls = read.calls }

pub reading_none : (names : List (List ℕ)) (old new : FolderState) → new.files ≡ old.files → new.calls ≡ old.calls → IsReading names old new
reading_none names old new files calls = record { called = []; left = names; front = refl; files = files; calls = called_nothing old new calls }

-- all that is due where there is no result
pub stops_done : (cause : Cause) (reads : List (List ℕ)) (line : List ℕ) (old new : FolderState) (out : StreamState) → HasRead reads old new → IsDone (stops cause reads line) (at old out) (at new out)
stops_done cause reads line old new out read = record {
  files = written_nothing old new read.files;
  calls = subst (λ ns. Called ns old new) (sym (append-nil reads)) read.calls;
  out = sym (gained_nil out.taken);
}

-- what is done is also left behind its last write
pub done_cut : (due : Due) (old new : Ports) → IsDone due old new → IsCutOff due.reads due.writes old.folder new.folder
done_cut due old new done = record {
  written = due.writes;
  left = [];
  front = sym (append-nil due.writes);
  tried = [];
  is_tried = inl refl;
  files = done.files;
  calls = subst (λ ns. Called (due.reads ++ ns) old.folder new.folder) (sym (append-nil (names_of due.writes))) done.calls;
}
