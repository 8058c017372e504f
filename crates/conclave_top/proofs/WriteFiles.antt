-- Files written one after the other, and then the output.
use Rattle.std.proofs.Common.{◌≡◌, ℕ, ◌+◌, ◌<◌, ◌≤◌, List, [], ◌∷◌, ◌++◌, length, take, drop, get_or, suc, Option, Some, None, Err, inl, inr, arith, option_map, refl, sym, ap, ◌∙◌, subst}
use Rattle.std.specs.Prelude.{bytes_eq}
use Rattle.std.specs.Map.{update, update_all}
use Rattle.std.proofs.Math.Seq.{drop-cons}
use Rattle.std.proofs.lemmas.List.{append-nil, map_push, take-append-drop}
use Rattle.std.proofs.lemmas.List.Sums.{fold_push}
use Rattle.outside.specs.Folder.{Files, called, written}
use Rattle.outside.specs.declared.folder.FolderFault.{FolderFault}
use Rattle.outside.specs.declared.folder.FolderFault.TheVariants.{Failed, Memory}
use Rattle.conclave_top.specs.Deliver.{AreWritten}
use Rattle.conclave_top.specs.Due.{does, names_of}
use Rattle.conclave_top.specs.Effect.{Called, IsCutOff, IsLeft}
use Rattle.conclave_top.specs.End.{HasResult}
use Rattle.conclave_top.specs.Job.{only}
use Rattle.conclave_top.specs.Outside.{FolderState, Ports, gained}
use Rattle.conclave_top.proofs.Folders.{called_nothing, called_then, written_nothing}
use Rattle.conclave_top.proofs.ReadFiles.{take-more}

written_then : (writes : List (List ℕ × List ℕ)) (write : List ℕ × List ℕ) (known : Option Files)
    → option_map (written write.0 write.1) (option_map (λ files. update_all bytes_eq files writes) known) ≡ option_map (λ files. update_all bytes_eq files (writes ++ write ∷ [])) known
written_then writes write None = refl
written_then writes write (Some files) = ap Some (sym (fold_push (λ g p. update bytes_eq g p.0 (Some p.1)) files writes write))

-- a name and bytes by their other names
pub written_as : (old new : Option Files) (name other bytes same : List ℕ) → new ≡ option_map (written name bytes) old → name ≡ other → bytes ≡ same → new ≡ option_map (written other same) old
written_as old new name other bytes same is named given = is ∙ ap (λ n. option_map (written n bytes) old) named ∙ ap (λ b. option_map (written other b) old) given

pub same_write : (a b x y : List ℕ) → a ≡ b → x ≡ y → ◌≡◌ {A = List ℕ × List ℕ} (a, x) (b, y)
same_write a b x y named given = rw (named, given) refl

pub called_as : (old new : Option (List (List ℕ))) (name other : List ℕ) → new ≡ gained (name ∷ []) old → name ≡ other → new ≡ gained (other ∷ []) old
called_as old new name other is named = is ∙ ap (λ n. gained (n ∷ []) old) named

-- one more file was written
one_more : (writes : List (List ℕ × List ℕ)) (write : List ℕ × List ℕ) (old mid new : FolderState) → AreWritten writes old mid
    → new.files ≡ option_map (written write.0 write.1) mid.files → new.calls ≡ gained (write.0 ∷ []) mid.calls → mid.faults ≤ new.faults → AreWritten (writes ++ write ∷ []) old new
one_more writes write old mid new so_far files calls later = record {
  files = files ∙ ap (option_map (written write.0 write.1)) so_far.files ∙ written_then writes write old.files;
  calls = subst (λ ns. Called ns old new) (sym (map_push (λ (w : List ℕ × List ℕ). w.0) writes write)) (called_then (names_of writes) (write.0 ∷ []) old mid new so_far.calls calls);
  later = omega (arith, so_far.later, later);
}

pub one_written : (writes : List (List ℕ × List ℕ)) (i : ℕ) (write : List ℕ × List ℕ) (old mid new : FolderState) → i < length writes → write ≡ get_or writes i write → AreWritten (take i writes) old mid
    → new.files ≡ option_map (written write.0 write.1) mid.files → new.calls ≡ gained (write.0 ∷ []) mid.calls → mid.faults ≤ new.faults → AreWritten (take (i + 1) writes) old new
one_written writes i write old mid new within is so_far files calls later =
    subst (λ ws. AreWritten ws old new) (sym (take-more writes i write within is)) (one_more (take i writes) write old mid new so_far files calls later)

pub nothing_written : (writes : List (List ℕ × List ℕ)) (folder : FolderState) → AreWritten (take 0 writes) folder folder
nothing_written writes folder = record { files = written_nothing folder folder refl; calls = called_nothing folder folder refl; later = omega arith }

next_name : (writes : List (List ℕ × List ℕ)) (i : ℕ) (write : List ℕ × List ℕ) → i < length writes → write ≡ get_or writes i write → write.0 ∷ [] ≡ take 1 (names_of (drop i writes))
next_name writes i write within is = sym (ap (λ ws. take 1 (names_of ws)) (drop-cons writes i write within ∙ ap (λ w. w ∷ drop (suc i) writes) (sym is)))

-- a write that failed, or found no memory
pub cut_at : (writes : List (List ℕ × List ℕ)) (i : ℕ) (write : List ℕ × List ℕ) (fault : FolderFault) (old mid new : FolderState) → i < length writes → write ≡ get_or writes i write
    → AreWritten (take i writes) old mid → new.files ≡ mid.files → new.calls ≡ called {T = Unit} write.0 (Err fault) mid.calls → IsCutOff [] writes old new
cut_at writes i write Failed old mid new within is so_far files calls = record {
  written = take i writes;
  left = drop i writes;
  front = sym (take-append-drop i writes);
  tried = write.0 ∷ [];
  is_tried = inr (next_name writes i write within is);
  files = files ∙ so_far.files;
  calls = called_then (names_of (take i writes)) (write.0 ∷ []) old mid new so_far.calls calls;
}
cut_at writes i write Memory old mid new within is so_far files calls = record {
  written = take i writes;
  left = drop i writes;
  front = sym (take-append-drop i writes);
  tried = [];
  is_tried = inl refl;
  files = files ∙ so_far.files;
  calls = called_then (names_of (take i writes)) [] old mid new so_far.calls (called_nothing mid new calls);
}

pub cut_behind_all : (writes : List (List ℕ × List ℕ)) (old new : FolderState) → AreWritten writes old new → IsCutOff [] writes old new
cut_behind_all writes old new all = record {
  written = writes;
  left = [];
  front = sym (append-nil writes);
  tried = [];
  is_tried = inl refl;
  files = all.files;
  calls = subst (λ ns. Called ns old new) (sym (append-nil (names_of writes))) all.calls;
}

-- behind all files the output
pub delivered : (writes : List (List ℕ × List ℕ)) (output : List ℕ) (old new : Ports) → AreWritten writes old.folder new.folder → new.out.taken ≡ gained output old.out.taken
    → HasResult (only (does [] writes output)) old new
delivered writes output old new all printed =
    record { due = does [] writes output; is_due = refl; status = refl; silent = refl; done = record { files = all.files; calls = all.calls; out = printed } }

pub delivered_part : (writes : List (List ℕ × List ℕ)) (output : List ℕ) (old new : Ports) → IsCutOff [] writes old.folder new.folder → new.out.taken ≡ old.out.taken
    → IsLeft (only (does [] writes output)) old new
delivered_part writes output old new cut same = record { at = inr (record { due = does [] writes output; is_due = refl; cut = cut }); out = same }
