-- Files read one after the other.
use Rattle.std.proofs.Common.{◌≡◌, ℕ, ◌+◌, ◌<◌, ◌≤◌, List, [], ◌∷◌, ◌++◌, length, map, take, drop, get_or, Option, Some, None, Result, Ok, Err, arith, refl, sym, ap, ◌∙◌, subst, add-one}
use Rattle.std.proofs.Math.Seq.{take-suc}
use Rattle.std.proofs.lemmas.List.{get_or-map, length-map, map_push, take-append-drop}
use Rattle.outside.specs.Folder.{Files, Holds, called}
use Rattle.outside.specs.declared.folder.FolderFault.{FolderFault}
use Rattle.outside.specs.declared.folder.FolderFault.TheVariants.{Failed, Memory}
use Rattle.conclave_top.specs.Effect.{HasRead, IsReading}
use Rattle.conclave_top.specs.Outside.{FolderState}
use Rattle.conclave_top.specs.Relations.{AreHeld}
use Rattle.conclave_top.proofs.Folders.{called_then, read_nothing}

-- the files of the first names so far were read
pub record ReadsSoFar (names : List (List ℕ)) (old now : FolderState) (bytes : List (List ℕ)) (i : ℕ) : Type 0 where
  pub held : AreHeld old.files (take i names) bytes
  pub read : HasRead (take i names) old now

pub take-more : {A : Type 0} (xs : List A) (i : ℕ) (x : A) → i < length xs → x ≡ get_or xs i x → take (i + 1) xs ≡ take i xs ++ x ∷ []
take-more xs i x within is =
    ap (λ n. take n xs) (add-one i) ∙ take-suc xs i x within ∙ ap (λ y. take i xs ++ y ∷ []) (sym is)

held_more : (files : Option Files) (names bytes : List (List ℕ)) (name more : List ℕ) → AreHeld files names bytes → Holds files name more → AreHeld files (names ++ name ∷ []) (bytes ++ more ∷ [])
held_more None names bytes name more held here = tt
held_more (Some told) names bytes name more held here = map_push told names name ∙ ap (λ xs. xs ++ told name ∷ []) held ∙ ap (λ x. map Some bytes ++ x ∷ []) here ∙ sym (map_push Some bytes more)

pub read_then : (first names : List (List ℕ)) (old mid new : FolderState) → HasRead first old mid → HasRead names mid new → HasRead (first ++ names) old new
read_then first names old mid new a b =
    record { files = b.files ∙ a.files; calls = called_then first names old mid new a.calls b.calls; later = omega (arith, a.later, b.later) }

-- one more name was read
pub one_read : (names : List (List ℕ)) (old mid new : FolderState) (i : ℕ) (name : List ℕ) → i < length names → name ≡ get_or names i name
    → HasRead (take i names) old mid → HasRead (name ∷ []) mid new → HasRead (take (i + 1) names) old new
one_read names old mid new i name within is so_far more =
    subst (λ ns. HasRead ns old new) (sym (take-more names i name within is)) (read_then (take i names) (name ∷ []) old mid new so_far more)

-- and its file
pub read_more : (names : List (List ℕ)) (old mid new : FolderState) (bytes : List (List ℕ)) (i : ℕ) (name more : List ℕ)
    → i < length names → name ≡ get_or names i name → ReadsSoFar names old mid bytes i → Holds mid.files name more → HasRead (name ∷ []) mid new
    → ReadsSoFar names old new (bytes ++ more ∷ []) (i + 1)
read_more names old mid new bytes i name more within is so_far here read = record {
  held = subst (λ ns. AreHeld old.files ns (bytes ++ more ∷ [])) (sym (take-more names i name within is))
      (held_more old.files (take i names) bytes name more so_far.held (subst (λ fs. Holds fs name more) so_far.read.files here));
  read = one_read names old mid new i name within is so_far.read read;
}

held_nothing : (files : Option Files) (names : List (List ℕ)) → AreHeld files (take 0 names) []
held_nothing None names = tt
held_nothing (Some told) names = refl

pub reads_nothing : (names : List (List ℕ)) (folder : FolderState) → ReadsSoFar names folder folder [] 0
reads_nothing names folder = record { held = held_nothing folder.files names; read = read_nothing folder }

-- the first names were read
pub reading_front : (names : List (List ℕ)) (i : ℕ) (old new : FolderState) → HasRead (take i names) old new → IsReading names old new
reading_front names i old new read = record { called = take i names; left = drop i names; front = sym (take-append-drop i names); files = read.files; calls = read.calls }

-- whatever a read answered, the first names were read
pub front_read : {T : Type 0} (names : List (List ℕ)) (old mid new : FolderState) (i : ℕ) (name : List ℕ) (answer : Result T FolderFault)
    → i < length names → name ≡ get_or names i name → HasRead (take i names) old mid → new.files ≡ mid.files → new.calls ≡ called name answer mid.calls → mid.faults ≤ new.faults → IsReading names old new
front_read names old mid new i name (Ok bytes) within is so_far files calls later =
    reading_front names (i + 1) old new (one_read names old mid new i name within is so_far (record { files = files; calls = calls; later = later }))
front_read names old mid new i name (Err Failed) within is so_far files calls later =
    reading_front names (i + 1) old new (one_read names old mid new i name within is so_far (record { files = files; calls = calls; later = later }))
front_read names old mid new i name (Err Memory) within is so_far files calls later =
    reading_front names i old new (record { files = files ∙ so_far.files; calls = calls ∙ so_far.calls; later = omega (arith, so_far.later, later) })

-- an item of a list is that of the list of images
pub item_of_map : {A B : Type 0} (f : A → B) (xs : List A) (i : ℕ) (x : A) → i < length xs → x ≡ get_or xs i x → f x ≡ get_or (map f xs) i (f x)
item_of_map f xs i x within is = ap f is ∙ sym (get_or-map f xs i x (f x) within)

pub within_map : {A B : Type 0} (f : A → B) (xs : List A) (i : ℕ) → i < length xs → i < length (map f xs)
within_map f xs i within = subst (λ n. i < n) (sym (length-map xs f)) within
