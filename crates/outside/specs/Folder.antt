use Rattle.std.specs.Prelude.{◌≡◌, ℕ, List, [], ◌∷◌, ◌++◌, Option, Some, Result, Ok, Err, IfSome, option_map, bytes_eq}
use Rattle.std.specs.Map.{update}
use Rattle.outside.specs.declared.folder.FolderFault.{FolderFault}
use Rattle.outside.specs.declared.folder.FolderFault.TheVariants.{Failed, Memory}

-- what a folder holds: for each name its bytes, or none
abbrev pub Files : Type 0
Files = List ℕ → Option (List ℕ)

-- the files after these bytes were written under this name
abbrev pub written : List ℕ → List ℕ → Files → Files
written name bytes files = update bytes_eq files name (Some bytes)

-- a folder that tells its files has these bytes under this name
abbrev pub Holds : Option Files → List ℕ → List ℕ → Type 0
Holds files name bytes = IfSome files (λ told. told name ≡ Some bytes)

-- the names called so far, after a call of this name; one that found no memory isn't noted
abbrev pub called : {T : Type 0} → List ℕ → Result T FolderFault → Option (List (List ℕ)) → Option (List (List ℕ))
called name (Ok x) calls = option_map (λ names. names ++ name ∷ []) calls
called name (Err Failed) calls = option_map (λ names. names ++ name ∷ []) calls
called name (Err Memory) calls = calls
