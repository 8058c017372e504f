use Rattle.std.proofs.Common.{◌≡◌, ℕ, List, Option, Some, String, Vec, Global, ap, ◌∙◌, option_map, string_bytes, Bool, true, false, cond, refl, bytes_eq, subst, sym, None, [], ◌∷◌, ◌++◌}
use Rattle.std.specs.BTreeMap.{BTreeMap, get_by_text, Updates}
use Rattle.std.specs.String.{string_cmp}
use Rattle.std.proofs.lemmas.Map.Text.{btree_map_updates_text}
use Rattle.std.proofs.lemmas.List.Sums.{fold-append}
use Rattle.outside.specs.Folder.{Files, written}
use Rattle.outside.specs.MemoryFolder.{files_made}
use mathlib.Core.Path.{fun_ext}

-- the files of a map from names to buffers
abbrev pub files_in : BTreeMap (String Global) (Vec ℕ Global) → Files
files_in map name = option_map (λ bytes. bytes.items) (get_by_text map name)

option_map-cond : {A B : Type 0} (f : A → B) (b : Bool) (x y : Option A) → option_map f (cond b x y) ≡ cond b (option_map f x) (option_map f y)
option_map-cond f true x y = refl
option_map-cond f false x y = refl

-- a map that was given one key holds the files with that name written
pub files_written : (old new : BTreeMap (String Global) (Vec ℕ Global)) (key : String Global) (name : List ℕ) (bytes : Vec ℕ Global) (items : List ℕ)
    → Updates string_cmp old new key (Some bytes) → string_bytes key ≡ name → bytes.items ≡ items
    → files_in new ≡ written name items (files_in old)
files_written old new key name bytes items updates same_name same_items =
    subst (λ n. files_in new ≡ written n items (files_in old)) same_name (subst (λ b. files_in new ≡ written (string_bytes key) b (files_in old)) same_items
    (fun_ext (λ other.
    ap (option_map (λ (buffer : Vec ℕ Global). buffer.items)) (btree_map_updates_text (string_bytes key) old new (Some bytes) updates other)
    ∙ option_map-cond (λ (buffer : Vec ℕ Global). buffer.items) (bytes_eq (string_bytes key) other) (Some bytes) (get_by_text old other))))

-- and with a pair more, the files of the pairs so far
pub files_made-more : (old new : BTreeMap (String Global) (Vec ℕ Global)) (pairs : List (String Global × Vec ℕ Global)) (key : String Global) (bytes : Vec ℕ Global)
    → files_in old ≡ files_made pairs → Updates string_cmp old new key (Some bytes) → files_in new ≡ files_made (pairs ++ (key, bytes) ∷ [])
files_made-more old new pairs key bytes before updates =
    files_written old new key (string_bytes key) bytes bytes.items updates refl refl
    ∙ ap (written (string_bytes key) bytes.items) before
    ∙ sym (fold-append (λ files (pair : String Global × Vec ℕ Global). written (string_bytes pair.0) pair.1.items files) (λ _. None) pairs ((key, bytes) ∷ []))
