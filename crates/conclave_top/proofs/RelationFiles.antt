-- The files of relations in a folder.
use Rattle.std.proofs.Common.{◌≡◌, ◌∙◌, Bor, ℕ, List, length, map, ap, sym, string_bytes}
use Rattle.std.specs.Prelude.{String, Vec}
use Rattle.std.specs.Global.{Global}
use Rattle.std.proofs.lemmas.List.{length-map}
use Rattle.std.proofs.lemmas.Simd.{map-map}
use Rattle.query_graph.specs.declared.node.Node.{Node}
use Rattle.conclave_top.specs.Relations.{file_names, file_of}

-- the names of lent relations' files
pub lent_names : (folder : List ℕ) (lent : List (Bor Node)) → map (λ node. file_of folder node.now) lent ≡ file_names folder (map (λ node. node.now) lent)
lent_names folder lent = sym (map-map (file_of folder) (λ (node : Bor Node). node.now) lent)

-- as many files were read as there are relations
pub held_count : (folder : List ℕ) (lent : List (Bor Node)) (names : List (String Global)) (bytes : List (Vec ℕ Global)) → map string_bytes names ≡ file_names folder (map (λ node. node.now) lent)
    → length bytes ≡ length names → length (map (λ b. b.items) bytes) ≡ length (map (λ node. node.now) lent)
held_count folder lent names bytes same count =
    length-map bytes (λ b. b.items) ∙ count ∙ sym (length-map names string_bytes) ∙ ap length same ∙ length-map (map (λ node. node.now) lent) (file_of folder)
