-- The tables of relations' files, one after the other.
use Rattle.std.proofs.Common.{◌≡◌, ℕ, ◌+◌, ◌<◌, ◌≤◌, List, [], ◌∷◌, ◌++◌, length, drop, get_or, suc, Result, Ok, Err, refl, sym, ap, ◌∙◌, add-one, append_assoc}
use Rattle.std.proofs.Math.Seq.{drop-cons}
use Rattle.std.proofs.lemmas.List.{append-nil, at_drop_all}
use Rattle.query_graph.specs.declared.node.Node.{Node}
use Rattle.tables.specs.Content.{Content}
use Rattle.tables.specs.Outcome.{and_then, map_ok}
use Rattle.conclave_top.specs.declared.end.Stop.{Stop}
use Rattle.conclave_top.specs.declared.end.Stop.TheVariants.{Line, Memory}
use Rattle.conclave_top.specs.Relations.{GivesTable, GivesTables, table_of, tables_of}

-- the tables from a place on
tables_at : (folder : List ℕ) (nodes : List Node) (bytes : List (List ℕ)) (i : ℕ) (node : Node) (file : List ℕ) → i < length nodes → node ≡ get_or nodes i node → i < length bytes → file ≡ get_or bytes i file
    → tables_of folder (drop i nodes) (drop i bytes) ≡ and_then (table_of folder node file) (λ table. map_ok (λ tables. table ∷ tables) (tables_of folder (drop (i + 1) nodes) (drop (i + 1) bytes)))
tables_at folder nodes bytes i node file within is inside here =
    let first : drop i nodes ≡ node ∷ drop (i + 1) nodes =
    drop-cons nodes i node within ∙ ap (λ n. n ∷ drop (suc i) nodes) (sym is) ∙ ap (λ n. node ∷ drop n nodes) (sym (add-one i)) in
    let second : drop i bytes ≡ file ∷ drop (i + 1) bytes =
    drop-cons bytes i file inside ∙ ap (λ b. b ∷ drop (suc i) bytes) (sym here) ∙ ap (λ n. file ∷ drop n bytes) (sym (add-one i)) in
    ap (λ ns. tables_of folder ns (drop i bytes)) first ∙ ap (tables_of folder (node ∷ drop (i + 1) nodes)) second

map_ok-twice : {A B C E : Type 0} (f : A → B) (g : B → C) (answer : Result A E) → map_ok g (map_ok f answer) ≡ map_ok (λ x. g (f x)) answer
map_ok-twice f g (Ok x) = refl
map_ok-twice f g (Err e) = refl

joined : (so_far : List Content) (table : Content) (answer : Result (List Content) (List ℕ))
    → map_ok (λ tables. so_far ++ tables) (map_ok (λ tables. table ∷ tables) answer) ≡ map_ok (λ tables. (so_far ++ table ∷ []) ++ tables) answer
joined so_far table (Ok tables) = ap Ok (sym (append_assoc so_far (table ∷ []) tables))
joined so_far table (Err line) = refl

-- one table more
pub tables_pass : (folder : List ℕ) (nodes : List Node) (bytes : List (List ℕ)) (i : ℕ) (node : Node) (file : List ℕ) (so_far : List Content) (table : Content) (total : Result (List Content) (List ℕ))
    → i < length nodes → node ≡ get_or nodes i node → i < length bytes → file ≡ get_or bytes i file
    → total ≡ map_ok (λ tables. so_far ++ tables) (tables_of folder (drop i nodes) (drop i bytes)) → table_of folder node file ≡ Ok table
    → total ≡ map_ok (λ tables. (so_far ++ table ∷ []) ++ tables) (tables_of folder (drop (i + 1) nodes) (drop (i + 1) bytes))
tables_pass folder nodes bytes i node file so_far table total within is inside here invariant passes =
    let rest = tables_of folder (drop (i + 1) nodes) (drop (i + 1) bytes) in
    invariant ∙ ap (map_ok (λ tables. so_far ++ tables)) (tables_at folder nodes bytes i node file within is inside here ∙ ap (λ t. and_then t (λ table. map_ok (λ tables. table ∷ tables) rest)) passes)
    ∙ joined so_far table rest

-- a line in place of a table
pub tables_fail : (folder : List ℕ) (nodes : List Node) (bytes : List (List ℕ)) (i : ℕ) (node : Node) (file line : List ℕ) (so_far : List Content) (total : Result (List Content) (List ℕ))
    → i < length nodes → node ≡ get_or nodes i node → i < length bytes → file ≡ get_or bytes i file
    → total ≡ map_ok (λ tables. so_far ++ tables) (tables_of folder (drop i nodes) (drop i bytes)) → table_of folder node file ≡ Err line → total ≡ Err line
tables_fail folder nodes bytes i node file line so_far total within is inside here invariant fails =
    let rest = tables_of folder (drop (i + 1) nodes) (drop (i + 1) bytes) in
    invariant ∙ ap (map_ok (λ tables. so_far ++ tables)) (tables_at folder nodes bytes i node file within is inside here ∙ ap (λ t. and_then t (λ table. map_ok (λ tables. table ∷ tables) rest)) fails)

tables_of_nothing : (folder : List ℕ) (nodes : List Node) → tables_of folder nodes [] ≡ Ok []
tables_of_nothing folder [] = refl
tables_of_nothing folder (node ∷ nodes) = refl

-- no file more
pub tables_end : (folder : List ℕ) (nodes : List Node) (bytes : List (List ℕ)) (i : ℕ) (so_far : List Content) (total : Result (List Content) (List ℕ)) → length bytes ≤ i
    → total ≡ map_ok (λ tables. so_far ++ tables) (tables_of folder (drop i nodes) (drop i bytes)) → total ≡ Ok so_far
tables_end folder nodes bytes i so_far total past invariant =
    let none : tables_of folder (drop i nodes) (drop i bytes) ≡ Ok [] = at_drop_all (tables_of folder (drop i nodes)) bytes i past ∙ tables_of_nothing folder (drop i nodes) in
    invariant ∙ ap (map_ok (λ tables. so_far ++ tables)) none ∙ ap Ok (append-nil so_far)

-- a line or want of memory in place of a table
pub gives_fault : (folder : List ℕ) (nodes : List Node) (bytes : List (List ℕ)) (i : ℕ) (node : Node) (file : List ℕ) (so_far : List Content) (total : Result (List Content) (List ℕ)) (stop : Stop)
    → i < length nodes → node ≡ get_or nodes i node → i < length bytes → file ≡ get_or bytes i file
    → total ≡ map_ok (λ tables. so_far ++ tables) (tables_of folder (drop i nodes) (drop i bytes)) → GivesTable (Err stop) (table_of folder node file) → GivesTables (Err stop) total
gives_fault folder nodes bytes i node file so_far total (Line line) within is inside here invariant gives = tables_fail folder nodes bytes i node file line.items so_far total within is inside here invariant gives
gives_fault folder nodes bytes i node file so_far total Memory within is inside here invariant gives = tt
