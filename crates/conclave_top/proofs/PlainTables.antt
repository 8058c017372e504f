-- The tables of relations' files make a world, and its plain rows are what is printed.
use Rattle.std.proofs.Common.{◌≡◌, ℕ, zero, suc, ◌+◌, ◌≤◌, Bool, true, false, ◌||◌, if◌then◌else◌, arith, List, [], ◌∷◌, ◌++◌, length, map, take, Option, Some, None, Result, Ok, Err, refl, sym, ap, ◌∙◌, subst}
use Rattle.std.specs.Prelude.{slice_get, slice_index_or}
use Rattle.std.specs.List.{AllZip}
use Rattle.std.proofs.lemmas.List.{length-append, take_all}
use Rattle.query_graph.specs.declared.node.Node.{Node}
use Rattle.query_graph.specs.declared.operator.Operator.{Operator}
use Rattle.query_graph.specs.Observers.{at_most_of, parts_at_most_of}
use Rattle.tables.specs.Content as table
use Rattle.tables.specs.File.{ReadTablesFit, table_in}
use Rattle.tables.specs.Outcome.{and_then, map_ok}
use Rattle.tables.specs.declared.fault.TableFault.{TableFault}
use Rattle.plain_meaning.specs.Fits.{IsFileOf}
use Rattle.plain_meaning.specs.Meaning.{files_after, meanings, meanings_after, node_rows, rows_of}
use Rattle.plain_meaning.specs.Plain.{Ends, IsPlain, bound_of, is_over}
use Rattle.conclave_top.specs.Answers.{AreNodeTables}
use Rattle.conclave_top.specs.Bounds.{first_bound, is_bounded, is_written}
use Rattle.conclave_top.specs.Relations.{or_line, tables_of}

zero_is_not_suc : (n : ℕ) → 0 ≡ suc n → ⊥
zero_is_not_suc n same = omega arith

same_pred : (m n : ℕ) → suc m ≡ suc n → m ≡ n
same_pred m n same = omega arith

true_is_not_false : true ≡ false → ⊥
true_is_not_false same = cc

-- a table that is read has its relation's columns, and no more rows than declared
table_fits : ReadTablesFit → (node : Node) (bytes : List ℕ) (t : table.Content) → table_in node.columns node.rows bytes ≡ Ok t → IsFileOf node t
table_fits fit node bytes t is =
    let fits = fit node.columns node.rows bytes t is in
    record { columns = fits.same; rows = fits.few; rectangular = fits.wide; words = fits.words }

files_step : (folder : List ℕ) (node : Node) (nodes : List Node) (first : Result table.Content TableFault) (others : Result (List table.Content) (List ℕ)) (tables : List table.Content)
    → ((t : table.Content) → first ≡ Ok t → IsFileOf node t) → ((more : List table.Content) → others ≡ Ok more → AllZip IsFileOf nodes more)
    → and_then (or_line folder node first) (λ t. map_ok (λ tables. t ∷ tables) others) ≡ Ok tables → AllZip IsFileOf (node ∷ nodes) tables
files_step folder node nodes (Err fault) others tables here behind is = cc
files_step folder node nodes (Ok t) (Err line) tables here behind is = cc
files_step folder node nodes (Ok t) (Ok more) tables here behind is =
    let same : t ∷ more ≡ tables = cc in
    subst (AllZip IsFileOf (node ∷ nodes)) same (here t refl, behind more refl)

-- the tables of all relations' files are what a world is made of
pub files_are : ReadTablesFit → (folder : List ℕ) (nodes : List Node) (bytes : List (List ℕ)) (tables : List table.Content) → length bytes ≡ length nodes → tables_of folder nodes bytes ≡ Ok tables → AllZip IsFileOf nodes tables
files_are fit folder [] bytes tables count is =
    let same : [] ≡ tables = cc in
    subst (AllZip IsFileOf []) same tt
files_are fit folder (node ∷ nodes) [] tables count is = absurd (zero_is_not_suc (length nodes) count)
files_are fit folder (node ∷ nodes) (first ∷ bytes) tables count is =
    files_step folder node nodes (table_in node.columns node.rows first) (tables_of folder nodes bytes) tables (table_fits fit node first)
    (λ more here. files_are fit folder nodes bytes more (same_pred (length bytes) (length nodes) count) here) is

unbounded_step : (node : Node) (nodes : List Node) (here : Bool) → is_bounded node.shape ≡ here → (if here then Some node.line else first_bound nodes) ≡ None → (here ≡ false) × (first_bound nodes ≡ None)
unbounded_step node nodes true is none = cc
unbounded_step node nodes false is none = (refl, none)

unbounded_at : (nodes : List Node) (i : ℕ) (node : Node) → first_bound nodes ≡ None → slice_get nodes i ≡ Some node → is_bounded node.shape ≡ false
unbounded_at [] i node none here = cc
unbounded_at (first ∷ nodes) zero node none here =
    let same : first ≡ node = cc in
    ap (λ (n : Node). is_bounded n.shape) (sym same) ∙ (unbounded_step first nodes (is_bounded first.shape) refl none).0
unbounded_at (first ∷ nodes) (suc i) node none here = unbounded_at nodes i node (unbounded_step first nodes (is_bounded first.shape) refl none).1 here

not_written : {A : Type 0} (o : Option A) → is_written o ≡ false → o ≡ None
not_written None is = refl
not_written (Some x) is = cc

or_left : (a b : Bool) → (a || b) ≡ false → a ≡ false
or_left true b is = cc
or_left false b is = refl

no_bound : (shape : Operator) → is_bounded shape ≡ false → at_most_of shape ≡ None
no_bound shape is = not_written (at_most_of shape) (or_left (is_written (at_most_of shape)) (is_written (parts_at_most_of shape)) is)

pub no_bound_at : (nodes : List Node) (number : ℕ) (node : Node) → first_bound nodes ≡ None → slice_get nodes number ≡ Some node → bound_of node.shape ≡ None
no_bound_at nodes number node none here = no_bound node.shape (unbounded_at nodes number node none here)

-- without a bound the tables end with the nodes
all_nodes : (nodes : List Node) (rows : List (List (List ℕ))) (count : ℕ) (over : Option ℕ) → first_bound nodes ≡ None → Ends nodes rows count over → count ≡ length nodes
all_nodes nodes rows count None none ends = ends
all_nodes nodes rows count (Some o) none ends =
    let within : is_over (bound_of ends.1.0.shape) (rows_of rows o) ≡ false = ap (λ b. is_over b (rows_of rows o)) (no_bound_at nodes o ends.1.0 none ends.1.1) in
    absurd (true_is_not_false (sym ends.1.2 ∙ within))

meanings_count : (earlier files : List (List (List ℕ))) (nodes : List Node) → length (meanings_after earlier files nodes) ≡ length earlier + length nodes
meanings_count earlier files [] = omega arith
meanings_count earlier files (node ∷ nodes) =
    let rows = node_rows node.shape (slice_index_or files 0 []) earlier in
    meanings_count (earlier ++ rows ∷ []) (files_after node.shape files) nodes ∙ ap (λ n. n + length nodes) (length-append earlier (rows ∷ [])) ∙ omega arith

-- the plain rows of a graph without a bound are those of all nodes
pub all_tables : (nodes : List Node) (world : List (List (List ℕ))) (tables : List table.Content) (over : Option ℕ) → first_bound nodes ≡ None → IsPlain nodes world tables over
    → AreNodeTables nodes tables
all_tables nodes world tables over none plain =
    let count : length tables ≡ length nodes = all_nodes nodes (meanings nodes world) (length tables) over none plain.ends in
    plain.columns ∙ ap (λ n. map (λ (n : Node). n.columns) (take n nodes)) count ∙ ap (map (λ (n : Node). n.columns)) (take_all (length nodes) nodes (omega arith))

pub all_rows : (nodes : List Node) (world : List (List (List ℕ))) (tables : List table.Content) (over : Option ℕ) → first_bound nodes ≡ None → IsPlain nodes world tables over
    → map (λ (t : table.Content). t.rows) tables ≡ meanings nodes world
all_rows nodes world tables over none plain =
    let count : length tables ≡ length nodes = all_nodes nodes (meanings nodes world) (length tables) over none plain.ends in
    let full : length (meanings nodes world) ≤ length tables = omega (arith, count, meanings_count [] world nodes) in
    plain.rows ∙ take_all (length tables) (meanings nodes world) full
