-- Tables of names find what the lists of nodes and columns do.
use mathlib.Core.Path.{fun_ext}
use Rattle.std.proofs.Common.{◌≡◌, ℕ, ◌+◌, ◌<◌, ◌≤◌, Bool, true, false, cond, not, ◌||◌, List, [], ◌∷◌, ◌++◌, Some, None, length, map, get_or, suc, refl, sym, ap, ◌∙◌, arith}
use Rattle.std.specs.Prelude.{Vec, nat_lt, position, slice_get, unwrap_or}
use Rattle.std.specs.List.{list_any, position_or_len, prefix_len}
use Rattle.std.specs.Option.{option_map_or}
use Rattle.std.specs.Str.{bytes_eq}
use Rattle.std.specs.declared.alloc.Global.{Global}
use Rattle.std.proofs.lemmas.Bool.Decides.{nat_tests}
use Rattle.std.proofs.lemmas.Cmp.{nat_list_eq_equiv}
use Rattle.std.proofs.lemmas.List.{map-append}
use Rattle.std.proofs.lemmas.Option.{slice_get-get_or, slice_get_past}
use Rattle.std.proofs.lemmas.List.Sums.{prefix_len-le-length}
use Rattle.words.specs.declared.column.Column.{Column}
use Rattle.words.specs.declared.column.Kind.TheVariants.{Num}
use Rattle.query_graph.specs.declared.node.Node.{Node}
use Rattle.query_graph.specs.Names.{column_kind, column_number, is_among, is_column, is_node, name_number, node_columns, node_number, node_rows}
use Rattle.query_graph.specs.Tables.{column_names}
use Rattle.query_graph.proofs.Places.{kind_at_number, rows_at_number}

-- ---- lists and the names in them

any_named : {A : Type 0} (text : A → List ℕ) (name : List ℕ) (xs : List A) → is_among (map text xs) name ≡ list_any (λ x. bytes_eq (text x) name) xs
any_named text name [] = refl
any_named text name (x ∷ xs) = ap (λ b. bytes_eq (text x) name || b) (any_named text name xs)

place_named : {A : Type 0} (text : A → List ℕ) (name : List ℕ) (xs : List A) → name_number (map text xs) name ≡ prefix_len (λ x. not (bytes_eq (text x) name)) xs
place_named text name [] = refl
place_named text name (x ∷ xs) = ap (λ k. cond (not (bytes_eq (text x) name)) (1 + k) 0) (place_named text name xs)

pub among_nodes : (nodes : List Node) (name : List ℕ) → is_among (map (λ (n : Node). n.name) nodes) name ≡ is_node nodes name
among_nodes nodes name = any_named (λ (n : Node). n.name) name nodes

pub number_of_node : (nodes : List Node) (name : List ℕ) → name_number (map (λ (n : Node). n.name) nodes) name ≡ node_number nodes name
number_of_node nodes name = place_named (λ (n : Node). n.name) name nodes

pub among_columns : (columns : List Column) (name : List ℕ) → is_among (column_names columns) name ≡ is_column columns name
among_columns columns name = any_named (λ (c : Column). c.name) name columns

pub number_of_column : (columns : List Column) (name : List ℕ) → name_number (column_names columns) name ≡ column_number columns name
number_of_column columns name = place_named (λ (c : Column). c.name) name columns

-- ---- a table's keys

pub any_key : (keys : List (Vec ℕ Global)) (asked name : List ℕ) → asked ≡ name
    → list_any (λ (key : Vec ℕ Global). bytes_eq asked key.items) keys ≡ is_among (map (λ (key : Vec ℕ Global). key.items) keys) name
any_key keys asked name same =
    ap (λ n. list_any (λ (key : Vec ℕ Global). bytes_eq n key.items) keys) same
    ∙ ap (λ test. list_any test keys) (fun_ext (λ (key : Vec ℕ Global). nat_list_eq_equiv.symm name key.items))
    ∙ sym (any_named (λ (key : Vec ℕ Global). key.items) name keys)

place_of_key : (keys : List (Vec ℕ Global)) (name : List ℕ)
    → position_or_len (λ (key : Vec ℕ Global). bytes_eq name key.items) keys ≡ name_number (map (λ (key : Vec ℕ Global). key.items) keys) name
place_of_key keys name =
    ap (λ test. position_or_len test keys) (fun_ext (λ (key : Vec ℕ Global). nat_list_eq_equiv.symm name key.items))
    ∙ sym (place_named (λ (key : Vec ℕ Global). key.items) name keys)

some_is : (b : Bool) (k i : ℕ) → Some i ≡ cond b (Some k) None → i ≡ k
some_is true k i is = ap (λ o. unwrap_or o i) is
some_is false k i is = absurd cc

none_is : (b : Bool) (k : ℕ) → None ≡ cond b (Some k) None → b ≡ false
none_is true k is = absurd cc
none_is false k is = refl

last_is : (k n : ℕ) → k ≤ n → nat_lt k n ≡ false → n ≡ k
last_is k n few past = grind (arith, nat_tests)

pub key_found : (keys : List (Vec ℕ Global)) (name : List ℕ) (i : ℕ) → Some i ≡ position (λ (key : Vec ℕ Global). bytes_eq name key.items) keys
    → i ≡ name_number (map (λ (key : Vec ℕ Global). key.items) keys) name
key_found keys name i is = some_is _ _ i is ∙ place_of_key keys name

pub key_missing : (keys : List (Vec ℕ Global)) (name : List ℕ) → None ≡ position (λ (key : Vec ℕ Global). bytes_eq name key.items) keys
    → length keys ≡ name_number (map (λ (key : Vec ℕ Global). key.items) keys) name
key_missing keys name is =
    last_is _ _ (prefix_len-le-length (λ (key : Vec ℕ Global). not (bytes_eq name key.items)) keys) (none_is _ _ is) ∙ place_of_key keys name

-- ---- what stands at a name's number

columns_step : (b : Bool) (n : Node) (nodes : List Node) (columns : List Column) (k : ℕ) → columns ≡ option_map_or (λ (m : Node). m.columns) (slice_get nodes k) []
    → cond b n.columns columns ≡ option_map_or (λ (m : Node). m.columns) (slice_get (n ∷ nodes) (cond (not b) (1 + k) 0)) []
columns_step true n nodes columns k rest = refl
columns_step false n nodes columns k rest = rest ∙ ap (λ j. option_map_or (λ (m : Node). m.columns) (slice_get (n ∷ nodes) j) []) (one_more k)
  where
    one_more : (k : ℕ) → suc k ≡ 1 + k
    one_more k = omega arith

columns_at_number : (nodes : List Node) (name : List ℕ) → node_columns nodes name ≡ option_map_or (λ (m : Node). m.columns) (slice_get nodes (node_number nodes name)) []
columns_at_number [] name = refl
columns_at_number (n ∷ nodes) name =
    columns_step (bytes_eq n.name name) n nodes (node_columns nodes name) (node_number nodes name) (columns_at_number nodes name)

there : {A : Type 0} (xs : List A) (i : ℕ) (x : A) → i < length xs → x ≡ get_or xs i x → slice_get xs i ≡ Some x
there xs i x within is = slice_get-get_or xs i x within ∙ ap Some (sym is)

module _ (nodes : List Node) (name : List ℕ) (i : ℕ) (place : i ≡ node_number nodes name) where
  pub columns_found : (n : Node) → i < length nodes → n ≡ get_or nodes i n → n.columns ≡ node_columns nodes name
  columns_found n within is =
      ap (λ o. option_map_or (λ (m : Node). m.columns) o []) (sym (there nodes i n within is) ∙ ap (slice_get nodes) place) ∙ sym (columns_at_number nodes name)

  pub columns_missing : length nodes ≤ i → [] ≡ node_columns nodes name
  columns_missing past =
      ap (λ o. option_map_or (λ (m : Node). m.columns) o []) (sym (slice_get_past nodes i past) ∙ ap (slice_get nodes) place) ∙ sym (columns_at_number nodes name)

  pub rows_found : (n : Node) → i < length nodes → n ≡ get_or nodes i n → n.rows ≡ node_rows nodes name
  rows_found n within is =
      ap (λ o. option_map_or (λ (m : Node). m.rows) o 0) (sym (there nodes i n within is) ∙ ap (slice_get nodes) place) ∙ sym (rows_at_number nodes name)

  pub rows_missing : length nodes ≤ i → 0 ≡ node_rows nodes name
  rows_missing past =
      ap (λ o. option_map_or (λ (m : Node). m.rows) o 0) (sym (slice_get_past nodes i past) ∙ ap (slice_get nodes) place) ∙ sym (rows_at_number nodes name)

module _ (columns : List Column) (name : List ℕ) (i : ℕ) (place : i ≡ column_number columns name) where
  pub kind_found : (c : Column) → i < length columns → c ≡ get_or columns i c → c.kind ≡ column_kind columns name
  kind_found c within is =
      ap (λ o. option_map_or (λ (d : Column). d.kind) o Num) (sym (there columns i c within is) ∙ ap (slice_get columns) place) ∙ sym (kind_at_number columns name)

  pub kind_missing : length columns ≤ i → Num ≡ column_kind columns name
  kind_missing past =
      ap (λ o. option_map_or (λ (d : Column). d.kind) o Num) (sym (slice_get_past columns i past) ∙ ap (slice_get columns) place) ∙ sym (kind_at_number columns name)

-- ---- with a new node

pub names_with : (names after : List (List ℕ)) (nodes : List Node) (n : Node) (new : Bool) → names ≡ map (λ (m : Node). m.name) nodes → is_node nodes n.name ≡ false
    → new ≡ not (is_among names n.name) → after ≡ cond new (names ++ n.name ∷ []) names → after ≡ map (λ (m : Node). m.name) (nodes ++ n ∷ [])
names_with names after nodes n new has absent tells added =
    let yes : new ≡ true = tells ∙ ap not (ap (λ all. is_among all n.name) has ∙ (among_nodes nodes n.name ∙ absent)) in
    added ∙ (ap (λ b. cond b (names ++ n.name ∷ []) names) yes
    ∙ (ap (λ all. all ++ n.name ∷ []) has ∙ sym (map-append (λ (m : Node). m.name) nodes (n ∷ []))))

pub columns_with : (tables : List (List (List ℕ))) (nodes : List Node) (n : Node) (columns : List (List ℕ)) → tables ≡ map (λ (m : Node). column_names m.columns) nodes
    → columns ≡ column_names n.columns → tables ++ columns ∷ [] ≡ map (λ (m : Node). column_names m.columns) (nodes ++ n ∷ [])
columns_with tables nodes n columns has named =
    ap (λ all. all ++ columns ∷ []) has ∙ (ap (λ c. map (λ (m : Node). column_names m.columns) nodes ++ c ∷ []) named
    ∙ sym (map-append (λ (m : Node). column_names m.columns) nodes (n ∷ [])))
