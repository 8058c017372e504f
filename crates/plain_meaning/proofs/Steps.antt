-- A walk over the nodes of a graph that makes their tables.
use Rattle.std.proofs.Common.{◌≡◌, ℕ, ◌+◌, ◌<◌, ◌≤◌, Bool, true, false, cond, ltb, List, [], ◌∷◌, ◌++◌, Option, Some, None, length, map, take, drop, get_or, refl, sym, ◌∙◌, ap, subst, arith}
use Rattle.std.specs.Prelude.{slice_get}
use Rattle.std.specs.List.{AllZip}
use Rattle.std.proofs.lemmas.Bool.Decides.{nat_tests}
use Rattle.std.proofs.lemmas.List.{append-nil, append_assoc, drop-drop, drop_all, drop_more, get_or_append_left, get_or_push, length-append, length-map, length-take-le, length-take, map_push, map_more, take_all, take_at}
use Rattle.std.proofs.lemmas.Option.{slice_get-get_or}
use Rattle.query_graph.specs.declared.node.Node.{Node}
use Rattle.query_graph.specs.declared.operator.Operator.{Operator}
use Rattle.tables.specs.Content.{Content}
use Rattle.plain_operators.specs.Limits.{first_of}
use Rattle.plain_meaning.specs.Fits.{AreRowsOf, FitsRelation, IsWorldOf, relations}
use Rattle.query_graph.specs.Observers.{is_relation}
use Rattle.plain_meaning.specs.Meaning.{files_after, meanings, meanings_after, node_rows, rows_of}
use Rattle.plain_meaning.specs.Plain.{Ends, IsPlain, bound_of, is_over, limit_of, listed}

-- the rows of the first nodes stand first
pub front : (earlier files : List (List (List ℕ))) (nodes : List Node) → (rest : List (List (List ℕ))) × (meanings_after earlier files nodes ≡ earlier ++ rest)
front earlier files [] = ([], sym (append-nil earlier))
front earlier files (n ∷ nodes) =
    let rows = node_rows n.shape (get_or files 0 []) earlier in
    let later = front (earlier ++ rows ∷ []) (files_after n.shape files) nodes in
    (rows ∷ later.0, later.1 ∙ append_assoc earlier (rows ∷ []) later.0)

-- listing no more than one row above the bound tells whether it is kept, and then all rows are listed
over_taken : (k : ℕ) (rows : List (List ℕ)) → ltb k (length (take (k + 1) rows)) ≡ ltb k (length rows)
over_taken k rows = let long = length-take (k + 1) rows in grind (arith, nat_tests)

over_first : (bound : Option ℕ) (rows : List (List ℕ)) → is_over bound (first_of (limit_of bound) rows) ≡ is_over bound rows
over_first None rows = refl
over_first (Some k) rows = over_taken k rows

pub over_listed : (shape : Operator) (rows : List (List ℕ)) → is_over (bound_of shape) (listed shape rows) ≡ is_over (bound_of shape) rows
over_listed shape rows = over_first (bound_of shape) rows

all_first : (bound : Option ℕ) (rows : List (List ℕ)) → is_over bound rows ≡ false → first_of (limit_of bound) rows ≡ rows
all_first None rows within = refl
all_first (Some k) rows within = let short : length rows ≤ k = grind (arith, nat_tests) in take_all (k + 1) rows (omega arith)

pub all_listed : (shape : Operator) (rows : List (List ℕ)) → is_over (bound_of shape) rows ≡ false → listed shape rows ≡ rows
all_listed shape rows within = all_first (bound_of shape) rows within

-- what a relation takes, and what is left for the others
pub first_file : (n : Node) (nodes : List Node) (files : List (List (List ℕ))) → IsWorldOf (n ∷ nodes) files → is_relation n.shape ≡ true → FitsRelation files (length n.columns)
first_file n nodes files world is = by files (subst (λ b. AllZip AreRowsOf (cond b (n ∷ relations nodes) (relations nodes)) files) is world)
  where
    by : (files : List (List (List ℕ))) → AllZip AreRowsOf (n ∷ relations nodes) files → FitsRelation files (length n.columns)
    by [] h = absurd h
    by (rows ∷ files) h = record { some = omega arith; wide = h.0.wide }

pub other_files : (n : Node) (nodes : List Node) (files : List (List (List ℕ))) → IsWorldOf (n ∷ nodes) files → IsWorldOf nodes (files_after n.shape files)
other_files n nodes files world = by (is_relation n.shape) files world
  where
    by : (b : Bool) (files : List (List (List ℕ))) → AllZip AreRowsOf (cond b (n ∷ relations nodes) (relations nodes)) files → AllZip AreRowsOf (relations nodes) (cond b (drop 1 files) files)
    by true [] h = absurd h
    by true (rows ∷ files) h = h.1
    by false files h = h

-- the number of the next relation
abbrev pub next : Operator → ℕ → ℕ
next shape relation = cond (is_relation shape) (relation + 1) relation

pub next_files : (shape : Operator) (world : List (List (List ℕ))) (relation : ℕ) → drop (next shape relation) world ≡ files_after shape (drop relation world)
next_files shape world relation = by (is_relation shape)
  where
    by : (b : Bool) → drop (cond b (relation + 1) relation) world ≡ cond b (drop 1 (drop relation world)) (drop relation world)
    by true = sym (drop-drop 1 relation world)
    by false = refl

abbrev pub listed_rows : List Content → List (List (List ℕ))
listed_rows tables = map (λ t. t.rows) tables

-- the tables of the first nodes, each within its bound
pub record Walks (nodes : List Node) (world : List (List (List ℕ))) (i : ℕ) (tables : List Content) (relation : ℕ) : Type 0 where
  pub few : relation ≤ i
  pub rows : meanings_after (listed_rows tables) (drop relation world) (drop i nodes) ≡ meanings nodes world
  pub columns : map (λ t. t.columns) tables ≡ map (λ n. n.columns) (take i nodes)
  pub files : IsWorldOf (drop i nodes) (drop relation world)
  pub within : (k : ℕ) (n : Node) → k < i → slice_get nodes k ≡ Some n → is_over (bound_of n.shape) (rows_of (listed_rows tables) k) ≡ false

module _ (nodes : List Node) (world : List (List (List ℕ))) (i : ℕ) (tables : List Content) (relation : ℕ) (walked : Walks nodes world i tables relation) where
  count : i ≤ length nodes → length tables ≡ i
  count short = sym (length-map tables (λ t. t.columns)) ∙ ap length walked.columns ∙ length-map (take i nodes) (λ n. n.columns) ∙ length-take-le i nodes short

  -- the tables are those of the first nodes, whatever comes behind them
  module _ (short : i ≤ length nodes) (rest : List (List (List ℕ))) (is : meanings nodes world ≡ listed_rows tables ++ rest) where
    long : length (listed_rows tables) ≡ length tables
    long = length-map tables (λ t. t.rows)

    pub first_rows : listed_rows tables ≡ take (length tables) (meanings nodes world)
    first_rows = sym (ap (take (length tables)) is ∙ take_at (listed_rows tables) rest (length tables) long)

    pub same_rows : (k : ℕ) → k < length tables → rows_of (meanings nodes world) k ≡ rows_of (listed_rows tables) k
    same_rows k below = ap (λ l. get_or l k []) is ∙ get_or_append_left (listed_rows tables) rest [] k (omega (arith, long))

    pub ended : (over : Option ℕ) → Ends nodes (meanings nodes world) (length tables) over → IsPlain nodes world tables over
    ended over ends = record {
      rows = first_rows;
      columns = walked.columns ∙ ap (λ n. map (λ n. n.columns) (take n nodes)) (sym (count short));
      within = λ k n below at. ap (is_over (bound_of n.shape)) (same_rows k below) ∙ walked.within k n (omega (arith, count short)) at;
      ends = ends;
    }

  -- all nodes
  pub walked_all : length nodes ≤ i → i ≤ length nodes → IsPlain nodes world tables None
  walked_all all short =
      let is : meanings nodes world ≡ listed_rows tables ++ [] = sym walked.rows ∙ ap (meanings_after (listed_rows tables) (drop relation world)) (drop_all i nodes all) ∙ sym (append-nil (listed_rows tables)) in
      ended short [] is None (omega (arith, count short))

  module _ (n : Node) (below : i < length nodes) (at : get_or nodes i n ≡ n) where
    pub here : slice_get nodes i ≡ Some n
    here = slice_get-get_or nodes i n below ∙ ap Some at

    left : drop i nodes ≡ n ∷ drop (i + 1) nodes
    left = drop_more nodes i n below ∙ ap (λ m. m ∷ drop (i + 1) nodes) at

    files_here : IsWorldOf (n ∷ drop (i + 1) nodes) (drop relation world)
    files_here = subst (λ l. IsWorldOf l (drop relation world)) left walked.files

    pub walked_first : is_relation n.shape ≡ true → FitsRelation (drop relation world) (length n.columns)
    walked_first = first_file n (drop (i + 1) nodes) (drop relation world) files_here

    rows_here : List (List ℕ)
    rows_here = node_rows n.shape (get_or (drop relation world) 0 []) (listed_rows tables)

    after : meanings nodes world ≡ meanings_after (listed_rows tables ++ rows_here ∷ []) (files_after n.shape (drop relation world)) (drop (i + 1) nodes)
    unfolding rows_here
    after = sym walked.rows ∙ ap (meanings_after (listed_rows tables) (drop relation world)) left

    -- a node over its bound ends the tables
    pub walked_over : (table : Content) → table.rows ≡ listed n.shape (node_rows n.shape (get_or (drop relation world) 0 []) (listed_rows tables)) → is_over (bound_of n.shape) table.rows ≡ true
        → IsPlain nodes world tables (Some i)
    unfolding rows_here
    walked_over table made over =
        let later = front (listed_rows tables ++ rows_here ∷ []) (files_after n.shape (drop relation world)) (drop (i + 1) nodes) in
        let is : meanings nodes world ≡ listed_rows tables ++ (rows_here ∷ later.0) = after ∙ later.1 ∙ append_assoc (listed_rows tables) (rows_here ∷ []) later.0 in
        let short : i ≤ length nodes = omega arith in
        let many : length (listed_rows tables) ≡ i = length-map tables (λ t. t.rows) ∙ count short in
        let own : rows_of (meanings nodes world) i ≡ rows_here = ap (λ l. get_or l i []) (after ∙ later.1) ∙ get_or_append_left (listed_rows tables ++ rows_here ∷ []) later.0 [] i (omega (arith, length-append (listed_rows tables) (rows_here ∷ []), many)) ∙ get_or_push (listed_rows tables) rows_here [] i many in
        let is_so : is_over (bound_of n.shape) (rows_of (meanings nodes world) i) ≡ true = ap (is_over (bound_of n.shape)) own ∙ sym (over_listed n.shape rows_here) ∙ ap (is_over (bound_of n.shape)) (sym made) ∙ over in
        ended short (rows_here ∷ later.0) is (Some i) (sym (count short), (n, here, is_so))

    -- a node within its bound adds its table
    pub walked_on : (table : Content) → table.columns ≡ n.columns → table.rows ≡ listed n.shape (node_rows n.shape (get_or (drop relation world) 0 []) (listed_rows tables)) → is_over (bound_of n.shape) table.rows ≡ false
        → Walks nodes world (i + 1) (tables ++ table ∷ []) (next n.shape relation)
    unfolding rows_here
    walked_on table same made kept =
        let short : i ≤ length nodes = omega arith in
        let within : is_over (bound_of n.shape) rows_here ≡ false = sym (over_listed n.shape rows_here) ∙ ap (is_over (bound_of n.shape)) (sym made) ∙ kept in
        let all : table.rows ≡ rows_here = made ∙ all_listed n.shape rows_here within in
        let more : listed_rows (tables ++ table ∷ []) ≡ listed_rows tables ++ rows_here ∷ [] = map_push (λ t. t.rows) tables table ∙ ap (λ r. listed_rows tables ++ r ∷ []) all in
        let many : length (listed_rows tables) ≡ i = length-map tables (λ t. t.rows) ∙ count short in
        let files = next_files n.shape world relation in
        record {
          few = few_next (is_relation n.shape);
          rows = (λ k. meanings_after (more k) (files k) (drop (i + 1) nodes)) ∙ sym after;
          columns = map_push (λ t. t.columns) tables table ∙ (λ k. walked.columns k ++ same k ∷ []) ∙ ap (λ m. map (λ n. n.columns) (take i nodes) ++ m.columns ∷ []) (sym at) ∙ sym (map_more (λ n. n.columns) nodes i n below);
          files = subst (IsWorldOf (drop (i + 1) nodes)) (sym files) (other_files n (drop (i + 1) nodes) (drop relation world) files_here);
          within = old many more within;
        }
      where
        few_next : (b : Bool) → cond b (relation + 1) relation ≤ i + 1
        few_next true = let few = walked.few in omega arith
        few_next false = let few = walked.few in omega arith

        old : length (listed_rows tables) ≡ i → listed_rows (tables ++ table ∷ []) ≡ listed_rows tables ++ rows_here ∷ [] → is_over (bound_of n.shape) rows_here ≡ false
            → (k : ℕ) (m : Node) → k < i + 1 → slice_get nodes k ≡ Some m → is_over (bound_of m.shape) (rows_of (listed_rows (tables ++ table ∷ [])) k) ≡ false
        old many more within k m lower e = by (ltb k i) refl
          where
            by : (b : Bool) → ltb k i ≡ b → is_over (bound_of m.shape) (rows_of (listed_rows (tables ++ table ∷ [])) k) ≡ false
            by true d =
                let earlier : k < i = grind (arith, nat_tests) in
                ap (λ l. is_over (bound_of m.shape) (get_or l k [])) more ∙ ap (is_over (bound_of m.shape)) (get_or_append_left (listed_rows tables) (rows_here ∷ []) [] k (omega (arith, many))) ∙ walked.within k m earlier e
            by false d =
                let is : k ≡ i = grind (arith, nat_tests) in
                let found : slice_get nodes i ≡ Some m = subst (λ j. slice_get nodes j ≡ Some m) is e in
                let own = here in
                let same : m ≡ n = cc in
                ap (λ l. is_over (bound_of m.shape) (get_or l k [])) more ∙ ap (is_over (bound_of m.shape)) (get_or_push (listed_rows tables) rows_here [] k (many ∙ sym is)) ∙ ap (λ q. is_over (bound_of q.shape) rows_here) same ∙ within
