-- The rows of every node of a graph: how wide, how many and how large they are.
use Rattle.std.proofs.Common.{◌≡◌, ℕ, zero, suc, ◌+◌, ◌<◌, ◌≤◌, Bool, true, false, cond, ltb, List, [], ◌∷◌, ◌++◌, Option, Some, None, length, take, drop, get_or, add-zero, refl, sym, ◌∙◌, ap, subst, arith, inl, inr}
use Rattle.std.specs.Prelude.{slice_get}
use Rattle.std.specs.List.{All, AllZip}
use Rattle.std.proofs.lemmas.Bool.{cases_lt}
use Rattle.std.proofs.lemmas.Bool.Decides.{nat_tests}
use Rattle.std.proofs.lemmas.List.{append-nil, drop_all, drop_more, get_or-drop, get_or_append_left, get_or_past, get_or_push, length_push, take_at, take_more}
use Rattle.std.proofs.lemmas.List.Elements.{All-get_or, All-nil, filter-append}
use Rattle.std.proofs.lemmas.Option.{get_or_from_slice_get, slice_get-get_or, slice_get_within}
use Rattle.query_graph.specs.IsGraph as graph
use Rattle.query_graph.specs.declared.node.Node.{Node}
use Rattle.plain_operators.specs.Sizes.{AllWide, IsOfWords}
use Rattle.plain_meaning.specs.Fits.{AreRowsOf, FitsEarlier, IsWorldOf, relations, widths_before}
use Rattle.plain_meaning.specs.Laws.{FirstKeepBounds, KeepBounds, NodesAreOfWords, NodesAreWide, NodesFitEarlier, NodesKeepSizes, NodesMeanOperators, relations_before}
use Rattle.query_graph.specs.Observers.{is_relation}
use Rattle.plain_meaning.specs.Meaning.{files_after, meanings, meanings_after, node_rows, rows_of}
use Rattle.plain_meaning.proofs.FitsNode.{fits_before, length-widths_before, width_before}
use Rattle.plain_meaning.proofs.NodeRows.{RowLaws, length-node_rows, node_rows-AllWide, node_rows-IsOfWords}
use Rattle.plain_meaning.proofs.Steps.{first_file, front, next, next_files, other_files}

-- the first of the files that are left is a relation's
first_few : (n : Node) (nodes : List Node) (files : List (List (List ℕ))) → IsWorldOf (n ∷ nodes) files → is_relation n.shape ≡ true → length (get_or files 0 []) ≤ n.rows
first_few n nodes files world is = by files (subst (λ b. AllZip AreRowsOf (cond b (n ∷ relations nodes) (relations nodes)) files) is world)
  where
    by : (files : List (List (List ℕ))) → AllZip AreRowsOf (n ∷ relations nodes) files → length (get_or files 0 []) ≤ n.rows
    by [] h = absurd h
    by (rows ∷ files) h = h.0.few

first_words : (n : Node) (nodes : List Node) (files : List (List (List ℕ))) → IsWorldOf (n ∷ nodes) files → is_relation n.shape ≡ true → All IsOfWords (get_or files 0 [])
first_words n nodes files world is = by files (subst (λ b. AllZip AreRowsOf (cond b (n ∷ relations nodes) (relations nodes)) files) is world)
  where
    by : (files : List (List (List ℕ))) → AllZip AreRowsOf (n ∷ relations nodes) files → All IsOfWords (get_or files 0 [])
    by [] h = absurd h
    by (rows ∷ files) h = h.0.words

module _ (laws : RowLaws) (nodes : List Node) (world : List (List (List ℕ))) (are_nodes : (i : ℕ) (n : Node) → slice_get nodes i ≡ Some n → graph.IsNode nodes i n) where
  -- what is shown of a node with its number and of its rows
  pub record Shown (i : ℕ) (n : Node) (rows : List (List ℕ)) : Type 0 where
    pub meant : rows ≡ node_rows n.shape (rows_of world (relations_before nodes i)) (take i (meanings nodes world))
    pub wide : AllWide (length n.columns) rows
    pub few : FirstKeepBounds nodes world (i + 1) → length rows ≤ n.rows
    pub words : FirstKeepBounds nodes world i → All IsOfWords rows

  -- the rows of the first nodes
  record Reached (relation : ℕ) (earlier : List (List (List ℕ))) : Type 0 where
    before : relation ≡ relations_before nodes (length earlier)
    all : meanings_after earlier (drop relation world) (drop (length earlier) nodes) ≡ meanings nodes world
    files : IsWorldOf (drop (length earlier) nodes) (drop relation world)
    shown : (k : ℕ) (n : Node) → k < length earlier → slice_get nodes k ≡ Some n → Shown k n (rows_of earlier k)

  fewer : (count more : ℕ) → count ≤ more → FirstKeepBounds nodes world more → FirstKeepBounds nodes world count
  fewer count more below bounds k n lower is = bounds k n (omega arith) is

  -- the node behind the first ones
  module _ (relation : ℕ) (earlier : List (List (List ℕ))) (reached : Reached relation earlier) (n : Node) (is : slice_get nodes (length earlier) ≡ Some n) where
    rows : List (List ℕ)
    rows = node_rows n.shape (get_or (drop relation world) 0 []) earlier

    below : length earlier < length nodes
    below = slice_get_within nodes (length earlier) n is

    short : length earlier ≤ length nodes
    short = let inside = below in omega arith

    left : drop (length earlier) nodes ≡ n ∷ drop (length earlier + 1) nodes
    left = drop_more nodes (length earlier) n below ∙ ap (λ m. m ∷ drop (length earlier + 1) nodes) (get_or_from_slice_get nodes (length earlier) n n is)

    files_here : IsWorldOf (n ∷ drop (length earlier + 1) nodes) (drop relation world)
    files_here = subst (λ l. IsWorldOf l (drop relation world)) left reached.files

    fits : FitsEarlier (drop relation world) (widths_before nodes (length earlier)) (length n.columns) n.shape
    fits = fits_before nodes (length earlier) short (drop relation world) n (first_file n (drop (length earlier + 1) nodes) (drop relation world) files_here) (are_nodes (length earlier) n is)

    -- a source of the node
    source_shown : (s : ℕ) → s < length (widths_before nodes (length earlier)) → (m : Node) × (s < length earlier) × (slice_get nodes s ≡ Some m) × Shown s m (rows_of earlier s)
    source_shown s inside =
        let lower : s < length earlier = omega (arith, length-widths_before nodes (length earlier) short, inside) in
        let in_nodes : s < length nodes = omega (arith, below) in
        let found = slice_get-get_or nodes s n in_nodes in
        (get_or nodes s n, lower, found, reached.shown s (get_or nodes s n) lower found)

    first_rows : take (length earlier) (meanings nodes world) ≡ earlier
    first_rows =
        let later = front earlier (drop relation world) (drop (length earlier) nodes) in
        ap (take (length earlier)) (sym reached.all ∙ later.1) ∙ take_at earlier later.0 (length earlier) refl

    own_file : get_or (drop relation world) 0 [] ≡ rows_of world (relations_before nodes (length earlier))
    own_file = get_or-drop relation world 0 [] ∙ ap (rows_of world) (add-zero relation ∙ reached.before)

    before_next : next n.shape relation ≡ relations_before nodes (length earlier + 1)
    before_next =
        let more = take_more nodes (length earlier) n below ∙ ap (λ m. take (length earlier) nodes ++ m ∷ []) (get_or_from_slice_get nodes (length earlier) n n is) in
        let kept = filter-append (λ (m : Node). is_relation m.shape) (take (length earlier) nodes) (n ∷ []) in
        by (is_relation n.shape) ∙ sym (ap length (ap relations more ∙ kept))
      where
        by : (b : Bool) → cond b (relation + 1) relation ≡ length (relations (take (length earlier) nodes) ++ cond b (n ∷ []) [])
        by true = ap (λ r. r + 1) reached.before ∙ sym (length_push (relations (take (length earlier) nodes)) n)
        by false = reached.before ∙ ap length (sym (append-nil (relations (take (length earlier) nodes))))

    own : rows_of (meanings nodes world) (length earlier) ≡ rows
    unfolding rows
    own =
        let later = front (earlier ++ rows ∷ []) (files_after n.shape (drop relation world)) (drop (length earlier + 1) nodes) in
        let all = sym reached.all ∙ ap (meanings_after earlier (drop relation world)) left ∙ later.1 in
        let long = length_push earlier rows in
        ap (λ l. rows_of l (length earlier)) all ∙ get_or_append_left (earlier ++ rows ∷ []) later.0 [] (length earlier) (omega (arith, long)) ∙ get_or_push earlier rows [] (length earlier) refl

    node_shown : Shown (length earlier) n rows
    unfolding rows
    node_shown = record {
      meant = λ k. node_rows n.shape (own_file k) (sym first_rows k);
      wide = node_rows-AllWide laws (drop relation world) (widths_before nodes (length earlier)) (length n.columns) earlier
          (λ s inside. let source = source_shown s inside in subst (λ w. AllWide w (rows_of earlier s)) (sym (width_before nodes (length earlier) short s source.0 source.1 source.2)) source.3.wide) n.shape fits;
      few = λ bounds. length-node_rows laws nodes (length earlier) short (get_or (drop relation world) 0 []) earlier
          (λ s m lower found. (reached.shown s m lower found).few (fewer (s + 1) (length earlier + 1) (omega arith) bounds)) n n.shape (are_nodes (length earlier) n is).sources
          (first_few n (drop (length earlier + 1) nodes) (drop relation world) files_here) (subst (KeepBounds n.shape) own (bounds (length earlier) n (omega arith) is));
      words = λ bounds. node_rows-IsOfWords laws nodes (length earlier) short n (drop relation world) (widths_before nodes (length earlier)) (length n.columns) earlier
          (λ s inside.
          let source = source_shown s inside in
          let lower = source.1 in
          let few = source.3.few (fewer (s + 1) (length earlier) (omega arith) bounds) in
          let limited = (are_nodes s source.0 source.2).few_rows in
          (omega (arith, few, limited), source.3.words (fewer s (length earlier) (omega arith) bounds))) n.shape (are_nodes (length earlier) n is).sources fits
          (first_words n (drop (length earlier + 1) nodes) (drop relation world) files_here);
    }

    reached_on : Reached (next n.shape relation) (earlier ++ rows ∷ [])
    unfolding rows
    reached_on =
        let long = length_push earlier rows in
        let after = next_files n.shape world relation in
        let all : meanings_after (earlier ++ rows ∷ []) (files_after n.shape (drop relation world)) (drop (length earlier + 1) nodes) ≡ meanings nodes world = sym (ap (meanings_after earlier (drop relation world)) left) ∙ reached.all in
        record {
          before = before_next ∙ ap (relations_before nodes) (sym long);
          all = (λ k. meanings_after (earlier ++ rows ∷ []) (after k) (drop (long k) nodes)) ∙ all;
          files = subst (λ m. IsWorldOf (drop m nodes) (drop (next n.shape relation) world)) (sym long) (subst (IsWorldOf (drop (length earlier + 1) nodes)) (sym after) (other_files n (drop (length earlier + 1) nodes) (drop relation world) files_here));
          shown = λ k m lower found. by k m lower found (ltb k (length earlier)) refl;
        }
      where
        by : (k : ℕ) (m : Node) → k < length (earlier ++ rows ∷ []) → slice_get nodes k ≡ Some m → (b : Bool) → ltb k (length earlier) ≡ b → Shown k m (rows_of (earlier ++ rows ∷ []) k)
        by k m lower found true d =
            let inside : k < length earlier = grind (arith, nat_tests) in
            subst (Shown k m) (sym (get_or_append_left earlier (rows ∷ []) [] k inside)) (reached.shown k m inside found)
        by k m lower found false d =
            let long = length_push earlier rows in
            let past : length earlier ≤ k = grind (arith, nat_tests) in
            let last : k ≡ length earlier = omega (arith, long) in
            let here : slice_get nodes (length earlier) ≡ Some m = subst (λ j. slice_get nodes j ≡ Some m) last found in
            let same : n ≡ m = cc in
            let at : rows_of (earlier ++ rows ∷ []) k ≡ rows = get_or_push earlier rows [] k (sym last) in
            subst (Shown k m) (sym at) (subst (λ j. Shown j m rows) (sym last) (subst (λ q. Shown (length earlier) q rows) same node_shown))

  -- all nodes
  shown_after : (left relation : ℕ) (earlier : List (List (List ℕ))) → length earlier + left ≡ length nodes → Reached relation earlier → (k : ℕ) (n : Node) → slice_get nodes k ≡ Some n → Shown k n (rows_of (meanings nodes world) k)
  unfolding rows
  shown_after zero relation earlier count reached k n is =
      let inside = slice_get_within nodes k n is in
      let none = drop_all (length earlier) nodes (omega (arith, count)) in
      let all : meanings nodes world ≡ earlier = sym reached.all ∙ ap (meanings_after earlier (drop relation world)) none in
      subst (λ l. Shown k n (rows_of l k)) (sym all) (reached.shown k n (omega (arith, count, inside)) is)
  shown_after (suc more) relation earlier count reached k n is = by (λ relation earlier count reached. shown_after more relation earlier count reached k n is) (slice_get nodes (length earlier)) refl
    where
      by : ((relation : ℕ) (earlier : List (List (List ℕ))) → length earlier + more ≡ length nodes → Reached relation earlier → Shown k n (rows_of (meanings nodes world) k))
          → (o : Option Node) → slice_get nodes (length earlier) ≡ o → Shown k n (rows_of (meanings nodes world) k)
      by rest None e =
          let below : length earlier < length nodes = omega (arith, count) in
          let found = slice_get-get_or nodes (length earlier) n below in
          cc
      by rest (Some m) e =
          let long = length_push earlier (node_rows m.shape (get_or (drop relation world) 0 []) earlier) in
          rest (next m.shape relation) (earlier ++ node_rows m.shape (get_or (drop relation world) 0 []) earlier ∷ []) (omega (arith, long, count)) (reached_on relation earlier reached m e)

  pub shown_all : IsWorldOf nodes world → (k : ℕ) (n : Node) → slice_get nodes k ≡ Some n → Shown k n (rows_of (meanings nodes world) k)
  shown_all fits = shown_after (length nodes) 0 [] (omega arith) (record { before = refl; all = refl; files = fits; shown = λ k n lower is. absurd (omega arith) })

pub nodes_mean_operators : RowLaws → NodesMeanOperators
nodes_mean_operators laws graph world i node h = (shown_all laws graph.nodes world h.is_graph.nodes h.is_world i node h.is_node).meant

pub nodes_fit_earlier : NodesFitEarlier
nodes_fit_earlier graph i node files is_graph at first =
    let below = slice_get_within graph.nodes i node at in
    fits_before graph.nodes i (omega arith) files node first (is_graph.nodes i node at)

pub nodes_are_wide : RowLaws → NodesAreWide
nodes_are_wide laws graph world i node h = (shown_all laws graph.nodes world h.is_graph.nodes h.is_world i node h.is_node).wide

pub nodes_keep_sizes : RowLaws → NodesKeepSizes
nodes_keep_sizes laws graph world i node h = (shown_all laws graph.nodes world h.is_graph.nodes h.is_world i node h.is_node).few

pub nodes_are_of_words : RowLaws → NodesAreOfWords
nodes_are_of_words laws graph world i node h = (shown_all laws graph.nodes world h.is_graph.nodes h.is_world i node h.is_node).words
