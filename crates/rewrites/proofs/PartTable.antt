-- The rows of one part of a node that is split, from a part of one of its sources.
use Rattle.std.proofs.Common.{◌≡◌, ◌≢◌, ℕ, zero, suc, ◌-◌, ◌<◌, ◌≤◌, Bool, true, false, cond, ltb, List, [], ◌∷◌, ◌++◌, Some, None, length, map, take, get_or, refl, sym, ◌∙◌, ap, subst, arith}
use Rattle.std.specs.Prelude.{slice_get}
use Rattle.std.specs.List.{All, Contains, flat_map}
use Rattle.std.proofs.lemmas.Bool.Decides.{nat_tests}
use Rattle.std.proofs.lemmas.List.{append-nil, get_or-append_right, get_or-take, get_or_append_left, length-append}
use Rattle.std.proofs.lemmas.List.Elements.{All-head, All-tail}
use Rattle.std.proofs.lemmas.Option.{slice_get-get_or, slice_get_within}
use Rattle.query_graph.specs.declared.node.Node.{Node}
use Rattle.query_graph.specs.declared.operator.Concat.{Concat}
use Rattle.query_graph.specs.declared.operator.Filter.{Filter}
use Rattle.query_graph.specs.declared.operator.Operator.TheVariants as operators
use Rattle.query_graph.specs.declared.operator.Select.{Select}
use Rattle.query_graph.specs.Content.{Content}
use Rattle.query_graph.specs.IsGraph.{IsGraph}
use Rattle.query_graph.specs.NodeSizes.{NodesAreWritten}
use Rattle.query_graph.specs.Observers.{sources_of}
use Rattle.plain_operators.specs.Items.{holds_of, item_word}
use Rattle.plain_operators.specs.Operators.{kept_rows, rows_of_items}
use Rattle.plain_meaning.specs.Convert.{item_of, test_of}
use Rattle.plain_meaning.specs.Meaning.{rows_of}
use Rattle.rewrites.specs.declared.part.Part.{Part}
use Rattle.rewrites.specs.Parts.{only_place, parts_at, parts_of}
use Rattle.rewrites.specs.PartRows.{divided, part_rows, pieces_at, pieces_of, pushed_rows, source_pieces}
use Rattle.rewrites.specs.PartTables.{place_of_part}
use Rattle.rewrites.proofs.PartCases.{IsPushed, is_split}
use Rattle.rewrites.proofs.Pieces.{pieces_count, pieces_here}
use Rattle.rewrites.proofs.Values.{taken_at}

-- ---- parts that aren't one

several : (parts : List Part) → length parts ≢ 1 → only_place parts ≡ None
several [] ne = refl
several (part ∷ []) ne = absurd (ne refl)
several (part ∷ other ∷ parts) ne = refl

not_divided : (parts : List Part) (rows : List (List ℕ)) (pieces : List (List (List ℕ))) → length parts ≢ 1 → divided parts rows pieces ≡ pieces
not_divided [] rows pieces ne = refl
not_divided (part ∷ []) rows pieces ne = absurd (ne refl)
not_divided (part ∷ other ∷ parts) rows pieces ne = refl

one_divided : (parts : List Part) (rows : List (List ℕ)) (pieces : List (List (List ℕ))) → length parts ≡ 1 → divided parts rows pieces ≡ rows ∷ []
one_divided [] rows pieces one = absurd (omega arith)
one_divided (part ∷ []) rows pieces one = refl
one_divided (part ∷ other ∷ parts) rows pieces one = absurd (omega arith)

-- a map of pieces that keeps the empty one, at any place
mapped_at : (f : List (List ℕ) → List (List ℕ)) → f [] ≡ [] → (pieces : List (List (List ℕ))) (k : ℕ) → rows_of (map f pieces) k ≡ f (rows_of pieces k)
mapped_at f none [] k = sym none
mapped_at f none (rows ∷ pieces) zero = refl
mapped_at f none (rows ∷ pieces) (suc k) = mapped_at f none pieces k

-- ---- where a part of a concat lies

pub record Lies (parts : List (List Part)) (pieces : List (List (List (List ℕ)))) (sources : List ℕ) (part i source place : ℕ) : Type 0 where
  pub lower : source < i
  pub within : place < length (parts_at parts source)
  pub among : Contains sources source
  pub rows : rows_of (flat_map (pieces_at pieces) sources) part ≡ rows_of (pieces_at pieces source) place

module _ (i : ℕ) (parts : List (List Part)) (pieces : List (List (List (List ℕ)))) where
  pub lies : (sources : List ℕ) (part : ℕ) → All (λ s. s < i) sources → ((s : ℕ) → s < i → length (pieces_at pieces s) ≡ length (parts_at parts s)) → part < length (flat_map (parts_at parts) sources)
      → Lies parts pieces sources part i (place_of_part parts sources part).0 (place_of_part parts sources part).1
  lies [] part lower counts inside = absurd (omega arith)
  lies (s ∷ sources) part lower counts inside = by (ltb part (length (parts_at parts s))) refl (λ left within. lies sources left (All-tail (λ s. s < i) s sources lower) counts within)
    where
      below : s < i
      below = All-head (λ s. s < i) s sources lower

      by : (b : Bool) → ltb part (length (parts_at parts s)) ≡ b
          → ((left : ℕ) → left < length (flat_map (parts_at parts) sources) → Lies parts pieces sources left i (place_of_part parts sources left).0 (place_of_part parts sources left).1)
          → Lies parts pieces (s ∷ sources) part i (cond (ltb part (length (parts_at parts s))) (s, part) (place_of_part parts sources (part - length (parts_at parts s)))).0
          (cond (ltb part (length (parts_at parts s))) (s, part) (place_of_part parts sources (part - length (parts_at parts s)))).1
      by true is rest =
          let within : part < length (parts_at parts s) = grind (arith, nat_tests) in
          let many = counts s below in
          subst (λ b. Lies parts pieces (s ∷ sources) part i (cond b (s, part) (place_of_part parts sources (part - length (parts_at parts s)))).0 (cond b (s, part) (place_of_part parts sources (part - length (parts_at parts s)))).1) (sym is)
          (record { lower = below; within = within; among = (0, omega arith, refl); rows = get_or_append_left (pieces_at pieces s) (flat_map (pieces_at pieces) sources) [] part (omega arith) })
      by false is rest =
          let past : length (parts_at parts s) ≤ part = grind (arith, nat_tests) in
          let many = counts s below in
          let both = length-append (parts_at parts s) (flat_map (parts_at parts) sources) in
          let count = length (parts_at parts s) in
          let found = rest (part - count) (omega arith) in
          subst (λ b. Lies parts pieces (s ∷ sources) part i (cond b (s, part) (place_of_part parts sources (part - count))).0 (cond b (s, part) (place_of_part parts sources (part - count))).1) (sym is)
          (record { lower = found.lower; within = found.within; among = (suc found.among.0, omega (arith, found.among.1), found.among.2); rows = get_or-append_right (pieces_at pieces s) (flat_map (pieces_at pieces) sources) count part [] many past ∙ found.rows })

module _ (written : NodesAreWritten) (graph : Content) (is_graph : IsGraph graph) (i : ℕ) (n : Node) (at : slice_get graph.nodes i ≡ Some n) where
  lower_sources : All (λ s. s < i) (sources_of n.shape)
  lower_sources = written.sources graph i n (record { is_graph = is_graph; is_node = at })

  -- a part of the node is one of its sources' parts
  pub part_inside : length (parts_at (parts_of graph.nodes) i) ≢ 1 → (part : ℕ) → part < length (parts_at (parts_of graph.nodes) i) → part < length (flat_map (parts_at (parts_of graph.nodes)) (sources_of n.shape))
  part_inside ne part inside =
      let parts = parts_of graph.nodes in
      let split = is_split graph.nodes i n at (several (parts_at parts i) ne) in
      let same = split.same ∙ taken_at i parts parts_at (λ s below. get_or-take i parts s [] below) (sources_of n.shape) lower_sources in
      subst (λ l. part < length l) same inside

  pub pushed_here : length (parts_at (parts_of graph.nodes) i) ≢ 1 → IsPushed n.shape
  pushed_here ne = (is_split graph.nodes i n at (several (parts_at (parts_of graph.nodes) i) ne)).pushed

  module _ (rows : List (List (List ℕ))) (part : ℕ) where
    -- the rows of the only part
    pub only_rows : length (parts_at (parts_of graph.nodes) i) ≡ 1 → part < length (parts_at (parts_of graph.nodes) i) → part_rows graph.nodes rows i part ≡ rows_of rows i
    only_rows one inside =
        let first : part ≡ 0 = omega arith in
        let pushed = pushed_rows n.shape (source_pieces n.shape (take i (pieces_of graph.nodes rows))) in
        ap (λ l. rows_of l part) (pieces_here graph.nodes rows i n at ∙ one_divided (parts_at (parts_of graph.nodes) i) (rows_of rows i) pushed one) ∙ ap (rows_of (rows_of rows i ∷ [])) first

    -- of one among several
    pub split_rows : length (parts_at (parts_of graph.nodes) i) ≢ 1 → part_rows graph.nodes rows i part ≡ rows_of (pushed_rows n.shape (flat_map (pieces_at (pieces_of graph.nodes rows)) (sources_of n.shape))) part
    split_rows ne =
        let pieces = pieces_of graph.nodes rows in
        let pushed = pushed_rows n.shape (source_pieces n.shape (take i pieces)) in
        ap (λ l. rows_of l part) (pieces_here graph.nodes rows i n at ∙ not_divided (parts_at (parts_of graph.nodes) i) (rows_of rows i) pushed ne
        ∙ ap (pushed_rows n.shape) (taken_at i pieces pieces_at (λ s below. get_or-take i pieces s [] below) (sources_of n.shape) lower_sources))

    pub filter_rows : length (parts_at (parts_of graph.nodes) i) ≢ 1 → (f : Filter) → n.shape ≡ operators.Filter f → part_rows graph.nodes rows i part ≡ kept_rows (map holds_of (map test_of f.tests)) (part_rows graph.nodes rows f.source part)
    filter_rows ne f is =
        let pieces = pieces_of graph.nodes rows in
        let tests = map holds_of (map test_of f.tests) in
        split_rows ne ∙ ap (λ shape. rows_of (pushed_rows shape (flat_map (pieces_at pieces) (sources_of shape))) part) is
        ∙ mapped_at (kept_rows tests) refl (pieces_at pieces f.source ++ []) part ∙ ap (λ l. kept_rows tests (rows_of l part)) (append-nil (pieces_at pieces f.source))

    pub select_rows : length (parts_at (parts_of graph.nodes) i) ≢ 1 → (s : Select) → n.shape ≡ operators.Select s → part_rows graph.nodes rows i part ≡ rows_of_items (map item_word (map item_of s.items)) (part_rows graph.nodes rows s.source part)
    select_rows ne s is =
        let pieces = pieces_of graph.nodes rows in
        let words = map item_word (map item_of s.items) in
        split_rows ne ∙ ap (λ shape. rows_of (pushed_rows shape (flat_map (pieces_at pieces) (sources_of shape))) part) is
        ∙ mapped_at (rows_of_items words) refl (pieces_at pieces s.source ++ []) part ∙ ap (λ l. rows_of_items words (rows_of l part)) (append-nil (pieces_at pieces s.source))

    concat_lies : length (parts_at (parts_of graph.nodes) i) ≢ 1 → part < length (parts_at (parts_of graph.nodes) i) → (c : Concat) → n.shape ≡ operators.Concat c
        → Lies (parts_of graph.nodes) (pieces_of graph.nodes rows) c.sources part i (place_of_part (parts_of graph.nodes) c.sources part).0 (place_of_part (parts_of graph.nodes) c.sources part).1
    concat_lies ne inside c is =
        let nodes = graph.nodes in
        let within = slice_get_within nodes i n at in
        let counts : (s : ℕ) → s < i → length (pieces_at (pieces_of nodes rows) s) ≡ length (parts_at (parts_of nodes) s) = λ s below.
        pieces_count written graph rows s (get_or nodes s n) (record { is_graph = is_graph; is_node = slice_get-get_or nodes s n (omega arith) }) in
        lies i (parts_of nodes) (pieces_of nodes rows) c.sources part (subst (λ shape. All (λ s. s < i) (sources_of shape)) is lower_sources) counts
        (subst (λ shape. part < length (flat_map (parts_at (parts_of nodes)) (sources_of shape))) is (part_inside ne part inside))

    pub concat_rows : length (parts_at (parts_of graph.nodes) i) ≢ 1 → part < length (parts_at (parts_of graph.nodes) i) → (c : Concat) → n.shape ≡ operators.Concat c
        → part_rows graph.nodes rows i part ≡ part_rows graph.nodes rows (place_of_part (parts_of graph.nodes) c.sources part).0 (place_of_part (parts_of graph.nodes) c.sources part).1
    concat_rows ne inside c is =
        let pieces = pieces_of graph.nodes rows in
        split_rows ne ∙ ap (λ shape. rows_of (pushed_rows shape (flat_map (pieces_at pieces) (sources_of shape))) part) is ∙ (concat_lies ne inside c is).rows

  -- where the part of a concat lies, whatever the rows
  pub concat_place : length (parts_at (parts_of graph.nodes) i) ≢ 1 → (part : ℕ) → part < length (parts_at (parts_of graph.nodes) i) → (c : Concat) → n.shape ≡ operators.Concat c
      → Lies (parts_of graph.nodes) (pieces_of graph.nodes []) c.sources part i (place_of_part (parts_of graph.nodes) c.sources part).0 (place_of_part (parts_of graph.nodes) c.sources part).1
  concat_place ne part inside c is = concat_lies [] part ne inside c is

  -- of a filter's and a select's source
  pub filter_inside : length (parts_at (parts_of graph.nodes) i) ≢ 1 → (part : ℕ) → part < length (parts_at (parts_of graph.nodes) i) → (f : Filter) → n.shape ≡ operators.Filter f → (f.source < i) × (part < length (parts_at (parts_of graph.nodes) f.source))
  filter_inside ne part inside f is =
      let parts = parts_of graph.nodes in (
        All-head (λ s. s < i) f.source [] (subst (λ shape. All (λ s. s < i) (sources_of shape)) is lower_sources),
        subst (λ l. part < length l) (append-nil (parts_at parts f.source)) (subst (λ shape. part < length (flat_map (parts_at parts) (sources_of shape))) is (part_inside ne part inside)),
      )

  pub select_inside : length (parts_at (parts_of graph.nodes) i) ≢ 1 → (part : ℕ) → part < length (parts_at (parts_of graph.nodes) i) → (s : Select) → n.shape ≡ operators.Select s → (s.source < i) × (part < length (parts_at (parts_of graph.nodes) s.source))
  select_inside ne part inside s is =
      let parts = parts_of graph.nodes in (
        All-head (λ q. q < i) s.source [] (subst (λ shape. All (λ q. q < i) (sources_of shape)) is lower_sources),
        subst (λ l. part < length l) (append-nil (parts_at parts s.source)) (subst (λ shape. part < length (flat_map (parts_at parts) (sources_of shape))) is (part_inside ne part inside)),
      )
