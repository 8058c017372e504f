-- Each part of a node that a party may know is the same for it in worlds whose files agree for it.
use Rattle.std.proofs.Common.{◌≡◌, ℕ, zero, suc, ◌<◌, List, [], ◌∷◌, ◌++◌, Option, Some, None, length, map, take, get_or, refl, sym, ◌∙◌, ap, subst, arith}
use Rattle.std.specs.Prelude.{slice_get, IsSomeAnd}
use Rattle.std.specs.List.{All, AllZip, flat_map}
use Rattle.std.proofs.lemmas.List.{get_or-take, get_or_past}
use Rattle.std.proofs.lemmas.List.Elements.{All-head, All-tail}
use Rattle.query_graph.specs.declared.node.Node.{Node}
use Rattle.query_graph.specs.declared.operator.Operator.{Operator}
use Rattle.query_graph.specs.declared.operator.Operator.TheVariants as operators
use Rattle.query_graph.specs.Content.{Content}
use Rattle.query_graph.specs.IsGraph.{FitsSources, IsGraph}
use Rattle.query_graph.specs.NodeSizes.{NodesAreWritten}
use Rattle.query_graph.specs.Observers.{sources_of}
use Rattle.plain_meaning.specs.Fits.{IsWorldOf}
use Rattle.plain_meaning.specs.Meaning.{meanings, rows_of}
use Rattle.plain_operators.specs.Items.{holds_of, item_word}
use Rattle.plain_operators.specs.Operators.{kept_rows, rows_of_items}
use Rattle.plain_meaning.specs.Convert.{item_of, test_of}
use Rattle.trust_sets.specs.declared.known.Known.{Known}
use Rattle.trust_sets.specs.Agreement.{FilesAgree}
use Rattle.trust_sets.specs.Known.{known_at, known_concat, known_filter, known_node, known_nodes, known_select, nobody}
use Rattle.trust_sets.specs.Laws.{NodesKnowFromEarlier}
use Rattle.trust_sets.specs.MayKnow.{RowsNarrow}
use Rattle.trust_sets.specs.Steps.{SameIfKnown, TrustLemma, TrustSteps}
use Rattle.rewrites.specs.Laws.{PartsAreKnown}
use Rattle.rewrites.specs.Parts.{parts_at, parts_of}
use Rattle.rewrites.specs.PartRows.{divided, node_pieces, pieces_at, pieces_of, pushed_rows, source_pieces}
use Rattle.rewrites.proofs.PartCases.{IsPushed, divided_both, is_split}
use Rattle.rewrites.proofs.PartSizes.{past_end}
use Rattle.rewrites.proofs.Pieces.{pieces_here}
use Rattle.rewrites.proofs.Values.{values_count}

module _ {X : Type 0} where
  zip_append : (R : X → X → Type 0) (xs ys us vs : List X) → AllZip R xs ys → AllZip R us vs → AllZip R (xs ++ us) (ys ++ vs)
  zip_append R [] [] us vs h k = k
  zip_append R [] (y ∷ ys) us vs h k = absurd h
  zip_append R (x ∷ xs) [] us vs h k = absurd h
  zip_append R (x ∷ xs) (y ∷ ys) us vs h k = (h.0, zip_append R xs ys us vs h.1 k)

  zip_map : (R Q : X → X → Type 0) (f : X → X) → ((x y : X) → R x y → Q (f x) (f y)) → (xs ys : List X) → AllZip R xs ys → AllZip Q (map f xs) (map f ys)
  zip_map R Q f step [] [] h = tt
  zip_map R Q f step [] (y ∷ ys) h = absurd h
  zip_map R Q f step (x ∷ xs) [] h = absurd h
  zip_map R Q f step (x ∷ xs) (y ∷ ys) h = (step x y h.0, zip_map R Q f step xs ys h.1)

  zip_weaker : (R Q : X → X → Type 0) → ((x y : X) → R x y → Q x y) → (xs ys : List X) → AllZip R xs ys → AllZip Q xs ys
  zip_weaker R Q step [] [] h = tt
  zip_weaker R Q step [] (y ∷ ys) h = absurd h
  zip_weaker R Q step (x ∷ xs) [] h = absurd h
  zip_weaker R Q step (x ∷ xs) (y ∷ ys) h = (step x y h.0, zip_weaker R Q step xs ys h.1)

-- two lists of pieces, each pair the same for the party
abbrev pub AreSame : ℕ → Known → List (List (List ℕ)) → List (List (List ℕ)) → Type 0
AreSame party known xs ys = AllZip (SameIfKnown party known) xs ys

pub record TrustLaws : Type 0 where
  pub written : NodesAreWritten
  pub known : NodesKnowFromEarlier
  pub steps : TrustSteps
  pub narrow : RowsNarrow
  pub lemma : TrustLemma

-- the sources of a concat are all as wide as it
abbrev AreWide : ℕ → List Known → Operator → Type 0
AreWide width known (operators.Relation r) = Unit {0}
AreWide width known (operators.Filter f) = Unit {0}
AreWide width known (operators.Select s) = Unit {0}
AreWide width known (operators.Concat c) = All (λ s. length (known_at known s).columns ≡ width) c.sources
AreWide width known (operators.Join j) = Unit {0}
AreWide width known (operators.Group g) = Unit {0}
AreWide width known (operators.Distinct d) = Unit {0}

-- behind earlier nodes whose pieces are the same
module _ (laws : TrustLaws) (party i : ℕ) (known : List Known) (one other : List (List (List (List ℕ)))) (earlier : (s : ℕ) → s < i → AreSame party (known_at known s) (pieces_at one s) (pieces_at other s)) where
  source_same : (s : ℕ) → s < i → AreSame party (known_at (take i known) s) (pieces_at (take i one) s) (pieces_at (take i other) s)
  source_same s below =
      subst (λ k. AreSame party k (pieces_at (take i one) s) (pieces_at (take i other) s)) (sym (get_or-take i known s nobody below))
      (subst (λ l. AreSame party (known_at known s) l (pieces_at (take i other) s)) (sym (get_or-take i one s [] below))
      (subst (λ l. AreSame party (known_at known s) (pieces_at one s) l) (sym (get_or-take i other s [] below)) (earlier s below)))

  -- the pieces of an only source
  one_same : (s : ℕ) → s < i → AreSame party (known_at (take i known) s) (flat_map (pieces_at (take i one)) (s ∷ [])) (flat_map (pieces_at (take i other)) (s ∷ []))
  one_same s below = zip_append (SameIfKnown party (known_at (take i known) s)) (pieces_at (take i one) s) (pieces_at (take i other) s) [] [] (source_same s below) tt

  -- those of a concat's sources, of which these are the last
  concat_same : (width : ℕ) (sources : List ℕ) → All (λ s. length (known_at (take i known) s).columns ≡ width) sources → (last : List ℕ) → ((j s : ℕ) → slice_get last j ≡ Some s → (place : ℕ) × (slice_get sources place ≡ Some s))
      → All (λ s. s < i) last → AreSame party (known_concat (map (known_at (take i known)) sources)) (flat_map (pieces_at (take i one)) last) (flat_map (pieces_at (take i other)) last)
  concat_same width sources wide [] among lower = tt
  concat_same width sources wide (s ∷ last) among lower =
      let new = known_concat (map (known_at (take i known)) sources) in
      let below = All-head (λ s. s < i) s last lower in
      let place = among 0 s refl in
      let here : AreSame party new (pieces_at (take i one) s) (pieces_at (take i other) s) =
      zip_weaker (SameIfKnown party (known_at (take i known) s)) (SameIfKnown party new)
      (λ xs ys same. laws.narrow.part party width sources (known_at (take i known)) place.0 s xs ys wide place.1 same) (pieces_at (take i one) s) (pieces_at (take i other) s) (source_same s below) in
      zip_append (SameIfKnown party new) (pieces_at (take i one) s) (pieces_at (take i other) s) (flat_map (pieces_at (take i one)) last) (flat_map (pieces_at (take i other)) last) here
      (concat_same width sources wide last (λ j t at. among (suc j) t at) (All-tail (λ s. s < i) s last lower))

  pub pushed_same : (width : ℕ) (shape : Operator) → IsPushed shape → AreWide width (take i known) shape → All (λ s. s < i) (sources_of shape)
      → AreSame party (known_node shape (take i known)) (pushed_rows shape (source_pieces shape (take i one))) (pushed_rows shape (source_pieces shape (take i other)))
  pushed_same width (operators.Relation r) pushed wide lower = absurd pushed
  pushed_same width (operators.Filter f) pushed wide lower =
      let source = known_at (take i known) f.source in
      zip_map (SameIfKnown party source) (SameIfKnown party (known_filter source f.tests)) (kept_rows (map holds_of (map test_of f.tests)))
      (λ xs ys same. laws.steps.filter party source f.tests xs ys same) (flat_map (pieces_at (take i one)) (f.source ∷ [])) (flat_map (pieces_at (take i other)) (f.source ∷ []))
      (one_same f.source (All-head (λ s. s < i) f.source [] lower))
  pushed_same width (operators.Select s) pushed wide lower =
      let source = known_at (take i known) s.source in
      zip_map (SameIfKnown party source) (SameIfKnown party (known_select source s.items)) (rows_of_items (map item_word (map item_of s.items)))
      (λ xs ys same. laws.steps.select party source s.items xs ys same) (flat_map (pieces_at (take i one)) (s.source ∷ [])) (flat_map (pieces_at (take i other)) (s.source ∷ []))
      (one_same s.source (All-head (λ s. s < i) s.source [] lower))
  pushed_same width (operators.Concat c) pushed wide lower = concat_same width c.sources wide c.sources (λ j s at. (j, at)) lower
  pushed_same width (operators.Join j) pushed wide lower = absurd pushed
  pushed_same width (operators.Group g) pushed wide lower = absurd pushed
  pushed_same width (operators.Distinct d) pushed wide lower = absurd pushed

module _ (laws : TrustLaws) (graph : Content) (is_graph : IsGraph graph) where
  source_columns : (i s : ℕ) (n : Node) (found : Option Node) → slice_get graph.nodes s ≡ found → IsSomeAnd found (λ m. n.columns ≡ m.columns) → length (known_at (known_nodes graph.nodes) s).columns ≡ length n.columns
  source_columns i s n None at same = absurd same
  source_columns i s n (Some m) at same = laws.known.wide graph is_graph s m at ∙ sym (ap (λ l. length l) same)

  wide_sources : (i : ℕ) (n : Node) (shape : Operator) → FitsSources graph.nodes i n shape → AreWide (length n.columns) (take i (known_nodes graph.nodes)) shape
  wide_sources i n (operators.Relation r) fits = tt
  wide_sources i n (operators.Filter f) fits = tt
  wide_sources i n (operators.Select s) fits = tt
  wide_sources i n (operators.Concat c) fits = λ k d below.
      let s = get_or c.sources k d in
      let source = fits.columns k d below in
      ap (λ (known : Known). length known.columns) (get_or-take i (known_nodes graph.nodes) s nobody source.earlier) ∙ source_columns i s n (slice_get graph.nodes s) refl source.fits
  wide_sources i n (operators.Join j) fits = tt
  wide_sources i n (operators.Group g) fits = tt
  wide_sources i n (operators.Distinct d) fits = tt

  module _ (party : ℕ) (world other : List (List (List ℕ))) (is_world : IsWorldOf graph.nodes world) (is_other : IsWorldOf graph.nodes other) (agree : FilesAgree graph.nodes (known_nodes graph.nodes) party world other) where
    abbrev IsSame : ℕ → Type 0
    IsSame i = AreSame party (known_at (known_nodes graph.nodes) i) (pieces_at (pieces_of graph.nodes (meanings graph.nodes world)) i) (pieces_at (pieces_of graph.nodes (meanings graph.nodes other)) i)

    same_here : (i : ℕ) (n : Node) → slice_get graph.nodes i ≡ Some n → ((s : ℕ) → s < i → IsSame s) → IsSame i
    same_here i n at earlier =
        let nodes = graph.nodes in
        let all = known_nodes nodes in
        let xs = meanings nodes world in
        let ys = meanings nodes other in
        let one = pieces_of nodes xs in
        let another = pieces_of nodes ys in
        let node = known_at all i in
        let whole = laws.lemma graph party world other is_graph is_world is_other agree i in
        let lower = laws.written.sources graph i n (record { is_graph = is_graph; is_node = at }) in
        subst (λ l. AreSame party node l (pieces_at another i)) (sym (pieces_here nodes xs i n at))
        (subst (λ l. AreSame party node (divided (parts_at (parts_of nodes) i) (rows_of xs i) (pushed_rows n.shape (source_pieces n.shape (take i one)))) l) (sym (pieces_here nodes ys i n at))
        (divided_both (AreSame party node) (parts_at (parts_of nodes) i) (rows_of xs i) (rows_of ys i) (pushed_rows n.shape (source_pieces n.shape (take i one))) (pushed_rows n.shape (source_pieces n.shape (take i another))) (whole, tt)
        (λ none. subst (λ k. AreSame party k (pushed_rows n.shape (source_pieces n.shape (take i one))) (pushed_rows n.shape (source_pieces n.shape (take i another)))) (sym (laws.known.each nodes i n at))
        (pushed_same laws party i all one another earlier (length n.columns) n.shape (is_split nodes i n at none).pushed (wide_sources i n n.shape (is_graph.nodes i n at).sources) lower))))

    same_at : (i : ℕ) (found : Option Node) → slice_get graph.nodes i ≡ found → ((s : ℕ) → s < i → IsSame s) → IsSame i
    same_at i None at earlier =
        let nodes = graph.nodes in
        let past = past_end nodes i at in
        let none = λ (rows : List (List (List ℕ))). (let many = values_count (node_pieces (parts_of nodes) rows) nodes in get_or_past (pieces_of nodes rows) i [] (omega arith)) in
        subst (λ l. AreSame party (known_at (known_nodes nodes) i) l (pieces_at (pieces_of nodes (meanings nodes other)) i)) (sym (none (meanings nodes world)))
        (subst (λ l. AreSame party (known_at (known_nodes nodes) i) [] l) (sym (none (meanings nodes other))) tt)
    same_at i (Some n) at earlier = same_here i n at earlier

    same_below : (count i : ℕ) → i < count → IsSame i
    same_below zero i below = absurd (omega arith)
    same_below (suc count) i below = same_at i (slice_get graph.nodes i) refl (λ s lower. same_below count s (omega arith))

pub parts_are_known : TrustLaws → PartsAreKnown
parts_are_known laws graph party world other is_graph is_world is_other agree i = same_below laws graph is_graph party world other is_world is_other agree (suc i) i (omega arith)
