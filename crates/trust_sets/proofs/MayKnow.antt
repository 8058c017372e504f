-- What the columns of an operator's rows need, and known columns in agreeing worlds.
use Rattle.std.proofs.Common.{◌≡◌, ℕ, zero, suc, ◌+◌, ◌<◌, true, List, [], ◌∷◌, ◌++◌, Some, map, length, get_or, refl, sym, ◌∙◌, ap, subst, arith}
use Rattle.std.specs.Prelude.{slice_get}
use Rattle.std.specs.List.{All, range_with_len}
use Rattle.std.proofs.lemmas.List.{length-map}
use Rattle.std.proofs.lemmas.List.Elements.{All-weaker, filter_passes}
use Rattle.std.proofs.lemmas.Option.{get_or_from_slice_get, slice_get_within}
use Rattle.bags.specs.Laws.{BagsAreEquivalence}
use Rattle.query_graph.specs.declared.operand.Aggregate.{Aggregate}
use Rattle.query_graph.specs.declared.operand.Aggregate.TheVariants as aggregates
use Rattle.query_graph.specs.declared.parties.Parties.{Parties}
use Rattle.query_graph.specs.Parties.{common_parties, has, no_party}
use Rattle.plain_operators.specs.Columns.{other_columns}
use Rattle.plain_operators.specs.Cuts.{OperatorsOfCuts}
use Rattle.plain_operators.specs.Operators.{left_keys, right_keys}
use Rattle.plain_operators.specs.Sizes.{AllWide}
use Rattle.plain_meaning.specs.Meaning.{meanings, rows_of}
use Rattle.trust_sets.specs.declared.known.Known.{Known}
use Rattle.trust_sets.specs.Agreement.{known_columns}
use Rattle.trust_sets.specs.Known.{aggregate_set, column_set, grouped_set, joined_set, known_at, known_concat, known_filter, known_group, known_join, known_nodes, met_with, other_sets}
use Rattle.trust_sets.specs.Laws.{KnowsColumn, KnowsRows}
use Rattle.trust_sets.specs.MayKnow.{AgreementIsEquivalence, KnownColumnsAreSame, KnowsAggregate, RowsNarrow, WhatColumnsNeed}
use Rattle.trust_sets.specs.Steps.{SameIfKnown}
use Rattle.trust_sets.proofs.Alike.{fewer_columns}
use Rattle.trust_sets.proofs.ConcatStep.{concat_column, concat_rows, concat_wide}
use Rattle.trust_sets.proofs.Needs.{in_both}
use Rattle.trust_sets.proofs.TrustLemma.{LemmaLaws, trust_lemma}
use Rattle.trust_sets.proofs.Within.{in_none}

-- ---- sets behind others, and sets of parts

behind : (xs ys : List Parties) (i k : ℕ) → k ≡ length xs + i → get_or (xs ++ ys) k no_party ≡ get_or ys i no_party
behind [] ys i k is = ap (λ n. get_or ys n no_party) (omega (arith, is))
behind (x ∷ xs) ys i zero is = absurd (omega (arith, is))
behind (x ∷ xs) ys i (suc k) is = behind xs ys i k (omega (arith, is))

set_of : {A : Type 0} (set : A → Parties) (xs : List A) (i : ℕ) (x : A) → slice_get xs i ≡ Some x → get_or (map set xs) i no_party ≡ set x
set_of set [] i x at = absurd cc
set_of set (y ∷ xs) zero x at = let same : y ≡ x = cc in ap set same
set_of set (y ∷ xs) (suc i) x at = set_of set xs i x at

narrowed_set : (party : ℕ) (rows : Parties) (sets : List Parties) (column : ℕ) → has (get_or (map (λ set. common_parties set rows) sets) column no_party) party ≡ true
    → has (get_or sets column no_party) party ≡ true
narrowed_set party rows [] column known = absurd (in_none party known)
narrowed_set party rows (set ∷ sets) zero known = (in_both set rows party known).0
narrowed_set party rows (set ∷ sets) (suc column) known = narrowed_set party rows sets column known

aggregate_known : (party : ℕ) (source : Known) (rows : Parties) (aggregate : Aggregate) → has (aggregate_set source rows aggregate) party ≡ true → KnowsAggregate party source aggregate
aggregate_known party source rows (aggregates.Sum column) known = (in_both rows (column_set source column) party known).1
aggregate_known party source rows aggregates.Count known = tt
aggregate_known party source rows (aggregates.Least column) known = (in_both rows (column_set source column) party known).1
aggregate_known party source rows (aggregates.Greatest column) known = (in_both rows (column_set source column) party known).1

aggregated : (party : ℕ) (source : Known) (keys : List ℕ) (wanted : List Aggregate) (i : ℕ) (aggregate : Aggregate) → slice_get wanted i ≡ Some aggregate
    → KnowsColumn party (known_group source keys wanted) (length keys + i) → KnowsAggregate party source aggregate
aggregated party source keys wanted i aggregate at known =
    let rows = grouped_set source keys in
    let of_keys = map (λ key. rows) keys in
    let long : length of_keys ≡ length keys = length-map keys (λ key. rows) in
    let same = behind of_keys (map (aggregate_set source rows) wanted) i (length keys + i) (omega (arith, long)) ∙ set_of (aggregate_set source rows) wanted i aggregate at in
    aggregate_known party source rows aggregate (subst (λ set. has set party ≡ true) same known)

-- a column that isn't a key, with its set met with one of the rows
other_known : (party : ℕ) (source : Known) (keys : List ℕ) (rows : Parties) (i column : ℕ) → slice_get (other_columns keys (length source.columns)) i ≡ Some column
    → has (get_or (other_sets source keys rows) i no_party) party ≡ true → KnowsColumn party source column
other_known party source keys rows i column at known =
    let same = set_of (met_with source rows) (other_columns keys (length source.columns)) i column at in
    (in_both rows (column_set source column) party (subst (λ set. has set party ≡ true) same known)).1

in_left : (xs ys : List Parties) (i : ℕ) → i < length xs → get_or (xs ++ ys) i no_party ≡ get_or xs i no_party
in_left [] ys i within = absurd (omega (arith, within))
in_left (x ∷ xs) ys zero within = refl
in_left (x ∷ xs) ys (suc i) within = in_left xs ys i (omega (arith, within))

module _ (party : ℕ) (left right : Known) (keys : List (ℕ × ℕ)) where
  joined_left : (i column : ℕ) → slice_get (other_columns (left_keys keys) (length left.columns)) i ≡ Some column → KnowsColumn party (known_join left right keys) (length keys + i) → KnowsColumn party left column
  joined_left i column at known =
      let rows = joined_set left right keys in
      let of_keys = map (λ (key : ℕ × ℕ). rows) keys in
      let of_left = other_sets left (left_keys keys) rows in
      let of_right = other_sets right (right_keys keys) rows in
      let long : length of_keys ≡ length keys = length-map keys (λ key. rows) in
      let wide = length-map (other_columns (left_keys keys) (length left.columns)) (met_with left rows) in
      let within : i < length of_left = rw wide (slice_get_within (other_columns (left_keys keys) (length left.columns)) i column at) in
      let same = behind of_keys (of_left ++ of_right) i (length keys + i) (omega (arith, long)) ∙ in_left of_left of_right i within in
      other_known party left (left_keys keys) rows i column at (subst (λ set. has set party ≡ true) same known)

  joined_right : (i column : ℕ) → slice_get (other_columns (right_keys keys) (length right.columns)) i ≡ Some column
      → KnowsColumn party (known_join left right keys) (length keys + length (other_columns (left_keys keys) (length left.columns)) + i) → KnowsColumn party right column
  joined_right i column at known =
      let rows = joined_set left right keys in
      let of_keys = map (λ (key : ℕ × ℕ). rows) keys in
      let of_left = other_sets left (left_keys keys) rows in
      let of_right = other_sets right (right_keys keys) rows in
      let others = length (other_columns (left_keys keys) (length left.columns)) in
      let long : length of_keys ≡ length keys = length-map keys (λ key. rows) in
      let wide : length of_left ≡ others = length-map (other_columns (left_keys keys) (length left.columns)) (met_with left rows) in
      let same = behind of_keys (of_left ++ of_right) (others + i) (length keys + others + i) (omega (arith, long)) ∙ behind of_left of_right i (others + i) (omega (arith, wide)) in
      other_known party right (right_keys keys) rows i column at (subst (λ set. has set party ≡ true) same known)

pub what_columns_need : WhatColumnsNeed
what_columns_need = record {
  filtered = λ party source tests column known. narrowed_set party (known_filter source tests).rows source.columns column known;
  appended_rows = λ party sources known knows. concat_rows party known sources knows;
  appended = λ party sources known column knows. concat_column party known column sources knows;
  aggregated = aggregated;
  joined_left = joined_left;
  joined_right = joined_right;
}

-- ---- the same for a party

pub known_columns_are_same : LemmaLaws → KnownColumnsAreSame
known_columns_are_same laws = record {
  rows = λ party source columns xs ys all same. fewer_columns party source laws.steps.cuts columns all xs ys same;
  nodes = λ graph party world other is_graph is_world is_other agree node columns knows all.
      fewer_columns party (known_at (known_nodes graph.nodes) node) laws.steps.cuts columns all (rows_of (meanings graph.nodes world) node) (rows_of (meanings graph.nodes other) node)
      (trust_lemma laws graph party world other is_graph is_world is_other agree node knows);
}

fewer : OperatorsOfCuts → (party : ℕ) (more less : Known) (xs ys : List (List ℕ)) → length more.columns ≡ length less.columns → (KnowsRows party less → KnowsRows party more)
    → ((column : ℕ) → KnowsColumn party less column → KnowsColumn party more column) → SameIfKnown party more xs ys → SameIfKnown party less xs ys
fewer cuts party more less xs ys long rows columns same knows =
    let here = same (rows knows) in
    let passes : All (KnowsColumn party less) (known_columns party less) = filter_passes (λ c. has (column_set less c) party) (range_with_len 0 (length less.columns)) in
    record {
      wide = subst (λ n. AllWide n xs) long here.wide;
      wide_too = subst (λ n. AllWide n ys) long here.wide_too;
      bag = fewer_columns party more cuts (known_columns party less) (All-weaker (KnowsColumn party less) (KnowsColumn party more) columns (known_columns party less) passes) xs ys here;
    }

part : OperatorsOfCuts → (party width : ℕ) (sources : List ℕ) (known : ℕ → Known) (place source : ℕ) (xs ys : List (List ℕ)) → All (λ s. length (known s).columns ≡ width) sources
    → slice_get sources place ≡ Some source → SameIfKnown party (known source) xs ys → SameIfKnown party (known_concat (map known sources)) xs ys
part cuts party width sources known place source xs ys wide at same =
    let within = slice_get_within sources place source at in
    let is = get_or_from_slice_get sources place source source at in
    let own : length (known source).columns ≡ width = subst (λ s. length (known s).columns ≡ width) is (wide place source within) in
    let whole = concat_wide width known sources (omega (arith, within)) wide in
    fewer cuts party (known source) (known_concat (map known sources)) xs ys (own ∙ sym whole)
    (λ knows. subst (λ s. KnowsRows party (known s)) is (concat_rows party known sources knows place source within))
    (λ column knows. subst (λ s. KnowsColumn party (known s) column) is (concat_column party known column sources knows place source within)) same

pub rows_narrow : OperatorsOfCuts → RowsNarrow
rows_narrow cuts = record { fewer = fewer cuts; part = part cuts }

-- ---- agreement

pub agreement_is_equivalence : BagsAreEquivalence → AgreementIsEquivalence
agreement_is_equivalence bags = record {
  itself = λ graph known party world excess. record {
    files = record { own = λ number r is own. refl; trusted = λ number r is another knows. bags.itself _ };
    same_excess = refl;
    answers = λ none k d below gets. bags.itself _;
  };
  back = λ graph known party world other excess other_excess agree. record {
    files = record {
      own = λ number r is own. sym (agree.files.own number r is own);
      trusted = λ number r is another knows. bags.back _ _ (agree.files.trusted number r is another knows);
    };
    same_excess = sym agree.same_excess;
    answers = λ none k d below gets. bags.back _ _ (agree.answers (agree.same_excess ∙ none) k d below gets);
  };
  along = λ graph known party world other third excess other_excess third_excess first second. record {
    files = record {
      own = λ number r is own. first.files.own number r is own ∙ second.files.own number r is own;
      trusted = λ number r is another knows. bags.along _ _ _ (first.files.trusted number r is another knows) (second.files.trusted number r is another knows);
    };
    same_excess = first.same_excess ∙ second.same_excess;
    answers = λ none k d below gets. bags.along _ _ _ (first.answers none k d below gets) (second.answers (sym first.same_excess ∙ none) k d below gets);
  };
}
