-- Group of rows that are the same for a party.
use Rattle.std.proofs.Common.{◌≡◌, ℕ, ◌+◌, true, List, [], ◌∷◌, ◌++◌, map, length, refl, sym, ◌∙◌, subst}
use Rattle.std.proofs.lemmas.List.{length-append, length-map}
use Rattle.query_graph.specs.declared.operand.Aggregate.{Aggregate}
use Rattle.query_graph.specs.declared.operand.Aggregate.TheVariants as aggregates
use Rattle.query_graph.specs.declared.parties.Parties.{Parties}
use Rattle.query_graph.specs.Parties.{has}
use Rattle.plain_operators.specs.declared.aggregate.Aggregate as plain_aggregate
use Rattle.plain_operators.specs.Cuts.{GroupDependsOn}
use Rattle.plain_operators.specs.Operators.{aggregated, aggregates_of, grouped_rows}
use Rattle.plain_operators.specs.Laws.{WholeTableIsGroup}
use Rattle.plain_operators.specs.Sizes.{AllWide}
use Rattle.plain_meaning.specs.Convert.{aggregate_of}
use Rattle.plain_operators.specs.OnSources.{group_of_rows}
use Rattle.trust_sets.specs.declared.known.Known.{Known}
use Rattle.trust_sets.specs.Agreement.{known_columns}
use Rattle.trust_sets.specs.Known.{aggregate_set, column_set, grouped_set, known_group}
use Rattle.trust_sets.specs.Steps.{SameFor, SameIfKnown}
use Rattle.trust_sets.proofs.Alike.{AreAlike, alike_append, alike_cut, alike_itself, columns_depend, word_depends}
use Rattle.trust_sets.proofs.StepLaws.{StepLaws}
use Rattle.trust_sets.proofs.Needs.{in_both, what_rows_need}

-- a group without keys is one by no column
one_group : WholeTableIsGroup → (keys : List ℕ) (wanted : List plain_aggregate.Aggregate) (rows : List (List ℕ)) → group_of_rows keys wanted rows ≡ grouped_rows keys wanted rows
one_group whole [] wanted rows = whole wanted rows
one_group whole (key ∷ keys) wanted rows = refl

module _ (laws : StepLaws) (party : ℕ) (source : Known) where
  aggregate_same : (rows : Parties) (xs ys : List (List ℕ)) → SameFor party source xs ys → (aggregate : Aggregate) → has (aggregate_set source rows aggregate) party ≡ true
      → aggregated (aggregate_of aggregate) xs ≡ aggregated (aggregate_of aggregate) ys
  aggregate_same rows xs ys same (aggregates.Sum c) known =
      (laws.aggregates.words (length source.columns) (known_columns party source) c xs ys (word_depends party source c (in_both rows (column_set source c) party known).1) same).0
  aggregate_same rows xs ys same aggregates.Count known = laws.aggregates.counts (length source.columns) (known_columns party source) xs ys same
  aggregate_same rows xs ys same (aggregates.Least c) known =
      (laws.aggregates.words (length source.columns) (known_columns party source) c xs ys (word_depends party source c (in_both rows (column_set source c) party known).1) same).1
  aggregate_same rows xs ys same (aggregates.Greatest c) known =
      (laws.aggregates.words (length source.columns) (known_columns party source) c xs ys (word_depends party source c (in_both rows (column_set source c) party known).1) same).2

  aggregates_alike : (rows : Parties) (xs ys : List (List ℕ)) → SameFor party source xs ys → (wanted : List Aggregate)
      → AreAlike party (map (aggregate_set source rows) wanted) (aggregates_of (map aggregate_of wanted) xs) (aggregates_of (map aggregate_of wanted) ys)
  aggregates_alike rows xs ys same [] = tt
  aggregates_alike rows xs ys same (aggregate ∷ wanted) = (aggregate_same rows xs ys same aggregate, aggregates_alike rows xs ys same wanted)

  grouped_step : (keys : List ℕ) (wanted : List Aggregate) (xs ys : List (List ℕ)) → SameIfKnown party source xs ys
      → SameIfKnown party (known_group source keys wanted) (grouped_rows keys (map aggregate_of wanted) xs) (grouped_rows keys (map aggregate_of wanted) ys)
  grouped_step keys wanted xs ys same known =
      let needs = what_rows_need.grouped party source keys known in
      let here = same needs.rows in
      let new = known_group source keys wanted in
      let rows = grouped_set source keys in
      let all = map aggregate_of wanted in
      let key_sets = map (λ (key : ℕ). rows) keys in
      let sets = map (aggregate_set source rows) wanted in
      let depends : GroupDependsOn (length keys) all (length source.columns) (known_columns party source) (known_columns party new) = λ key us vs long alike.
      alike_cut party new (key ++ aggregates_of all us) (key ++ aggregates_of all vs)
      (alike_append party key_sets sets key key (aggregates_of all us) (aggregates_of all vs) (alike_itself party key_sets key (length-map keys (λ (key : ℕ). rows) ∙ sym long))
      (aggregates_alike rows us vs alike wanted)) in
      let wide : length new.columns ≡ length keys + length all = length-append key_sets sets ∙ (λ i. length-map keys (λ (key : ℕ). rows) i + (length-map wanted (aggregate_set source rows) ∙ sym (length-map wanted aggregate_of)) i) in
      record {
        wide = subst (λ n. AllWide n (grouped_rows keys all xs)) (sym wide) (laws.widths.grouped keys all xs);
        wide_too = subst (λ n. AllWide n (grouped_rows keys all ys)) (sym wide) (laws.widths.grouped keys all ys);
        bag = laws.cuts.grouped keys all (length source.columns) (known_columns party source) (known_columns party new) xs ys (columns_depend party source keys needs.each) depends here;
      }

  pub group_step : (keys : List ℕ) (wanted : List Aggregate) (xs ys : List (List ℕ)) → SameIfKnown party source xs ys
      → SameIfKnown party (known_group source keys wanted) (group_of_rows keys (map aggregate_of wanted) xs) (group_of_rows keys (map aggregate_of wanted) ys)
  group_step keys wanted xs ys same known =
      let all = map aggregate_of wanted in
      let new = known_group source keys wanted in
      subst (λ l. SameFor party new l (group_of_rows keys all ys)) (sym (one_group laws.whole keys all xs))
      (subst (SameFor party new (grouped_rows keys all xs)) (sym (one_group laws.whole keys all ys)) (grouped_step keys wanted xs ys same known))
