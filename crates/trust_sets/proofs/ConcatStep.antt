-- Concat of rows that are the same for a party.
use Rattle.std.proofs.Common.{◌≡◌, ℕ, zero, suc, ◌<◌, true, List, [], ◌∷◌, map, length, get_or, refl, sym, ◌∙◌, ap, subst, arith}
use Rattle.std.specs.List.{All, flat_map, fold, range_with_len, zip}
use Rattle.std.proofs.lemmas.List.{map-append}
use Rattle.std.proofs.lemmas.List.Elements.{All-append, All-cons, All-head, All-nil, All-tail, All-weaker, filter_passes}
use Rattle.bags.specs.Bag.{SameBag, count_of}
use Rattle.bags.specs.Laws.{BagsOfAppend}
use Rattle.query_graph.specs.declared.parties.Parties.{Parties}
use Rattle.query_graph.specs.Parties.{common_parties, has, no_party}
use Rattle.plain_operators.specs.Columns.{cut}
use Rattle.plain_operators.specs.Cuts.{CutsAgree}
use Rattle.plain_operators.specs.Sizes.{AllWide}
use Rattle.trust_sets.specs.declared.known.Known.{Known}
use Rattle.trust_sets.specs.Agreement.{known_columns}
use Rattle.trust_sets.specs.Known.{column_set, known_concat, known_of_both}
use Rattle.trust_sets.specs.Laws.{KnowsColumn, KnowsRows}
use Rattle.trust_sets.specs.Steps.{SameFor, SameIfKnown}
use Rattle.trust_sets.proofs.Alike.{fewer_columns}
use Rattle.trust_sets.proofs.StepLaws.{StepLaws}
use Rattle.trust_sets.proofs.Needs.{in_both}
use Rattle.trust_sets.proofs.Within.{in_none}

module _ (party : ℕ) where
  -- a column of both sources is known where it is known of each
  met_column : (sets others : List Parties) (column : ℕ) → has (get_or (map (λ (pair : Parties × Parties). common_parties pair.0 pair.1) (zip sets others)) column no_party) party ≡ true
      → (has (get_or sets column no_party) party ≡ true) × (has (get_or others column no_party) party ≡ true)
  met_column [] others column known = absurd (in_none party known)
  met_column (set ∷ sets) [] column known = absurd (in_none party known)
  met_column (set ∷ sets) (other ∷ others) zero known = in_both set other party known
  met_column (set ∷ sets) (other ∷ others) (suc column) known = met_column sets others column known

  module _ (known : ℕ → Known) where
    rows_of_all : (first : Known) (sources : List ℕ) → KnowsRows party (fold known_of_both first (map known sources)) → KnowsRows party first × All (λ s. KnowsRows party (known s)) sources
    rows_of_all first [] knows = (knows, All-nil (λ s. KnowsRows party (known s)))
    rows_of_all first (s ∷ sources) knows =
        let rest = rows_of_all (known_of_both first (known s)) sources knows in
        let both = in_both first.rows (known s).rows party rest.0 in
        (both.0, All-cons (λ s. KnowsRows party (known s)) s sources both.1 rest.1)

    column_of_all : (column : ℕ) (first : Known) (sources : List ℕ) → KnowsColumn party (fold known_of_both first (map known sources)) column
        → KnowsColumn party first column × All (λ s. KnowsColumn party (known s) column) sources
    column_of_all column first [] knows = (knows, All-nil (λ s. KnowsColumn party (known s) column))
    column_of_all column first (s ∷ sources) knows =
        let rest = column_of_all column (known_of_both first (known s)) sources knows in
        let both = met_column first.columns (known s).columns column rest.0 in
        (both.0, All-cons (λ s. KnowsColumn party (known s) column) s sources both.1 rest.1)

    -- who may know the rows of a concat, or a column of it, may know those of each source
    pub concat_rows : (sources : List ℕ) → KnowsRows party (known_concat (map known sources)) → All (λ s. KnowsRows party (known s)) sources
    concat_rows [] knows = All-nil (λ s. KnowsRows party (known s))
    concat_rows (s ∷ sources) knows =
        let all = rows_of_all (known s) sources knows in
        All-cons (λ s. KnowsRows party (known s)) s sources all.0 all.1

    pub concat_column : (column : ℕ) (sources : List ℕ) → KnowsColumn party (known_concat (map known sources)) column → All (λ s. KnowsColumn party (known s) column) sources
    concat_column column [] knows = All-nil (λ s. KnowsColumn party (known s) column)
    concat_column column (s ∷ sources) knows =
        let all = column_of_all column (known s) sources knows in
        All-cons (λ s. KnowsColumn party (known s) column) s sources all.0 all.1

-- as many columns as each source
zip_wide : (sets others : List Parties) → length sets ≡ length others → length (map (λ (pair : Parties × Parties). common_parties pair.0 pair.1) (zip sets others)) ≡ length others
zip_wide [] [] same = refl
zip_wide [] (other ∷ others) same = absurd (omega arith)
zip_wide (set ∷ sets) [] same = absurd (omega arith)
zip_wide (set ∷ sets) (other ∷ others) same = ap suc (zip_wide sets others (omega arith))

module _ (width : ℕ) (known : ℕ → Known) where
  fold_wide : (first : Known) (sources : List ℕ) → length first.columns ≡ width → All (λ s. length (known s).columns ≡ width) sources → length (fold known_of_both first (map known sources)).columns ≡ width
  fold_wide first [] wide all = wide
  fold_wide first (s ∷ sources) wide all =
      let here = All-head (λ s. length (known s).columns ≡ width) s sources all in
      fold_wide (known_of_both first (known s)) sources (zip_wide first.columns (known s).columns (wide ∙ sym here) ∙ here) (All-tail (λ s. length (known s).columns ≡ width) s sources all)

  pub concat_wide : (sources : List ℕ) → 0 < length sources → All (λ s. length (known s).columns ≡ width) sources → length (known_concat (map known sources)).columns ≡ width
  concat_wide [] some all = absurd (omega arith)
  concat_wide (s ∷ sources) some all = fold_wide (known s) sources (All-head (λ s. length (known s).columns ≡ width) s sources all) (All-tail (λ s. length (known s).columns ≡ width) s sources all)

-- what holds of each piece holds of the pieces one behind the other
All-flat_map : {X Y : Type 0} (P : Y → Type 0) (f : X → List Y) (xs : List X) → All (λ x. All P (f x)) xs → All P (flat_map f xs)
All-flat_map P f [] all = All-nil P
All-flat_map P f (x ∷ xs) all = All-append P (f x) (flat_map f xs) (All-head (λ z. All P (f z)) x xs all) (All-flat_map P f xs (All-tail (λ z. All P (f z)) x xs all))

along : {xs ys us vs : List (List ℕ)} → xs ≡ us → ys ≡ vs → SameBag us vs → SameBag xs ys
along first second same = record { counts = λ row. ap (count_of row) first ∙ same.counts row ∙ sym (ap (count_of row) second) }

-- sources with the same bag of some columns
appended_cuts : BagsOfAppend → (columns sources : List ℕ) (xs ys : ℕ → List (List ℕ)) → All (λ s. CutsAgree columns (xs s) (ys s)) sources → CutsAgree columns (flat_map xs sources) (flat_map ys sources)
appended_cuts append columns [] xs ys all = record { counts = λ row. refl }
appended_cuts append columns (s ∷ sources) xs ys all =
    let f = cut columns in
    let here = All-head (λ s. CutsAgree columns (xs s) (ys s)) s sources all in
    let rest = appended_cuts append columns sources xs ys (All-tail (λ s. CutsAgree columns (xs s) (ys s)) s sources all) in
    along (map-append f (xs s) (flat_map xs sources)) (map-append f (ys s) (flat_map ys sources)) (append.both (map f (xs s)) (map f (ys s)) (map f (flat_map xs sources)) (map f (flat_map ys sources)) here rest)

some_source : (party : ℕ) (sources : List ℕ) (known : ℕ → Known) → KnowsRows party (known_concat (map known sources)) → 0 < length sources
some_source party [] known knows = absurd (in_none party knows)
some_source party (s ∷ sources) known knows = omega arith

pub concat_step : StepLaws → (party width : ℕ) (sources : List ℕ) (known : ℕ → Known) (xs ys : ℕ → List (List ℕ)) → All (λ s. length (known s).columns ≡ width) sources
    → All (λ s. SameIfKnown party (known s) (xs s) (ys s)) sources → SameIfKnown party (known_concat (map known sources)) (flat_map xs sources) (flat_map ys sources)
concat_step laws party width sources known xs ys wide same knows =
    let new = known_concat (map known sources) in
    let columns = known_columns party new in
    let P : List ℕ → Type 0 = λ row. length row ≡ length new.columns in
    let rows = concat_rows party known sources knows in
    let here : All (λ s. SameFor party (known s) (xs s) (ys s)) sources = λ k d below. same k d below (rows k d below) in
    let whole = concat_wide width known sources (some_source party sources known knows) wide in
    let passes : All (KnowsColumn party new) columns = filter_passes (λ c. has (column_set new c) party) (range_with_len 0 (length new.columns)) in
    let of_source : (k d : ℕ) → k < length sources → All (KnowsColumn party (known (get_or sources k d))) columns = λ k d below.
    All-weaker (KnowsColumn party new) (KnowsColumn party (known (get_or sources k d))) (λ c known_here. concat_column party known c sources known_here k d below) columns passes in
    let cuts : All (λ s. CutsAgree columns (xs s) (ys s)) sources = λ k d below.
    let s = get_or sources k d in fewer_columns party (known s) laws.cuts columns (of_source k d below) (xs s) (ys s) (here k d below) in
    let own : All (λ s. length (known s).columns ≡ length new.columns) sources = λ k d below. wide k d below ∙ sym whole in
    record {
      wide = All-flat_map P xs sources (λ k d below. subst (λ n. AllWide n (xs (get_or sources k d))) (own k d below) (here k d below).wide);
      wide_too = All-flat_map P ys sources (λ k d below. subst (λ n. AllWide n (ys (get_or sources k d))) (own k d below) (here k d below).wide_too);
      bag = appended_cuts laws.append columns sources xs ys cuts;
    }
