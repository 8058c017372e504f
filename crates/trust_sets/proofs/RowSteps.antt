-- Filter, select, distinct and join of rows that are the same for a party.
use Rattle.std.proofs.Common.{◌≡◌, ℕ, zero, suc, ◌+◌, ◌<◌, Bool, true, false, List, [], ◌∷◌, ◌++◌, map, length, get_or, refl, sym, ◌∙◌, ap, subst}
use Rattle.std.specs.List.{All, filter, list_all, range_with_len}
use Rattle.std.proofs.lemmas.List.{ext_get_or, length-append, length-map}
use Rattle.std.proofs.lemmas.List.Elements.{All-filter, All-get_or, All-map, All-weaker, filter_agree}
use Rattle.query_graph.specs.declared.operand.Item.{Item}
use Rattle.query_graph.specs.declared.operand.Item.TheVariants as items
use Rattle.query_graph.specs.declared.operand.Operand.{Operand}
use Rattle.query_graph.specs.declared.operand.Operand.TheVariants as operands
use Rattle.query_graph.specs.declared.operand.Test.{Test}
use Rattle.query_graph.specs.declared.parties.Parties.{Parties}
use Rattle.query_graph.specs.Parties.{common_parties, has, no_party}
use Rattle.plain_operators.specs.Columns.{cut, others, other_columns, word_at}
use Rattle.plain_operators.specs.Cuts.{DependsOn, JoinDependsOn, SameCut}
use Rattle.plain_operators.specs.Items.{compares, computed, holds_of, item_word, operand_word}
use Rattle.plain_operators.specs.Operators.{distinct_rows, joined_row, joined_rows, kept_rows, left_keys, right_keys, rows_of_items}
use Rattle.plain_operators.specs.Sizes.{AllWide, joined_width}
use Rattle.plain_meaning.specs.Convert.{comparison_of, item_of, operand_of, operation_of, test_of}
use Rattle.trust_sets.specs.declared.known.Known.{Known}
use Rattle.trust_sets.specs.Agreement.{known_columns}
use Rattle.trust_sets.specs.Known.{column_set, distinct_set, item_set, joined_set, known_distinct, known_filter, known_join, known_select, other_sets}
use Rattle.trust_sets.specs.Laws.{KnowsColumn, KnowsItem, KnowsKey, KnowsOperand, KnowsRows, KnowsTest}
use Rattle.trust_sets.specs.Steps.{SameIfKnown}
use Rattle.trust_sets.proofs.Alike.{AreAlike, alike_append, alike_cut, alike_itself, columns_depend, known_word, others_alike, word_depends}
use Rattle.trust_sets.proofs.StepLaws.{StepLaws}
use Rattle.trust_sets.proofs.Needs.{in_both, of_each, what_rows_need}

-- the same width and columns under other names
same_along : {w v : ℕ} {ks ls : List ℕ} (xs ys : List (List ℕ)) → w ≡ v → ks ≡ ls → SameCut w ks xs ys → SameCut v ls xs ys
same_along {w} {v} {ks} {ls} xs ys e f same = subst (λ n. SameCut n ls xs ys) e (subst (λ l. SameCut w l xs ys) f same)

-- sets that are met with one in which the party is lose nothing for it
map_at : (f : Parties → Parties) → f no_party ≡ no_party → (sets : List Parties) (column : ℕ) → get_or (map f sets) column no_party ≡ f (get_or sets column no_party)
map_at f none [] column = sym none
map_at f none (set ∷ sets) zero = refl
map_at f none (set ∷ sets) (suc column) = map_at f none sets column

same_tests : (a b : Bool) → (a ≡ true → b ≡ true) → (b ≡ true → a ≡ true) → a ≡ b
same_tests true b right left = sym (right refl)
same_tests false true right left = left refl
same_tests false false right left = refl

narrowed_columns : (party : ℕ) (source : Known) (tests : List Test) → KnowsRows party (known_filter source tests) → known_columns party source ≡ known_columns party (known_filter source tests)
narrowed_columns party source tests known =
    let new = known_filter source tests in
    let f = λ (set : Parties). common_parties set new.rows in
    let same : (c : ℕ) → has (column_set source c) party ≡ has (column_set new c) party = λ c.
    same_tests (has (column_set source c) party) (has (f (column_set source c)) party) (λ h. of_each (column_set source c) new.rows party h known) (λ h. (in_both (column_set source c) new.rows party h).0)
    ∙ ap (λ set. has set party) (sym (map_at f refl source.columns c)) in
    filter_agree (λ c. has (column_set source c) party) (λ c. has (column_set new c) party) same (range_with_len 0 (length source.columns))
    ∙ ap (λ n. filter (λ c. has (column_set new c) party) (range_with_len 0 n)) (sym (length-map source.columns f))

module _ (laws : StepLaws) (party : ℕ) (source : Known) where
  operand_depends : (operand : Operand) → KnowsOperand party source operand → DependsOn (length source.columns) (known_columns party source) (operand_word (operand_of operand))
  operand_depends (operands.Column column) known a b long long_too same = word_depends party source column known a b long long_too same
  operand_depends (operands.Constant word) known a b long long_too same = refl

  test_depends : (test : Test) → KnowsTest party source test → DependsOn (length source.columns) (known_columns party source) (holds_of (test_of test))
  test_depends test knows a b long long_too same =
      let left = operand_depends test.left knows.left a b long long_too same in
      let right = operand_depends test.right knows.right a b long long_too same in
      λ i. compares (comparison_of test.cmp) (left i) (right i)

  item_depends : (item : Item) → KnowsItem party source item → DependsOn (length source.columns) (known_columns party source) (item_word (item_of item))
  item_depends (items.Plain operand) knows a b long long_too same = operand_depends operand knows a b long long_too same
  item_depends (items.Computed left op right) knows a b long long_too same =
      let first = operand_depends left knows.first a b long long_too same in
      let second = operand_depends right knows.second a b long long_too same in
      λ i. computed (operation_of op) (first i) (second i)

  pub filter_step : (tests : List Test) (xs ys : List (List ℕ)) → SameIfKnown party source xs ys
      → SameIfKnown party (known_filter source tests) (kept_rows (map holds_of (map test_of tests)) xs) (kept_rows (map holds_of (map test_of tests)) ys)
  filter_step tests xs ys same known =
      let needs = what_rows_need.tested party source tests known in
      let here = same needs.rows in
      let width = length source.columns in
      let columns = known_columns party source in
      let all = map holds_of (map test_of tests) in
      let p = λ (row : List ℕ). list_all (λ (test : List ℕ → Bool). test row) all in
      let P : List ℕ → Type 0 = λ row. length row ≡ width in
      let depend : All (DependsOn width columns) all =
      All-map (DependsOn width columns) holds_of (map test_of tests) (All-map (λ test. DependsOn width columns (holds_of test)) test_of tests
      (All-weaker (KnowsTest party source) (λ test. DependsOn width columns (holds_of (test_of test))) test_depends tests needs.each)) in
      let kept : SameCut width columns (kept_rows all xs) (kept_rows all ys) = record { wide = All-filter p P xs here.wide; wide_too = All-filter p P ys here.wide_too; bag = laws.cuts.kept width columns all xs ys depend here } in
      same_along (kept_rows all xs) (kept_rows all ys) (sym (length-map source.columns (λ set. common_parties set (known_filter source tests).rows))) (narrowed_columns party source tests known) kept

  -- the items of two rows
  items_alike : (items : List Item) (a b : List ℕ) → length a ≡ length source.columns → length b ≡ length source.columns → cut (known_columns party source) a ≡ cut (known_columns party source) b
      → AreAlike party (map (item_set source) items) (map (λ (item : List ℕ → ℕ). item a) (map item_word (map item_of items))) (map (λ (item : List ℕ → ℕ). item b) (map item_word (map item_of items)))
  items_alike [] a b long long_too same = tt
  items_alike (item ∷ items) a b long long_too same = (λ known. item_depends item (what_rows_need.item party source item known) a b long long_too same, items_alike items a b long long_too same)

  pub select_step : (items : List Item) (xs ys : List (List ℕ)) → SameIfKnown party source xs ys
      → SameIfKnown party (known_select source items) (rows_of_items (map item_word (map item_of items)) xs) (rows_of_items (map item_word (map item_of items)) ys)
  select_step items xs ys same known =
      let here = same known in
      let new = known_select source items in
      let wanted = known_columns party new in
      let words = map item_word (map item_of items) in
      let many : length words ≡ length new.columns = length-map (map item_of items) item_word ∙ length-map items item_of ∙ sym (length-map items (item_set source)) in
      let depends : DependsOn (length source.columns) (known_columns party source) (λ row. cut wanted (map (λ (item : List ℕ → ℕ). item row) words)) = λ a b long long_too e.
      alike_cut party new (map (λ (item : List ℕ → ℕ). item a) words) (map (λ (item : List ℕ → ℕ). item b) words) (items_alike items a b long long_too e) in
      record {
        wide = subst (λ n. AllWide n (rows_of_items words xs)) many (laws.widths.items words xs);
        wide_too = subst (λ n. AllWide n (rows_of_items words ys)) many (laws.widths.items words ys);
        bag = laws.cuts.items (length source.columns) (known_columns party source) wanted words xs ys depends here;
      }

  pub distinct_step : (xs ys : List (List ℕ)) → SameIfKnown party source xs ys → SameIfKnown party (known_distinct source) (distinct_rows xs) (distinct_rows ys)
  distinct_step xs ys same known =
      let needs = what_rows_need.distinct party source known in
      let here = same needs.rows in
      let new = known_distinct source in
      let count = length source.columns in
      let each : (c : ℕ) → c < count → KnowsColumn party source c = λ c below. All-get_or (λ (set : Parties). has set party ≡ true) source.columns c no_party below needs.each in
      let whole : DependsOn count (known_columns party source) (λ row. row) = λ a b long long_too e.
      ext_get_or 0 a b (long ∙ sym long_too) (λ c below. known_word party source a b e c (each c (subst (λ n. c < n) long below))) in
      let many : count ≡ length new.columns = sym (length-map source.columns (λ set. distinct_set source)) in
      record {
        wide = subst (λ n. AllWide n (distinct_rows xs)) many (laws.widths.distinct count xs here.wide);
        wide_too = subst (λ n. AllWide n (distinct_rows ys)) many (laws.widths.distinct count ys here.wide_too);
        bag = laws.maps (cut (known_columns party new)) (distinct_rows xs) (distinct_rows ys) (laws.cuts.distinct count (known_columns party source) xs ys whole here);
      }

pub join_step : StepLaws → (party : ℕ) (left right : Known) (keys : List (ℕ × ℕ)) (xs ys us vs : List (List ℕ)) → SameIfKnown party left xs ys → SameIfKnown party right us vs
    → SameIfKnown party (known_join left right keys) (joined_rows keys xs us) (joined_rows keys ys vs)
join_step laws party left right keys xs ys us vs same same_too known =
    let needs = what_rows_need.joined party left right keys known in
    let lefts = same needs.on_left in
    let rights = same_too needs.on_right in
    let new = known_join left right keys in
    let rows = joined_set left right keys in
    let lk = left_keys keys in
    let rk = right_keys keys in
    let a_width = length left.columns in
    let b_width = length right.columns in
    let left_known : All (KnowsColumn party left) lk = All-map (KnowsColumn party left) (λ (key : ℕ × ℕ). key.0) keys (All-weaker (KnowsKey party left right) (λ key. KnowsColumn party left key.0) (λ key knows. knows.on_left) keys needs.each) in
    let right_known : All (KnowsColumn party right) rk = All-map (KnowsColumn party right) (λ (key : ℕ × ℕ). key.1) keys (All-weaker (KnowsKey party left right) (λ key. KnowsColumn party right key.1) (λ key knows. knows.on_right) keys needs.each) in
    let key_sets = map (λ (key : ℕ × ℕ). rows) keys in
    let left_sets = other_sets left lk rows in
    let right_sets = other_sets right rk rows in
    let depends : JoinDependsOn keys a_width b_width (known_columns party left) (known_columns party right) (known_columns party new) = λ a b u v long long_too fits fits_too e f.
    let keyed = columns_depend party left lk left_known a b long long_too e in
    let many : length key_sets ≡ length (cut lk a) = length-map keys (λ (key : ℕ × ℕ). rows) ∙ sym (length-map keys (λ (key : ℕ × ℕ). key.0)) ∙ sym (length-map lk (λ c. word_at c a)) in
    let keys_alike : AreAlike party key_sets (cut lk a) (cut lk b) = subst (AreAlike party key_sets (cut lk a)) keyed (alike_itself party key_sets (cut lk a) many) in
    let left_alike = others_alike party left lk rows a b long long_too e in
    let right_alike = others_alike party right rk rows u v fits fits_too f in
    alike_cut party new (joined_row keys a u) (joined_row keys b v)
    (alike_append party key_sets (left_sets ++ right_sets) (cut lk a) (cut lk b) (others lk a ++ others rk u) (others lk b ++ others rk v) keys_alike
    (alike_append party left_sets right_sets (others lk a) (others lk b) (others rk u) (others rk v) left_alike right_alike)) in
    let left_many = length-map (other_columns lk a_width) (λ c. common_parties rows (column_set left c)) in
    let right_many = length-map (other_columns rk b_width) (λ c. common_parties rows (column_set right c)) in
    let wide : length new.columns ≡ joined_width keys a_width b_width = length-append key_sets (left_sets ++ right_sets) ∙ (λ i. length-map keys (λ (key : ℕ × ℕ). rows) i + (length-append left_sets right_sets ∙ (λ j. left_many j + right_many j)) i) in
    record {
      wide = subst (λ n. AllWide n (joined_rows keys xs us)) (sym wide) (laws.widths.joined keys a_width b_width xs us lefts.wide rights.wide);
      wide_too = subst (λ n. AllWide n (joined_rows keys ys vs)) (sym wide) (laws.widths.joined keys a_width b_width ys vs lefts.wide_too rights.wide_too);
      bag = laws.cuts.joined keys a_width b_width (known_columns party left) (known_columns party right) (known_columns party new) xs ys us vs
          (columns_depend party left lk left_known) (columns_depend party right rk right_known) depends lefts rights;
    }
