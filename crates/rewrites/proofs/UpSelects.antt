-- What is known of a node that is up: a select whose source has a lower number, undone by the items that copy.
use Rattle.std.proofs.Common.{◌≡◌, ℕ, zero, suc, ◌+◌, ◌<◌, Bool, true, false, cond, ◌&&◌, ◌||◌, List, [], ◌∷◌, Some, length, map, get_or, refl, sym, ◌∙◌, ap, arith}
use Rattle.std.specs.Prelude.{slice_get}
use Rattle.std.specs.List.{All, list_any, range_with_len}
use Rattle.std.specs.Option.{is_none}
use Rattle.std.proofs.lemmas.Bool.{false≢true}
use Rattle.std.proofs.lemmas.Bool.Decides.{nat_tests}
use Rattle.std.proofs.lemmas.List.Elements.{All-head}
use Rattle.std.proofs.lemmas.List.FromFn.{fill_by_all}
use Rattle.std.proofs.lemmas.Option.{same_Some}
use Rattle.query_graph.specs.declared.node.Node.{Node}
use Rattle.query_graph.specs.declared.operand.Item.{Item}
use Rattle.query_graph.specs.declared.operand.Item.TheVariants as items
use Rattle.query_graph.specs.declared.operand.Operand.TheVariants as operands
use Rattle.query_graph.specs.declared.operator.Operator.{Operator}
use Rattle.query_graph.specs.declared.operator.Operator.TheVariants as operators
use Rattle.query_graph.specs.Content.{Content}
use Rattle.query_graph.specs.NodeSizes.{width_at}
use Rattle.query_graph.specs.Observers.{sources_of}
use Rattle.plain_operators.specs.Columns.{word_at}
use Rattle.plain_operators.specs.Items.{item_word}
use Rattle.plain_meaning.specs.Convert.{item_of}
use Rattle.plain_meaning.specs.Meaning.{node_rows, rows_of}
use Rattle.rewrites.specs.declared.part.Part.{Part}
use Rattle.rewrites.specs.Opened.{copied_word, restored_row, selected_row, source_of}
use Rattle.rewrites.specs.Parts.{is_joint, parts_at}
use Rattle.rewrites.specs.Up.{can_go_up, copies_columns, is_copy, is_shown_once, is_up_before, up_from}
use Rattle.rewrites.proofs.EachColumn.{each_passes}

pub and_left : (a b : Bool) → (a && b) ≡ true → a ≡ true
and_left true b both = refl
and_left false b both = absurd (false≢true both)

pub and_right : (a b : Bool) → (a && b) ≡ true → b ≡ true
and_right true b both = both
and_right false b both = absurd (false≢true both)

-- ---- a select that copies each column is undone

first_found : (b : Bool) (word rest wanted : ℕ) → (b ≡ true → word ≡ wanted) → (b ≡ false → rest ≡ wanted) → cond b word rest ≡ wanted
first_found true word rest wanted here behind = here refl
first_found false word rest wanted here behind = behind refl

module _ (row : List ℕ) where
  copy_word : (column : ℕ) (item : Item) → is_copy column item ≡ true → item_word (item_of item) row ≡ word_at column row
  copy_word column (items.Plain (operands.Column c)) is = let same : c ≡ column = grind (arith, nat_tests) in ap (λ k. word_at k row) same
  copy_word column (items.Plain (operands.Constant word)) is = absurd (false≢true is)
  copy_word column (items.Computed left op right) is = absurd (false≢true is)

  copied : (column : ℕ) (wanted : List Item) → list_any (λ item. is_copy column item) wanted ≡ true → copied_word column wanted (map (λ item. item row) (map item_word (map item_of wanted))) ≡ word_at column row
  copied column [] some = absurd (false≢true some)
  copied column (item ∷ wanted) some =
      let behind = copied_word column wanted (map (λ item. item row) (map item_word (map item_of wanted))) in
      first_found (is_copy column item) (item_word (item_of item) row) behind (word_at column row) (copy_word column item)
      (λ other. copied column wanted (sym (ap (λ b. b || list_any (λ item. is_copy column item) wanted) other) ∙ some))

  restored : (wanted : List Item) (width : ℕ) → copies_columns wanted width ≡ true → length row ≡ width
      → map (λ column. copied_word column wanted (map (λ item. item row) (map item_word (map item_of wanted)))) (range_with_len 0 width) ≡ row
  restored wanted width all long =
      let passes = each_passes (λ column. list_any (λ item. is_copy column item) wanted) width all in
      sym (fill_by_all (λ column. copied_word column wanted (map (λ item. item row) (map item_word (map item_of wanted)))) row width 0 long (λ k below. sym (copied k wanted (passes k below))))

-- ---- a node that is up

module _ (graph : Content) (parts : List (List Part)) (number : ℕ) (later : List Node) (up : List Bool) where
  pub up_undone : (shape : Operator) → is_up_before graph parts number shape later up ≡ true → (row : List ℕ) → length row ≡ width_at graph.nodes (source_of shape) → restored_row graph.nodes shape (selected_row shape row) ≡ row
  up_undone (operators.Relation r) is row long = absurd (false≢true is)
  up_undone (operators.Filter f) is row long = absurd (false≢true is)
  up_undone (operators.Select s) is row long =
      let can = and_left (can_go_up graph.nodes parts s) (is_shown_once graph number later up) is in
      let joint = list_any (λ part. is_joint part) (parts_at parts s.source) in
      let copies = copies_columns s.items (width_at graph.nodes s.source) in
      restored row s.items (width_at graph.nodes s.source) (and_right joint copies (and_right (is_none s.clear_at) (joint && copies) can)) long
  up_undone (operators.Concat c) is row long = absurd (false≢true is)
  up_undone (operators.Join j) is row long = absurd (false≢true is)
  up_undone (operators.Group g) is row long = absurd (false≢true is)
  up_undone (operators.Distinct d) is row long = absurd (false≢true is)

  -- its rows are those of its source, each selected
  pub up_rows : (shape : Operator) (file : List (List ℕ)) (earlier : List (List (List ℕ))) → is_up_before graph parts number shape later up ≡ true → node_rows shape file earlier ≡ map (selected_row shape) (rows_of earlier (source_of shape))
  up_rows (operators.Relation r) file earlier is = absurd (false≢true is)
  up_rows (operators.Filter f) file earlier is = absurd (false≢true is)
  up_rows (operators.Select s) file earlier is = refl
  up_rows (operators.Concat c) file earlier is = absurd (false≢true is)
  up_rows (operators.Join j) file earlier is = absurd (false≢true is)
  up_rows (operators.Group g) file earlier is = absurd (false≢true is)
  up_rows (operators.Distinct d) file earlier is = absurd (false≢true is)

  pub up_lower : (shape : Operator) (i : ℕ) → is_up_before graph parts number shape later up ≡ true → All (λ s. s < i) (sources_of shape) → source_of shape < i
  up_lower (operators.Relation r) i is lower = absurd (false≢true is)
  up_lower (operators.Filter f) i is lower = absurd (false≢true is)
  up_lower (operators.Select s) i is lower = All-head (λ s. s < i) s.source [] lower
  up_lower (operators.Concat c) i is lower = absurd (false≢true is)
  up_lower (operators.Join j) i is lower = absurd (false≢true is)
  up_lower (operators.Group g) i is lower = absurd (false≢true is)
  up_lower (operators.Distinct d) i is lower = absurd (false≢true is)

-- the node with this number, among those from another one on
pub record Found (graph : Content) (parts : List (List Part)) (n : Node) (told : Bool) : Type 0 where
  pub number : ℕ
  pub later : List Node
  pub up : List Bool
  pub is : told ≡ is_up_before graph parts number n.shape later up

pub up_found : (graph : Content) (parts : List (List Part)) (first : ℕ) (nodes : List Node) (k : ℕ) (n : Node) → slice_get nodes k ≡ Some n → Found graph parts n (get_or (up_from graph parts first nodes) k false)
up_found graph parts first [] k n at = absurd cc
up_found graph parts first (m ∷ nodes) zero n at =
    let later = up_from graph parts (first + 1) nodes in
    record { number = first; later = nodes; up = later; is = ap (λ (q : Node). is_up_before graph parts first q.shape nodes later) (same_Some m n at) }
up_found graph parts first (m ∷ nodes) (suc k) n at = up_found graph parts (first + 1) nodes k n at
