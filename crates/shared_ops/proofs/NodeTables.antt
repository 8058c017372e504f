-- What the operator of a node makes, from what the call for that operator makes.
use Rattle.std.proofs.Common.{◌≡◌, ℕ, ◌+◌, ◌*◌, ◌<◌, List, [], ◌∷◌, ◌++◌, length, map, get_or, refl, sym, ◌∙◌, ap, subst, arith}
use Rattle.std.specs.Prelude.{All, slice_index}
use Rattle.std.specs.List.{flat_map}
use Rattle.std.proofs.lemmas.List.{get_or-map, length-map}
use Rattle.std.proofs.lemmas.List.Sums.{sum-map}
use Rattle.bags.specs.Bag.{SameBag}
use Rattle.wires.specs.Environment.{Environment}
use Rattle.padded.specs.Table.{AreBits}
use Rattle.query_graph.specs.declared.operator.Concat as concats
use Rattle.query_graph.specs.declared.operator.Distinct as distincts
use Rattle.query_graph.specs.declared.operator.Filter as filters
use Rattle.query_graph.specs.declared.operator.Group as groups
use Rattle.query_graph.specs.declared.operator.Join as joins
use Rattle.query_graph.specs.declared.operator.Operator.{Operator}
use Rattle.query_graph.specs.declared.operator.Operator.TheVariants.{Filter, Select, Concat, Join, Group, Distinct}
use Rattle.query_graph.specs.declared.operator.Select as selects
use Rattle.query_graph.specs.Observers.{sources_of}
use Rattle.plain_operators.specs.declared.aggregate.Aggregate.{Aggregate}
use Rattle.plain_operators.specs.declared.item.Item.{Item}
use Rattle.plain_operators.specs.declared.item.Test.{Test}
use Rattle.plain_operators.specs.Items.{holds_of, item_word}
use Rattle.plain_operators.specs.OnSources.{group_of_rows, group_size}
use Rattle.plain_operators.specs.Operators.{distinct_rows, joined_rows, kept_rows, rows_of_items}
use Rattle.plain_operators.specs.Sizes.{joined_width}
use Rattle.plain_meaning.specs.Convert.{aggregate_of, item_of, test_of}
use Rattle.shared_ops.specs.declared.joint.Joint.{Joint}
use Rattle.shared_ops.specs.Joint.{AllBits, AreAlike, Makes, joint_count, joint_rows, joint_width, valid_words}
use Rattle.shared_ops.specs.Nodes.{FitsNode, MakesNode, widths_of}

-- the same table, of which the same is said otherwise
made_as : (possible : Environment → Type 0) (shape : List ℕ) (t : Joint) (n m w u : ℕ) (given known : Environment → Type 0) (f g : Environment → List (List ℕ))
    → n ≡ m → w ≡ u → ((v : Environment) → known v → given v) → ((v : Environment) → f v ≡ g v) → Makes possible shape t n w given f → Makes possible shape t m u known g
made_as possible shape t n m w u given known f g rows wide gives same h = record {
  joint = h.joint;
  rows = h.rows ∙ rows;
  wide = h.wide ∙ wide;
  bits = λ v is k. h.bits v is (gives v k);
  bag = λ v is k. subst (λ (b : List (List ℕ)). SameBag (joint_rows v t) b) (same v) (h.bag v is (gives v k));
}

-- a list of one element
one_of : {X : Type 0} (xs : List X) (d : X) → length xs ≡ 1 → xs ≡ get_or xs 0 d ∷ []
one_of [] d one = absurd (omega arith)
one_of (x ∷ []) d one = refl
one_of (x ∷ (y ∷ ys)) d one = absurd (omega arith)

-- ---- one table or two

module _ (possible : Environment → Type 0) (shape : List ℕ) (new : Joint) (node : Operator) where
  -- the valid words of the only table
  only : (t : Joint) (v : Environment) → AllBits v (t ∷ []) → AreBits (valid_words v t)
  only t v all = all 0 t (omega arith)

  pub filter_makes : (t : Joint) (f : filters.Filter) (tests : List Test) → node ≡ Filter f → tests ≡ map test_of f.tests
      → Makes possible shape new t.rows (length t.columns.items) (λ v. AreBits (valid_words v t)) (λ v. kept_rows (map holds_of tests) (joint_rows v t)) → MakesNode possible shape new node (t ∷ [])
  filter_makes t f tests is same h =
      subst (λ (n : Operator). MakesNode possible shape new n (t ∷ [])) (sym is)
      (made_as possible shape new _ _ _ _ _ _ _ _ refl refl (only t) (λ v. ap (λ ts. kept_rows (map holds_of ts) (joint_rows v t)) same) h)

  pub select_makes : (t : Joint) (s : selects.Select) (items : List Item) → node ≡ Select s → items ≡ map item_of s.items
      → Makes possible shape new t.rows (length items) (λ v. AreBits (valid_words v t)) (λ v. rows_of_items (map item_word items) (joint_rows v t)) → MakesNode possible shape new node (t ∷ [])
  select_makes t s items is same h =
      subst (λ (n : Operator). MakesNode possible shape new n (t ∷ [])) (sym is)
      (made_as possible shape new _ _ _ _ _ _ _ _ refl (ap length same) (only t) (λ v. ap (λ is. rows_of_items (map item_word is) (joint_rows v t)) same) h)

  pub join_makes : (left right : Joint) (j : joins.Join) (keys : List (ℕ × ℕ)) → node ≡ Join j → keys ≡ j.keys
      → Makes possible shape new (left.rows * right.rows) (joined_width keys (length left.columns.items) (length right.columns.items)) (λ v. AreBits (valid_words v left) × AreBits (valid_words v right))
      (λ v. joined_rows keys (joint_rows v left) (joint_rows v right)) → MakesNode possible shape new node (left ∷ right ∷ [])
  join_makes left right j keys is same h =
      subst (λ (n : Operator). MakesNode possible shape new n (left ∷ right ∷ [])) (sym is)
      (made_as possible shape new _ _ _ _ _ _ _ _ refl (ap (λ ks. joined_width ks (length left.columns.items) (length right.columns.items)) same)
      (λ v all. (all 0 left (omega arith), all 1 left (omega arith))) (λ v. ap (λ ks. joined_rows ks (joint_rows v left) (joint_rows v right)) same) h)

  pub group_makes : (t : Joint) (g : groups.Group) (keys : List ℕ) (aggregates : List Aggregate) → node ≡ Group g → keys ≡ g.keys → aggregates ≡ map aggregate_of g.aggregates
      → Makes possible shape new (group_size keys t.rows) (length keys + length aggregates) (λ v. AreBits (valid_words v t)) (λ v. group_of_rows keys aggregates (joint_rows v t))
      → MakesNode possible shape new node (t ∷ [])
  group_makes t g keys aggregates is by same h =
      subst (λ (n : Operator). MakesNode possible shape new n (t ∷ [])) (sym is)
      (made_as possible shape new _ _ _ _ _ _ _ _ (ap (λ ks. group_size ks t.rows) by) (λ i. length (by i) + length (same i)) (only t) (λ v i. group_of_rows (by i) (same i) (joint_rows v t)) h)

  distinct_makes : (t : Joint) (d : distincts.Distinct) → node ≡ Distinct d
      → Makes possible shape new t.rows (length t.columns.items) (λ v. AreBits (valid_words v t)) (λ v. distinct_rows (joint_rows v t)) → MakesNode possible shape new node (t ∷ [])
  distinct_makes t d is h =
      subst (λ (n : Operator). MakesNode possible shape new n (t ∷ [])) (sym is) (made_as possible shape new _ _ _ _ _ _ _ _ refl refl (only t) (λ v. refl) h)

  -- over a list of one table
  pub distinct_of_one : (tables : List Joint) (t : Joint) (d : distincts.Distinct) → node ≡ Distinct d → length tables ≡ length (sources_of node) → t ≡ get_or tables 0 t
      → Makes possible shape new t.rows (length t.columns.items) (λ v. AreBits (valid_words v t)) (λ v. distinct_rows (joint_rows v t)) → MakesNode possible shape new node tables
  distinct_of_one tables t d is count at h =
      let one : length tables ≡ 1 = count ∙ ap (λ (n : Operator). length (sources_of n)) is in
      subst (λ (ts : List Joint). MakesNode possible shape new node ts) (ap (λ (x : Joint). x ∷ []) at ∙ sym (one_of tables t one)) (distinct_makes t d is h)

-- ---- tables one behind the other

first_width : (tables : List Joint) → joint_width tables ≡ slice_index (widths_of tables) 0
first_width [] = refl
first_width (t ∷ ts) = refl

one_by_one : (v : Environment) (tables : List Joint) → flat_map (joint_rows v) tables ≡ flat_map (λ (rows : List (List ℕ)). rows) (map (joint_rows v) tables)
one_by_one v [] = refl
one_by_one v (t ∷ ts) = ap (λ rows. joint_rows v t ++ rows) (one_by_one v ts)

pub concat_alike : (tables : List Joint) (node : Operator) (c : concats.Concat) → node ≡ Concat c → FitsNode node (widths_of tables) → AreAlike tables
concat_alike tables node c is fits k d h =
    let same : All (λ width. width ≡ slice_index (widths_of tables) 0) (widths_of tables) = subst (λ (n : Operator). FitsNode n (widths_of tables)) is fits in
    let inside : k < length (widths_of tables) = omega (arith, length-map tables (λ (t : Joint). length t.columns.items)) in
    sym (get_or-map (λ (t : Joint). length t.columns.items) tables k d 0 h) ∙ same k 0 inside ∙ sym (first_width tables)

pub concat_makes : (possible : Environment → Type 0) (shape : List ℕ) (new : Joint) (node : Operator) (tables : List Joint) (c : concats.Concat) → node ≡ Concat c
    → Makes possible shape new (joint_count tables) (joint_width tables) (λ v. AllBits v tables) (λ v. flat_map (joint_rows v) tables) → MakesNode possible shape new node tables
concat_makes possible shape new node tables c is h =
    subst (λ (n : Operator). MakesNode possible shape new n tables) (sym is)
    (made_as possible shape new _ _ _ _ _ _ _ _ (sym (sum-map (λ (t : Joint). t.rows) tables)) (first_width tables) (λ v all. all) (λ v. one_by_one v tables) h)
