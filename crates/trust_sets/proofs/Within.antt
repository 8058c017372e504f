-- Who may know a column of a node may know its rows.
use Rattle.std.proofs.Common.{◌≡◌, ℕ, ◌||◌, Bool, true, false, cond, nat_eq, List, [], ◌∷◌, ◌++◌, map, length, get_or, zero, suc, refl}
use Rattle.std.specs.List.{All, fold, zip}
use Rattle.std.proofs.lemmas.List.Elements.{All-append, All-cons, All-head, All-map, All-nil, All-tail}
use Rattle.query_graph.specs.declared.node.Node.{Node}
use Rattle.query_graph.specs.declared.operand.Aggregate.{Aggregate}
use Rattle.query_graph.specs.declared.operand.Aggregate.TheVariants as aggregates
use Rattle.query_graph.specs.declared.operator.Operator.{Operator}
use Rattle.query_graph.specs.declared.operator.Operator.TheVariants as operators
use Rattle.query_graph.specs.declared.parties.Parties.{Parties}
use Rattle.query_graph.specs.Parties.{common_parties, has, no_party, united_parties}
use Rattle.plain_operators.specs.Columns.{other_columns}
use Rattle.plain_operators.specs.Operators.{left_keys, right_keys}
use Rattle.trust_sets.specs.declared.known.Known.{Known}
use Rattle.trust_sets.specs.Known.{aggregate_set, column_set, distinct_set, grouped_set, item_set, joined_set, known_at, known_behind, known_concat, known_node, known_nodes, known_of_both, met_with, other_sets, relation_columns}
use Rattle.trust_sets.specs.Laws.{ColumnsWithinRows}
use Rattle.trust_sets.proofs.Needs.{in_both, item_needs, of_each}

-- a set within that of the rows, as far as this party goes
abbrev Within : ℕ → Parties → Parties → Type 0
Within party rows set = has set party ≡ true → has rows party ≡ true

abbrev AreWithin : ℕ → Known → Type 0
AreWithin party known = All (Within party known.rows) known.columns

every : {A : Type 0} (Q : A → Type 0) → ((x : A) → Q x) → (xs : List A) → All Q xs
every Q each [] = All-nil Q
every Q each (x ∷ xs) = All-cons Q x xs (each x) (every Q each xs)

either_true : (a b : Bool) → (a ≡ true → (a || b) ≡ true) × (b ≡ true → (a || b) ≡ true)
either_true true b = (λ known. refl, λ known. refl)
either_true false b = (λ known. absurd cc, λ known. known)

picked_either : (p q r a b d e f g : Bool) → let one : Bool = cond p (a || b) (cond q (d || e) (cond r (f || g) false)) in
    (cond p a (cond q d (cond r f false)) ≡ true → one ≡ true) × (cond p b (cond q e (cond r g false)) ≡ true → one ≡ true)
picked_either true q r a b d e f g = either_true a b
picked_either false true r a b d e f g = either_true d e
picked_either false false true a b d e f g = either_true f g
picked_either false false false a b d e f g = (λ known. known, λ known. known)

in_one : (a b : Parties) (party : ℕ) → (has a party ≡ true → has (united_parties a b) party ≡ true) × (has b party ≡ true → has (united_parties a b) party ≡ true)
in_one a b party = picked_either (nat_eq party 1) (nat_eq party 2) (nat_eq party 3) a.first b.first a.second b.second a.third b.third

picked_none : (p q r : Bool) → cond p false (cond q false (cond r false false)) ≡ true → ⊥
picked_none true q r known = absurd cc
picked_none false true r known = absurd cc
picked_none false false true known = absurd cc
picked_none false false false known = absurd cc

-- nobody is in the empty set
pub in_none : (party : ℕ) → has no_party party ≡ true → ⊥
in_none party known = picked_none (nat_eq party 1) (nat_eq party 2) (nat_eq party 3) known

-- a union has all
stays : (party : ℕ) (set : Parties) (sets : List Parties) → has set party ≡ true → has (fold united_parties set sets) party ≡ true
stays party set [] known = known
stays party set (x ∷ xs) known = stays party (united_parties set x) xs ((in_one set x party).0 known)

union_within : (party : ℕ) (set : Parties) (sets : List Parties) → All (Within party (fold united_parties set sets)) sets
union_within party set [] = All-nil (Within party set)
union_within party set (x ∷ xs) =
    let all = fold united_parties (united_parties set x) xs in
    All-cons (Within party all) x xs (λ known. stays party (united_parties set x) xs ((in_one set x party).1 known)) (union_within party (united_parties set x) xs)

zip_within : (party : ℕ) (a b : Parties) (xs ys : List Parties) → All (Within party a) xs → All (Within party b) ys
    → All (Within party (common_parties a b)) (map (λ (pair : Parties × Parties). common_parties pair.0 pair.1) (zip xs ys))
zip_within party a b [] ys p q = All-nil (Within party (common_parties a b))
zip_within party a b (x ∷ xs) [] p q = All-nil (Within party (common_parties a b))
zip_within party a b (x ∷ xs) (y ∷ ys) p q =
    let first : Within party (common_parties a b) (common_parties x y) = λ known.
    let each = in_both x y party known in of_each a b party (All-head (Within party a) x xs p each.0) (All-head (Within party b) y ys q each.1) in
    All-cons (Within party (common_parties a b)) (common_parties x y) (map (λ (pair : Parties × Parties). common_parties pair.0 pair.1) (zip xs ys)) first
    (zip_within party a b xs ys (All-tail (Within party a) x xs p) (All-tail (Within party b) y ys q))

both_within : (party : ℕ) (a b : Known) → AreWithin party a → AreWithin party b → AreWithin party (known_of_both a b)
both_within party a b p q = zip_within party a.rows b.rows a.columns b.columns p q

concat_within : (party : ℕ) (source : Known) (sources : List Known) → AreWithin party source → All (AreWithin party) sources → AreWithin party (fold known_of_both source sources)
concat_within party source [] p all = p
concat_within party source (other ∷ others) p all =
    concat_within party (known_of_both source other) others (both_within party source other p (All-head (AreWithin party) other others all)) (All-tail (AreWithin party) other others all)

sources_within : (party : ℕ) (sources : List Known) → All (AreWithin party) sources → AreWithin party (known_concat sources)
sources_within party [] all = All-nil (Within party no_party)
sources_within party (source ∷ sources) all =
    concat_within party source sources (All-head (AreWithin party) source sources all) (All-tail (AreWithin party) source sources all)

aggregate_within : (party : ℕ) (source : Known) (rows : Parties) (aggregate : Aggregate) → Within party rows (aggregate_set source rows aggregate)
aggregate_within party source rows (aggregates.Sum column) known = (in_both rows (column_set source column) party known).0
aggregate_within party source rows aggregates.Count known = known
aggregate_within party source rows (aggregates.Least column) known = (in_both rows (column_set source column) party known).0
aggregate_within party source rows (aggregates.Greatest column) known = (in_both rows (column_set source column) party known).0

-- the rows' own set for each part
own_within : {A : Type 0} (party : ℕ) (rows : Parties) (parts : List A) → All (Within party rows) (map (λ part. rows) parts)
own_within party rows parts = All-map (Within party rows) (λ part. rows) parts (every (λ part. Within party rows rows) (λ part known. known) parts)

others_within : (party : ℕ) (source : Known) (keys : List ℕ) (rows : Parties) → All (Within party rows) (other_sets source keys rows)
others_within party source keys rows =
    let columns = other_columns keys (length source.columns) in
    All-map (Within party rows) (met_with source rows) columns (every (λ c. Within party rows (met_with source rows c)) (λ c known. (in_both rows (column_set source c) party known).0) columns)

node_within : (party : ℕ) (shape : Operator) (earlier : List Known) → ((node : ℕ) → AreWithin party (known_at earlier node)) → AreWithin party (known_node shape earlier)
node_within party (operators.Relation r) earlier all = union_within party no_party (relation_columns r)
node_within party (operators.Filter f) earlier all =
    let rows = (known_node (operators.Filter f) earlier).rows in
    let columns = (known_at earlier f.source).columns in
    All-map (Within party rows) (λ set. common_parties set rows) columns (every (λ set. Within party rows (common_parties set rows)) (λ set known. (in_both set rows party known).1) columns)
node_within party (operators.Select s) earlier all =
    let source = known_at earlier s.source in
    All-map (Within party source.rows) (item_set source) s.items (every (λ item. Within party source.rows (item_set source item)) (λ item known. (item_needs party source item known).0) s.items)
node_within party (operators.Concat c) earlier all =
    sources_within party (map (known_at earlier) c.sources) (All-map (AreWithin party) (known_at earlier) c.sources (every (λ s. AreWithin party (known_at earlier s)) all c.sources))
node_within party (operators.Join j) earlier all =
    let left = known_at earlier j.left in
    let right = known_at earlier j.right in
    let rows = joined_set left right j.keys in
    All-append (Within party rows) (map (λ key. rows) j.keys) (other_sets left (left_keys j.keys) rows ++ other_sets right (right_keys j.keys) rows) (own_within party rows j.keys)
    (All-append (Within party rows) (other_sets left (left_keys j.keys) rows) (other_sets right (right_keys j.keys) rows) (others_within party left (left_keys j.keys) rows) (others_within party right (right_keys j.keys) rows))
node_within party (operators.Group g) earlier all =
    let source = known_at earlier g.source in
    let rows = grouped_set source g.keys in
    All-append (Within party rows) (map (λ key. rows) g.keys) (map (aggregate_set source rows) g.aggregates) (own_within party rows g.keys)
    (All-map (Within party rows) (aggregate_set source rows) g.aggregates (every (λ a. Within party rows (aggregate_set source rows a)) (aggregate_within party source rows) g.aggregates))
node_within party (operators.Distinct d) earlier all = own_within party (distinct_set (known_at earlier d.source)) (known_at earlier d.source).columns

at_within : (party : ℕ) (known : List Known) → All (AreWithin party) known → (node : ℕ) → AreWithin party (known_at known node)
at_within party [] all node = All-nil (Within party no_party)
at_within party (k ∷ ks) all zero = All-head (AreWithin party) k ks all
at_within party (k ∷ ks) all (suc node) = at_within party ks (All-tail (AreWithin party) k ks all) node

behind_within : (party : ℕ) (nodes : List Node) (earlier : List Known) → All (AreWithin party) earlier → All (AreWithin party) (known_behind earlier nodes)
behind_within party [] earlier all = all
behind_within party (n ∷ nodes) earlier all =
    let new = known_node n.shape earlier in
    let within = node_within party n.shape earlier (at_within party earlier all) in
    behind_within party nodes (earlier ++ new ∷ []) (All-append (AreWithin party) earlier (new ∷ []) all (All-cons (AreWithin party) new [] within (All-nil (AreWithin party))))

column_within : (party : ℕ) (rows : Parties) (columns : List Parties) → All (Within party rows) columns → (column : ℕ) → has (get_or columns column no_party) party ≡ true → has rows party ≡ true
column_within party rows [] all column known = absurd (in_none party known)
column_within party rows (c ∷ columns) all zero known = All-head (Within party rows) c columns all known
column_within party rows (c ∷ columns) all (suc column) known = column_within party rows columns (All-tail (Within party rows) c columns all) column known

pub columns_within_rows : ColumnsWithinRows
columns_within_rows nodes node column party known =
    let found = known_at (known_nodes nodes) node in
    column_within party found.rows found.columns (at_within party (known_nodes nodes) (behind_within party nodes [] (All-nil (AreWithin party))) node) column known
