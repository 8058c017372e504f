-- The names of a statement's node and of its columns are names, and an output has a recipient.
use Rattle.std.proofs.Common.{◌≡◌, ℕ, zero, suc, Bool, true, false, cond, not, List, [], ◌∷◌, ◌++◌, None, map, get_or, refl, ap, arith}
use Rattle.std.specs.Prelude.{◌≢◌}
use Rattle.std.specs.List.{AllByRecursion}
use Rattle.std.specs.Str.{bytes_eq}
use Rattle.std.proofs.lemmas.List.Elements.{recursion_from_All}
use Rattle.std.proofs.lemmas.Option.{slice_get-get_or}
use Rattle.words.specs.declared.column.Column.{Column}
use Rattle.query_tokens.specs.Token.{IsName, Token}
use Rattle.query_tokens.specs.declared.keyword.Keyword.TheVariants as word
use Rattle.query_tokens.specs.declared.sign.Sign.TheVariants as sign
use Rattle.query_text.specs.Grammar.{Fits, IsFilled}
use Rattle.query_text.specs.Parties.{AreParties}
use Rattle.query_text.specs.Spelling as spelled
use Rattle.query_text.specs.declared.parts.AggregateText.{AggregateText}
use Rattle.query_text.specs.declared.parts.AggregateText.TheVariants as aggregates
use Rattle.query_text.specs.declared.parts.ColumnText.{ColumnText}
use Rattle.query_text.specs.declared.parts.ItemText.{ItemText}
use Rattle.query_text.specs.declared.parts.ItemText.TheVariants as items
use Rattle.query_text.specs.declared.statement.Body.{Body}
use Rattle.query_text.specs.declared.statement.Body.TheVariants as bodies
use Rattle.query_text.specs.declared.statement.GroupText.{GroupText}
use Rattle.query_text.specs.declared.statement.JoinText.{JoinText}
use Rattle.query_text.specs.declared.statement.RelationText.{RelationText}
use Rattle.query_graph.specs.declared.node.Node.{Node}
use Rattle.query_graph.specs.declared.parties.Parties.{Parties}
use Rattle.query_graph.specs.Build.{name_of, output_of}
use Rattle.query_graph.specs.Columns.{aggregate_column, columns_of, declared_column, first_columns, item_column, key_column, other_columns}
use Rattle.query_graph.specs.Content.{Content}
use Rattle.query_graph.specs.Draft.{IsDraft}
use Rattle.query_graph.specs.Names.{is_among, node_columns}
use Rattle.query_graph.specs.Parties.{no_party, parties_of}
use Rattle.query_graph.proofs.RealTokens.{AreReal, real_back, real_front, real_items, real_separated}

-- the name that a statement defines
pub defined_name : (nodes : List Node) (line : ℕ) (body : Body) → Fits body → output_of nodes line body ≡ None → IsName (name_of body)
defined_name nodes line (bodies.Relation r) fits none = fits.real.1.0
defined_name nodes line (bodies.Filter f) fits none = fits.real.0
defined_name nodes line (bodies.Select s) fits none = fits.real.0
defined_name nodes line (bodies.Concat c) fits none = fits.real.0
defined_name nodes line (bodies.Join j) fits none = fits.real.0
defined_name nodes line (bodies.Group g) fits none = fits.real.0
defined_name nodes line (bodies.Distinct d) fits none = fits.real.0
defined_name nodes line (bodies.Output o) fits none = absurd cc

abbrev pub AreNamed : List Column → Type 0
AreNamed columns = AllByRecursion (λ (c : Column). IsName c.name) columns

named_either : (b : Bool) (xs ys : List Column) → AreNamed xs → AreNamed ys → AreNamed (cond b xs ys)
named_either true xs ys first second = first
named_either false xs ys first second = second

-- columns with the names of nodes whose columns have names
named_node : (nodes : List Node) → AllByRecursion (λ (n : Node). AreNamed n.columns) nodes → (name : List ℕ) → AreNamed (node_columns nodes name)
named_node [] named name = tt
named_node (n ∷ nodes) named name = named_either (bytes_eq n.name name) n.columns (node_columns nodes name) named.0 (named_node nodes named.1 name)

-- columns made of parts with names
named_made : {A : Type 0} (name : A → List ℕ) (make : A → Column) → ((x : A) → (make x).name ≡ name x) → (xs : List A) → AllByRecursion (λ x. IsName (name x)) xs → AreNamed (map make xs)
named_made name make same [] named = tt
named_made name make same (x ∷ xs) named = (rw (same x) named.0, named_made name make same xs named.1)

named_front : (xs ys : List Column) → AreNamed xs → AreNamed ys → AreNamed (xs ++ ys)
named_front [] ys first second = second
named_front (x ∷ xs) ys first second = (first.0, named_front xs ys first.1 second)

named_others : (keys : List (List ℕ)) (columns : List Column) → AreNamed columns → AreNamed (other_columns keys columns)
named_others keys [] named = tt
named_others keys (c ∷ columns) named =
    named_either (not (is_among keys c.name)) (c ∷ other_columns keys columns) (other_columns keys columns) (named.0, named_others keys columns named.1) (named_others keys columns named.1)

-- what holds of each gives its name
each_name : {A : Type 0} (P : A → Type 0) (name : A → List ℕ) → ((x : A) → P x → IsName (name x)) → (xs : List A) → AllByRecursion P xs → AllByRecursion (λ x. IsName (name x)) xs
each_name P name is [] all = tt
each_name P name is (x ∷ xs) all = (is x all.0, each_name P name is xs all.1)

-- the names that the columns, items, keys and aggregates of a statement write
relation_names : (r : RelationText) → Fits (bodies.Relation r) → AllByRecursion (λ (c : ColumnText). IsName c.name) r.columns
relation_names r fits =
    let columns = spelled.separated (Token.sign sign.Comma) spelled.column r.columns in
    each_name (λ (c : ColumnText). AreReal (spelled.column c)) (λ (c : ColumnText). c.name) (λ c real. real.0) r.columns
    (real_separated (Token.sign sign.Comma) spelled.column r.columns
    (real_front columns (Token.sign sign.RightParen ∷ [])
    (real_front (columns ++ Token.sign sign.RightParen ∷ []) (spelled.parties_after word.Release r.release) fits.real.1.1.1.1.1.1.1)))

item_name : ItemText → List ℕ
item_name (items.Same name) = name
item_name (items.Copied new operand) = new
item_name (items.Computed new left op right) = new

item_named : (i : ItemText) → AreReal (spelled.item i) → IsName (item_name i)
unfolding item_name
item_named (items.Same name) real = real.0
item_named (items.Copied new operand) real = real.0
item_named (items.Computed new left op right) real = real.0

item_same : (source : List Column) (i : ItemText) → (item_column source i).name ≡ item_name i
unfolding item_name
item_same source (items.Same name) = refl
item_same source (items.Copied new operand) = refl
item_same source (items.Computed new left op right) = refl

aggregate_name : AggregateText → List ℕ
aggregate_name (aggregates.Sum new name) = new
aggregate_name (aggregates.Count new) = new
aggregate_name (aggregates.Least new name) = new
aggregate_name (aggregates.Greatest new name) = new

aggregate_named : (a : AggregateText) → AreReal (spelled.aggregate a) → IsName (aggregate_name a)
unfolding aggregate_name
aggregate_named (aggregates.Sum new name) real = real.0
aggregate_named (aggregates.Count new) real = real.0
aggregate_named (aggregates.Least new name) real = real.0
aggregate_named (aggregates.Greatest new name) real = real.0

aggregate_same : (source : List Column) (a : AggregateText) → (aggregate_column source a).name ≡ aggregate_name a
unfolding aggregate_name
aggregate_same source (aggregates.Sum new name) = refl
aggregate_same source (aggregates.Count new) = refl
aggregate_same source (aggregates.Least new name) = refl
aggregate_same source (aggregates.Greatest new name) = refl

names_real : (names : List (List ℕ)) → AreReal (spelled.names names) → AllByRecursion IsName names
names_real names real =
    each_name (λ (n : List ℕ). AreReal (spelled.one_name n)) (λ n. n) (λ n one. one.0) names
    (real_separated (Token.sign sign.Comma) spelled.one_name names real)

keys_real : (keys : List (List ℕ)) → AreReal (spelled.keys keys) → AllByRecursion IsName keys
keys_real [] real = tt
keys_real (k ∷ keys) real = names_real (k ∷ keys) real.1

join_names : (j : JoinText) → Fits (bodies.Join j) → AllByRecursion IsName j.keys
join_names j fits =
    names_real j.keys (real_front (spelled.names j.keys)
    (spelled.optional spelled.at_most j.at_most ++ (spelled.optional spelled.via j.via ++ spelled.optional spelled.clear_at j.clear_at)) fits.real.1.1.1.1.1.1)

-- what stands behind the keys of a group, and behind its aggregates
behind_aggregates : GroupText → List Token
behind_aggregates g =
    spelled.optional spelled.parts_at_most g.parts_at_most
    ++ (spelled.optional spelled.at_most g.at_most ++ (spelled.optional spelled.via g.via ++ spelled.optional spelled.clear_at g.clear_at))

group_keys : (g : GroupText) → Fits (bodies.Group g) → AllByRecursion IsName g.keys
unfolding behind_aggregates
group_keys g fits = keys_real g.keys (real_front (spelled.keys g.keys) (spelled.listed spelled.aggregate g.aggregates ++ behind_aggregates g) fits.real.1.1.1.1)

group_aggregates : (g : GroupText) → Fits (bodies.Group g) → AllByRecursion (λ a. IsName (aggregate_name a)) g.aggregates
unfolding behind_aggregates
group_aggregates g fits =
    let aggregates = spelled.separated (Token.sign sign.Comma) spelled.aggregate g.aggregates in
    let behind = real_back (spelled.keys g.keys) (spelled.listed spelled.aggregate g.aggregates ++ behind_aggregates g) fits.real.1.1.1.1 in
    each_name (λ a. AreReal (spelled.aggregate a)) aggregate_name aggregate_named g.aggregates
    (real_separated (Token.sign sign.Comma) spelled.aggregate g.aggregates
    (real_front aggregates (Token.sign sign.RightParen ∷ []) (real_front (aggregates ++ Token.sign sign.RightParen ∷ []) (behind_aggregates g) behind.1)))

first_named : (nodes : List Node) → AllByRecursion (λ (n : Node). AreNamed n.columns) nodes → (names : List (List ℕ)) → AreNamed (first_columns nodes names)
first_named nodes named [] = tt
first_named nodes named (name ∷ names) = named_node nodes named name

-- the columns of a statement's node have names, where those of the earlier nodes do
pub named_columns : (nodes : List Node) (body : Body) → AllByRecursion (λ (n : Node). AreNamed n.columns) nodes → Fits body → AreNamed (columns_of nodes body)
named_columns nodes (bodies.Relation r) named fits = named_made (λ (c : ColumnText). c.name) declared_column (λ c. refl) r.columns (relation_names r fits)
named_columns nodes (bodies.Filter f) named fits = named_node nodes named f.source
named_columns nodes (bodies.Select s) named fits =
    let source = node_columns nodes s.source in
    named_made item_name (item_column source) (item_same source) s.items (each_name (λ i. AreReal (spelled.item i)) item_name item_named s.items (real_items s fits))
named_columns nodes (bodies.Concat c) named fits = first_named nodes named c.sources
named_columns nodes (bodies.Join j) named fits =
    let left = node_columns nodes j.left in
    let right = node_columns nodes j.right in
    let keys = map (key_column left) j.keys in
    named_front (keys ++ other_columns j.keys left) (other_columns j.keys right)
    (named_front keys (other_columns j.keys left) (named_made (λ n. n) (key_column left) (λ n. refl) j.keys (join_names j fits)) (named_others j.keys left (named_node nodes named j.left)))
    (named_others j.keys right (named_node nodes named j.right))
named_columns nodes (bodies.Group g) named fits =
    let source = node_columns nodes g.source in
    named_front (map (key_column source) g.keys) (map (aggregate_column source) g.aggregates) (named_made (λ n. n) (key_column source) (λ n. refl) g.keys (group_keys g fits))
    (named_made aggregate_name (aggregate_column source) (aggregate_same source) g.aggregates (group_aggregates g fits))
named_columns nodes (bodies.Distinct d) named fits = named_node nodes named d.source
named_columns nodes (bodies.Output o) named fits = tt

pub named_tables : (graph : Content) → IsDraft graph → AllByRecursion (λ (n : Node). AreNamed n.columns) graph.nodes
named_tables graph is = recursion_from_All (λ (n : Node). AreNamed n.columns) graph.nodes
    (λ i d within. let n = is.nodes i (get_or graph.nodes i d) (slice_get-get_or graph.nodes i d within) in recursion_from_All (λ (c : Column). IsName c.name) (get_or graph.nodes i d).columns n.column_names)

-- parties that a text writes behind `to` are some
pub some_recipient : (parties : List ℕ) → IsFilled parties → AreParties parties → parties_of parties ≢ no_party
some_recipient [] filled are = absurd filled
some_recipient (zero ∷ parties) filled are = absurd (omega (arith, are.0))
some_recipient (suc zero ∷ parties) filled are = λ same. let wrong : true ≡ false = ap (λ (set : Parties). set.first) same in absurd cc
some_recipient (suc (suc zero) ∷ parties) filled are = λ same. let wrong : true ≡ false = ap (λ (set : Parties). set.second) same in absurd cc
some_recipient (suc (suc (suc zero)) ∷ parties) filled are = λ same. let wrong : true ≡ false = ap (λ (set : Parties). set.third) same in absurd cc
some_recipient (suc (suc (suc (suc p))) ∷ parties) filled are = absurd (omega (arith, are.1))
