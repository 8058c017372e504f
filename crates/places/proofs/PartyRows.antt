-- The rows of a party's parts, part by part, and the key lists in them.
use Rattle.std.proofs.Common.{◌≡◌, ℕ, ◌+◌, ◌<◌, ◌≤◌, Bool, false, cond, List, [], ◌++◌, Option, Some, None, length, map, get_or, drop, take, sym, ◌∙◌, ap, subst, arith}
use Rattle.std.specs.Prelude.{slice_get, IsSomeAnd}
use Rattle.std.specs.List.{All}
use Rattle.std.specs.Option.{option_map_or}
use Rattle.std.proofs.lemmas.List.{drop_more, get_or-map, length-map, length-take}
use Rattle.tables.specs.Content as table
use Rattle.query_graph.specs.declared.node.Node.{Node}
use Rattle.query_graph.specs.declared.operator.Group.{Group}
use Rattle.query_graph.specs.declared.operator.Operator.{Operator}
use Rattle.query_graph.specs.declared.operator.Operator.TheVariants as operators
use Rattle.query_graph.specs.Content.{Content}
use Rattle.query_graph.specs.IsGraph.{FitsSources, IsGroup, IsNode, IsSource}
use Rattle.query_graph.specs.Observers.{parts_at_most_of}
use Rattle.plain_operators.specs.declared.aggregate.Aggregate.{Aggregate}
use Rattle.plain_operators.specs.Limits.{first_of}
use Rattle.plain_operators.specs.Operators.{grouped_row, grouped_rows, key_lists}
use Rattle.plain_operators.specs.Within.{HasColumns}
use Rattle.plain_meaning.specs.Columns.{columns_at}
use Rattle.plain_meaning.specs.Plain.{is_over}
use Rattle.rewrites.specs.declared.part.Part.{Part}
use Rattle.rewrites.specs.Parts.{is_clear_at}
use Rattle.places.specs.Excess.{party_keys, party_rows, rows_at_party}

-- one part more, which is the party's or not
pub party_more : (party : ℕ) (lent parts : List Part) (pieces : List (List (List ℕ))) (i : ℕ) (d : Part) (told is : Bool) → lent ≡ parts → i < length lent → length pieces ≡ length parts → told ≡ is_clear_at party (get_or lent i d) → told ≡ is
    → rows_at_party party (drop i parts) (drop i pieces) ≡ cond is (get_or pieces i []) [] ++ rows_at_party party (drop (i + 1) parts) (drop (i + 1) pieces)
party_more party lent parts pieces i d told is same below long says known =
    let inside = subst (λ l. i < length l) same below in
    let here = drop_more parts i d inside in
    let rows = drop_more pieces i [] (subst (λ l. i < l) (sym long) inside) in
    let clear = ap (λ l. is_clear_at party (get_or l i d)) (sym same) ∙ sym says ∙ known in
    (λ k. rows_at_party party (here k) (rows k)) ∙ ap (λ b. cond b (get_or pieces i []) [] ++ rows_at_party party (drop (i + 1) parts) (drop (i + 1) pieces)) clear

-- there are at most as many tables as nodes
pub tables_few : (nodes : List Node) (tables : List table.Content) → map (λ t. t.columns) tables ≡ map (λ n. n.columns) (take (length tables) nodes) → length tables ≤ length nodes
tables_few nodes tables same =
    let count = sym (length-map tables (λ (t : table.Content). t.columns)) ∙ ap (λ l. length l) same ∙ length-map (take (length tables) nodes) (λ (n : Node). n.columns) ∙ length-take (length tables) nodes in
    omega (arith, count)

-- what is asked of lent rows by their width
pub fits_lent : {X : Type 0} (P : ℕ → Type 0) (f : X → List ℕ) (xs : List X) (rows : List (List ℕ)) (w : ℕ) → map f xs ≡ rows → All (λ row. length row ≡ w) rows → P w → All (λ x. P (length (f x))) xs
fits_lent P f xs rows w same wide fits k d below =
    let inside : k < length rows = subst (λ n. k < n) (sym (length-map xs f) ∙ ap length same) below in
    let at : get_or rows k (f d) ≡ f (get_or xs k d) = ap (λ l. get_or l k (f d)) (sym same) ∙ get_or-map f xs k d (f d) below in
    subst P (sym (wide k (f d) inside) ∙ ap length at) fits

-- the source of a group, and its keys
keys_in : (found : Option Node) (n : Node) (g : Group) → IsSomeAnd found (λ m. IsGroup m.columns m.rows n g) → HasColumns g.keys (length (option_map_or (λ m. m.columns) found []))
keys_in None n g fits = absurd fits
keys_in (Some m) n g fits = fits.keys

pub group_source : (nodes : List Node) (i : ℕ) (n : Node) (g : Group) → IsNode nodes i n → n.shape ≡ operators.Group g → (g.source < i) × HasColumns g.keys (length (columns_at nodes g.source))
group_source nodes i n g node is =
    let source : IsSource nodes i g.source (λ columns rows. IsGroup columns rows n g) = subst (FitsSources nodes i n) is node.sources in
    (source.earlier, keys_in (slice_get nodes g.source) n g source.fits)

-- what a flag of parts counts
module _ (graph : Content) (world : List (List (List ℕ))) (party i : ℕ) (n : Node) (at : slice_get graph.nodes i ≡ Some n) where
  abbrev above : Operator → Bool
  above shape = is_over (parts_at_most_of shape) (party_keys graph world shape party)

  pub keys_counted : (g : Group) → n.shape ≡ operators.Group g
      → option_map_or (λ (n : Node). above n.shape) (slice_get graph.nodes i) false ≡ is_over g.parts_at_most (key_lists g.keys (party_rows graph world g.source party))
  keys_counted g is = ap (λ o. option_map_or (λ (n : Node). above n.shape) o false) at ∙ ap above is

  pub none_counted : parts_at_most_of n.shape ≡ None → option_map_or (λ (n : Node). above n.shape) (slice_get graph.nodes i) false ≡ false
  none_counted none = ap (λ o. option_map_or (λ (n : Node). above n.shape) o false) at ∙ ap (λ b. is_over b (party_keys graph world n.shape party)) none

-- a group without aggregates has a row for each key list
pub groups_counted : (keys : List ℕ) (aggregates : List Aggregate) (rows made : List (List ℕ)) → made ≡ first_of None (grouped_rows keys aggregates rows) → length made ≡ length (key_lists keys rows)
groups_counted keys aggregates rows made is = ap length is ∙ length-map (key_lists keys rows) (grouped_row keys aggregates rows)
