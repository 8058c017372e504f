-- Names of nodes are texts.
use Rattle.std.proofs.Common.{◌≡◌, ◌≢◌, Bor, ℕ, zero, suc, ◌<◌, Bool, true, false, ◌&&◌, List, [], ◌∷◌, length, map, Some, refl, sym, subst, arith, lit<, slice_index_or}
use Rattle.std.specs.Prelude.{All, slice_get}
use Rattle.std.specs.List.{list_all}
use Rattle.std.specs.Str.{IsAscii, IsUtf8}
use Rattle.std.proofs.lemmas.Grind.{common_steps}
use Rattle.std.proofs.lemmas.List.{get_or-map}
use Rattle.std.proofs.lemmas.List.Elements.{All-nil}
use Rattle.std.proofs.lemmas.Option.{get_or_from_slice_get, slice_get-get_or, slice_get_within}
use Rattle.std.proofs.lemmas.Str.{IsUtf8-from_ascii}
use Rattle.query_tokens.specs.Token.{IsName, is_word, is_word_byte, starts_word}
use Rattle.query_graph.specs.Content.{Content}
use Rattle.query_graph.specs.IsGraph.{IsGraph, IsNode, FitsSources}
use Rattle.query_graph.specs.declared.node.Node.{Node}
use Rattle.query_graph.specs.declared.node.Output.{Output}
use Rattle.query_graph.specs.declared.operator.Operator.{Operator}
use Rattle.query_graph.specs.declared.operator.Operator.TheVariants as operators
use Rattle.words.specs.declared.column.Column.{Column}
use Rattle.words.specs.declared.column.Kind.TheVariants.{Flag}
use Rattle.conclave_top.proofs.ReadFiles.{within_map}
use Rattle.conclave_top.specs.Relations.{IsStored}
use Rattle.plain_meaning.specs.Fits.{relations}
use Rattle.query_graph.specs.Observers.{is_relation}

and_left : (a b : Bool) → a && b ≡ true → a ≡ true
and_left true b both = refl
and_left false b both = both

and_right : (a b : Bool) → a && b ≡ true → b ≡ true
and_right true b both = both
and_right false b both = cc

word_byte_is_ascii : (byte : ℕ) → is_word_byte byte ≡ true → byte < 128
word_byte_is_ascii byte word = grind (arith, common_steps)

first_is_ascii : (byte : ℕ) → starts_word byte ≡ true → byte < 128
first_is_ascii byte word = grind (arith, common_steps)

bytes_are_ascii : (bytes : List ℕ) → list_all is_word_byte bytes ≡ true → IsAscii bytes
bytes_are_ascii [] word i = lit< tt
bytes_are_ascii (byte ∷ bytes) word zero = word_byte_is_ascii byte (and_left (is_word_byte byte) (list_all is_word_byte bytes) word)
bytes_are_ascii (byte ∷ bytes) word (suc i) = bytes_are_ascii bytes (and_right (is_word_byte byte) (list_all is_word_byte bytes) word) i

word_is_ascii : (bytes : List ℕ) → is_word bytes ≡ true → IsAscii bytes
word_is_ascii [] word i = lit< tt
word_is_ascii (byte ∷ bytes) word zero = first_is_ascii byte (and_left (starts_word byte) (list_all is_word_byte bytes) word)
word_is_ascii (byte ∷ bytes) word (suc i) = bytes_are_ascii bytes (and_right (starts_word byte) (list_all is_word_byte bytes) word) i

name_is_text : (bytes : List ℕ) → IsName bytes → IsUtf8 bytes
name_is_text bytes is = IsUtf8-from_ascii bytes (word_is_ascii bytes is.word)

pub all_cons : {A : Type 0} (P : A → Type 0) (x : A) (xs : List A) → P x → All P xs → All P (x ∷ xs)
all_cons P x xs here others zero d within = here
all_cons P x xs here others (suc i) d within = others i d (omega arith)

all_first : {A : Type 0} (P : A → Type 0) (x : A) (xs : List A) → All P (x ∷ xs) → P x
all_first P x xs all = all 0 x (omega arith)

all_others : {A : Type 0} (P : A → Type 0) (x : A) (xs : List A) → All P (x ∷ xs) → All P xs
all_others P x xs all i d within = all (suc i) d (omega arith)

-- a node of a graph that is a relation has no column of flags
relation_columns : (nodes : List Node) (i : ℕ) (n : Node) (shape : Operator) → is_relation shape ≡ true → FitsSources nodes i n shape → All (λ (c : Column). c.kind ≢ Flag) n.columns
relation_columns nodes i n (operators.Relation r) is fits = fits.stored
relation_columns nodes i n (operators.Filter f) is fits = cc
relation_columns nodes i n (operators.Select s) is fits = cc
relation_columns nodes i n (operators.Concat c) is fits = cc
relation_columns nodes i n (operators.Join j) is fits = cc
relation_columns nodes i n (operators.Group g) is fits = cc
relation_columns nodes i n (operators.Distinct d) is fits = cc

-- what is asked of a relation, and nothing of another node
abbrev pub StoredOr : Node → Type 0
StoredOr node = is_relation node.shape ≡ true → IsStored node

each_stored : (graph : Content) → IsGraph graph → All StoredOr graph.nodes
each_stored graph is i d within relation =
    let node : Node = slice_index_or graph.nodes i d in
    let fits : IsNode graph.nodes i node = is.nodes i node (slice_get-get_or graph.nodes i d within) in
    record { name = name_is_text node.name fits.name; columns = relation_columns graph.nodes i node node.shape relation fits.sources }

kept_with : (n : Node) (nodes : List Node) → All StoredOr (n ∷ nodes) → All IsStored (relations nodes) → (b : Bool) → is_relation n.shape ≡ b → All IsStored (relations (n ∷ nodes))
kept_with n nodes all others true is = rw is (all_cons IsStored n (relations nodes) (all_first StoredOr n nodes all is) others)
kept_with n nodes all others false is = rw is others

kept_stored : (nodes : List Node) → All StoredOr nodes → All IsStored (relations nodes)
kept_stored [] all = All-nil IsStored
kept_stored (n ∷ nodes) all = kept_with n nodes all (kept_stored nodes (all_others StoredOr n nodes all)) (is_relation n.shape) refl

-- the relations of a graph can be kept in files
pub relations_stored : (graph : Content) → IsGraph graph → All IsStored (relations graph.nodes)
relations_stored graph is = kept_stored graph.nodes (each_stored graph is)

-- and so can lent ones
pub lent_stored : (lent : List (Bor Node)) (relations : List Node) → map (λ node. node.now) lent ≡ relations → All IsStored relations → All (λ node. IsStored node.now) lent
lent_stored lent relations same all i d within =
    subst IsStored (get_or-map (λ node. node.now) lent i d d.now within) (subst (All IsStored) (sym same) all i d.now (within_map (λ node. node.now) lent i within))

-- the name of a node is a text, and an output is of a node
pub node_is_text : (graph : Content) (i : ℕ) (node : Node) → IsGraph graph → slice_get graph.nodes i ≡ Some node → IsUtf8 node.name
node_is_text graph i node is here = name_is_text node.name (is.nodes i node here).name

pub output_within : (graph : Content) (number : ℕ) (output : Output) → IsGraph graph → slice_get graph.outputs number ≡ Some output → output.node < length graph.nodes
output_within graph number output is here =
    subst (λ (o : Output). o.node < length graph.nodes) (get_or_from_slice_get graph.outputs number output output here) (is.outputs number output (slice_get_within graph.outputs number output here)).node
