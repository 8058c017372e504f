-- A walk over a graph's nodes that counts the files of their relations.
use Rattle.std.proofs.Common.{◌≡◌, ◌≢◌, ℕ, ◌+◌, ◌^◌, ◌<◌, ◌≤◌, Bool, true, false, cond, List, [], ◌∷◌, ◌++◌, Some, length, take, drop, refl, sym, ap, ◌∙◌, subst, arith, inl, inr, length-append, below_more}
use Rattle.std.specs.Prelude.{slice_get, ◌↔◌, IsTrue}
use Rattle.std.specs.Int.{from_bool}
use Rattle.std.proofs.lemmas.Bool.{cases_lt}
use Rattle.std.proofs.lemmas.List.{length-take, take-append-drop}
use Rattle.std.proofs.lemmas.List.Elements.{filter-append, filter_more}
use Rattle.std.proofs.lemmas.List.Sums.{count_by-le-length, length-filter}
use Rattle.std.proofs.lemmas.Option.{get_or_from_slice_get, same_Some, slice_get_within}
use Rattle.std.proofs.lemmas.Slice.Zip.{AllZip-long}
use Rattle.query_graph.specs.declared.node.Node.{Node}
use Rattle.query_graph.specs.declared.operator.Operator.{Operator}
use Rattle.query_graph.specs.declared.operator.Operator.TheVariants as operators
use Rattle.query_graph.specs.declared.operator.Relation.{Relation}
use Rattle.plain_meaning.specs.Fits.{AreRowsOf, IsWorldOf, relations}
use Rattle.plain_meaning.specs.Laws.{relations_before}
use Rattle.query_graph.specs.Observers.{is_relation}
use Rattle.plain_meaning.specs.Meaning.{rows_of}
use Rattle.plain_operators.specs.Cuts.{CutsAgree}
use Rattle.trust_sets.specs.declared.known.Known.{Known}
use Rattle.trust_sets.specs.Known.{known_at}
use Rattle.trust_sets.specs.Laws.{KnowsRows}
use Rattle.trust_sets.specs.Agreement.{IsRelation, known_columns}
use Rattle.trust_sets.specs.Differs.{FirstFails, HasFile, OfRelation}

length_kept : (b : Bool) (node : Node) → length (cond b (node ∷ []) []) ≡ from_bool b
length_kept true node = refl
length_kept false node = refl

-- a relation has a file behind those of the earlier ones
pub files_more : (nodes : List Node) (number : ℕ) (node : Node) → slice_get nodes number ≡ Some node → relations_before nodes (number + 1) ≡ relations_before nodes number + from_bool (is_relation node.shape)
files_more nodes number node is =
    let at = get_or_from_slice_get nodes number node node is in
    ap length (filter_more (λ n. is_relation n.shape) nodes number node (slice_get_within nodes number node is))
    ∙ length-append (relations (take number nodes)) _
    ∙ ap (λ n. relations_before nodes number + n) (ap (λ n. length (cond (is_relation n.shape) (n ∷ []) [])) at ∙ length_kept (is_relation node.shape) node)

-- and all these files are in a world
files_within : (nodes : List Node) (world : List (List (List ℕ))) (number : ℕ) → IsWorldOf nodes world → relations_before nodes number ≤ length world
files_within nodes world number fits =
    let all : relations (take number nodes ++ drop number nodes) ≡ relations nodes = ap relations (take-append-drop number nodes) in
    let both = sym (ap length all) ∙ ap length (filter-append (λ n. is_relation n.shape) (take number nodes) (drop number nodes)) ∙ length-append (relations (take number nodes)) (relations (drop number nodes)) in
    let long = AllZip-long AreRowsOf (relations nodes) world fits in
    omega arith

from_bool_few : (b : Bool) → from_bool b ≤ 1
from_bool_few true = omega arith
from_bool_few false = omega arith

-- there are no more files than nodes
pub files_few : (nodes : List Node) (number file : ℕ) (b : Bool) → number < 2 ^ 32 → file ≡ relations_before nodes number → file + from_bool b < 2 ^ 64
files_few nodes number file b few before =
    let kept = length-filter (λ (n : Node). is_relation n.shape) (take number nodes) in
    let front = length-take number nodes in
    let most = count_by-le-length (λ (n : Node). is_relation n.shape) (take number nodes) in
    let one = from_bool_few b in
    omega arith

has_file : (world : List (List (List ℕ))) (file : ℕ) (shape : Operator) → file + from_bool (is_relation shape) ≤ length world → HasFile world file shape
has_file world file (operators.Relation r) within = omega arith
has_file world file (operators.Filter f) within = tt
has_file world file (operators.Select s) within = tt
has_file world file (operators.Concat c) within = tt
has_file world file (operators.Join j) within = tt
has_file world file (operators.Group g) within = tt
has_file world file (operators.Distinct d) within = tt

pub file_here : (nodes : List Node) (world : List (List (List ℕ))) (number file : ℕ) (node : Node) → IsWorldOf nodes world → slice_get nodes number ≡ Some node → file ≡ relations_before nodes number → HasFile world file node.shape
file_here nodes world number file node fits is before =
    let more = files_more nodes number node is in
    let within = files_within nodes world (number + 1) fits in
    has_file world file node.shape (omega arith)

-- the walk is at this number: so many files are behind it, and P holds so far
pub record Walked (nodes : List Node) (P : ℕ → Type 0) (number file : ℕ) : Type 0 where
  pub files : file ≡ relations_before nodes number
  pub earlier : (n : ℕ) → n < number → P n

-- something is asked of each relation, by the number of its node and by that of its file
module _ (nodes : List Node) (Asked : ℕ → ℕ → Relation → Type 0) where
  abbrev pub Holds : ℕ → Type 0
  Holds number = (r : Relation) → IsRelation nodes number r → Asked number (relations_before nodes number) r

  -- where the walk has come to a node
  module _ (number file : ℕ) (node : Node) (walked : Walked nodes Holds number file) (is : slice_get nodes number ≡ Some node) where
    holds_here : OfRelation (Asked number file) node.shape → Holds number
    holds_here asked r here =
        let same = same_Some node here.node (sym is ∙ here.at) in
        let of_shape = subst (OfRelation (Asked number file)) (ap (λ n. n.shape) same ∙ here.is) asked in
        subst (λ f. Asked number f r) walked.files of_shape

    asked_here : Holds number → OfRelation (Asked number file) node.shape
    asked_here holds = by node.shape refl
      where
        by : (shape : Operator) → node.shape ≡ shape → OfRelation (Asked number file) shape
        by (operators.Relation r) same = subst (λ f. Asked number f r) (sym walked.files) (holds r (record { node = node; at = is; is = same }))
        by (operators.Filter f) same = tt
        by (operators.Select s) same = tt
        by (operators.Concat c) same = tt
        by (operators.Join j) same = tt
        by (operators.Group g) same = tt
        by (operators.Distinct d) same = tt

    pub walked_more : OfRelation (Asked number file) node.shape → Walked nodes Holds (number + 1) (file + from_bool (is_relation node.shape))
    walked_more asked = record {
      files = ap (λ f. f + from_bool (is_relation node.shape)) walked.files ∙ sym (files_more nodes number node is);
      earlier = below_more Holds number walked.earlier (holds_here asked);
    }

    pub fails_here : (¬ OfRelation (Asked number file) node.shape) → FirstFails Holds number
    fails_here fails = record { earlier = walked.earlier; fails = λ holds. fails (asked_here holds) }

  pub walked_none : Walked nodes Holds 0 0
  walked_none = record { files = refl; earlier = λ n below. absurd (omega arith) }

  -- behind all nodes
  pub walked_all : (number file : ℕ) → Walked nodes Holds number file → length nodes ≤ number → (n : ℕ) → Holds n
  walked_all number file walked past n = elim (cases_lt n number) [
    | inl below ↦ walked.earlier n below
    | inr behind ↦ λ r here. let within = slice_get_within nodes n here.node here.at in absurd (omega arith)
  ]

-- what is asked of a relation's file in two worlds, where it is the party's own, and where it is another's
abbrev pub OwnAsked : ℕ → List (List (List ℕ)) → List (List (List ℕ)) → ℕ → ℕ → Relation → Type 0
OwnAsked party world other number file r = r.owner ≡ party → rows_of world file ≡ rows_of other file

abbrev pub TrustedAsked : List Known → ℕ → List (List (List ℕ)) → List (List (List ℕ)) → ℕ → ℕ → Relation → Type 0
TrustedAsked known party world other number file r = r.owner ≢ party → KnowsRows party (known_at known number) → CutsAgree (known_columns party (known_at known number)) (rows_of world file) (rows_of other file)

-- where both files are known, the latter asks that they agree
module _ (known : List Known) (party : ℕ) (world other : List (List (List ℕ))) (number file : ℕ) (r : Relation) (left right : List (List ℕ)) where
  pub trusted_part : (shape : Operator) (same : Bool) → shape ≡ operators.Relation r → r.owner ≢ party → KnowsRows party (known_at known number) → slice_get world file ≡ Some left → slice_get other file ≡ Some right
      → IsTrue same ↔ CutsAgree (known_columns party (known_at known number)) left right → IsTrue same ↔ OfRelation (TrustedAsked known party world other number file) shape
  trusted_part shape same is another knows at_left at_right agree =
      let Asked = TrustedAsked known party world other number file in
      let columns = known_columns party (known_at known number) in
      let lefts = get_or_from_slice_get world file left [] at_left in
      let rights = get_or_from_slice_get other file right [] at_right in
      let to_files = λ (h : CutsAgree columns left right). subst (λ l. CutsAgree columns l (rows_of other file)) (sym lefts) (subst (λ l. CutsAgree columns left l) (sym rights) h) in
      let from_files = λ (h : CutsAgree columns (rows_of world file) (rows_of other file)). subst (λ l. CutsAgree columns left l) rights (subst (λ l. CutsAgree columns l (rows_of other file)) lefts h) in
      (λ yes. subst (OfRelation Asked) (sym is) (λ ne k. to_files (agree.0 yes)), λ asked. agree.1 (from_files (subst (OfRelation Asked) is asked another knows)))
