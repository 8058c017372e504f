-- Why a node is worked where it is.
use Rattle.std.proofs.Common.{◌≡◌, ℕ, zero, suc, ◌≤◌, Bool, true, false, cond, List, [], ◌∷◌, Option, Some, None, refl, sym, ◌∙◌, ap, subst, get_or, ◌==◌, ◌&&◌, arith, inl, inr, ◌⊎◌}
use Rattle.std.specs.Prelude.{unwrap_or}
use Rattle.std.specs.List.{All, list_all}
use Rattle.std.specs.Option.{option_or}
use Rattle.std.proofs.lemmas.Bool.{false≢true}
use Rattle.std.proofs.lemmas.Bool.Decides.{nat_tests}
use Rattle.std.proofs.lemmas.List.Elements.{All-cons, All-nil}
use Rattle.std.proofs.lemmas.Option.{cond_some, none-some, same_Some}
use Rattle.query_graph.specs.declared.node.Node.{Node}
use Rattle.query_graph.specs.declared.operator.Operator.{Operator}
use Rattle.query_graph.specs.declared.operator.Operator.TheVariants as operators
use Rattle.query_graph.specs.declared.parties.Parties.{Parties}
use Rattle.query_graph.specs.Content.{Content}
use Rattle.query_graph.specs.NodeSizes.{IsNodeOf}
use Rattle.query_graph.specs.Observers.{clear_at_of, via_of}
use Rattle.query_graph.specs.Parties.{has}
use Rattle.trust_sets.specs.declared.known.Known.{Known}
use Rattle.trust_sets.specs.Known.{known_at}
use Rattle.rewrites.specs.declared.part.Part.{Part}
use Rattle.rewrites.specs.declared.part.PartPlace.{PartPlace}
use Rattle.rewrites.specs.declared.part.PartPlace.TheVariants as part_places
use Rattle.rewrites.specs.Laws.{NodesHaveParts}
use Rattle.rewrites.specs.Parts.{clear_party, clear_place, common_party, is_at, is_clear_at, only_place, operator_place, parts_at, parts_of, placed, source_parts, whole_place}
use Rattle.rewrites.specs.Parts as rewrites
use Rattle.rewrites.specs.Rewritten.{Rewritten, rewritten_of}
use Rattle.rewrites.specs.Up.{is_up_at}
use Rattle.places.specs.declared.place.Place.{Place}
use Rattle.places.specs.declared.place.Place.TheVariants as places
use Rattle.places.specs.Bounds.{counter}
use Rattle.places.specs.Laws.{IsLeast}
use Rattle.places.specs.Place.{group_place, helper, hybrid_or_shared, joint_place, least_party, node_place, part_place, parts_place}

-- ---- the party that helps

from_one : (set : Parties) (other : ℕ) → has set other ≡ true → 1 ≤ other
from_one set zero member = absurd (false≢true member)
from_one set (suc other) member = omega arith

from_two : (second third : Bool) (other : ℕ) → has (record { first = false; second = second; third = third }) other ≡ true → 2 ≤ other
from_two second third zero member = absurd (false≢true member)
from_two second third (suc zero) member = absurd (false≢true member)
from_two second third (suc (suc other)) member = omega arith

from_three : (third : Bool) (other : ℕ) → has (record { first = false; second = false; third = third }) other ≡ true → 3 ≤ other
from_three third zero member = absurd (false≢true member)
from_three third (suc zero) member = absurd (false≢true member)
from_three third (suc (suc zero)) member = absurd (false≢true member)
from_three third (suc (suc (suc other))) member = omega arith

least_of : (first second third : Bool) (party : ℕ) → least_party (record { first = first; second = second; third = third }) ≡ Some party → IsLeast (record { first = first; second = second; third = third }) party
least_of true second third party is = let set : Parties = record { first = true; second = second; third = third } in subst (IsLeast set) (same_Some 1 party is) (record { member = refl; least = from_one set })
least_of false true third party is = subst (IsLeast (record { first = false; second = true; third = third })) (same_Some 2 party is) (record { member = refl; least = from_two true third })
least_of false false true party is = subst (IsLeast (record { first = false; second = false; third = true })) (same_Some 3 party is) (record { member = refl; least = from_three true })
least_of false false false party is = absurd (none-some party is)

found : (helping : Option ℕ) (party : ℕ) → hybrid_or_shared helping ≡ places.Hybrid party → helping ≡ Some party
found None party is = absurd cc
found (Some p) party is = ap counter is

helped : (via : Option ℕ) (rows : Parties) (party : ℕ) → hybrid_or_shared (helper via rows) ≡ places.Hybrid party → (via ≡ Some party) ⊎ ((via ≡ None) × IsLeast rows party)
helped (Some p) rows party is = inl (found (Some p) party is)
helped None rows party is = inr (refl, least_of rows.first rows.second rows.third party (found (least_party rows) party is))

by_group : (keys : List ℕ) (via : Option ℕ) (rows : Parties) (party : ℕ) → group_place keys via rows ≡ places.Hybrid party → (via ≡ Some party) ⊎ ((via ≡ None) × IsLeast rows party)
by_group [] via rows party is = absurd cc
by_group (key ∷ keys) via rows party is = helped via rows party is

by_operator : (shape : Operator) (rows : Parties) (party : ℕ) → joint_place shape rows ≡ places.Hybrid party → (via_of shape ≡ Some party) ⊎ ((via_of shape ≡ None) × IsLeast rows party)
by_operator (operators.Relation r) rows party is = absurd cc
by_operator (operators.Filter f) rows party is = absurd cc
by_operator (operators.Select s) rows party is = absurd cc
by_operator (operators.Concat c) rows party is = absurd cc
by_operator (operators.Join j) rows party is = helped j.via rows party is
by_operator (operators.Group g) rows party is = by_group g.keys g.via rows party is
by_operator (operators.Distinct d) rows party is = absurd cc

by_part : (place : PartPlace) (shape : Operator) (rows : Parties) (party : ℕ) → part_place place shape rows ≡ places.Hybrid party → (via_of shape ≡ Some party) ⊎ ((via_of shape ≡ None) × IsLeast rows party)
by_part (part_places.Clear p) shape rows party is = absurd cc
by_part part_places.Joint shape rows party is = by_operator shape rows party is

by_parts : (up : Bool) (parts : List Part) (shape : Operator) (rows : Parties) (party : ℕ) → cond up places.Up (parts_place parts shape rows) ≡ places.Hybrid party → (via_of shape ≡ Some party) ⊎ ((via_of shape ≡ None) × IsLeast rows party)
by_parts true parts shape rows party is = absurd cc
by_parts false [] shape rows party is = absurd cc
by_parts false (part ∷ []) shape rows party is = by_part part.place shape rows party is
by_parts false (part ∷ other ∷ parts) shape rows party is = absurd cc

pub hybrid_place : (known : List Known) (rewritten : Rewritten) (i party : ℕ) (node : Node) → node_place known rewritten i node.shape ≡ places.Hybrid party
    → (via_of node.shape ≡ Some party) ⊎ ((via_of node.shape ≡ None) × IsLeast (known_at known i).rows party)
hybrid_place known rewritten i party node is = by_parts (is_up_at rewritten.up i) (parts_at rewritten.parts i) node.shape (known_at known i).rows party is

-- ---- a node in the clear

abbrev clear_place_party : Place → Option ℕ
clear_place_party (places.Clear party) = Some party
clear_place_party _ = None

shared_or : (helping : Option ℕ) → clear_place_party (hybrid_or_shared helping) ≡ None
shared_or None = refl
shared_or (Some p) = refl

not_by_group : (keys : List ℕ) (via : Option ℕ) (rows : Parties) → clear_place_party (group_place keys via rows) ≡ None
not_by_group [] via rows = refl
not_by_group (key ∷ keys) via rows = shared_or (helper via rows)

not_by_operator : (shape : Operator) (rows : Parties) → clear_place_party (joint_place shape rows) ≡ None
not_by_operator (operators.Relation r) rows = refl
not_by_operator (operators.Filter f) rows = refl
not_by_operator (operators.Select s) rows = refl
not_by_operator (operators.Concat c) rows = refl
not_by_operator (operators.Join j) rows = shared_or (helper j.via rows)
not_by_operator (operators.Group g) rows = not_by_group g.keys g.via rows
not_by_operator (operators.Distinct d) rows = refl

itself : (party : ℕ) → (party == party) ≡ true
itself party = grind (arith, nat_tests)

same_place : (a b : Part) → a ∷ [] ≡ b ∷ [] → a.place ≡ b.place
same_place a b same = ap (λ l. (get_or l 0 a).place) same

both_hold : (a b : Bool) → (a && b) ≡ true → (a ≡ true) × (b ≡ true)
both_hold true b is = (refl, is)
both_hold false b is = absurd (false≢true is)

all_hold : {X : Type 0} (p : X → Bool) (xs : List X) → list_all p xs ≡ true → All (λ x. p x ≡ true) xs
all_hold p [] is = All-nil (λ x. p x ≡ true)
all_hold p (x ∷ xs) is = let both = both_hold (p x) (list_all p xs) is in All-cons (λ x. p x ≡ true) x xs both.0 (all_hold p xs both.1)

-- its one part is clear at the party
abbrev IsAt : ℕ → List Part → Type 0
IsAt party parts = (part : Part) × (parts ≡ part ∷ []) × (part.place ≡ part_places.Clear party)

at_place : (place : PartPlace) (shape : Operator) (rows : Parties) (party : ℕ) → part_place place shape rows ≡ places.Clear party → place ≡ part_places.Clear party
at_place (part_places.Clear p) shape rows party is = let same = same_Some p party (ap clear_place_party is) in ap (λ q. part_places.Clear q) same
at_place part_places.Joint shape rows party is = absurd (none-some party (sym (not_by_operator shape rows) ∙ ap clear_place_party is))

one_part : (up : Bool) (parts : List Part) (shape : Operator) (rows : Parties) (party : ℕ) → cond up places.Up (parts_place parts shape rows) ≡ places.Clear party → IsAt party parts
one_part true parts shape rows party is = absurd cc
one_part false [] shape rows party is = absurd cc
one_part false (part ∷ []) shape rows party is = (part, refl, at_place part.place shape rows party is)
one_part false (part ∷ other ∷ parts) shape rows party is = absurd cc

abbrev AllClear : ℕ → List Part → Type 0
AllClear party parts = All (λ part. is_clear_at party part ≡ true) parts

clear_here : (place : PartPlace) (party : ℕ) → place ≡ part_places.Clear party → is_at party place ≡ true
clear_here place party is = ap (is_at party) is ∙ itself party

only_clear : (parts : List Part) (party : ℕ) → IsAt party parts → AllClear party parts
only_clear parts party only = subst (AllClear party) (sym only.1) (All-cons (λ part. is_clear_at party part ≡ true) only.0 [] (clear_here only.0.place party only.2) (All-nil (λ part. is_clear_at party part ≡ true)))

common_clear : (place : PartPlace) (parts : List Part) (party : ℕ) → common_party place parts ≡ Some party → (place ≡ part_places.Clear party) × AllClear party parts
common_clear (part_places.Clear p) parts party is =
    let both = cond_some (list_all (λ part. is_clear_at p part) parts) p party is in
    let all = all_hold (λ (part : Part). is_clear_at p part) parts both.0 in
    (ap (λ q. part_places.Clear q) both.1, subst (λ q. AllClear q parts) both.1 all)
common_clear part_places.Joint parts party is = absurd (none-some party is)

all_clear : (parts : List Part) (party : ℕ) → clear_party parts ≡ Some party → AllClear party parts
all_clear [] party is = absurd (none-some party is)
all_clear (part ∷ parts) party is =
    let both = common_clear part.place parts party is in
    All-cons (λ part. is_clear_at party part ≡ true) part parts (clear_here part.place party both.0) both.1

by_clear_place : (found : Option ℕ) (party : ℕ) → clear_place found ≡ Some (part_places.Clear party) → found ≡ Some party
by_clear_place None party is = absurd cc
by_clear_place (Some p) party is = cc

by_whole : (found : Option ℕ) (party : ℕ) → unwrap_or (clear_place found) part_places.Joint ≡ part_places.Clear party → found ≡ Some party
by_whole None party is = absurd cc
by_whole (Some p) party is = cc

by_only : (parts : List Part) (party : ℕ) → only_place parts ≡ Some (part_places.Clear party) → AllClear party parts
by_only [] party is = absurd cc
by_only (part ∷ []) party is = only_clear (part ∷ []) party (part, refl, same_Some part.place (part_places.Clear party) is)
by_only (part ∷ other ∷ parts) party is = absurd cc

by_shape : (shape : Operator) (earlier : List (List Part)) (party : ℕ) → operator_place shape (source_parts shape earlier) ≡ Some (part_places.Clear party) → AllClear party (source_parts shape earlier)
by_shape (operators.Relation r) earlier party is = All-nil (λ part. is_clear_at party part ≡ true)
by_shape (operators.Filter f) earlier party is = by_only (source_parts (operators.Filter f) earlier) party is
by_shape (operators.Select s) earlier party is = by_only (source_parts (operators.Select s) earlier) party is
by_shape (operators.Concat c) earlier party is = let parts = source_parts (operators.Concat c) earlier in all_clear parts party (by_clear_place (clear_party parts) party is)
by_shape (operators.Join j) earlier party is = let parts = source_parts (operators.Join j) earlier in all_clear parts party (by_whole (clear_party parts) party (same_Some (whole_place parts) (part_places.Clear party) is))
by_shape (operators.Group g) earlier party is = let parts = source_parts (operators.Group g) earlier in all_clear parts party (by_whole (clear_party parts) party (same_Some (whole_place parts) (part_places.Clear party) is))
by_shape (operators.Distinct d) earlier party is = let parts = source_parts (operators.Distinct d) earlier in all_clear parts party (by_whole (clear_party parts) party (same_Some (whole_place parts) (part_places.Clear party) is))

-- a part for the whole node, or those of its sources
by_placed : (rows : ℕ) (place : Option PartPlace) (parts : List Part) (party : ℕ) → IsAt party (placed rows place parts) → (place ≡ Some (part_places.Clear party)) ⊎ ((place ≡ None) × AllClear party parts)
by_placed rows None parts party only = inr (refl, only_clear parts party only)
by_placed rows (Some place) parts party only = inl (ap Some (same_place (record { place = place; rows = rows }) only.0 only.1 ∙ only.2))

module _ (have : NodesHaveParts) (graph : Content) (known : List Known) (i party : ℕ) (node : Node) (of : IsNodeOf graph i node) (is : node_place known (rewritten_of graph) i node.shape ≡ places.Clear party) where
  abbrev sources : List Part
  sources = source_parts node.shape (parts_of graph.nodes)

  placed_at : (rewrites.node_place node.shape sources ≡ Some (part_places.Clear party)) ⊎ ((rewrites.node_place node.shape sources ≡ None) × AllClear party sources)
  placed_at =
      let only = one_part (is_up_at (rewritten_of graph).up i) (parts_at (parts_of graph.nodes) i) node.shape (known_at known i).rows party is in
      by_placed node.rows (rewrites.node_place node.shape sources) sources party (subst (IsAt party) (have.from_sources graph i node of) only)

  pub clear_sources : clear_at_of node.shape ≡ None → AllClear party sources
  clear_sources free = elim placed_at [
    | inl one ↦ by_shape node.shape (parts_of graph.nodes) party (sym (ap (λ (p : Option ℕ). option_or (clear_place p) (operator_place node.shape sources)) free) ∙ one)
    | inr all ↦ all.1
  ]

  pub clear_written : (clear_at_of node.shape ≡ None) ⊎ (clear_at_of node.shape ≡ Some party)
  clear_written = by (clear_at_of node.shape) refl
    where
      by : (named : Option ℕ) → clear_at_of node.shape ≡ named → (clear_at_of node.shape ≡ None) ⊎ (clear_at_of node.shape ≡ Some party)
      by None same = inl same
      by (Some q) same =
          let here : rewrites.node_place node.shape sources ≡ Some (part_places.Clear q) = ap (λ (p : Option ℕ). option_or (clear_place p) (operator_place node.shape sources)) same in
          elim placed_at [
            | inl one ↦ inr (same ∙ by_clear_place (Some q) party (sym here ∙ one))
            | inr none ↦ absurd (none-some (part_places.Clear q) (sym none.0 ∙ here))
          ]
