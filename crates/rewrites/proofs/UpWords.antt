-- The nodes that are up, in plain facts.
use Rattle.std.proofs.Common.{◌≡◌, ℕ, zero, suc, ◌+◌, ◌-◌, Bool, true, false, ◌&&◌, ◌||◌, List, [], ◌∷◌, Option, Some, None, drop, get_or, refl, sym, ◌∙◌, ap, subst, arith, inl, inr, zero-add, add-zero}
use Rattle.std.specs.Prelude.{◌==◌, ◌⊎◌, slice_get}
use Rattle.std.specs.List.{list_any}
use Rattle.std.specs.Option.{is_none}
use Rattle.std.proofs.lemmas.Bool.{false≢true}
use Rattle.std.proofs.lemmas.Bool.Decides.{nat_tests}
use Rattle.std.proofs.lemmas.List.{get_or-drop}
use Rattle.std.proofs.lemmas.Option.{same_Some}
use Rattle.query_graph.specs.declared.node.Node.{Node}
use Rattle.query_graph.specs.declared.operator.Operator.{Operator}
use Rattle.query_graph.specs.declared.operator.Operator.TheVariants as operators
use Rattle.query_graph.specs.declared.operator.Select.{Select}
use Rattle.query_graph.specs.Content.{Content}
use Rattle.query_graph.specs.NodeSizes.{width_at}
use Rattle.rewrites.specs.declared.part.Part.{Part}
use Rattle.rewrites.specs.IsUp.{IsUnderUp, IsUp, UpInWords}
use Rattle.rewrites.specs.Parts.{is_joint, parts_at, parts_of}
use Rattle.rewrites.specs.Up.{can_go_up, copies_columns, is_answer, is_copy, is_first_source, is_shown_once, is_under_up, is_up_at, is_up_before, up_from, up_nodes, used_nodes, uses}
use Rattle.rewrites.proofs.EachColumn.{all_pass, each_passes}
use Rattle.rewrites.proofs.UpSelects.{and_left, and_right}

-- the node with this number is up as it is told before those behind it
up_exactly : (graph : Content) (parts : List (List Part)) (first : ℕ) (nodes : List Node) (k : ℕ) (n : Node) → slice_get nodes k ≡ Some n
    → get_or (up_from graph parts first nodes) k false ≡ is_up_before graph parts (first + k) n.shape (drop (suc k) nodes) (drop (suc k) (up_from graph parts first nodes))
up_exactly graph parts first [] k n at = absurd cc
up_exactly graph parts first (m ∷ nodes) zero n at =
    let later = up_from graph parts (first + 1) nodes in
    ap (λ (q : Node). is_up_before graph parts first q.shape nodes later) (same_Some m n at) ∙ sym (ap (λ j. is_up_before graph parts j n.shape nodes later) (add-zero first))
up_exactly graph parts first (m ∷ nodes) (suc k) n at =
    let later = up_from graph parts (first + 1) nodes in
    let moved : (first + 1) + k ≡ first + suc k = omega arith in
    up_exactly graph parts (first + 1) nodes k n at ∙ ap (λ j. is_up_before graph parts j n.shape (drop (suc k) nodes) (drop (suc k) later)) moved

both : (a b : Bool) → a ≡ true → b ≡ true → (a && b) ≡ true
both a b first second = ap (λ x. x && b) first ∙ second

either : (a b : Bool) → (a || b) ≡ true → (a ≡ true) ⊎ (b ≡ true)
either true b some = inl refl
either false b some = inr some

first_of_two : (a b : Bool) → a ≡ true → (a || b) ≡ true
first_of_two a b first = ap (λ x. x || b) first

second_of_two : (a b : Bool) → b ≡ true → (a || b) ≡ true
second_of_two true b second = refl
second_of_two false b second = second

-- a user among these nodes that is up
record Among (number : ℕ) (nodes : List Node) (up : List Bool) : Type 0 where
  place : ℕ
  node : Node
  at : slice_get nodes place ≡ Some node
  is : get_or up place false ≡ true
  source : is_first_source number node.shape ≡ true

among : (number : ℕ) (nodes : List Node) (up : List Bool) → is_under_up number nodes up ≡ true → Among number nodes up
among number [] up some = absurd (false≢true some)
among number (n ∷ nodes) [] some = absurd (false≢true some)
among number (n ∷ nodes) (b ∷ up) some = by (either (b && is_first_source number n.shape) (is_under_up number nodes up) some) (λ rest. among number nodes up rest)
  where
    by : ((b && is_first_source number n.shape) ≡ true) ⊎ (is_under_up number nodes up ≡ true) → (is_under_up number nodes up ≡ true → Among number nodes up) → Among number (n ∷ nodes) (b ∷ up)
    by (inl here) behind = record { place = 0; node = n; at = refl; is = and_left b (is_first_source number n.shape) here; source = and_right b (is_first_source number n.shape) here }
    by (inr rest) behind = let found = behind rest in record { place = suc found.place; node = found.node; at = found.at; is = found.is; source = found.source }

back : (number : ℕ) (nodes : List Node) (up : List Bool) (place : ℕ) (n : Node) → slice_get nodes place ≡ Some n → get_or up place false ≡ true → is_first_source number n.shape ≡ true → is_under_up number nodes up ≡ true
back number [] up place n at is source = absurd cc
back number (m ∷ nodes) [] place n at is source = absurd (false≢true is)
back number (m ∷ nodes) (b ∷ up) zero n at is source =
    let same = subst (λ (q : Node). is_first_source number q.shape ≡ true) (sym (same_Some m n at)) source in
    first_of_two (b && is_first_source number m.shape) (is_under_up number nodes up) (both b (is_first_source number m.shape) is same)
back number (m ∷ nodes) (b ∷ up) (suc place) n at is source = second_of_two (b && is_first_source number m.shape) (is_under_up number nodes up) (back number nodes up place n at is source)

slice_get-drop : {X : Type 0} (xs : List X) (n k : ℕ) → slice_get (drop n xs) k ≡ slice_get xs (n + k)
slice_get-drop xs zero k = ap (slice_get xs) (sym (zero-add k))
slice_get-drop [] (suc n) k = refl
slice_get-drop (x ∷ xs) (suc n) k = let next : suc (n + k) ≡ suc n + k = omega arith in slice_get-drop xs n k ∙ ap (slice_get (x ∷ xs)) next

module _ (graph : Content) where
  abbrev ups : List Bool
  ups = up_nodes graph (parts_of graph.nodes)

  up_here : (i : ℕ) (n : Node) → slice_get graph.nodes i ≡ Some n → is_up_at ups i ≡ is_up_before graph (parts_of graph.nodes) i n.shape (drop (suc i) graph.nodes) (drop (suc i) ups)
  up_here i n at =
      up_exactly graph (parts_of graph.nodes) 0 graph.nodes i n at ∙ ap (λ j. is_up_before graph (parts_of graph.nodes) j n.shape (drop (suc i) graph.nodes) (drop (suc i) ups)) (zero-add i)

  under_up : (i : ℕ) → is_under_up i (drop (suc i) graph.nodes) (drop (suc i) ups) ≡ true → IsUnderUp graph i
  under_up i some =
      let found = among i (drop (suc i) graph.nodes) (drop (suc i) ups) some in
      record {
        user = suc i + found.place;
        later = omega arith;
        node = found.node;
        at = sym (slice_get-drop graph.nodes (suc i) found.place) ∙ found.at;
        up = sym (get_or-drop (suc i) ups found.place false) ∙ found.is;
        source = found.source;
      }

  back_under : (i : ℕ) → IsUnderUp graph i → is_under_up i (drop (suc i) graph.nodes) (drop (suc i) ups) ≡ true
  back_under i under =
      let place : ℕ = under.user - suc i in
      let at : suc i + place ≡ under.user = (let later = under.later in omega arith) in
      back i (drop (suc i) graph.nodes) (drop (suc i) ups) place under.node (slice_get-drop graph.nodes (suc i) place ∙ ap (slice_get graph.nodes) at ∙ under.at)
      (get_or-drop (suc i) ups place false ∙ ap (λ j. get_or ups j false) at ∙ under.up) under.source

  no_party : (o : Option ℕ) → is_none o ≡ true → o ≡ None
  no_party None none = refl
  no_party (Some p) none = absurd (false≢true none)

  module _ (i : ℕ) (n : Node) (s : Select) (at : slice_get graph.nodes i ≡ Some n) (is : n.shape ≡ operators.Select s) where
    told : is_up_at ups i ≡ (can_go_up graph.nodes (parts_of graph.nodes) s && is_shown_once graph i (drop (suc i) graph.nodes) (drop (suc i) ups))
    told = up_here i n at ∙ ap (λ shape. is_up_before graph (parts_of graph.nodes) i shape (drop (suc i) graph.nodes) (drop (suc i) ups)) is

    to_words : is_up_at ups i ≡ true → IsUp graph i s
    to_words above =
        let nodes = graph.nodes in
        let all = sym told ∙ above in
        let shown = is_shown_once graph i (drop (suc i) nodes) (drop (suc i) ups) in
        let can = and_left (can_go_up nodes (parts_of nodes) s) shown all in
        let once = and_right (can_go_up nodes (parts_of nodes) s) shown all in
        let joint = list_any (λ part. is_joint part) (parts_at (parts_of nodes) s.source) in
        let copies = copies_columns s.items (width_at nodes s.source) in
        let rest = and_right (is_none s.clear_at) (joint && copies) can in
        let answer = is_answer graph i in
        let under = is_under_up i (drop (suc i) nodes) (drop (suc i) ups) in
        let width = width_at nodes s.source in
        let one : uses (used_nodes graph) i ≡ 1 = (let test = and_left (uses (used_nodes graph) i == 1) (answer || under) once in grind (arith, nat_tests)) in
        record {
          free = no_party s.clear_at (and_left (is_none s.clear_at) (joint && copies) can);
          joint = and_left joint copies rest;
          copied = each_passes (λ column. list_any (λ item. is_copy column item) s.items) width (and_right joint copies rest);
          once = one;
          user = elim (either answer under (and_right (uses (used_nodes graph) i == 1) (answer || under) once)) [ inl output ↦ inl output | inr some ↦ inr (under_up i some) ];
        }

    from_words : IsUp graph i s → is_up_at ups i ≡ true
    from_words words =
        let nodes = graph.nodes in
        let shown = is_shown_once graph i (drop (suc i) nodes) (drop (suc i) ups) in
        let joint = list_any (λ part. is_joint part) (parts_at (parts_of nodes) s.source) in
        let width = width_at nodes s.source in
        let copies = copies_columns s.items width in
        let answer = is_answer graph i in
        let under = is_under_up i (drop (suc i) nodes) (drop (suc i) ups) in
        let all : copies ≡ true = all_pass (λ column. list_any (λ item. is_copy column item) s.items) width words.copied in
        let free : is_none s.clear_at ≡ true = ap is_none words.free in
        let test : (uses (used_nodes graph) i == 1) ≡ true = (let one = words.once in grind (arith, nat_tests)) in
        let used : (answer || under) ≡ true = elim words.user [ inl output ↦ first_of_two answer under output | inr some ↦ second_of_two answer under (back_under i some) ] in
        told ∙ both (can_go_up nodes (parts_of nodes) s) shown (both (is_none s.clear_at) (joint && copies) free (both joint copies words.joint all)) (both (uses (used_nodes graph) i == 1) (answer || under) test used)

is_select : (graph : Content) (parts : List (List Part)) (number : ℕ) (later : List Node) (up : List Bool) (shape : Operator) → is_up_before graph parts number shape later up ≡ true → (s : Select) × (shape ≡ operators.Select s)
is_select graph parts number later up (operators.Relation r) is = absurd (false≢true is)
is_select graph parts number later up (operators.Filter f) is = absurd (false≢true is)
is_select graph parts number later up (operators.Select s) is = (s, refl)
is_select graph parts number later up (operators.Concat c) is = absurd (false≢true is)
is_select graph parts number later up (operators.Join j) is = absurd (false≢true is)
is_select graph parts number later up (operators.Group g) is = absurd (false≢true is)
is_select graph parts number later up (operators.Distinct d) is = absurd (false≢true is)

pub up_in_words : UpInWords
up_in_words = record {
  selects = λ graph i n at above. is_select graph (parts_of graph.nodes) i (drop (suc i) graph.nodes) (drop (suc i) (up_nodes graph (parts_of graph.nodes))) n.shape (sym (up_here graph i n at) ∙ above);
  exactly = λ graph i n s at is. (to_words graph i n s at is, from_words graph i n s at is);
}
