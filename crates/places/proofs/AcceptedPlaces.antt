-- What accepted places have: as many places and words as nodes, few words, and no excess without a broken bound.
use Rattle.std.proofs.Common.{◌≡◌, ℕ, zero, suc, ◌+◌, ◌≤◌, true, nat_le, List, [], ◌∷◌, Some, Ok, length, sum, refl, sym, ◌∙◌, ap, arith}
use Rattle.std.specs.Prelude.{slice_get}
use Rattle.std.proofs.lemmas.Bool.Decides.{nat_tests}
use Rattle.std.proofs.lemmas.List.Sums.{sum_by-cons}
use Rattle.std.proofs.lemmas.Option.{none-some, same_Some}
use Rattle.query_graph.specs.declared.node.Node.{Node}
use Rattle.query_graph.specs.Content.{Content}
use Rattle.trust_sets.specs.declared.known.Known.{Known}
use Rattle.rewrites.specs.Rewritten.{Rewritten}
use Rattle.places.specs.Bounds.{places_from}
use Rattle.places.specs.Places.{Places, checked, nodes_words, total_words, word_limit, words_from}
use Rattle.places.proofs.FirstBroken.{accepted}

pub places_count : (known : List Known) (rewritten : Rewritten) (first : ℕ) (nodes : List Node) → length (places_from known rewritten first nodes) ≡ length nodes
places_count known rewritten first [] = refl
places_count known rewritten first (n ∷ nodes) = ap suc (places_count known rewritten (first + 1) nodes)

pub words_count : (all : List Node) (known : List Known) (rewritten : Rewritten) (first : ℕ) (nodes : List Node) → length (words_from all known rewritten first nodes) ≡ length nodes
words_count all known rewritten first [] = refl
words_count all known rewritten first (n ∷ nodes) = ap suc (words_count all known rewritten (first + 1) nodes)

one_of : (words : List ℕ) (i word : ℕ) → slice_get words i ≡ Some word → word ≤ sum words
one_of [] i word at = absurd (none-some word at)
one_of (w ∷ words) zero word at = let same : w ≡ word = same_Some w word at in let whole : sum (w ∷ words) ≡ w + sum words = sum_by-cons (λ (x : ℕ). x) w words in omega (arith, same, whole)
one_of (w ∷ words) (suc i) word at = let less = one_of words i word at in let whole : sum (w ∷ words) ≡ w + sum words = sum_by-cons (λ (x : ℕ). x) w words in omega (arith, less, whole)

within : (total most : ℕ) → nat_le total most ≡ true → total ≤ most
within total most few = grind (arith, nat_tests)

module _ (graph : Content) (known : List Known) (rewritten : Rewritten) (all : Places) (is : checked graph known rewritten ≡ Ok all) where
  pub accepted_places : length all.places ≡ length graph.nodes
  accepted_places = ap (λ (p : Places). length p.places) (accepted graph known rewritten all is).same ∙ places_count known rewritten 0 graph.nodes

  pub accepted_words : length all.words ≡ length graph.nodes
  accepted_words = ap (λ (p : Places). length p.words) (accepted graph known rewritten all is).same ∙ words_count graph.nodes known rewritten 0 graph.nodes

  pub accepted_total : all.total ≤ 8388608
  accepted_total =
      let same = ap (λ (p : Places). p.total) (accepted graph known rewritten all is).same in
      let few = within (total_words graph known rewritten) word_limit (accepted graph known rewritten all is).few in
      omega (arith, same, few)

  pub accepted_each : (i words : ℕ) → slice_get all.words i ≡ Some words → words ≤ all.total
  accepted_each i words at =
      let total = ap (λ (p : Places). p.total) (accepted graph known rewritten all is).same in
      let here = ap (λ (p : Places). slice_get p.words i) (sym (accepted graph known rewritten all is).same) ∙ at in
      let less = one_of (nodes_words graph known rewritten) i words here in
      omega (arith, total, less)
