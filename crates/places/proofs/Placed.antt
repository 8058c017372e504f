-- What `check_places` gives where it gives places: one and its AND words for each node.
use Rattle.std.proofs.Common.{◌≡◌, ℕ, suc, ◌+◌, Bool, true, false, cond, List, [], ◌∷◌, Option, Some, None, Result, Ok, Err, length, refl, ap}
use Rattle.std.specs.Prelude.{nat_le}
use Rattle.query_graph.specs.declared.node.Node.{Node}
use Rattle.query_graph.specs.Content.{Content}
use Rattle.trust_sets.specs.declared.known.Known.{Known}
use Rattle.rewrites.specs.Rewritten.{Rewritten}
use Rattle.places.specs.declared.place.PlaceFault.{PlaceFault}
use Rattle.places.specs.declared.place.PlaceFault.TheVariants.{Cost}
use Rattle.places.specs.Bounds.{first_uncounted, places_from}
use Rattle.places.specs.Places.{Places, checked, counted_or, places_of, total_words, within_limit, word_limit, words_from}

counted : (fault : Option PlaceFault) (answer : Result Places PlaceFault) (placed : Places) → counted_or fault answer ≡ Ok placed → answer ≡ Ok placed
counted None answer placed gives = gives
counted (Some fault) answer placed gives = absurd cc

limited : (fits : Bool) (words : ℕ) (all placed : Places) → cond fits (Ok all) (Err (Cost words)) ≡ Ok placed → all ≡ placed
limited true words all placed gives = cc
limited false words all placed gives = absurd cc

pub placed_of : (graph : Content) (known : List Known) (rewritten : Rewritten) (placed : Places) → checked graph known rewritten ≡ Ok placed → places_of graph known rewritten ≡ placed
placed_of graph known rewritten placed gives =
    let words = total_words graph known rewritten in
    limited (nat_le words word_limit) words (places_of graph known rewritten) placed
    (counted (first_uncounted known rewritten 0 graph.nodes) (within_limit graph known rewritten) placed gives)

pub each_placed : (known : List Known) (rewritten : Rewritten) (number : ℕ) (nodes : List Node) → length (places_from known rewritten number nodes) ≡ length nodes
each_placed known rewritten number [] = refl
each_placed known rewritten number (n ∷ nodes) = ap suc (each_placed known rewritten (number + 1) nodes)

pub each_costs : (all : List Node) (known : List Known) (rewritten : Rewritten) (number : ℕ) (nodes : List Node) → length (words_from all known rewritten number nodes) ≡ length nodes
each_costs all known rewritten number [] = refl
each_costs all known rewritten number (n ∷ nodes) = ap suc (each_costs all known rewritten (number + 1) nodes)
