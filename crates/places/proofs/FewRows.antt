-- Where each bound is counted, the joint rows of each node are within the limit.
use Rattle.std.proofs.Common.{◌≡◌, ◌≢◌, ℕ, zero, suc, ◌+◌, ◌≤◌, Bool, true, false, cond, not, ◌&&◌, ◌||◌, List, [], ◌∷◌, Option, Some, None, length, refl, sym, ◌∙◌, ap, subst, arith}
use Rattle.std.specs.Prelude.{slice_get}
use Rattle.std.specs.Option.{is_none}
use Rattle.std.proofs.lemmas.Bool.{false≢true}
use Rattle.std.proofs.lemmas.List.{get_or_past}
use Rattle.std.proofs.lemmas.List.Sums.{sum_by-le-sum_by}
use Rattle.std.proofs.lemmas.Option.{same_Some}
use Rattle.query_graph.specs.declared.node.Node.{Node}
use Rattle.query_graph.specs.declared.operator.Operator.{Operator}
use Rattle.query_graph.specs.declared.parties.Parties.{Parties}
use Rattle.query_graph.specs.Content.{Content}
use Rattle.query_graph.specs.IsGraph.{IsGraph}
use Rattle.query_graph.specs.Observers.{at_most_of, parts_at_most_of}
use Rattle.trust_sets.specs.declared.known.Known.{Known}
use Rattle.trust_sets.specs.Known.{known_at}
use Rattle.rewrites.specs.declared.part.Part.{Part}
use Rattle.rewrites.specs.declared.part.PartPlace.{PartPlace}
use Rattle.rewrites.specs.declared.part.PartPlace.TheVariants as part_places
use Rattle.rewrites.specs.Laws.{PartsAddUp, SplitNodesAreUnbounded}
use Rattle.rewrites.specs.Opened.{source_of}
use Rattle.rewrites.specs.Parts.{parts_at, parts_of}
use Rattle.rewrites.specs.Rewritten.{Rewritten, rewritten_of}
use Rattle.rewrites.specs.Up.{is_up_at}
use Rattle.places.specs.declared.place.Place.{Place}
use Rattle.places.specs.declared.place.Place.TheVariants as places
use Rattle.places.specs.declared.place.PlaceFault.{PlaceFault}
use Rattle.places.specs.declared.place.PlaceFault.TheVariants.{AtMost}
use Rattle.places.specs.Bounds.{counter, first_uncounted, is_clear_split, is_counted}
use Rattle.places.specs.Cost.{HaveFewRows, joint_part, joint_rows, rows_if_joint}
use Rattle.places.specs.Place.{node_place, parts_place}

-- where the first bound that isn't counted is none, each node's bounds are
passes : (b : Bool) (line number : ℕ) (rest : Option PlaceFault) → cond b rest (Some (AtMost line number)) ≡ None → (b ≡ true) × (rest ≡ None)
passes true line number rest none = (refl, none)
passes false line number rest none = absurd cc

pub counted_from : (known : List Known) (rewritten : Rewritten) (first : ℕ) (nodes : List Node) → first_uncounted known rewritten first nodes ≡ None → (k : ℕ) (n : Node) → slice_get nodes k ≡ Some n
    → is_counted n.shape (node_place known rewritten (first + k) n.shape) (parts_at rewritten.parts (source_of n.shape)) ≡ true
counted_from known rewritten first [] none k n at = absurd cc
counted_from known rewritten first (m ∷ nodes) none zero n at =
    let both = passes (is_counted m.shape (node_place known rewritten first m.shape) (parts_at rewritten.parts (source_of m.shape))) m.line first (first_uncounted known rewritten (first + 1) nodes) none in
    let same : m ≡ n = same_Some m n at in
    let here : first ≡ first + 0 = omega arith in
    subst (λ j. is_counted n.shape (node_place known rewritten j n.shape) (parts_at rewritten.parts (source_of n.shape)) ≡ true) here
    (subst (λ (q : Node). is_counted q.shape (node_place known rewritten first q.shape) (parts_at rewritten.parts (source_of q.shape)) ≡ true) same both.0)
counted_from known rewritten first (m ∷ nodes) none (suc k) n at =
    let both = passes (is_counted m.shape (node_place known rewritten first m.shape) (parts_at rewritten.parts (source_of m.shape))) m.line first (first_uncounted known rewritten (first + 1) nodes) none in
    let next : (first + 1) + k ≡ first + suc k = omega arith in
    subst (λ j. is_counted n.shape (node_place known rewritten j n.shape) (parts_at rewritten.parts (source_of n.shape)) ≡ true) next (counted_from known rewritten (first + 1) nodes both.1 k n at)

-- a node with several parts has no party that counts its rows
several_uncounted : (parts : List Part) (shape : Operator) (rows : Parties) → length parts ≢ 1 → counter (parts_place parts shape rows) ≡ None
several_uncounted [] shape rows many = refl
several_uncounted (part ∷ []) shape rows many = absurd (many refl)
several_uncounted (part ∷ other ∷ parts) shape rows many = refl

up_uncounted : (up : Bool) (place : Place) → counter place ≡ None → counter (cond up places.Up place) ≡ None
up_uncounted true place none = refl
up_uncounted false place none = none

no_bound : (bound counted : Option ℕ) (b : Bool) → counted ≡ None → ((is_none bound || not (is_none counted)) && b) ≡ true → bound ≡ None
no_bound None counted b none both = refl
no_bound (Some k) counted b none both = absurd (false≢true (sym (ap (λ (c : Option ℕ). (false || not (is_none c)) && b) none) ∙ both))

unbounded : (graph : Content) (known : List Known) → first_uncounted known (rewritten_of graph) 0 graph.nodes ≡ None → SplitNodesAreUnbounded graph.nodes
unbounded graph known none i n at many =
    let rewritten = rewritten_of graph in
    let place = node_place known rewritten i n.shape in
    let parts = parts_at (parts_of graph.nodes) i in
    let here : 0 + i ≡ i = omega arith in
    let counted = subst (λ j. is_counted n.shape (node_place known rewritten j n.shape) (parts_at rewritten.parts (source_of n.shape)) ≡ true) here (counted_from known rewritten 0 graph.nodes none i n at) in
    let nobody = up_uncounted (is_up_at rewritten.up i) (parts_place parts n.shape (known_at known i).rows) (several_uncounted parts n.shape (known_at known i).rows many) in
    no_bound (at_most_of n.shape) (counter place) (is_none (parts_at_most_of n.shape) || is_clear_split (parts_at rewritten.parts (source_of n.shape))) nobody counted

fewer : (place : PartPlace) (rows : ℕ) → rows_if_joint place rows ≤ rows
fewer (part_places.Clear party) rows = omega arith
fewer part_places.Joint rows = omega arith

past_end : (nodes : List Node) (i : ℕ) → slice_get nodes i ≡ None → length nodes ≤ i
past_end [] i none = omega arith
past_end (n ∷ nodes) zero none = absurd cc
past_end (n ∷ nodes) (suc i) none = let past = past_end nodes i none in omega arith

pub few_rows : PartsAddUp → (graph : Content) (known : List Known) → IsGraph graph → length (parts_of graph.nodes) ≡ length graph.nodes → first_uncounted known (rewritten_of graph) 0 graph.nodes ≡ None → HaveFewRows (parts_of graph.nodes)
few_rows adds graph known is_graph count none i = by (slice_get graph.nodes i) refl
  where
    by : (found : Option Node) → slice_get graph.nodes i ≡ found → joint_rows (parts_at (parts_of graph.nodes) i) ≤ 65536
    by None at =
        let past = past_end graph.nodes i at in
        subst (λ parts. joint_rows parts ≤ 65536) (sym (get_or_past (parts_of graph.nodes) i [] (omega arith))) (omega arith)
    by (Some n) at =
        let all = adds graph i n (record { is_graph = is_graph; is_node = at }) (unbounded graph known none) in
        let less = sum_by-le-sum_by joint_part (λ (part : Part). part.rows) (parts_at (parts_of graph.nodes) i) (λ part. fewer part.place part.rows) in
        let limited = (is_graph.nodes i n at).few_rows in
        omega arith
