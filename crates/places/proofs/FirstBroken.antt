-- The walk over the flags of accepted places, up to the first that is broken.
use Rattle.std.proofs.Common.{◌≡◌, ℕ, ◌+◌, ◌<◌, ◌≤◌, Bool, true, false, cond, not, nat_le, ◌&&◌, ◌||◌, List, Option, Some, None, Ok, Err, length, get_or, refl, sym, ◌∙◌, ap, subst, arith, inl, inr}
use Rattle.std.specs.Prelude.{slice_get}
use Rattle.std.specs.Option.{is_none, option_map_or}
use Rattle.std.proofs.lemmas.Bool.{false≢true}
use Rattle.std.proofs.Math.Nat.{eq-or-lt_of_le}
use Rattle.std.proofs.lemmas.Option.{same_Some, slice_get-get_or, slice_get_within}
use Rattle.tables.specs.Content as table
use Rattle.query_graph.specs.declared.flag.Flag.{Flag}
use Rattle.query_graph.specs.declared.node.Node.{Node}
use Rattle.query_graph.specs.Content.{Content}
use Rattle.query_graph.specs.Observers.{at_most_of, parts_at_most_of}
use Rattle.plain_meaning.specs.Meaning.{meanings, rows_of}
use Rattle.plain_meaning.specs.Plain.{Ends, IsPlain, is_over}
use Rattle.trust_sets.specs.declared.known.Known.{Known}
use Rattle.rewrites.specs.Opened.{source_of}
use Rattle.rewrites.specs.Parts.{parts_at}
use Rattle.rewrites.specs.Rewritten.{Rewritten}
use Rattle.places.specs.declared.place.PlaceFault.{PlaceFault}
use Rattle.places.specs.Bounds.{counter, first_uncounted, flags_from, is_clear_split, rows_flag}
use Rattle.places.specs.Excess.{breaks, first_excess, is_broken}
use Rattle.places.specs.Place.{node_place}
use Rattle.places.specs.Places.{Places, checked, counted_or, places_of, total_words, word_limit}
use Rattle.places.specs.declared.place.PlaceFault.TheVariants.{Cost}
use Rattle.places.proofs.FewRows.{counted_from}
use Rattle.places.proofs.FirstFlags.{first_found, flag_in, flags_rise, flags_within, none_found, none_left}

-- ---- what accepted places are

pub record Accepted (graph : Content) (known : List Known) (rewritten : Rewritten) (all : Places) : Type 0 where
  pub counted : first_uncounted known rewritten 0 graph.nodes ≡ None
  pub few : nat_le (total_words graph known rewritten) word_limit ≡ true
  pub same : all ≡ places_of graph known rewritten

unpacked : (uncounted : Option PlaceFault) (few : Bool) (made all : Places) (fault : PlaceFault) → counted_or uncounted (cond few (Ok made) (Err fault)) ≡ Ok all → (uncounted ≡ None) × (few ≡ true) × (all ≡ made)
unpacked (Some f) few made all fault is = absurd cc
unpacked None true made all fault is = (refl, refl, cc)
unpacked None false made all fault is = absurd cc

pub accepted : (graph : Content) (known : List Known) (rewritten : Rewritten) (all : Places) → checked graph known rewritten ≡ Ok all → Accepted graph known rewritten all
accepted graph known rewritten all is =
    let total = total_words graph known rewritten in
    let parts = unpacked (first_uncounted known rewritten 0 graph.nodes) (nat_le total word_limit) (places_of graph known rewritten) all (Cost total) is in
    record { counted = parts.0; few = parts.1; same = parts.2 }

-- ---- tables up to each flag

bounded : (bound : Option ℕ) (rows : List (List ℕ)) → is_over bound rows ≡ true → (k : ℕ) × (bound ≡ Some k)
bounded None rows over = absurd (false≢true over)
bounded (Some k) rows over = (k, refl)

has_counter : (bound party : Option ℕ) (other : Bool) (k : ℕ) → bound ≡ Some k → ((is_none bound || not (is_none party)) && other) ≡ true → (p : ℕ) × (party ≡ Some p)
has_counter None party other k is both = absurd cc
has_counter (Some b) None other k is both = absurd (false≢true both)
has_counter (Some b) (Some p) other k is both = (p, refl)

module _ (graph : Content) (known : List Known) (rewritten : Rewritten) (world : List (List (List ℕ))) where
  abbrev flags : List Flag
  flags = flags_from known rewritten 0 graph.nodes

  abbrev pub NoneBefore : List Flag → ℕ → Type 0
  NoneBefore all i = (k : ℕ) (flag : Flag) → k < i → slice_get all k ≡ Some flag → is_broken graph world flag ≡ false

  -- the flag of a node's rows is broken where they are over their bound
  rows_broken : (t party : ℕ) (n : Node) → slice_get graph.nodes t ≡ Some n → is_over (at_most_of n.shape) (rows_of (meanings graph.nodes world) t) ≡ true → is_broken graph world (rows_flag t party) ≡ true
  rows_broken t party n at over = ap (λ o. option_map_or (λ (node : Node). breaks graph world (rows_flag t party) node.shape) o false) at ∙ over

  reached : first_uncounted known rewritten 0 graph.nodes ≡ None → (count : ℕ) (over : Option ℕ) → Ends graph.nodes (meanings graph.nodes world) count over
      → (i : ℕ) (flag : Flag) → slice_get flags i ≡ Some flag → NoneBefore flags i → flag.node ≤ count
  reached counted count None ends i flag at before = let less = flags_within known rewritten 0 graph.nodes i flag at in omega (arith, less, ends)
  reached counted count (Some t) ends i flag at before =
      let n = ends.1.0 in
      let is = ends.1.1 in
      let bound = bounded (at_most_of n.shape) (rows_of (meanings graph.nodes world) t) ends.1.2 in
      let tested = counted_from known rewritten 0 graph.nodes counted t n is in
      let party = has_counter (at_most_of n.shape) (counter (node_place known rewritten (0 + t) n.shape)) (is_none (parts_at_most_of n.shape) || is_clear_split (parts_at rewritten.parts (source_of n.shape))) bound.0 bound.1 tested in
      let end = ends.0 in
      elim (flags_rise known rewritten 0 graph.nodes t bound.0 party.0 n is bound.1 party.1 i flag at) [
        | inl low ↦ omega (arith, low, end)
        | inr earlier ↦
            let broken = rows_broken t party.0 n is ends.1.2 in
            let now : 0 + t ≡ t = omega arith in
            let whole = before earlier.0 (rows_flag (0 + t) party.0) earlier.1 earlier.2 in
            absurd (false≢true (sym whole ∙ ap (λ k. is_broken graph world (rows_flag k party.0)) now ∙ broken))
      ]

  module _ (all : Places) (lent : List Flag) (is_checked : checked graph known rewritten ≡ Ok all) (same : lent ≡ all.flags) where
    of_all : all.flags ≡ flags
    of_all = ap (λ (p : Places). p.flags) (accepted graph known rewritten all is_checked).same

    here : (i : ℕ) (d : Flag) → i < length lent → slice_get all.flags i ≡ Some (get_or lent i d)
    here i d below = ap (λ l. slice_get l i) (sym same) ∙ slice_get-get_or lent i d below

    pub flag_within : (i : ℕ) (d : Flag) → i < length lent → (get_or lent i d).node < length graph.nodes
    flag_within i d below = let less = flags_within known rewritten 0 graph.nodes i (get_or lent i d) (ap (λ l. slice_get l i) (sym of_all) ∙ here i d below) in omega (arith, less)

    pub flag_reached : (tables : List table.Content) (over : Option ℕ) → IsPlain graph.nodes world tables over → (i : ℕ) (d : Flag) → i < length lent → NoneBefore all.flags i → (get_or lent i d).node ≤ length tables
    flag_reached tables over plain i d below before =
        reached (accepted graph known rewritten all is_checked).counted (length tables) over plain.ends i (get_or lent i d) (ap (λ l. slice_get l i) (sym of_all) ∙ here i d below) (subst (λ l. NoneBefore l i) of_all before)

    pub flag_first : (i : ℕ) (d : Flag) → i < length lent → NoneBefore all.flags i → is_broken graph world (get_or lent i d) ≡ true → Some (get_or lent i d) ≡ first_excess graph world all.flags
    flag_first i d below before broken = sym (first_found (is_broken graph world) all.flags i (get_or lent i d) (here i d below) broken before)

    pub flag_passed : (i : ℕ) (d : Flag) → i < length lent → NoneBefore all.flags i → is_broken graph world (get_or lent i d) ≡ false → NoneBefore all.flags (i + 1)
    flag_passed i d below before whole k flag lower at = elim (eq-or-lt_of_le {n = k} {m = i} (omega (arith, lower))) [
      | inl equal ↦
          let one = same_Some (get_or lent i d) flag (sym (here i d below) ∙ ap (λ j. slice_get all.flags j) (sym equal) ∙ at) in
          ap (is_broken graph world) (sym one) ∙ whole
      | inr less ↦ before k flag less at
    ]

    pub flags_passed : (i : ℕ) → length lent ≤ i → NoneBefore all.flags i → None ≡ first_excess graph world all.flags
    flags_passed i end before = sym (none_found (is_broken graph world) all.flags (λ k flag at.
        let inside = slice_get_within all.flags k flag at in
        let long = ap (λ l. length l) same in
        before k flag (omega (arith, inside, long, end)) at))

  -- where no flag is broken, no node is over its bound
  pub keeps_bounds : (all : Places) → checked graph known rewritten ≡ Ok all → first_excess graph world all.flags ≡ None
      → (t : ℕ) (n : Node) → slice_get graph.nodes t ≡ Some n → is_over (at_most_of n.shape) (rows_of (meanings graph.nodes world) t) ≡ false
  keeps_bounds all is_checked none t n at = by (is_over (at_most_of n.shape) (rows_of (meanings graph.nodes world) t)) refl
    where
      by : (over : Bool) → is_over (at_most_of n.shape) (rows_of (meanings graph.nodes world) t) ≡ over → is_over (at_most_of n.shape) (rows_of (meanings graph.nodes world) t) ≡ false
      by false is = is
      by true is =
          let taken = accepted graph known rewritten all is_checked in
          let bound = bounded (at_most_of n.shape) (rows_of (meanings graph.nodes world) t) is in
          let tested = counted_from known rewritten 0 graph.nodes taken.counted t n at in
          let party = has_counter (at_most_of n.shape) (counter (node_place known rewritten (0 + t) n.shape)) (is_none (parts_at_most_of n.shape) || is_clear_split (parts_at rewritten.parts (source_of n.shape))) bound.0 bound.1 tested in
          let mine = flag_in known rewritten 0 graph.nodes t bound.0 party.0 n at bound.1 party.1 in
          let got = ap (λ (p : Places). slice_get p.flags mine.0) taken.same ∙ mine.1 in
          let whole = none_left (is_broken graph world) all.flags none mine.0 (rows_flag (0 + t) party.0) got in
          let now : 0 + t ≡ t = omega arith in
          absurd (false≢true (sym whole ∙ ap (λ k. is_broken graph world (rows_flag k party.0)) now ∙ rows_broken t party.0 n at is))
