-- The orders of phases as a party holds them, and the moved registers of a machine that is cut to it.
use Rattle.std.proofs.Common.{◌≡◌, ℕ, List, [], ◌∷◌, ◌++◌, length, map, take, drop, refl, sym, ap, ◌∙◌}
use Rattle.std.specs.Prelude.{slice_index_or}
use Rattle.std.specs.List.{flat_map, AllByRecursion}
use Rattle.lanes.specs.declared.party.Party.{Party}
use Rattle.lanes.specs.declared.party.Party.TheVariants.{First, Second, Third}
use Rattle.lanes.specs.declared.three.Three.{Three}
use Rattle.lanes.specs.Party.{next, before}
use Rattle.lanes.specs.Three.{at, put, each, opened}
use Rattle.step_lists.specs.Draws.{ThreeTapes, nothing, words_in, order_in}
use Rattle.step_lists.specs.Seen.{same_party}
use Rattle.step_lists.specs.Phases.{Shares, Links, message, Moving}
use Rattle.step_lists.specs.Machine.{Machine, shares, moving, shown_shares}
use Rattle.step_lists.specs.Part.{Pair, PartMoving, no_pair, pair_at, part_moving, part_phase, phase_sends, held_order, opened_at, revealed_slots, when_sent}
use Rattle.party_laws.specs.InMachine.{pair_of, received_by, held}
use Rattle.party_laws.proofs.Lists.{item_mapped, same_maps, mapped_twice, take_first, drop_first, flat_of_map, same_flat}
use Rattle.party_laws.proofs.Cuts.{pair_is, given_in}
use Rattle.party_laws.proofs.Phasing.{moving_in}

-- the party that doesn't hold an order doesn't need it
pub order_in_phase : (v j : Party) (ds : ThreeTapes) (w : Links) (n : ℕ) (x : PartMoving) → part_phase v j (held_order v j (given_in v ds w)) n x ≡ part_phase v j (order_in (at j ds)) n x
order_in_phase First First ds w n x = refl
order_in_phase First Second ds w n x = refl
order_in_phase First Third ds w n x = refl
order_in_phase Second First ds w n x = refl
order_in_phase Second Second ds w n x = refl
order_in_phase Second Third ds w n x = refl
order_in_phase Third First ds w n x = refl
order_in_phase Third Second ds w n x = refl
order_in_phase Third Third ds w n x = refl

pub order_in_sends : (v j : Party) (ds : ThreeTapes) (w : Links) (n : ℕ) (x : PartMoving) → phase_sends v j (held_order v j (given_in v ds w)) n x ≡ phase_sends v j (order_in (at j ds)) n x
order_in_sends First First ds w n x = refl
order_in_sends First Second ds w n x = refl
order_in_sends First Third ds w n x = refl
order_in_sends Second First ds w n x = refl
order_in_sends Second Second ds w n x = refl
order_in_sends Second Third ds w n x = refl
order_in_sends Third First ds w n x = refl
order_in_sends Third Second ds w n x = refl
order_in_sends Third Third ds w n x = refl

-- the moved registers, and all that the step draws and receives
words_at : (p : Party) (ds : ThreeTapes) → words_in (at p ds) ≡ at p (each words_in ds)
words_at First ds = refl
words_at Second ds = refl
words_at Third ds = refl

pub moving_is : (v : Party) (m : Machine) (x : Three (List ℕ)) (t : Three ℕ) (moved : List ℕ) (ds : ThreeTapes) (w : Links)
    → part_moving (held v m x t) moved (given_in v ds w) ≡ moving_in v (moving m moved ds) (received_by v w)
moving_is v m x t moved ds w =
    let y = moving m moved ds in
    let pairs : map (pair_at (held v m x t)) moved ≡ map (pair_of v) y.shares =
    same_maps (pair_at (held v m x t)) (λ r. pair_of v (shares m r)) (pair_is v m) moved ∙ sym (mapped_twice (shares m) (pair_of v) moved) in
    ap (λ ps. record { pairs = ps; own = words_in (at v ds); following = words_in (at (next v) ds); received = received_by v w }) pairs
    ∙ (ap (λ a. record { pairs = map (pair_of v) y.shares; own = a; following = words_in (at (next v) ds); received = received_by v w }) (words_at v ds)
    ∙ ap (λ a. record { pairs = map (pair_of v) y.shares; own = at v y.masks; following = a; received = received_by v w }) (words_at (next v) ds))

-- ---- what is shown at the end of a Reveal

none_pair : (v : Party) → pair_of v nothing ≡ no_pair
none_pair First = refl
none_pair Second = refl
none_pair Third = refl

pair_shown : (v : Party) (ss : List Shares) (k : ℕ) → slice_index_or (map (pair_of v) ss) k no_pair ≡ pair_of v (slice_index_or ss k nothing)
pair_shown v ss k = ap (λ d. slice_index_or (map (pair_of v) ss) k d) (sym (none_pair v)) ∙ sym (item_mapped (pair_of v) ss k nothing)

-- the share that the next party sends
third_share : (q : Party) (s : Shares) → (pair_of (next q) s).following ≡ at (before q) s
third_share First s = refl
third_share Second s = refl
third_share Third s = refl

opened_is : (q : Party) (s : Shares) → opened_at q (pair_of q s) (at (before q) s) ≡ opened s
opened_is First s = refl
opened_is Second s = refl
opened_is Third s = refl

-- shares of registers that are shown, each of n words
abbrev pub AreShown : ℕ → Party → List Shares → List ℕ → Type 0
AreShown n q ss shown = AllByRecursion (λ k. length (at (before q) (slice_index_or ss k nothing)) ≡ n) shown

pub revealed_is : (q : Party) (n : ℕ) (y : Moving) (got : Three (List ℕ)) (shown rest : List ℕ) → AreShown n q y.shares shown
    → revealed_slots q n (moving_in q y got) shown (flat_map (at (before q)) (shown_shares y shown) ++ rest) ≡ map opened (shown_shares y shown)
revealed_is q n y got [] rest h = refl
revealed_is q n y got (k ∷ ks) rest h =
    let s = slice_index_or y.shares k nothing in
    let w = at (before q) s in
    let ws = flat_map (at (before q)) (shown_shares y ks) in
    let more = λ (t : List ℕ). revealed_slots q n (moving_in q y got) ks t in
    let here = λ (p : Pair) (t : List ℕ). opened_at q p t in
    ap (λ p. here p (take n ((w ++ ws) ++ rest)) ∷ more (drop n ((w ++ ws) ++ rest))) (pair_shown q y.shares k)
    ∙ (ap (λ t. here (pair_of q s) t ∷ more (drop n ((w ++ ws) ++ rest))) (take_first n w ws rest h.0)
    ∙ (ap (λ t. here (pair_of q s) w ∷ more t) (drop_first n w ws rest h.0)
    ∙ (ap (λ t. t ∷ more (ws ++ rest)) (opened_is q s) ∙ ap (λ t. opened s ∷ t) (revealed_is q n y got ks rest h.1))))

-- the following shares of the shown registers
abbrev shown_following : Party → Moving → List ℕ → List ℕ
shown_following v y shown = flat_map (λ k. (slice_index_or (map (pair_of v) y.shares) k no_pair).following) shown

shown_words : (q : Party) (y : Moving) (shown : List ℕ) → shown_following (next q) y shown ≡ flat_map (at (before q)) (shown_shares y shown)
shown_words q y shown =
    same_flat (λ k. (slice_index_or (map (pair_of (next q)) y.shares) k no_pair).following) (λ k. at (before q) (slice_index_or y.shares k nothing)) same shown
    ∙ sym (flat_of_map (λ k. slice_index_or y.shares k nothing) (at (before q)) shown) where
      same : (k : ℕ) → (slice_index_or (map (pair_of (next q)) y.shares) k no_pair).following ≡ at (before q) (slice_index_or y.shares k nothing)
      same k = ap (λ p. p.following) (pair_shown (next q) y.shares k) ∙ third_share q (slice_index_or y.shares k nothing)

pub shown_sent : (v q : Party) (y : Moving) (shown : List ℕ)
    → when_sent (same_party v (next q)) (put q (shown_following v y shown) nothing) ≡ at v (message (next q) q (flat_map (at (before q)) (shown_shares y shown)))
shown_sent v q y shown = by v (next q) refl where
  by : (u p : Party) → p ≡ next q
      → when_sent (same_party u p) (put q (shown_following u y shown) nothing) ≡ at u (message p q (flat_map (at (before q)) (shown_shares y shown)))
  by First First e = ap (λ w. put q w nothing) (ap (λ u. shown_following u y shown) e ∙ shown_words q y shown)
  by Second Second e = ap (λ w. put q w nothing) (ap (λ u. shown_following u y shown) e ∙ shown_words q y shown)
  by Third Third e = ap (λ w. put q w nothing) (ap (λ u. shown_following u y shown) e ∙ shown_words q y shown)
  by First Second e = refl
  by First Third e = refl
  by Second First e = refl
  by Second Third e = refl
  by Third First e = refl
  by Third Second e = refl
