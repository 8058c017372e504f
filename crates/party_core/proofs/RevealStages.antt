-- A Reveal at one party: what it sends in a stage, and what it has behind the step, by the rows that are moved.
use Rattle.std.proofs.Common.{◌≡◌, ℕ, Bool, true, false, List, sym, ap, ◌∙◌}
use Rattle.std.specs.Prelude.{⊤, slice_index_or}
use Rattle.std.specs.List.{flat_map}
use Rattle.lanes.specs.declared.party.Party.{Party}
use Rattle.lanes.specs.declared.party.Party.TheVariants.{Second, Third}
use Rattle.lanes.specs.Party.{next}
use Rattle.lanes.specs.Three.{at, put}
use Rattle.step_lists.specs.declared.step.Step.TheVariants.{Reveal}
use Rattle.step_lists.specs.Draws.{nothing}
use Rattle.step_lists.specs.Layout.{Layout, party_of, rows_moved}
use Rattle.step_lists.specs.Seen.{same_party}
use Rattle.step_lists.specs.Part.{Given, Pair, Part, PartMoving, held_order, no_pair, part_first, part_moving, part_second, part_step, part_third, phase_sends, revealed_slots, stage_sends, when_sent, with_own_slots, with_pairs}
use Rattle.party_core.specs.Calls.{Posted}
use Rattle.party_core.specs.Doing.{posted_of}

module _ (v : Party) (l : Layout) (a : Part) (to : ℕ) (moved shown : List ℕ) (g : Given) (n : ℕ) (x : PartMoving) (rows : rows_moved l moved ≡ n) where
  abbrev Sent : ℕ → Posted → Type 0
  Sent i out = out ≡ posted_of v (slice_index_or (stage_sends {T = ⊤} v l a (Reveal to moved shown) g) i nothing)

  pub sent_second : (i : ℕ) (out : Posted) → i ≡ 1 → x ≡ part_first v n g (part_moving a moved g) → out ≡ posted_of v (phase_sends v Second (held_order v Second g) n x)
      → Sent i out
  sent_second i out stage is sent =
      sent ∙ ap (λ y. posted_of v (phase_sends v Second (held_order v Second g) n y)) is
      ∙ ap (λ m. posted_of v (phase_sends v Second (held_order v Second g) m (part_first v m g (part_moving a moved g)))) (sym rows)
      ∙ ap (λ k. posted_of v (slice_index_or (stage_sends {T = ⊤} v l a (Reveal to moved shown) g) k nothing)) (sym stage)

  pub sent_third : (i : ℕ) (out : Posted) → i ≡ 2 → x ≡ part_second v n g (part_moving a moved g) → out ≡ posted_of v (phase_sends v Third (held_order v Third g) n x)
      → Sent i out
  sent_third i out stage is sent =
      sent ∙ ap (λ y. posted_of v (phase_sends v Third (held_order v Third g) n y)) is
      ∙ ap (λ m. posted_of v (phase_sends v Third (held_order v Third g) m (part_second v m g (part_moving a moved g)))) (sym rows)
      ∙ ap (λ k. posted_of v (slice_index_or (stage_sends {T = ⊤} v l a (Reveal to moved shown) g) k nothing)) (sym stage)

  abbrev followings : PartMoving → List ℕ
  followings y = flat_map (λ k. (slice_index_or y.pairs k no_pair).following) shown

  pub sent_last : (i : ℕ) (t : Party) (w : List ℕ) (out : Posted) → i ≡ 3 → same_party v (next (party_of to)) ≡ true → x ≡ part_third v n g (part_moving a moved g)
      → t ≡ party_of to → w ≡ flat_map (λ k. (slice_index_or x.pairs k no_pair).following) shown → out ≡ posted_of v (put t w nothing) → Sent i out
  sent_last i t w out stage same is target words sent =
      sent ∙ ap (λ t. posted_of v (put t w nothing)) target ∙ ap (λ w. posted_of v (put (party_of to) w nothing)) (words ∙ ap followings is)
      ∙ ap (λ m. posted_of v (put (party_of to) (followings (part_third v m g (part_moving a moved g))) nothing)) (sym rows)
      ∙ ap (λ b. posted_of v (when_sent b (put (party_of to) (followings (part_third v (rows_moved l moved) g (part_moving a moved g))) nothing))) (sym same)
      ∙ ap (λ k. posted_of v (slice_index_or (stage_sends {T = ⊤} v l a (Reveal to moved shown) g) k nothing)) (sym stage)

  -- behind the step, by whether the registers are shown to the party, by the rows, and behind the third phase
  abbrev behind : Bool → ℕ → PartMoving → Part
  behind b m y = with_own_slots b (with_pairs a y.pairs) (revealed_slots v m y shown (at (next v) y.received))

  third_behind : (b : Bool) → x ≡ part_third v n g (part_moving a moved g) → same_party v (party_of to) ≡ b
      → behind b n x ≡ behind (same_party v (party_of to)) (rows_moved l moved) (part_third v (rows_moved l moved) g (part_moving a moved g))
  third_behind b is same =
      ap (behind b n) is ∙ ap (λ m. behind b m (part_third v m g (part_moving a moved g))) (sym rows)
      ∙ ap (λ b. behind b (rows_moved l moved) (part_third v (rows_moved l moved) g (part_moving a moved g))) (sym same)

  pub not_shown : {T : Type 0} (answer : T → List (List ℕ) → List (List ℕ)) (new : Part) → same_party v (party_of to) ≡ false → x ≡ part_third v n g (part_moving a moved g)
      → new ≡ with_pairs a x.pairs → new ≡ part_step answer v l a (Reveal to moved shown) g
  not_shown answer new same is made = made ∙ third_behind false is same

  pub shown_to : {T : Type 0} (answer : T → List (List ℕ) → List (List ℕ)) (new : Part) (ps : List Pair) (got : List ℕ) (slots : List (List ℕ)) → same_party v (party_of to) ≡ true
      → x ≡ part_third v n g (part_moving a moved g) → ps ≡ x.pairs → got ≡ at (next v) x.received → slots ≡ revealed_slots v n x shown got
      → new ≡ with_own_slots true (with_pairs a ps) slots → new ≡ part_step answer v l a (Reveal to moved shown) g
  shown_to answer new ps got slots same is pairs left opened made =
      made ∙ ap (λ ps. with_own_slots true (with_pairs a ps) slots) pairs
      ∙ ap (with_own_slots true (with_pairs a x.pairs)) (opened ∙ ap (revealed_slots v n x shown) left) ∙ third_behind true is same
