-- A Steer at one party: what it sends in the stages of its two phases, by the rows that are moved.
use Rattle.std.proofs.Common.{◌≡◌, ℕ, List, take, sym, ap, ◌∙◌}
use Rattle.std.specs.Prelude.{⊤, slice_index_or}
use Rattle.lanes.specs.declared.party.Party.{Party}
use Rattle.lanes.specs.Party.{next}
use Rattle.step_lists.specs.declared.step.Step.TheVariants.{Steer}
use Rattle.step_lists.specs.Draws.{nothing}
use Rattle.step_lists.specs.Layout.{Layout, party_of, rows_moved}
use Rattle.step_lists.specs.Open.{item}
use Rattle.step_lists.specs.Part.{Given, Part, PartMoving, behind_order, held_order, part_drawn, part_moving, phase_sends, stage_sends, steered}
use Rattle.party_core.specs.Calls.{Posted}
use Rattle.party_core.specs.Doing.{posted_of}

module _ (v : Party) (l : Layout) (a : Part) (by s : ℕ) (moved : List ℕ) (g : Given) (n : ℕ) (p : Party) (x : PartMoving) (rows : rows_moved l moved ≡ n)
    (party : p ≡ party_of by) (is : x ≡ part_moving a moved g) where
  abbrev Sent : ℕ → Posted → Type 0
  Sent i out = out ≡ posted_of v (slice_index_or (stage_sends {T = ⊤} v l a (Steer by s moved) g) i nothing)

  abbrev in_drawn : Party → ℕ → PartMoving → Posted
  in_drawn p n x = posted_of v (phase_sends v (next p) (held_order v (next p) g) n (behind_order v p n x))

  abbrev in_private : List ℕ → Party → ℕ → PartMoving → Posted
  in_private secret p n x = posted_of v (phase_sends v p (take n (steered v p secret g)) n (part_drawn v p n g x))

  pub sent_drawn : (i : ℕ) (out : Posted) → i ≡ 1 → out ≡ posted_of v (phase_sends v (next p) (held_order v (next p) g) n (behind_order v p n x)) → Sent i out
  sent_drawn i out stage sent =
      sent ∙ ap (λ p. in_drawn p n x) party ∙ ap (in_drawn (party_of by) n) is ∙ ap (λ m. in_drawn (party_of by) m (part_moving a moved g)) (sym rows)
      ∙ ap (λ k. posted_of v (slice_index_or (stage_sends {T = ⊤} v l a (Steer by s moved) g) k nothing)) (sym stage)

  pub sent_private : (i : ℕ) (secret : List ℕ) (out : Posted) → i ≡ 2 → secret ≡ item a.slots s
      → out ≡ posted_of v (phase_sends v p (take n (steered v p secret g)) n (part_drawn v p n g x)) → Sent i out
  sent_private i secret out stage kept sent =
      sent ∙ ap (λ t. in_private t p n x) kept ∙ ap (λ p. in_private (item a.slots s) p n x) party ∙ ap (in_private (item a.slots s) (party_of by) n) is
      ∙ ap (λ m. in_private (item a.slots s) (party_of by) m (part_moving a moved g)) (sym rows)
      ∙ ap (λ k. posted_of v (slice_index_or (stage_sends {T = ⊤} v l a (Steer by s moved) g) k nothing)) (sym stage)
