-- The twin of a tape: for a viewer, two worlds and three tapes, the tape that the viewer doesn't hold is made anew, step
-- by step, with the first world under the tapes that are given and the second one under the twin made so far.
use Rattle.std.specs.Prelude.{ℕ, suc, zero, List, [], ◌∷◌, ◌++◌, length, map, ◌||◌, if◌then◌else◌, bit_xor}
use Rattle.std.specs.List.{range_with_len}
use Rattle.bags.specs.Bag.{row_eq}
use Rattle.lanes.specs.declared.party.Party.{Party}
use Rattle.lanes.specs.declared.party.Party.TheVariants.{First, Second, Third}
use Rattle.lanes.specs.Party.{next, before}
use Rattle.lanes.specs.Three.{at, put, opened}
use Rattle.lanes.specs.Lanes.{xors, crosses}
use Rattle.tapes.specs.declared.draw.Draw.{Draw}
use Rattle.tapes.specs.declared.draw.Draw.TheVariants.{Word, Order}
use Rattle.tapes.specs.Order.{composed, identity_of, inverse_of}
use Rattle.tapes.specs.Align.{row_at, occurrence}
use Rattle.tapes.specs.RowLaws.{rows_across}
use Rattle.step_lists.specs.Layout.{Step, Const, Lin, And, Share, Reveal, Steer, Tell, Work, Flag, Steps, Layout, party_of, starting, rows_moved}
use Rattle.step_lists.specs.Draws.{ThreeTapes, order_in}
use Rattle.step_lists.specs.Run.{outs, tape_cut}
use Rattle.step_lists.specs.Open.{SlotWords}
use Rattle.step_lists.specs.Seen.{same_party, shown_of}
use Rattle.step_lists.specs.Phases.{Shares, Moving, there_all, back_all, phase}
use Rattle.step_lists.specs.Machine.{Machine, shares, slot_of, moving, joint_going, before_steps}
use Rattle.step_lists.specs.Part.{is_order}

-- ---- draws that are changed

-- the words xored with these, one after the other, and the order replaced
abbrev pub changed : List ℕ → List ℕ → List Draw → List Draw
changed order cs [] = []
changed order cs (Order o ∷ ds) = Order order ∷ changed order cs ds
changed order [] (Word w ∷ ds) = Word w ∷ changed order [] ds
changed order (c ∷ cs) (Word w ∷ ds) = Word (bit_xor w c) ∷ changed order cs ds

-- ---- words that an unseen word masks

-- of an and, what party v + 1 sends to v is without its two masks
abbrev pub bare_and : Party → Shares → Shares → List ℕ
bare_and v s t = crosses (at (next v) s) (at (before v) s) (at (next v) t) (at (before v) t)

-- of a phase, what the viewer is sent under a word that it doesn't see: as party j from j - 1, as party j - 1 from j
abbrev pub bare_phase : Party → Party → List ℕ → ℕ → Moving → List ℕ
bare_phase v j order n x =
    if same_party j v then there_all j order n x.shares [] else (if same_party j (next v) then back_all j order n x.shares [] else [])

-- ---- phases of two worlds

-- the moved registers in both worlds, and how the unseen words are changed so far
pub record Both : Type 0 where
  pub one : Moving
  pub other : Moving
  pub changes : List ℕ

-- the next unseen words changed
abbrev pub masked_anew : Party → List ℕ → Moving → Moving
masked_anew v cs x = record x { masks = put (before v) (xors (at (before v) x.masks) cs) x.masks }

-- phase j in both worlds, by an order for each, with these changes
abbrev pub phase_changed : Party → Party → List ℕ → List ℕ → ℕ → Both → List ℕ → Both
phase_changed v j p q n x cs = record { one = phase j p n x.one; other = phase j q n (masked_anew v cs x.other); changes = x.changes ++ cs }

abbrev pub phase_both : Party → Party → List ℕ → List ℕ → ℕ → Both → Both
phase_both v j p q n x = phase_changed v j p q n x (xors (bare_phase v j p n x.one) (bare_phase v j q n x.other))

-- ---- the unseen order

-- the place of the j-th row that is equal to one
abbrev pub place_again : List ℕ → ℕ → List (List ℕ) → ℕ
place_again row j [] = 0
place_again row zero (r ∷ rs) = if row_eq row r then 0 else suc (place_again row zero rs)
place_again row (suc j) (r ∷ rs) = suc (place_again row (if row_eq row r then j else suc j) rs)

-- the order that takes the j-th occurrence of each row of the source to its j-th occurrence in the target; where the
-- lists aren't the same bag it is no order
abbrev pub aligning : List (List ℕ) → List (List ℕ) → List ℕ
aligning source target = map (λ k. place_again (row_at target k) (occurrence target k) source) (range_with_len 0 (length target))

-- the orders of a Reveal's phases before that of party j
abbrev pub earlier_orders : Party → ℕ → ThreeTapes → List ℕ
earlier_orders First n ds = identity_of n
earlier_orders Second n ds = order_in ds.first
earlier_orders Third n ds = composed (order_in ds.first) (order_in ds.second)

-- p after a after d after inverse(a), for the order p of a phase, the orders a before it and an order d
abbrev pub shifted : List ℕ → List ℕ → List ℕ → List ℕ
shifted p a d = composed (composed (composed (inverse_of a) d) a) p

-- the unseen order of a Reveal to the viewer takes the second world's rows to where the first world's went; where the
-- shown rows aren't the same bag it is kept
abbrev pub shifted_or_kept : Party → ℕ → ThreeTapes → List ℕ → List ℕ
shifted_or_kept v n ds d =
    if is_order d then shifted (order_in (at (before v) ds)) (earlier_orders (before v) n ds) d else order_in (at (before v) ds)

abbrev pub reveal_order : Party → ℕ → ThreeTapes → List (List ℕ) → List (List ℕ) → List ℕ
reveal_order v n ds rows other = shifted_or_kept v n ds (aligning other rows)

-- the rows over the shown registers, before they are moved
abbrev pub open_rows : Machine → ℕ → List ℕ → List ℕ → List (List ℕ)
open_rows m n moved shown = rows_across n (shown_of (map (λ r. opened (shares m r)) moved) shown)

-- the unseen order of a Steer by v + 1: t after inverse(g) after h
abbrev pub steered_order : List ℕ → List ℕ → List ℕ → List ℕ
steered_order t g h = composed (composed h (inverse_of g)) t

-- ---- the draws of a step

abbrev pub first_both : Party → ThreeTapes → ThreeTapes → ℕ → Both → Both
first_both v ds es n x = phase_both v First (order_in ds.first) (order_in es.first) n x

abbrev pub second_both : Party → ThreeTapes → ThreeTapes → ℕ → Both → Both
second_both v ds es n x = phase_both v Second (order_in ds.second) (order_in es.second) n (first_both v ds es n x)

abbrev pub third_both : Party → ThreeTapes → ThreeTapes → ℕ → Both → Both
third_both v ds es n x = phase_both v Third (order_in ds.third) (order_in es.third) n (second_both v ds es n x)

abbrev pub drawn_both : Party → Party → List ℕ → List ℕ → ℕ → Both → Both
drawn_both v p t u n x = phase_both v (next p) t u n x

abbrev pub steer_both : Party → Party → List ℕ → List ℕ → List ℕ → List ℕ → ℕ → Both → Both
steer_both v p t u g h n x = phase_both v p (composed (inverse_of t) g) (composed (inverse_of u) h) n (drawn_both v p t u n x)

abbrev pub begin_both : Machine → Machine → List ℕ → ThreeTapes → Both
begin_both x y moved ds = record { one = moving x moved ds; other = moving y moved ds; changes = [] }

-- the three tapes with another order on the unseen one
abbrev pub with_order : Party → List ℕ → ThreeTapes → ThreeTapes
with_order v order ds = put (before v) (changed order [] (at (before v) ds)) ds

-- of a Reveal, with this order
abbrev pub reveal_draws : Party → ℕ → List ℕ → Machine → Machine → ThreeTapes → List ℕ → List Draw
reveal_draws v n moved x y ds order = changed order (third_both v ds (with_order v order ds) n (begin_both x y moved ds)).changes (at (before v) ds)

abbrev pub twin_reveal : Party → Party → ℕ → List ℕ → List ℕ → Machine → Machine → ThreeTapes → List Draw
twin_reveal v q n moved shown x y ds =
    reveal_draws v n moved x y ds (if same_party q v then reveal_order v n ds (open_rows x n moved shown) (open_rows y n moved shown) else order_in (at (before v) ds))

-- of a Steer, with the order t in the first world and u in the second
abbrev pub steer_draws : Party → Party → List ℕ → List ℕ → ℕ → List ℕ → Machine → Machine → ThreeTapes → List ℕ → List ℕ → List Draw
steer_draws v p g h n moved x y ds t u = changed u (steer_both v p t u g h n (begin_both x y moved ds)).changes (at (before v) ds)

abbrev pub twin_steer : Party → Party → List ℕ → List ℕ → ℕ → List ℕ → Machine → Machine → ThreeTapes → List Draw
twin_steer v p g h n moved x y ds =
    steer_draws v p g h n moved x y ds (order_in (at (next p) ds)) (if same_party p (next v) then steered_order (order_in (at (next p) ds)) g h else order_in (at (next p) ds))

-- the draws of the unseen tape in a step, anew
abbrev pub twin_draws : {T : Type 0} → Party → Layout → Machine → Machine → Step T → ThreeTapes → List Draw
twin_draws v l x y (Const words) ds = at (before v) ds
twin_draws v l x y (Lin op) ds = at (before v) ds
twin_draws v l x y (And left right) ds =
    changed [] (xors (bare_and v (shares x left) (shares x right)) (bare_and v (shares y left) (shares y right))) (at (before v) ds)
twin_draws v l x y (Share party s) ds =
    if same_party (party_of party) v then at (before v) ds
    else changed [] (xors (slot_of x (party_of party) s) (slot_of y (party_of party) s)) (at (before v) ds)
twin_draws v l x y (Reveal to moved shown) ds = twin_reveal v (party_of to) (rows_moved l moved) moved shown x y ds
twin_draws v l x y (Steer by s moved) ds =
    twin_steer v (party_of by) (slot_of x (party_of by) s) (slot_of y (party_of by) s) (rows_moved l moved) moved x y ds
twin_draws v l x y (Tell source target s) ds = at (before v) ds
twin_draws v l x y (Work party task takes gives) ds = at (before v) ds
twin_draws v l x y (Flag party s) ds = at (before v) ds

-- every draw after a stop of either world is kept
abbrev pub twin_going : {T : Type 0} → Party → Layout → Machine → Machine → Step T → ThreeTapes → List Draw
twin_going v l x y s ds = if x.stop || y.stop then at (before v) ds else twin_draws v l x y s ds

-- ---- the run

pub record Worlds : Type 0 where
  pub one : Machine
  pub other : Machine

module _ {T : Type 0} (answer : T → List (List ℕ) → List (List ℕ)) (v : Party) where
  -- a step of both worlds, the second one under the twin
  abbrev pub worlds_going : Layout → Worlds → Step T → ThreeTapes → Worlds
  worlds_going l w s ds = record {
    one = joint_going answer l w.one s ds;
    other = joint_going answer l w.other s (put (before v) (twin_going v l w.one w.other s ds) ds);
  }

  abbrev pub draws_going : Layout → Worlds → Step T → ThreeTapes → List Draw
  draws_going l w s ds = twin_going v l w.one w.other s ds

  -- the twin of the unseen tape
  abbrev pub twin_tape : Steps T → SlotWords → SlotWords → ThreeTapes → List Draw
  twin_tape list slots other ds =
      outs worlds_going draws_going tape_cut (starting list.first) (record { one = before_steps slots; other = before_steps other }) list.steps ds

  -- the three tapes with the twin in its place
  abbrev pub twin_tapes : Steps T → SlotWords → SlotWords → ThreeTapes → ThreeTapes
  twin_tapes list slots other ds = put (before v) (twin_tape list slots other ds) ds
