-- Needs that are pushed one after the other, and what a step draws by a later layout.
use Rattle.std.proofs.Common.{◌≡◌, ℕ, zero, suc, ◌<◌, Bool, ◌&&◌, List, [], ◌∷◌, ◌++◌, length, take, drop, append-nil, refl, sym, ap, subst, ◌∙◌, arith}
use Rattle.std.proofs.lemmas.List.{append_assoc}
use Rattle.std.specs.Prelude.{IsTrue, nat_lt, slice_index_or}
use Rattle.lanes.specs.declared.party.Party.{Party}
use Rattle.lanes.specs.declared.party.Party.TheVariants.{First, Second, Third}
use Rattle.lanes.specs.declared.three.Three.{Three}
use Rattle.lanes.specs.Three.{at}
use Rattle.step_lists.specs.declared.step.Shape.{Shape}
use Rattle.std.specs.Prelude.{nat_eq, not}
use Rattle.std.specs.List.{list_all}
use Rattle.std.proofs.lemmas.Bool.{ltb-true}
use Rattle.std.proofs.lemmas.List.{take-append-drop}
use Rattle.std.proofs.Math.Seq.{take-suc}
use Rattle.lanes.specs.Party.{next}
use Rattle.tapes.specs.declared.draw.Need.{Need}
use Rattle.step_lists.specs.Layout.{Step, Const, Lin, And, Share, Reveal, Steer, Tell, Work, Flag, Steps, Layout, party_of, starting, grown, grown_by, layout_of, length_of, shape_of, count_in, rows_moved}
use Rattle.step_lists.specs.Rules.{is_party, is_register, is_slot, is_words, is_empty, is_order_of, is_fine, is_small, move_together, fits_layout, AreFine, IsWellFormed}
use Rattle.step_lists.specs.Draws.{joined, nothing, parties, needs, needs_of, needs_each, needs_words, needs_reveal, needs_steer}
use Rattle.step_lists.specs.RunLaws.{grown_by-append}
use Rattle.step_lists.specs.Prefixes.{LayoutGrows, layout_run, needs_append}
use Rattle.step_lists.proofs.Rooms.{and_true}

pub joined_joined : {A : Type 0} (x y z : Three (List A)) → joined (joined x y) z ≡ joined x (joined y z)
joined_joined x y z =
    ap (λ first. record { first = first; second = (x.second ++ y.second) ++ z.second; third = (x.third ++ y.third) ++ z.third }) (append_assoc x.first y.first z.first)
    ∙ ap (λ second. record { first = x.first ++ (y.first ++ z.first); second = second; third = (x.third ++ y.third) ++ z.third }) (append_assoc x.second y.second z.second)
    ∙ ap (λ third. record { first = x.first ++ (y.first ++ z.first); second = x.second ++ (y.second ++ z.second); third = third }) (append_assoc x.third y.third z.third)

pub joined_nothing : {A : Type 0} (x : Three (List A)) → joined x nothing ≡ x
joined_nothing x =
    ap (λ first. record { first = first; second = x.second ++ []; third = x.third ++ [] }) (append-nil x.first)
    ∙ ap (λ second. record { first = x.first; second = second; third = x.third ++ [] }) (append-nil x.second)
    ∙ ap (λ third. record { first = x.first; second = x.second; third = third }) (append-nil x.third)

-- one push after another
pub pushed_twice : {A : Type 0} (a b c x y : Three (List A)) → b ≡ joined a x → c ≡ joined b y → c ≡ joined a (joined x y)
pushed_twice a b c x y h k = k ∙ ap (λ b. joined b y) h ∙ joined_joined a x y

-- ---- what a step draws, by the layout before it and by a later one

same_three : (a b c d e f : List Need) → a ≡ d → b ≡ e → c ≡ f → ◌≡◌ {A = Three (List Need)} (record { first = a; second = b; third = c }) (record { first = d; second = e; third = f })
same_three a b c d e f p q r =
    ◌∙◌ {A = Three (List Need)} {b = record { first = d; second = b; third = c }} (ap (λ x. record { first = x; second = b; third = c }) p)
    (◌∙◌ {A = Three (List Need)} {b = record { first = d; second = e; third = c }} (ap (λ x. record { first = d; second = x; third = c }) q)
    (ap (λ x. record { first = d; second = e; third = x }) r))

module _ {T : Type 0} (accepts : T → List Shape → List Shape → Bool) where
  same_rows : (l L : Layout) (moved : List ℕ) → LayoutGrows l L → IsTrue (move_together l moved) → rows_moved l moved ≡ rows_moved L moved
  same_rows l L [] g h = refl
  same_rows l L (r ∷ rs) g h =
      let all = (and_true (not (is_empty (r ∷ rs))) (list_all (λ k. is_register l k && nat_eq (length_of l k) (length_of l r)) (r ∷ rs)) h).1 in
      let one = (and_true (is_register l r && nat_eq (length_of l r) (length_of l r)) (list_all (λ k. is_register l k && nat_eq (length_of l k) (length_of l r)) rs) all).0 in
      sym (g.registers r (ltb-true r (length l.registers) (and_true (is_register l r) (nat_eq (length_of l r) (length_of l r)) one).0))

  same_slot : (l L : Layout) (p s : ℕ) → LayoutGrows l L → IsTrue (is_slot l p s) → shape_of l (party_of p) s ≡ shape_of L (party_of p) s
  same_slot l L p s g h = sym (g.slots (party_of p) s (ltb-true s (length (at (party_of p) l.slots)) (and_true (is_party p) (nat_lt s (length (at (party_of p) l.slots))) h).1))

  same_needs : (l L : Layout) (s : Step T) → LayoutGrows l L → IsTrue (is_fine accepts l s) → needs_of l s ≡ needs_of L s
  same_needs l L s g fine = by s (and_true (fits_layout accepts l s) (is_small (grown l s)) fine).0 where
    by : (s : Step T) → IsTrue (fits_layout accepts l s) → needs_of l s ≡ needs_of L s
    by (Const words) h = refl
    by (Lin op) h = refl
    by (And left right) h =
        let made = (and_true (is_register l left) (is_register l right) (and_true (is_register l left && is_register l right) (nat_eq (length_of l left) (length_of l right)) h).0).0 in
        ap needs_each (sym (g.registers left (ltb-true left (length l.registers) made)))
    by (Share p k) h =
        let made = (and_true (is_slot l p k) (is_words (shape_of l (party_of p) k)) h).0 in
        ap (λ shape. joined (needs_words (party_of p) (count_in shape)) (needs_words (next (party_of p)) (count_in shape))) (same_slot l L p k g made)
    by (Reveal to moved shown) h =
        let front = (and_true (is_party to && move_together l moved && not (is_empty shown)) (list_all (λ k. nat_lt k (length moved)) shown) h).0 in
        let together = (and_true (is_party to) (move_together l moved) (and_true (is_party to && move_together l moved) (not (is_empty shown)) front).0).1 in
        ap (needs_reveal (length moved)) (same_rows l L moved g together)
    by (Steer p k moved) h =
        let front = (and_true (is_slot l p k && move_together l moved) (is_order_of (rows_moved l moved) (shape_of l (party_of p) k)) h).0 in
        let together = (and_true (is_slot l p k) (move_together l moved) front).1 in
        ap (needs_steer (party_of p) (length moved)) (same_rows l L moved g together)
    by (Tell source target k) h = refl
    by (Work p task takes gives) h = refl
    by (Flag p k) h = refl

  fine_at : (l : Layout) (ss : List (Step T)) (k : ℕ) (d : Step T) → AreFine accepts l ss → k < length ss
      → IsTrue (is_fine accepts (grown_by l (take k ss)) (slice_index_or ss k d))
  fine_at l [] k d h below = absurd (omega (arith, below))
  fine_at l (s ∷ ss) zero d h below = h.0
  fine_at l (s ∷ ss) (suc k) d h below = fine_at (grown l s) ss k d h.1 (omega (arith, below))

  pub needs_more : (list : Steps T) (k : ℕ) (s : Step T) → IsWellFormed accepts list → k < length list.steps → slice_index_or list.steps k s ≡ s
      → joined (parties (λ p. needs p (starting list.first) (take k list.steps))) (needs_of (layout_of list) s)
      ≡ parties (λ p. needs p (starting list.first) (take (suc k) list.steps))
  needs_more list k s well below is =
      ap (joined (parties (λ p. needs p (starting list.first) (take k list.steps)))) (sym (same_needs before (layout_of list) s grows fine))
      ∙ sym (same_three _ _ _ _ _ _ (one First) (one Second) (one Third))
    where
      before : Layout
      before = grown_by (starting list.first) (take k list.steps)

      fine : IsTrue (is_fine accepts (grown_by (starting list.first) (take k list.steps)) s)
      fine = subst (λ x. IsTrue (is_fine accepts (grown_by (starting list.first) (take k list.steps)) x)) is (fine_at (starting list.first) list.steps k s well.fine below)

      grows : LayoutGrows (grown_by (starting list.first) (take k list.steps)) (layout_of list)
      grows =
          subst (LayoutGrows (grown_by (starting list.first) (take k list.steps)))
          (sym (grown_by-append (starting list.first) (take k list.steps) (drop k list.steps)) ∙ ap (grown_by (starting list.first)) (take-append-drop k list.steps))
          (layout_run (grown_by (starting list.first) (take k list.steps)) (drop k list.steps))

      one : (p : Party) → needs p (starting list.first) (take (suc k) list.steps)
          ≡ needs p (starting list.first) (take k list.steps) ++ at p (needs_of (grown_by (starting list.first) (take k list.steps)) s)
      one p =
          ap (needs p (starting list.first)) (take-suc list.steps k s below ∙ ap (λ x. take k list.steps ++ x ∷ []) is)
          ∙ needs_append p (starting list.first) (take k list.steps) (s ∷ [])
          ∙ ap (λ ns. needs p (starting list.first) (take k list.steps) ++ ns) (append-nil (at p (needs_of (grown_by (starting list.first) (take k list.steps)) s)))
