-- The steps And and Share at one party.
use Rattle.std.proofs.Common.{◌≡◌, ℕ, Bool, true, List, [], ◌∷◌, length, refl, sym, ap, ◌∙◌}
use Rattle.std.proofs.lemmas.List.{append-nil}
use Rattle.lanes.specs.declared.party.Party.{Party}
use Rattle.lanes.specs.declared.party.Party.TheVariants.{First, Second, Third}
use Rattle.lanes.specs.declared.three.Three.{Three}
use Rattle.lanes.specs.Party.{next, before}
use Rattle.lanes.specs.Three.{at, put, each}
use Rattle.lanes.specs.SharedAnd.{and_shares}
use Rattle.step_lists.specs.declared.step.Shape.{Shape}
use Rattle.step_lists.specs.declared.step.Step.TheVariants.{And, Share}
use Rattle.step_lists.specs.Layout.{Layout, party_of, length_of, words_in_slot}
use Rattle.step_lists.specs.Draws.{ThreeTapes, nothing, words_in}
use Rattle.step_lists.specs.Seen.{same_party}
use Rattle.step_lists.specs.Open.{item}
use Rattle.step_lists.specs.Phases.{Shares, Links, link}
use Rattle.step_lists.specs.Machine.{Machine, shares, slot_of, given_share, dealt, and_words, to_both}
use Rattle.step_lists.specs.Part.{Pair, pair_at, and_part, given_away, shared_pair, takes_from}
use Rattle.party_laws.specs.InMachine.{pair_of, received_by, held}
use Rattle.party_laws.proofs.Threes.{count_both}
use Rattle.party_laws.proofs.Cuts.{IsReady, IsCut, given_in, pair_is, more_pairs, same_slot, new_long}
use Rattle.party_laws.proofs.LocalSteps.{both_sent}

-- ---- And

and_is : (v : Party) (s t : Shares) (ds : ThreeTapes) (w : Links) → and_part (pair_of v s) (pair_of v t) (given_in v ds w) ≡ at v (and_shares s t (each words_in ds))
and_is First s t ds w = refl
and_is Second s t ds w = refl
and_is Third s t ds w = refl

-- the share that comes
and_comes : (v : Party) (z : Shares) → at (next v) (received_by v (and_words z)) ≡ at (next v) z
and_comes First z = append-nil z.second
and_comes Second z = refl
and_comes Third z = append-nil z.first

-- the share that goes
and_goes : (v : Party) (z : Shares) → put (before v) (at v z) nothing ≡ at v (and_words z)
and_goes First z = ap (λ w. record { first = []; second = []; third = w }) (sym (append-nil z.first))
and_goes Second z = ap (λ w. record { first = w; second = []; third = [] }) (sym (append-nil z.second))
and_goes Third z = refl

and_pair : (a b : List ℕ) (c d : List ℕ) → a ≡ b → c ≡ d → ◌≡◌ {A = Pair} (record { own = a; following = c }) (record { own = b; following = d })
and_pair a b c d e f =
    let pair = λ (x y : List ℕ). let z : Pair = record { own = x; following = y } in z in
    ap (λ x. pair x c) e ∙ ap (pair b) f

count_and : (q v : Party) (z : Shares) (n : ℕ) → ((p : Party) → length (at p z) ≡ n) → length (link q v (and_words z)) ≡ at q (takes_from (next v) n)
count_and First First z n h = refl
count_and First Second z n h = refl
count_and First Third z n h = ap length (append-nil z.first) ∙ h First
count_and Second First z n h = ap length (append-nil z.second) ∙ h Second
count_and Second Second z n h = refl
count_and Second Third z n h = refl
count_and Third First z n h = refl
count_and Third Second z n h = h Third
count_and Third Third z n h = refl

-- ---- Share

dealt_pair : (v p : Party) (words : List ℕ) (ds : ThreeTapes)
    → shared_pair v p (given_in v ds (to_both p (given_share p words (each words_in ds)))) ≡ pair_of v (dealt p words (each words_in ds))
dealt_pair First First words ds = refl
dealt_pair Second Second words ds = refl
dealt_pair Third Third words ds = refl
dealt_pair Second First words ds = ap (λ w. record { own = words_in ds.second; following = w }) (append-nil (given_share First words (each words_in ds)))
dealt_pair Third Second words ds = ap (λ w. record { own = words_in ds.third; following = w }) (append-nil (given_share Second words (each words_in ds)))
dealt_pair First Third words ds = ap (λ w. record { own = words_in ds.first; following = w }) (append-nil (given_share Third words (each words_in ds)))
dealt_pair Third First words ds = refl
dealt_pair First Second words ds = refl
dealt_pair Second Third words ds = refl

given_is : (v p : Party) (own words : List ℕ) (ds : ThreeTapes) (w : Links) → same_party v p ≡ true → own ≡ words
    → given_away own (given_in v ds w) ≡ given_share p words (each words_in ds)
given_is First First own words ds w e f = ap (λ x. given_away x (given_in First ds w)) f
given_is Second Second own words ds w e f = ap (λ x. given_away x (given_in Second ds w)) f
given_is Third Third own words ds w e f = ap (λ x. given_away x (given_in Third ds w)) f
given_is First Second own words ds w e f = absurd (cc)
given_is First Third own words ds w e f = absurd (cc)
given_is Second First own words ds w e f = absurd (cc)
given_is Second Third own words ds w e f = absurd (cc)
given_is Third First own words ds w e f = absurd (cc)
given_is Third Second own words ds w e f = absurd (cc)

given_in_dealt : (p : Party) (words : List ℕ) (r : Shares) → at (before p) (dealt p words r) ≡ given_share p words r
given_in_dealt First words r = refl
given_in_dealt Second words r = refl
given_in_dealt Third words r = refl

module _ {T : Type 0} (accepts : T → List Shape → List Shape → Bool) (answer : T → List (List ℕ) → List (List ℕ)) where
  pub and_cut : (v : Party) (l : Layout) (m : Machine) (left right : ℕ) (ds : ThreeTapes) → IsReady accepts answer l m (And left right) ds
      → IsCut accepts answer v l m (And left right) ds
  and_cut v l m left right ds h =
      let s = shares m left in
      let u = shares m right in
      let z = and_shares s u (each words_in ds) in
      let g = given_in v ds (and_words z) in
      let long = new_long accepts answer l m (length_of l left) z h.long h.made in
      let own = λ (x : Three (List ℕ)) (t : Three ℕ).
      let e : and_part (pair_at (held v m x t) left) (pair_at (held v m x t) right) g ≡ at v z =
      ap (λ p. and_part p (pair_at (held v m x t) right) g) (pair_is v m left) ∙ (ap (λ p. and_part (pair_of v s) p g) (pair_is v m right) ∙ and_is v s u ds (and_words z)) in
      e in
      record {
        part = λ x t. more_pairs v m x t _ (z ∷ []) (ap (λ p. p ∷ []) (and_pair _ (at v z) _ (at (next v) z) (own x t) (and_comes v z)));
        sent = λ x t. ap (λ ws. ws ∷ []) (ap (λ w. put (before v) w nothing) (own x t) ∙ and_goes v z);
        count = λ q. (count_and q v z (length_of l left) long, tt);
        order = refl;
      }

  pub share_cut : (v : Party) (l : Layout) (m : Machine) (party s : ℕ) (ds : ThreeTapes) → IsReady accepts answer l m (Share party s) ds
      → IsCut accepts answer v l m (Share party s) ds
  share_cut v l m party s ds h =
      let p = party_of party in
      let w = slot_of m p s in
      let r = each words_in ds in
      let given = given_share p w r in
      let g = given_in v ds (to_both p given) in
      let long = ap length (sym (given_in_dealt p w r)) ∙ new_long accepts answer l m (words_in_slot l p s) (dealt p w r) h.long h.made (before p) in
      record {
        part = λ x t. more_pairs v m x t _ (dealt p w r ∷ []) (ap (λ p. p ∷ []) (dealt_pair v p w ds));
        sent = λ x t.
            ap (λ ws. ws ∷ [])
            (both_sent v p (given_away (item (at v m.slots) s) g) given (λ e. given_is v p (item (at v m.slots) s) w ds (to_both p given) e (same_slot v p m.slots s e)));
        count = λ q. (count_both q v p given (words_in_slot l p s) long, tt);
        order = refl;
      }
