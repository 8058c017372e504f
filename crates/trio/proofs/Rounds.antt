-- Runs that each step keeps, and in which some party can move until all have ended: all end behind enough rounds.
use Rattle.std.proofs.Common.{◌≡◌, ℕ, zero, suc, ◌≤◌, ◌<◌, Bool, true, false, List, [], ◌∷◌, ◌++◌, length, refl, sym, subst, ap, ◌∙◌, arith, inl, inr}
use Rattle.std.specs.Prelude.{◌⊎◌, nat_le, if◌then◌else◌}
use Rattle.std.proofs.lemmas.Bool.{cases_lt}
use Rattle.lanes.specs.declared.party.Party.{Party}
use Rattle.lanes.specs.declared.party.Party.TheVariants.{First, Second, Third}
use Rattle.step_lists.specs.Layout.{party_of}
use Rattle.party_core.specs.declared.want.Want.{Want}
use Rattle.party_core.specs.declared.want.Want.TheVariants.{Turn, Words, Done, Stopped}
use Rattle.party_core.specs.Core.{want_of}
use Rattle.trio.specs.declared.stepped.Stepped.TheVariants.{Moved, Waits}
use Rattle.trio.specs.Running.{Running, core_at, waiting_on, by_words, moved, moved_by, stepped, stepped_by, in_turns, rounds, HaveEnded}
use Rattle.trio.specs.RunOf.{all_moves_left}

module _ {T : Type 0} (answer : T → List (List ℕ) → List (List ℕ)) where
  -- where no move is made nothing changes
  pub moves_or_stays : (r : Running T) (v : Party) → (stepped answer v r ≡ Moved) ⊎ (moved answer v r ≡ r)
  moves_or_stays r v = by (want_of answer (core_at v r)) where
    by : (x : Want) → (stepped_by x v r ≡ Moved) ⊎ (moved_by answer x v r ≡ r)
    by Turn = inl refl
    by (Words q n) = enough (nat_le n (length (waiting_on (party_of q) v r))) where
      enough : (b : Bool) → ((if b then Moved else Waits q) ≡ Moved) ⊎ ((if b then by_words v (party_of q) n r else r) ≡ r)
      enough true = inl refl
      enough false = inr refl
    by Done = inr refl
    by (Stopped flag) = inr refl

  pub in_order : (turns more : List ℕ) (r : Running T) → in_turns answer (turns ++ more) r ≡ in_turns answer more (in_turns answer turns r)
  in_order [] more r = refl
  in_order (p ∷ ps) more r = in_order ps more (moved answer (party_of p) r)

  module _ (IsRun : Running T → Type 0) (keeps : (r : Running T) (v : Party) → IsRun r → IsRun (moved answer v r))
      (lowers : (r : Running T) (v : Party) → IsRun r → stepped answer v r ≡ Moved → all_moves_left r ≡ suc (all_moves_left (moved answer v r)))
      (goes_on : (r : Running T) → IsRun r → HaveEnded answer r ⊎ ((v : Party) × (stepped answer v r ≡ Moved))) where
    no_more : (r : Running T) (v : Party) → IsRun r → all_moves_left (moved answer v r) ≤ all_moves_left r
    no_more r v h = by (moves_or_stays r v) where
      by : (stepped answer v r ≡ Moved) ⊎ (moved answer v r ≡ r) → all_moves_left (moved answer v r) ≤ all_moves_left r
      by (inl e) = omega (arith, lowers r v h e)
      by (inr e) = omega (arith, ap all_moves_left e)

    -- one that leaves as many moves as before changed nothing
    same_left : (r : Running T) (v : Party) → IsRun r → all_moves_left r ≤ all_moves_left (moved answer v r) → moved answer v r ≡ r
    same_left r v h le = by (moves_or_stays r v) where
      by : (stepped answer v r ≡ Moved) ⊎ (moved answer v r ≡ r) → moved answer v r ≡ r
      by (inl e) = absurd (omega (arith, le, lowers r v h e))
      by (inr e) = e

    -- ---- one round

    abbrev one : Running T → Running T
    one r = moved answer First r

    abbrev two : Running T → Running T
    two r = moved answer Second (one r)

    abbrev round : Running T → Running T
    round r = moved answer Third (two r)

    round_keeps : (r : Running T) → IsRun r → IsRun (round r)
    round_keeps r h = keeps (two r) Third (keeps (one r) Second (keeps r First h))

    -- in a round a move is made, or all have ended
    pub round_moves : (r : Running T) → IsRun r → HaveEnded answer r ⊎ (all_moves_left (in_turns answer (1 ∷ 2 ∷ 3 ∷ []) r) < all_moves_left r)
    round_moves r h = by (cases_lt (all_moves_left (round r)) (all_moves_left r)) where
      after_one : all_moves_left (one r) ≤ all_moves_left r
      after_one = no_more r First h

      after_two : all_moves_left (two r) ≤ all_moves_left (one r)
      after_two = no_more (one r) Second (keeps r First h)

      after_three : all_moves_left (round r) ≤ all_moves_left (two r)
      after_three = no_more (two r) Third (keeps (one r) Second (keeps r First h))

      stuck : all_moves_left r ≤ all_moves_left (round r) → (v : Party) → stepped answer v r ≡ Moved → ⊥
      stuck ge First e = omega (arith, ge, after_two, after_three, lowers r First h e)
      stuck ge Second e =
          let same = same_left r First h (omega (arith, ge, after_two, after_three)) in
          let here = lowers (one r) Second (keeps r First h) (ap (stepped answer Second) same ∙ e) in
          omega (arith, ge, after_one, after_three, here)
      stuck ge Third e =
          let same = same_left r First h (omega (arith, ge, after_two, after_three)) in
          let again = same_left (one r) Second (keeps r First h) (omega (arith, ge, after_one, after_three)) in
          let here = lowers (two r) Third (keeps (one r) Second (keeps r First h)) (ap (stepped answer Third) (again ∙ same) ∙ e) in
          omega (arith, ge, after_one, after_two, here)

      by : (all_moves_left (round r) < all_moves_left r) ⊎ (all_moves_left r ≤ all_moves_left (round r)) → HaveEnded answer r ⊎ (all_moves_left (round r) < all_moves_left r)
      by (inl lt) = inr lt
      by (inr ge) = some (goes_on r h) where
        some : HaveEnded answer r ⊎ ((v : Party) × (stepped answer v r ≡ Moved)) → HaveEnded answer r ⊎ (all_moves_left (round r) < all_moves_left r)
        some (inl e) = inl e
        some (inr m) = absurd (stuck ge m.0 m.1)

    -- ---- rounds

    abbrev Ends : Running T → Type 0
    Ends r = (count : ℕ) × (HaveEnded answer (in_turns answer (rounds count) r) × IsRun (in_turns answer (rounds count) r))

    one_more : (r : Running T) → Ends (round r) → Ends r
    one_more r e = (suc e.0, e.1)

    ends_in : (m : ℕ) (r : Running T) → IsRun r → all_moves_left r ≤ m → Ends r
    ends_in zero r h le = by (round_moves r h) where
      by : HaveEnded answer r ⊎ (all_moves_left (round r) < all_moves_left r) → Ends r
      by (inl e) = (0, (e, h))
      by (inr lt) = absurd (omega (arith, le, lt))
    ends_in (suc m) r h le = by (round_moves r h) (λ lt. ends_in m (round r) (round_keeps r h) (omega (arith, le, lt))) where
      by : HaveEnded answer r ⊎ (all_moves_left (round r) < all_moves_left r) → (all_moves_left (round r) < all_moves_left r → Ends (round r)) → Ends r
      by (inl e) more = (0, (e, h))
      by (inr lt) more = one_more r (more lt)

    -- ---- turns, and then rounds

    pub turns_keep : (turns : List ℕ) (r : Running T) → IsRun r → IsRun (in_turns answer turns r)
    turns_keep [] r h = h
    turns_keep (p ∷ ps) r h = turns_keep ps (moved answer (party_of p) r) (keeps r (party_of p) h)

    pub all_end : (turns : List ℕ) (r : Running T) → IsRun r
        → IsRun (in_turns answer turns r) × ((count : ℕ) × (HaveEnded answer (in_turns answer (turns ++ rounds count) r) × IsRun (in_turns answer (turns ++ rounds count) r)))
    all_end turns r h =
        let kept = turns_keep turns r h in
        let e = ends_in (all_moves_left (in_turns answer turns r)) (in_turns answer turns r) kept (omega arith) in
        let same = sym (in_order turns (rounds e.0) r) in
        (kept, (e.0, (subst (HaveEnded answer) same e.1.0, subst IsRun same e.1.1)))
