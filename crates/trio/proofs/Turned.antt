-- Turns that are done one behind the other, and those that want of memory cuts off.
use Rattle.std.proofs.Common.{◌≡◌, ℕ, zero, suc, ◌+◌, ◌<◌, Bool, List, [], ◌∷◌, ◌++◌, length, take, get_or, refl, sym, subst, ap, ◌∙◌, arith, inl, inr}
use Rattle.std.specs.Prelude.{◌⊎◌}
use Rattle.std.proofs.lemmas.List.{append-nil, take_more}
use Rattle.step_lists.specs.declared.step.Shape.{Shape}
use Rattle.step_lists.specs.Layout.{Steps, party_of}
use Rattle.step_lists.specs.Draws.{ThreeTapes}
use Rattle.step_lists.specs.Open.{SlotWords}
use Rattle.trio.specs.Held.{AreBegun, IsPartRun, IsRun}
use Rattle.trio.specs.RunOf.{EndsAsJoint, EveryOrderEnds, IsRunOf, RunsGoOn, RunsKeep, all_moves_left}
use Rattle.trio.specs.Running.{Running, moved, in_turns, rounds, HaveEnded, IsWholeRun}
use Rattle.trio.proofs.Rounds.{in_order, round_moves}
use Rattle.trio.proofs.Standing.{run_moved}

take_behind : (xs ys : List ℕ) (n : ℕ) → take (length xs + n) (xs ++ ys) ≡ xs ++ take n ys
take_behind [] ys n = let none : 0 + n ≡ n = omega arith in ap (λ k. take k ys) none
take_behind (x ∷ xs) ys n =
    let more : suc (length xs) + n ≡ suc (length xs + n) = omega arith in ap (λ k. take k (x ∷ (xs ++ ys))) more ∙ ap (λ t. x ∷ t) (take_behind xs ys n)

-- one more round behind some
round_behind : (n : ℕ) → rounds n ++ 1 ∷ 2 ∷ 3 ∷ [] ≡ rounds (suc n)
round_behind zero = refl
round_behind (suc n) = ap (λ t. 1 ∷ 2 ∷ 3 ∷ t) (round_behind n)

module _ {T : Type 0} (answer : T → List (List ℕ) → List (List ℕ)) where
  -- turns behind others
  pub more_turns : (turns more : List ℕ) (r s t : Running T) → s ≡ in_turns answer turns r → t ≡ in_turns answer more s → t ≡ in_turns answer (turns ++ more) r
  more_turns turns more r s t e f = f ∙ (ap (in_turns answer more) e ∙ sym (in_order answer turns more r))

  pub one_turn_more : (turns : List ℕ) (k : ℕ) (r s t : Running T) → k < length turns → s ≡ in_turns answer (take k turns) r → t ≡ moved answer (party_of (get_or turns k 0)) s
      → t ≡ in_turns answer (take (k + 1) turns) r
  one_turn_more turns k r s t lt e f =
      more_turns (take k turns) (get_or turns k 0 ∷ []) r s t e f ∙ ap (λ ps. in_turns answer ps r) (sym (take_more turns k 0 lt))

  pub one_round_more : (n : ℕ) (r s t : Running T) → s ≡ in_turns answer (rounds n) r → t ≡ in_turns answer (1 ∷ 2 ∷ 3 ∷ []) s → t ≡ in_turns answer (rounds (suc n)) r
  one_round_more n r s t e f = more_turns (rounds n) (1 ∷ 2 ∷ 3 ∷ []) r s t e f ∙ ap (λ ps. in_turns answer ps r) (round_behind n)

  pub more_begun : (turns more : List ℕ) (r s t : Running T) → s ≡ in_turns answer turns r → AreBegun answer more s t → AreBegun answer (turns ++ more) r t
  more_begun turns more r s t e h = record {
    done = length turns + h.done;
    is = more_turns turns (take h.done more) r s t e h.is ∙ ap (λ ps. in_turns answer ps r) (sym (take_behind turns more h.done));
  }

  -- rounds that were cut off in one of them
  pub part_of_rounds : (n : ℕ) (r s t : Running T) → s ≡ in_turns answer (rounds n) r → AreBegun answer (1 ∷ 2 ∷ 3 ∷ []) s t → IsPartRun answer [] r t
  part_of_rounds n r s t e h =
      let begun = more_begun (rounds n) (1 ∷ 2 ∷ 3 ∷ []) r s t e h in
      record {
        count = suc n;
        begun = record { done = begun.done; is = begun.is ∙ ap (λ ps. in_turns answer (take begun.done ps) r) (round_behind n) };
      }

  -- ---- turns, and then rounds

  pub part_of_turns : (turns : List ℕ) (r t : Running T) → AreBegun answer turns r t → IsPartRun answer turns r t
  part_of_turns turns r t h = record {
    count = 0;
    begun = record { done = h.done; is = h.is ∙ ap (λ ps. in_turns answer (take h.done ps) r) (sym (append-nil turns)) };
  }

  pub part_behind_turns : (turns : List ℕ) (r s t : Running T) → s ≡ in_turns answer turns r → IsPartRun answer [] s t → IsPartRun answer turns r t
  part_behind_turns turns r s t e h = record { count = h.count; begun = more_begun turns (rounds h.count) r s t e h.begun }

  pub whole_behind_turns : (turns : List ℕ) (r s t : Running T) → s ≡ in_turns answer turns r → IsWholeRun answer [] s t → IsWholeRun answer turns r t
  whole_behind_turns turns r s t e h = record { count = h.count; is = more_turns turns (rounds h.count) r s t e h.is; ended = h.ended }

module _ {T : Type 0} (accepts : T → List Shape → List Shape → Bool) (answer : T → List (List ℕ) → List (List ℕ)) (keep : RunsKeep accepts answer) (go : RunsGoOn accepts answer) where
  -- in a round of a run that goes on a move is made
  pub round_lowers : (r t : Running T) → IsRun accepts answer r → ¬ HaveEnded answer r → t ≡ in_turns answer (1 ∷ 2 ∷ 3 ∷ []) r → all_moves_left t < all_moves_left r
  round_lowers r t h goes e =
      by (round_moves answer (IsRun accepts answer) (λ r v h. run_moved accepts answer keep r h v) (λ r v h. keep.lowers h.list h.slots h.tapes r v h.is) (λ r h. go.goes_on h.list h.slots h.tapes r h.is) r h) where
        by : HaveEnded answer r ⊎ (all_moves_left (in_turns answer (1 ∷ 2 ∷ 3 ∷ []) r) < all_moves_left r) → all_moves_left t < all_moves_left r
        by (inl ended) = absurd (goes ended)
        by (inr lt) = subst (λ t. all_moves_left t < all_moves_left r) (sym e) lt

-- all that have ended behind turns and rounds are where the joint run is
pub ends_jointly : {T : Type 0} (accepts : T → List Shape → List Shape → Bool) (answer : T → List (List ℕ) → List (List ℕ)) → EveryOrderEnds accepts answer → RunsGoOn accepts answer
    → (turns : List ℕ) (r t : Running T) → IsWholeRun answer turns r t → (list : Steps T) (slots : SlotWords) (ds : ThreeTapes) → IsRunOf accepts answer list slots ds r
    → EndsAsJoint answer list slots ds t
ends_jointly accepts answer every go turns r t w list slots ds h =
    let kept = (every list slots ds r (turns ++ rounds w.count) h).0 in
    go.ends list slots ds t (subst (IsRunOf accepts answer list slots ds) (sym w.is) kept) w.ended
