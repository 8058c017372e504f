-- Where a core is: the steps that are done, the next one, and the words that came for it.
use Rattle.std.proofs.Common.{◌≡◌, ℕ, zero, suc, ◌+◌, ◌≤◌, Bool, false, Some, None, List, [], ◌∷◌, ◌++◌, length, take, drop, refl, sym, ap, subst, ◌∙◌, arith, length-take, length-drop}
use Rattle.std.specs.Prelude.{◌||◌, is_some}
use Rattle.std.proofs.lemmas.List.{append-nil, take-append-drop}
use Rattle.lanes.specs.declared.party.Party.{Party}
use Rattle.lanes.specs.declared.party.Party.TheVariants.{First, Second, Third}
use Rattle.lanes.specs.declared.three.Three.{Three}
use Rattle.lanes.specs.Three.{at}
use Rattle.step_lists.specs.declared.step.Shape.{Shape}
use Rattle.step_lists.specs.declared.step.Step.{Step}
use Rattle.step_lists.specs.Layout.{starting}
use Rattle.step_lists.specs.Draws.{joined, nothing}
use Rattle.step_lists.specs.RunLaws.{run-append}
use Rattle.step_lists.specs.Part.{Part, part_before, part_cut, part_going, has_ended, count_from, stage_takes, taken_of, takes_bad_order, all_sent, more_taken}
use Rattle.party_core.specs.CoreView.{CoreView, steps_left, next_step, layout_here, given_here, given_for}
use Rattle.party_core.specs.Core.{part_so_far, takes_in, breaks_order_in}
use Rattle.party_core.specs.Reached.{IsReached, StandsInStep, Stands}
use Rattle.party_core.specs.Laws.{whole}
use Rattle.party_core.proofs.Steps.{drop_here}
use Rattle.party_core.proofs.Progressing.{at_parties, count_more}
use Rattle.party_core.proofs.Runs.{runs, at_more, taken_run, taken_behind, rest_received}

pub take_none : {A : Type 0} (n : ℕ) → take {A = A} n [] ≡ []
take_none zero = refl
take_none (suc n) = refl

pub count_take : (p : Party) (i : ℕ) (ts : List (Three ℕ)) → count_from p (take i ts) ≤ count_from p ts
count_take p zero ts = omega arith
count_take p (suc i) [] = omega arith
count_take p (suc i) (t ∷ ts) =
    let a = count_more p t (take i ts) in
    let b = count_more p t ts in
    let c = count_take p i ts in
    omega (arith, a, b, c)

pub joined_none : {A : Type 0} (x : Three (List A)) → joined x nothing ≡ x
joined_none x =
    ap (λ a. record { first = a; second = x.second ++ []; third = x.third ++ [] }) (append-nil x.first)
    ∙ ap (λ a. record { first = x.first; second = a; third = x.third ++ [] }) (append-nil x.second)
    ∙ ap (λ a. record { first = x.first; second = x.second; third = a }) (append-nil x.third)

more_none : (x : Three ℕ) → more_taken x [] ≡ x
more_none x =
    let z : (n : ℕ) → n + 0 ≡ n = λ n. omega arith in
    ap (λ a. record { first = a; second = x.second + 0; third = x.third + 0 }) (z x.first)
    ∙ ap (λ a. record { first = x.first; second = a; third = x.third + 0 }) (z x.second)
    ∙ ap (λ a. record { first = x.first; second = x.second; third = a }) (z x.third)

-- nothing sent and nothing taken in a step that isn't begun
pub sent_none : (x : Three (List ℕ)) (n : ℕ) → joined x (all_sent (take n [])) ≡ x
sent_none x n = ap (λ ss. joined x (all_sent ss)) (take_none n) ∙ joined_none x

pub taken_none : (x : Three ℕ) (n : ℕ) → more_taken x (take n []) ≡ x
taken_none x n = ap (λ ts. more_taken x ts) (take_none n) ∙ more_none x

-- an option that is one of two
pub end_apart : (a : Part) → a.stop ≡ false → a.early ≡ None → has_ended a ≡ false
end_apart a e f = ap (λ b. b || is_some a.early) e ∙ ap (λ o. is_some o) f

module _ {T : Type 0} (accepts : T → List Shape → List Shape → Bool) (answer : T → List (List ℕ) → List (List ℕ)) where
  -- the whole part goes on from the steps that are done
  pub whole_cut : (c : CoreView T) → whole answer c ≡ runs answer c.party (layout_here c) (part_so_far answer c) (steps_left c) (given_here c)
  whole_cut c =
      ap (λ ss. runs answer c.party (starting c.list.first) (part_before c.slots) ss c.given) (sym (take-append-drop c.far.steps c.list.steps))
      ∙ run-append (part_going answer c.party) (part_cut c.party) (starting c.list.first) (part_before c.slots) (take c.far.steps c.list.steps) (steps_left c) c.given

  -- the words that came for the next step, where it is known how many came in all
  pub long_behind : (c : CoreView T) (s : Step T) (m : ℕ) (p : Party) → has_ended (part_so_far answer c) ≡ false
      → length (at p c.given.received) ≡ at p (part_so_far answer c).taken + count_from p (take m (stage_takes c.party (layout_here c) s))
      → length (at p (given_here c).received) ≡ count_from p (take m (stage_takes c.party (layout_here c) s))
  long_behind c s m p on all =
      let xs = take c.far.steps c.list.steps in
      let l = starting c.list.first in
      let before = taken_run answer c.party p l (part_before c.slots) xs c.given on in
      let rest = ap length (rest_received answer c.party p l xs c.given) ∙ length-drop (taken_behind answer c.party p l xs) (at p c.given.received) in
      let zero_before = none_before p in
      omega (arith, all, before, rest, zero_before)
    where
      none_before : (p : Party) → at p (part_before c.slots).taken ≡ 0
      none_before First = refl
      none_before Second = refl
      none_before Third = refl

  -- none of them is behind the step
  pub long_for : (c : CoreView T) (s : Step T) (m : ℕ) (p : Party) → length (at p (given_here c).received) ≡ count_from p (take m (stage_takes c.party (layout_here c) s))
      → length (at p (given_for c s).received) ≡ count_from p (take m (stage_takes c.party (layout_here c) s))
  long_for c s m p n =
      let same = at_parties (λ q. take (at q (taken_of c.party (layout_here c) s)) (at q (given_here c).received)) p in
      let cut = ap length same ∙ length-take (at p (taken_of c.party (layout_here c) s)) (at p (given_here c).received) in
      let all = at_parties (λ q. count_from q (stage_takes c.party (layout_here c) s)) p in
      let few = count_take p m (stage_takes c.party (layout_here c) s) in
      omega (arith, cut, all, few, n)

  -- a core in a step that goes on
  pub record Here (c : CoreView T) (s : Step T) : Type 0 where
    pub on : has_ended (part_so_far answer c) ≡ false
    pub left : steps_left c ≡ s ∷ drop (suc c.far.steps) c.list.steps
    pub order : takes_bad_order c.party (layout_here c) s (given_for c s) ≡ false
    pub stands : StandsInStep c.party (layout_here c) s c.far
    pub total : (p : Party) → length (at p c.given.received) ≡ at p (part_so_far answer c).taken + count_from p (take c.far.stages (stage_takes c.party (layout_here c) s))
    pub long : (p : Party) → length (at p (given_for c s).received) ≡ count_from p (take c.far.stages (stage_takes c.party (layout_here c) s))

  pub here : (c : CoreView T) (s : Step T) → IsReached accepts answer c → (part_so_far answer c).stop ≡ false → next_step c ≡ Some s → Here c s
  here c s h e f = record {
    on = on;
    left = drop_here c.list.steps c.far.steps s f;
    order = subst (λ o. breaks_order_in c o ≡ false) f h.order;
    stands = subst (Stands c) f h.stands;
    total = total;
    long = λ p. long_for c s c.far.stages p (long_behind c s c.far.stages p on (total p));
  } where
    on : has_ended (part_so_far answer c) ≡ false
    on = end_apart (part_so_far answer c) e h.early

    total : (p : Party) → length (at p c.given.received) ≡ at p (part_so_far answer c).taken + count_from p (take c.far.stages (stage_takes c.party (layout_here c) s))
    total p =
        h.taken p ∙ ap (λ o. at p (more_taken (part_so_far answer c).taken (take c.far.stages (takes_in answer c o)))) f
        ∙ at_more p (part_so_far answer c).taken (take c.far.stages (stage_takes c.party (layout_here c) s))
