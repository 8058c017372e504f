-- What is given for the next step of a core, by the places where it begins; and the places behind it.
use Rattle.std.proofs.Common.{◌≡◌, ℕ, suc, ◌+◌, ◌≤◌, Bool, false, Some, List, [], ◌∷◌, ◌++◌, length, take, drop, refl, sym, ap, ◌∙◌, arith, length-append}
use Rattle.std.proofs.lemmas.List.{take_all}
use Rattle.lanes.specs.declared.party.Party.{Party}
use Rattle.lanes.specs.declared.party.Party.TheVariants.{First, Second, Third}
use Rattle.lanes.specs.Party.{next}
use Rattle.lanes.specs.Three.{at}
use Rattle.tapes.specs.declared.draw.Draw.{Draw}
use Rattle.tapes.specs.Needs.{FitsNeeds}
use Rattle.step_lists.specs.declared.step.Shape.{Shape}
use Rattle.step_lists.specs.declared.step.Step.{Step}
use Rattle.step_lists.specs.Layout.{Layout, grown, grown_by, starting}
use Rattle.step_lists.specs.Draws.{needs, needs_of, parties}
use Rattle.step_lists.specs.Prefixes.{needs_append}
use Rattle.step_lists.specs.Part.{Given, part_before, count_from, has_ended, stage_takes, taken_of}
use Rattle.party_core.specs.declared.places.Places.{Places}
use Rattle.party_core.specs.CoreView.{CoreView, next_step, layout_here, given_here, given_for}
use Rattle.party_core.specs.Core.{part_so_far}
use Rattle.party_core.specs.Doing.{draws_by, portion_here}
use Rattle.party_core.specs.Held.{IsPlaced}
use Rattle.party_core.specs.Holding.{rows_of}
use Rattle.party_core.specs.Reached.{IsReached}
use Rattle.party_core.proofs.Drawn.{fits_count}
use Rattle.party_core.proofs.Here.{count_take, long_behind}
use Rattle.party_core.proofs.Needing.{draws_are}
use Rattle.party_core.proofs.Progressing.{at_parties, count_none}
use Rattle.party_core.proofs.Readied.{cut_here, needs_cut, rest_own, rest_following}
use Rattle.party_core.proofs.Runs.{at_more, same_given, taken_behind, taken_run, rest_received}
use Rattle.party_core.proofs.Steps.{take_here}

-- there are the draws of a step behind those of the steps before it
room : {T : Type 0} (q : Party) (l : Layout) (list : List (Step T)) (k : ℕ) (s : Step T) (ds : List Draw) (place : ℕ) → list ≡ take k list ++ s ∷ drop (suc k) list
    → FitsNeeds (needs q l list) ds → place ≡ length (needs q l (take k list)) → place + draws_by q s (rows_of (grown_by l (take k list)) s) ≤ length ds
room q l list k s ds place e h p =
    let xs = needs q l (take k list) in
    let here = at q (needs_of (grown_by l (take k list)) s) in
    let more = needs q (grown (grown_by l (take k list)) s) (drop (suc k) list) in
    let all = fits_count (needs q l list) ds h in
    let cut = ap length (needs_cut q l list k s e) in
    let a = length-append xs (here ++ more) in
    let b = length-append here more in
    let d = draws_are q (grown_by l (take k list)) s in
    omega (arith, p, all, cut, a, b, d)

-- the needs of the steps up to one, and of that one
needs_next : {T : Type 0} (q : Party) (l : Layout) (list : List (Step T)) (k : ℕ) (s : Step T) (place : ℕ) → take (suc k) list ≡ take k list ++ s ∷ []
    → place ≡ length (needs q l (take k list)) → place + draws_by q s (rows_of (grown_by l (take k list)) s) ≡ length (needs q l (take (suc k) list))
needs_next q l list k s place e p =
    let xs = needs q l (take k list) in
    let here = at q (needs_of (grown_by l (take k list)) s) in
    let all = ap length (ap (needs q l) e ∙ needs_append q l (take k list) (s ∷ [])) in
    let a = length-append xs (here ++ []) in
    let b = length-append here [] in
    let d = draws_are q (grown_by l (take k list)) s in
    omega (arith, p, all, a, b, d)

-- the places behind a step, where nothing came for a further one
abbrev pub next_places : {T : Type 0} → Given → Places → Party → Step T → ℕ → Places
next_places g p v s n = record {
  own = p.own + draws_by v s n;
  following = p.following + draws_by (next v) s n;
  received = parties (λ q. length (at q g.received));
}

-- a core behind its next step
abbrev pub step_done : {T : Type 0} → CoreView T → CoreView T
step_done c = record c { far = record { steps = suc c.far.steps; stages = 0; turned = false } }

module _ {T : Type 0} (accepts : T → List Shape → List Shape → Bool) (answer : T → List (List ℕ) → List (List ℕ)) where
  pub room_own : (c : CoreView T) (s : Step T) (p : Places) → IsReached accepts answer c → next_step c ≡ Some s → IsPlaced answer c p
      → p.own + draws_by c.party s (rows_of (layout_here c) s) ≤ length c.given.own
  room_own c s p h e y = room c.party (starting c.list.first) c.list.steps c.far.steps s c.given.own p.own (cut_here c s e) h.own y.own

  pub room_following : (c : CoreView T) (s : Step T) (p : Places) → IsReached accepts answer c → next_step c ≡ Some s → IsPlaced answer c p
      → p.following + draws_by (next c.party) s (rows_of (layout_here c) s) ≤ length c.given.following
  room_following c s p h e y =
      room (next c.party) (starting c.list.first) c.list.steps c.far.steps s c.given.following p.following (cut_here c s e) h.following y.following

  none_before : (q : Party) (slots : List (List ℕ)) → at q (part_before slots).taken ≡ 0
  none_before First slots = refl
  none_before Second slots = refl
  none_before Third slots = refl

  pub portion_is : (c : CoreView T) (s : Step T) (m : ℕ) (p : Places) → has_ended (part_so_far answer c) ≡ false
      → ((q : Party) → length (at q c.given.received) ≡ at q (part_so_far answer c).taken + count_from q (take m (stage_takes c.party (layout_here c) s)))
      → IsPlaced answer c p → portion_here c.given p c.party s (rows_of (layout_here c) s) ≡ given_for c s
  portion_is c s m p on total y = same_given (portion_here c.given p c.party s (rows_of l s)) (given_for c s) own following (received First) (received Second) (received Third) where
    v : Party
    v = c.party

    l : Layout
    l = layout_here c

    xs : List (Step T)
    xs = take c.far.steps c.list.steps

    own : take (draws_by v s (rows_of l s)) (drop p.own c.given.own) ≡ take (length (at v (needs_of l s))) (given_here c).own
    own =
        ap (λ n. take n (drop p.own c.given.own)) (draws_are v l s)
        ∙ ap (λ n. take (length (at v (needs_of l s))) (drop n c.given.own)) y.own
        ∙ ap (λ ds. take (length (at v (needs_of l s))) ds) (sym (rest_own v (starting c.list.first) xs c.given))

    following : take (draws_by (next v) s (rows_of l s)) (drop p.following c.given.following) ≡ take (length (at (next v) (needs_of l s))) (given_here c).following
    following =
        ap (λ n. take n (drop p.following c.given.following)) (draws_are (next v) l s)
        ∙ ap (λ n. take (length (at (next v) (needs_of l s))) (drop n c.given.following)) y.following
        ∙ ap (λ ds. take (length (at (next v) (needs_of l s))) ds) (sym (rest_following v (starting c.list.first) xs c.given))

    received : (q : Party) → drop (at q p.received) (at q c.given.received) ≡ take (at q (taken_of v l s)) (at q (given_here c).received)
    received q =
        let l0 = starting c.list.first in
        let before = taken_run answer v q l0 (part_before c.slots) xs c.given on in
        let zero = none_before q c.slots in
        let r = y.received q in
        let place : at q p.received ≡ taken_behind answer v q l0 xs = omega (arith, r, before, zero) in
        let long = long_behind accepts answer c s m q on (total q) in
        let few = count_take q m (stage_takes v l s) in
        let all = at_parties (λ q. count_from q (stage_takes v l s)) q in
        ap (λ n. drop n (at q c.given.received)) place
        ∙ sym (rest_received answer v q l0 xs c.given)
        ∙ sym (take_all (at q (taken_of v l s)) (at q (given_here c).received) (omega (arith, long, few, all)))

  pub placed_next : (c : CoreView T) (s : Step T) (p : Places) → next_step c ≡ Some s → IsPlaced answer c p → IsReached accepts answer (step_done c)
      → IsPlaced answer (step_done c) (next_places c.given p c.party s (rows_of (layout_here c) s))
  placed_next c s p e y h = record {
    own = needs_next c.party (starting c.list.first) c.list.steps c.far.steps s p.own (take_here c.list.steps c.far.steps s e) y.own;
    following = needs_next (next c.party) (starting c.list.first) c.list.steps c.far.steps s p.following (take_here c.list.steps c.far.steps s e) y.following;
    received = λ q.
        let same = at_parties (λ q. length (at q c.given.received)) q in
        let t = h.taken q in
        let m = at_more q (part_so_far answer (step_done c)).taken [] in
        let z = count_none q in
        omega (arith, same, t, m, z);
  }
