-- A core that is made holds the part before the first step.
use Rattle.std.proofs.Common.{◌≡◌, ℕ, false, Bool, List, length, map, refl, sym, ap, subst, ◌∙◌, arith}
use Rattle.std.proofs.lemmas.List.{length-map, take_all}
use Rattle.lanes.specs.declared.party.Party.{Party}
use Rattle.lanes.specs.declared.party.Party.TheVariants.{First, Second, Third}
use Rattle.lanes.specs.Three.{at}
use Rattle.tapes.specs.declared.draw.Draw.{Draw}
use Rattle.step_lists.specs.declared.step.Shape.{Shape}
use Rattle.step_lists.specs.Layout.{Steps}
use Rattle.step_lists.specs.Draws.{nothing}
use Rattle.step_lists.specs.Part.{Given, Part, part_before}
use Rattle.party_core.specs.declared.places.Places.{Places}
use Rattle.party_core.specs.CoreView.{at_start, fresh_core}
use Rattle.party_core.specs.Core.{part_so_far}
use Rattle.party_core.specs.Held.{IsHeld, IsPlaced, kept_of, seen_of}
use Rattle.party_core.specs.Reached.{IsReached}

abbrev pub given_first : List Draw → List Draw → Given
given_first own following = record { own = own; following = following; received = nothing }

made_is : {T : Type 0} (list : Steps T) (v : Party) (slots : List (List ℕ)) (own following : List Draw) (supply : Given) (state : Part)
    → supply ≡ given_first own following → state ≡ part_before slots → map length slots ≡ at v list.first
    → seen_of list v supply state.slots 0 0 false ≡ fresh_core list v slots own following
made_is list v slots own following supply state e f h =
    let long = ap length h in
    let count = length-map slots (λ xs. length xs) in
    ap (λ g. seen_of list v g state.slots 0 0 false) e
    ∙ ap (λ a. seen_of list v (given_first own following) a.slots 0 0 false) f
    ∙ ap (λ xs. record { list = list; party = v; slots = xs; given = given_first own following; far = at_start }) (take_all (length (at v list.first)) slots (omega (arith, long, count)))

-- nothing is used before the first step
abbrev pub no_places : Places
no_places = record { own = 0; following = 0; received = record { first = 0; second = 0; third = 0 } }

none_taken : {T : Type 0} (answer : T → List (List ℕ) → List (List ℕ)) (list : Steps T) (v : Party) (slots : List (List ℕ)) (own following : List Draw) (q : Party)
    → at q no_places.received ≡ at q (part_so_far answer (fresh_core list v slots own following)).taken
none_taken answer list v slots own following First = refl
none_taken answer list v slots own following Second = refl
none_taken answer list v slots own following Third = refl

pub made_held : {T : Type 0} (accepts : T → List Shape → List Shape → Bool) (answer : T → List (List ℕ) → List (List ℕ)) (list : Steps T) (v : Party) (slots : List (List ℕ)) (own following : List Draw)
    (supply : Given) (state : Part) (places : Places) → supply ≡ given_first own following → state ≡ part_before slots → places ≡ no_places → map length slots ≡ at v list.first
    → IsReached accepts answer (fresh_core list v slots own following) → IsHeld accepts answer (seen_of list v supply state.slots 0 0 false) state places
made_held accepts answer list v slots own following supply state places e f k h r =
    let same = made_is list v slots own following supply state e f h in
    let placed : IsPlaced answer (fresh_core list v slots own following) no_places = record { own = refl; following = refl; received = none_taken answer list v slots own following } in
    record {
      reached = subst (IsReached accepts answer) (sym same) r;
      part = f ∙ ap (λ c. kept_of (part_so_far answer c)) (sym same);
      places = subst (λ c. IsPlaced answer c places) (sym same) (subst (IsPlaced answer (fresh_core list v slots own following)) (sym k) placed);
    }
