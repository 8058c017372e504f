-- Words on links, one behind the other.
use Rattle.std.proofs.Common.{◌≡◌, ℕ, List, [], ◌++◌, ◌∙◌, ap}
use Rattle.std.proofs.lemmas.List.{append_assoc, append-nil}
use Rattle.lanes.specs.declared.three.Three.{Three}
use Rattle.step_lists.specs.Draws.{joined, nothing}
use Rattle.step_lists.specs.Phases.{Links, behind_on, no_words}
use Rattle.step_lists.specs.Machine.{Machine, delivered}

joined_assoc : (x y z : Three (List ℕ)) → joined (joined x y) z ≡ joined x (joined y z)
joined_assoc x y z =
    let a = append_assoc x.first y.first z.first in
    let b = append_assoc x.second y.second z.second in
    let c = append_assoc x.third y.third z.third in
    cc

joined_none : (x : Three (List ℕ)) → joined x nothing ≡ x
joined_none x =
    ap (λ a. record { first = a; second = x.second ++ []; third = x.third ++ [] }) (append-nil x.first)
    ∙ (ap (λ b. record { first = x.first; second = b; third = x.third ++ [] }) (append-nil x.second)
    ∙ ap (λ c. record { first = x.first; second = x.second; third = c }) (append-nil x.third))

pub behind_assoc : (x y z : Links) → behind_on (behind_on x y) z ≡ behind_on x (behind_on y z)
behind_assoc x y z =
    let a = joined_assoc x.first y.first z.first in
    let b = joined_assoc x.second y.second z.second in
    let c = joined_assoc x.third y.third z.third in
    cc

pub behind_none : (x : Links) → behind_on x no_words ≡ x
behind_none x =
    ap (λ a. record { first = a; second = joined x.second nothing; third = joined x.third nothing }) (joined_none x.first)
    ∙ (ap (λ b. record { first = x.first; second = b; third = joined x.third nothing }) (joined_none x.second)
    ∙ ap (λ c. record { first = x.first; second = x.second; third = c }) (joined_none x.third))

-- words that are sent after others
pub delivered_twice : (x y : Links) (m : Machine) → delivered y (delivered x m) ≡ delivered (behind_on x y) m
delivered_twice x y m = ap (λ links. record m { links = links }) (behind_assoc m.links x y)

pub delivered_thrice : (x y z : Links) (m : Machine) → delivered z (delivered y (delivered x m)) ≡ delivered (behind_on x (behind_on y z)) m
delivered_thrice x y z m = ap (delivered z) (delivered_twice x y m) ∙ (delivered_twice (behind_on x y) z m ∙ ap (λ links. delivered links m) (behind_assoc x y z))

pub delivered_none : (m : Machine) → delivered no_words m ≡ m
delivered_none m = ap (λ links. record m { links = links }) (behind_none m.links)
