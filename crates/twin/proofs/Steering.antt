-- The draws of a Steer in the second world.
use Rattle.std.proofs.Common.{◌≡◌, ℕ, List, ap, ◌∙◌}
use Rattle.std.specs.Prelude.{if◌then◌else◌}
use Rattle.lanes.specs.declared.party.Party.{Party}
use Rattle.lanes.specs.Party.{next, before}
use Rattle.lanes.specs.Three.{at}
use Rattle.step_lists.specs.Draws.{ThreeTapes, order_in}
use Rattle.step_lists.specs.Machine.{Machine}
use Rattle.step_lists.specs.Seen.{same_party}
use Rattle.step_lists.specs.Twin.{begin_both, changed, steer_both, steer_draws, steered_order, twin_steer}

-- the order of the first phase in the second world
abbrev pub second_steer : Party → Party → List ℕ → List ℕ → List ℕ → List ℕ
second_steer v p t g h = if same_party p (next v) then steered_order t g h else t

-- the changed draws are the twin's, also by other names of what goes into them
pub steer_is : (v p : Party) (n : ℕ) (moved : List ℕ) (x y : Machine) (ds : ThreeTapes) (g h t u words g' h' : List ℕ) (k : ℕ) → t ≡ order_in (at (next p) ds) → g' ≡ g → h' ≡ h → k ≡ n
    → u ≡ second_steer v p t g' h' → words ≡ (steer_both v p t u g' h' k (begin_both x y moved ds)).changes
    → changed u words (at (before v) ds) ≡ twin_steer v p g h n moved x y ds
steer_is v p n moved x y ds g h t u words g' h' k et eg eh ek eu ew =
    let d = at (before v) ds in
    let b = begin_both x y moved ds in
    ap (λ w. changed u w d) ew
    ∙ (ap (λ i. changed u (steer_both v p t u g' h' i b).changes d) ek
    ∙ (ap (λ z. changed u (steer_both v p t u z h' n b).changes d) eg
    ∙ (ap (λ z. changed u (steer_both v p t u g z n b).changes d) eh
    ∙ (ap (steer_draws v p g h n moved x y ds t) (eu ∙ (ap (λ z. second_steer v p t z h') eg ∙ ap (second_steer v p t g) eh))
    ∙ ap (λ o. steer_draws v p g h n moved x y ds o (second_steer v p o g h)) et))))
