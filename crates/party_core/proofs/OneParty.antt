-- In each stage words of one party at most are taken.
use Rattle.std.proofs.Common.{◌≡◌, ℕ, zero, suc, Bool, true, false, length, refl}
use Rattle.std.specs.Prelude.{◌*◌, not}
use Rattle.lanes.specs.declared.party.Party.{Party}
use Rattle.lanes.specs.declared.party.Party.TheVariants.{First, Second, Third}
use Rattle.lanes.specs.declared.three.Three.{Three}
use Rattle.lanes.specs.Party.{next, before}
use Rattle.step_lists.specs.declared.step.Step.{Step}
use Rattle.step_lists.specs.declared.step.Step.TheVariants.{Const, Lin, And, Share, Reveal, Steer, Tell, Work, Flag}
use Rattle.step_lists.specs.Layout.{Layout, party_of, length_of, rows_moved, words_in_slot}
use Rattle.step_lists.specs.Seen.{same_party}
use Rattle.step_lists.specs.Part.{takes_from, takes_nothing, when, phase_takes}
use Rattle.party_core.specs.Stages.{takes_at}

pub record IsOne (t : Three ℕ) : Type 0 where
  pub party : Party
  pub count : ℕ
  pub is : t ≡ takes_from party count

none : IsOne takes_nothing
none = record { party = First; count = 0; is = refl }

one : (p : Party) (n : ℕ) → IsOne (takes_from p n)
one p n = record { party = p; count = n; is = refl }

maybe : (b : Bool) (p : Party) (n : ℕ) → IsOne (when b (takes_from p n))
maybe true p n = one p n
maybe false p n = none

of_phase : (v j : Party) (n : ℕ) → IsOne (phase_takes v j n)
of_phase First First n = one Third n
of_phase First Second n = one Second n
of_phase First Third n = none
of_phase Second First n = none
of_phase Second Second n = one First n
of_phase Second Third n = one Third n
of_phase Third First n = one First n
of_phase Third Second n = none
of_phase Third Third n = one Second n

pub one_party : {T : Type 0} (v : Party) (l : Layout) (s : Step T) (i : ℕ) → IsOne (takes_at v l s i)
one_party v l (Const words) i = none
one_party v l (Lin op) i = none
one_party v l (And x y) zero = one (next v) (length_of l x)
one_party v l (And x y) (suc i) = none
one_party v l (Share p s) zero = maybe (not (same_party v (party_of p))) (party_of p) (words_in_slot l (party_of p) s)
one_party v l (Share p s) (suc i) = none
one_party v l (Reveal to moved shown) zero = of_phase v First (length moved * rows_moved l moved)
one_party v l (Reveal to moved shown) (suc zero) = of_phase v Second (length moved * rows_moved l moved)
one_party v l (Reveal to moved shown) (suc (suc zero)) = of_phase v Third (length moved * rows_moved l moved)
one_party v l (Reveal to moved shown) (suc (suc (suc zero))) = maybe (same_party v (party_of to)) (next (party_of to)) (length shown * rows_moved l moved)
one_party v l (Reveal to moved shown) (suc (suc (suc (suc i)))) = none
one_party v l (Steer by s moved) zero = maybe (same_party v (before (party_of by))) (party_of by) (rows_moved l moved)
one_party v l (Steer by s moved) (suc zero) = of_phase v (next (party_of by)) (length moved * rows_moved l moved)
one_party v l (Steer by s moved) (suc (suc zero)) = of_phase v (party_of by) (length moved * rows_moved l moved)
one_party v l (Steer by s moved) (suc (suc (suc i))) = none
one_party v l (Tell x y s) zero = maybe (same_party v (party_of y)) (party_of x) (words_in_slot l (party_of x) s)
one_party v l (Tell x y s) (suc i) = none
one_party v l (Work p task takes gives) i = none
one_party v l (Flag p s) zero = maybe (not (same_party v (party_of p))) (party_of p) 1
one_party v l (Flag p s) (suc i) = none
