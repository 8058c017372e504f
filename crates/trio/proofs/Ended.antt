-- Whether all three parties have ended, read off what their cores want.
use Rattle.std.proofs.Common.{◌≡◌, ℕ, Bool, true, false, List, length, refl, sym, ap, ◌∙◌}
use Rattle.std.specs.Prelude.{◌&&◌, MatchBool, nat_le, if◌then◌else◌}
use Rattle.lanes.specs.declared.party.Party.{Party}
use Rattle.lanes.specs.declared.party.Party.TheVariants.{First, Second, Third}
use Rattle.step_lists.specs.Layout.{party_of}
use Rattle.party_core.specs.declared.want.Want.{Want}
use Rattle.party_core.specs.declared.want.Want.TheVariants.{Turn, Words, Done, Stopped}
use Rattle.party_core.specs.Core.{want_of}
use Rattle.trio.specs.declared.stepped.Stepped.TheVariants.{Moved, Waits, Ended}
use Rattle.trio.specs.Held.{is_end}
use Rattle.trio.specs.Running.{Running, core_at, waiting_on, stepped, stepped_by, HaveEnded}

pub and_true : (x y both : Bool) → x ≡ true → both ≡ y → both ≡ x && y
and_true x y both e f = f ∙ ap (λ b. b && y) (sym e)

pub and_false : (x y both : Bool) → x ≡ false → both ≡ x → both ≡ x && y
and_false x y both e f = f ∙ (e ∙ ap (λ b. b && y) (sym e))

module _ {T : Type 0} (answer : T → List (List ℕ) → List (List ℕ)) (r : Running T) where
  abbrev pub has_ended : Party → Bool
  has_ended v = is_end (want_of answer (core_at v r))

  ends : (v : Party) → has_ended v ≡ true → stepped answer v r ≡ Ended
  ends v e = by (want_of answer (core_at v r)) e where
    by : (w : Want) → is_end w ≡ true → stepped_by w v r ≡ Ended
    by Turn e = cc
    by (Words q n) e = cc
    by Done e = refl
    by (Stopped flag) e = refl

  goes_on : (v : Party) → has_ended v ≡ false → stepped answer v r ≡ Ended → ⊥
  goes_on v e f = by (want_of answer (core_at v r)) e f where
    by : (w : Want) → is_end w ≡ false → stepped_by w v r ≡ Ended → ⊥
    by Turn e f = cc
    by (Words q n) e f = waits (nat_le n (length (waiting_on (party_of q) v r))) f where
      waits : (b : Bool) → (if b then Moved else Waits q) ≡ Ended → ⊥
      waits true f = cc
      waits false f = cc
    by Done e f = cc
    by (Stopped flag) e f = cc

  pub all_ended : (b : Bool) → b ≡ (has_ended First && has_ended Second) && has_ended Third → MatchBool b (HaveEnded answer r) (¬ HaveEnded answer r)
  all_ended b e = by (has_ended First) (has_ended Second) (has_ended Third) refl refl refl b e where
    by : (x y z : Bool) → has_ended First ≡ x → has_ended Second ≡ y → has_ended Third ≡ z → (b : Bool) → b ≡ (x && y) && z → MatchBool b (HaveEnded answer r) (¬ HaveEnded answer r)
    by true true true f g h true e = each where
      each : HaveEnded answer r
      each First = ends First f
      each Second = ends Second g
      each Third = ends Third h
    by false y z f g h false e = λ all. goes_on First f (all First)
    by true false z f g h false e = λ all. goes_on Second g (all Second)
    by true true false f g h false e = λ all. goes_on Third h (all Third)
    by true true true f g h false e = cc
    by false y z f g h true e = cc
    by true false z f g h true e = cc
    by true true false f g h true e = cc
