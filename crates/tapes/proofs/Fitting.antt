-- Draws that fit so far.
use Rattle.std.proofs.Common.{◌≡◌, ℕ, suc, zero, ◌+◌, ◌<◌, ◌≤◌, List, [], ◌∷◌, ◌++◌, Some, length, take, slice_get, sym, ◌∙◌, ap, subst, arith}
use Rattle.std.proofs.lemmas.List.{take_all, length_push}
use Rattle.std.proofs.lemmas.Option.{slice_get_past, slice_get-get_or}
use Rattle.tapes.specs.declared.draw.Draw.{Draw}
use Rattle.tapes.specs.declared.draw.Draw.TheVariants.{Word}
use Rattle.tapes.specs.declared.draw.Need.{Need}
use Rattle.tapes.specs.Met.{IsMet}
use Rattle.tapes.specs.NeedLaws.{IsFirstUnfit, IsUnmet}
use Rattle.tapes.specs.Needs.{FitsNeeds, Meets}
use Rattle.tapes.specs.Reading.{Reading}
use Rattle.tapes.proofs.NeedLemmas.{fits_or_first_unfit}

fits_one : (p : ℕ) (needs : List Need) (draws : List Draw) (need : Need) (draw : Draw) → FitsNeeds (take p needs) (take p draws)
    → slice_get needs p ≡ Some need → slice_get draws p ≡ Some draw → Meets need draw → FitsNeeds (take (suc p) needs) (take (suc p) draws)
fits_one p [] draws need draw f g h m = absurd (cc)
fits_one p (n ∷ ns) [] need draw f g h m = absurd (cc)
fits_one zero (n ∷ ns) (d ∷ ds) need draw f g h m =
    let same : need ≡ n = cc in
    let same_draw : draw ≡ d = cc in
    (rw (same, same_draw) at m, tt)
fits_one (suc p) (n ∷ ns) (d ∷ ds) need draw f g h m = (f.0, fits_one p ns ds need draw f.1 g h m)

-- a reader that is past draws which fit these needs
pub record FitsSoFar (needs passed : List Need) (draws : List Draw) (r : Reading) : Type 0 where
  pub at : r ≡ record { draws = draws; place = length passed }
  pub before : FitsNeeds (take (length passed) needs) (take (length passed) draws)

pub fits_nothing : (needs : List Need) (draws : List Draw) (r : Reading) → r ≡ record { draws = draws; place = 0 } → FitsSoFar needs [] draws r
fits_nothing needs draws r e = record { at = e; before = tt }

pub fits_next : (needs passed : List Need) (draws : List Draw) (r s : Reading) (need : Need) → FitsSoFar needs passed draws r
    → slice_get needs (length passed) ≡ Some need → IsMet need r → s ≡ record r { place = r.place + 1 } → FitsSoFar needs (passed ++ need ∷ []) draws s
fits_next needs passed draws r s need f g m e =
    let more : length (passed ++ need ∷ []) ≡ suc (length passed) = length_push passed need ∙ omega arith in
    let there : slice_get draws (length passed) ≡ Some m.draw = ap (λ (x : Reading). slice_get x.draws x.place) (sym f.at) ∙ m.next in
    record {
      at =
          e ∙ ap (λ (x : Reading). record x { place = x.place + 1 }) f.at
          ∙ ap (λ n. record { draws = draws; place = n }) (sym (length_push passed need));
      before = rw more (fits_one (length passed) needs draws need m.draw f.before g there m.meets);
    }

pub unfit_here : (needs passed : List Need) (draws : List Draw) (r : Reading) (need : Need) → FitsSoFar needs passed draws r
    → slice_get needs (length passed) ≡ Some need → IsUnmet (Some need) (slice_get r.draws r.place) → IsFirstUnfit needs draws r.place
unfit_here needs passed draws r need f g u =
    let here : r.place ≡ length passed = ap (λ (x : Reading). x.place) f.at in
    let there : slice_get r.draws r.place ≡ slice_get draws (length passed) = ap (λ (x : Reading). slice_get x.draws x.place) f.at in
    subst (λ (d : ℕ). IsFirstUnfit needs draws d) (sym here) (record { before = f.before; unmet = rw g (rw there at u) })

-- ---- the end

pub too_many : (needs : List Need) (draws : List Draw) (r : Reading) → FitsSoFar needs needs draws r → r.place < length draws → IsFirstUnfit needs draws r.place
too_many needs draws r f h =
    let here : r.place ≡ length needs = ap (λ (x : Reading). x.place) f.at in
    subst (λ (d : ℕ). IsFirstUnfit needs draws d) (sym here)
    (record {
      before = f.before;
      unmet =
          rw (slice_get_past needs (length needs) (omega arith), slice_get-get_or draws (length needs) (Word 0) (omega arith)) tt;
    })

pub all_fit : (needs : List Need) (draws : List Draw) (r : Reading) → FitsSoFar needs needs draws r → length draws ≤ r.place → FitsNeeds needs draws
all_fit needs draws r f h =
    let here : r.place ≡ length needs = ap (λ (x : Reading). x.place) f.at in
    rw (take_all (length needs) needs (omega arith), take_all (length needs) draws (omega arith)) at f.before

pub not_fit : (needs : List Need) (draws : List Draw) (d : ℕ) → IsFirstUnfit needs draws d → FitsNeeds needs draws → ⊥
not_fit needs draws d u f = fits_or_first_unfit.apart needs draws d f u
