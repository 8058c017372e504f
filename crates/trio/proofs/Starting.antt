-- A run begins as one of its list.
use Rattle.std.proofs.Common.{◌≡◌, ℕ, Bool, List, [], ◌∷◌, ◌++◌, refl, sym, subst, ap, ◌∙◌}
use Rattle.lanes.specs.declared.party.Party.{Party}
use Rattle.lanes.specs.declared.party.Party.TheVariants.{First, Second, Third}
use Rattle.lanes.specs.Party.{next}
use Rattle.lanes.specs.Three.{at}
use Rattle.tapes.specs.declared.draw.Draw.{Draw}
use Rattle.tapes.specs.declared.draw.Need.{Need}
use Rattle.tapes.specs.Needs.{FitsNeeds}
use Rattle.step_lists.specs.declared.step.Shape.{Shape}
use Rattle.step_lists.specs.Layout.{Steps, starting}
use Rattle.step_lists.specs.Draws.{ThreeTapes, nothing, needs}
use Rattle.step_lists.specs.Rules.{IsWellFormed}
use Rattle.step_lists.specs.Open.{SlotWords}
use Rattle.step_lists.specs.Phases.{link, no_words}
use Rattle.step_lists.specs.Machine.{joint_of}
use Rattle.step_lists.specs.Possible.{FitsFront, SlotsFit, TapesFit}
use Rattle.party_core.specs.CoreView.{CoreView, fresh_core}
use Rattle.party_core.specs.Core.{sent_so_far}
use Rattle.party_core.specs.MoveLaws.{MovesKeep}
use Rattle.trio.specs.Running.{core_at, taken_on}
use Rattle.trio.specs.RunOf.{Begins, IsCoreOf, IsRunOf, fresh_run}
use Rattle.trio.proofs.Words.{at_parties, no_link}

fits_front : (ns : List Need) (ds : List Draw) → FitsNeeds ns ds → FitsFront ns ds
fits_front [] ds h = tt
fits_front (n ∷ ns) [] h = absurd h
fits_front (n ∷ ns) (d ∷ ds) h = (h.0, fits_front ns ds h.1)

begins_all : (few more : List ℕ) → few ≡ [] → Begins few more
begins_all few more e = record { rest = more; is = ap (λ t. t ++ more) (sym e) }

nothing_at : (q : Party) → at q (nothing {A = ℕ}) ≡ []
nothing_at First = refl
nothing_at Second = refl
nothing_at Third = refl

module _ {T : Type 0} (accepts : T → List Shape → List Shape → Bool) (answer : T → List (List ℕ) → List (List ℕ)) (moves : MovesKeep accepts answer)
    (list : Steps T) (slots : SlotWords) (ds : ThreeTapes) (well : IsWellFormed accepts list) (slots_fit : SlotsFit list.first slots) (tapes_fit : TapesFit list ds) where
  abbrev fresh : Party → CoreView T
  fresh v = fresh_core list v (at v slots) (at v ds) (at (next v) ds)

  fresh_is : (v : Party) → core_at v (fresh_run list slots ds) ≡ fresh v
  fresh_is v = at_parties fresh v

  fresh_core_of : (v : Party) → IsCoreOf accepts answer list slots ds v (fresh v)
  fresh_core_of v = record {
    list_is = refl;
    party = refl;
    slots_are = refl;
    own = refl;
    following = refl;
    reached = moves.starts list v (at v slots) (at v ds) (at (next v) ds) well (slots_fit.long v) (slots_fit.below v) (tapes_fit v) (tapes_fit (next v));
  }

  nothing_sent : (v : Party) → at v no_words ≡ sent_so_far answer (fresh v)
  nothing_sent First = refl
  nothing_sent Second = refl
  nothing_sent Third = refl

  pub run_starts : IsRunOf accepts answer list slots ds (fresh_run list slots ds)
  run_starts = record {
    well_formed = well;
    fits = record { slots_fit = slots_fit; tapes_fit = λ p. fits_front (needs p (starting list.first) list.steps) (at p ds) (tapes_fit p) };
    cores = λ v. subst (IsCoreOf accepts answer list slots ds v) (sym (fresh_is v)) (fresh_core_of v);
    sent = λ v. nothing_sent v ∙ ap (sent_so_far answer) (sym (fresh_is v));
    taken = λ q v. begins_all (taken_on q v (fresh_run list slots ds)) (link q v no_words) (ap (λ c. at q c.given.received) (fresh_is v) ∙ nothing_at q);
    begins = λ q v. begins_all (link q v no_words) (link q v (joint_of answer list slots ds).links) (no_link q v);
  }
