-- Two worlds that are always alike for the viewer: the pairing of their tapes.
use Rattle.std.proofs.Common.{ℕ, Bool, List, [], ◌∷◌, sym, ap, ◌∙◌}
use Rattle.lanes.specs.declared.party.Party.{Party}
use Rattle.step_lists.specs.declared.step.Shape.{Shape}
use Rattle.step_lists.specs.Layout.{Steps}
use Rattle.step_lists.specs.Open.{SlotWords}
use Rattle.step_lists.specs.Seen.{Seen, Alike, same_rows, same_told, same_flag, AreAlike, none, also}
use Rattle.step_lists.specs.Twin.{twin_tapes}
use Rattle.bags.specs.Laws.{BagsAreEquivalence}
use Rattle.twin.specs.Fits.{TwinFits}
use Rattle.twin.specs.Pairs.{TwinPairs}
use Rattle.twin.specs.Alike.{ShowAlike, TwinOfAlike, TwinsDiffer}

module _ {T : Type 0} (accepts : T → List Shape → List Shape → Bool) (answer : T → List (List ℕ) → List (List ℕ)) where
  pub of_alike : TwinFits accepts answer → TwinPairs accepts answer → TwinOfAlike accepts answer
  of_alike fits pairs v list one other well h ds left =
      let f = fits v list one other ds well h.worlds.one_fits h.worlds.other_fits left in
      record { fits = f; pair = pairs v list one other ds well h.worlds left (h.alike ds (twin_tapes answer v list one other ds) left f) }

  -- ---- the other way round

  alike_back : BagsAreEquivalence → (a b : Seen) → Alike a b → Alike b a
  alike_back bags a b (same_rows h) = same_rows (bags.back _ _ h)
  alike_back bags a b (same_told e) = same_told (sym e)
  alike_back bags a b (same_flag e) = same_flag (sym e)

  all_back : BagsAreEquivalence → (a b : List Seen) → AreAlike a b → AreAlike b a
  all_back bags [] [] none = none
  all_back bags [] (y ∷ b) h = elim h [ ]
  all_back bags (x ∷ a) [] h = elim h [ ]
  all_back bags (x ∷ a) (y ∷ b) (also h rest) = also (alike_back bags x y h) (all_back bags a b rest)

  show_back : BagsAreEquivalence → (v : Party) (list : Steps T) (one other : SlotWords) → ShowAlike answer v list one other → ShowAlike answer v list other one
  show_back bags v list one other h = record {
    worlds = record { one_fits = h.worlds.other_fits; other_fits = h.worlds.one_fits; viewer = sym h.worlds.viewer };
    alike = λ ds es i j. all_back bags _ _ (h.alike es ds j i);
  }

  pub differ : BagsAreEquivalence → TwinOfAlike accepts answer → TwinsDiffer accepts answer
  differ bags law v list one other well h = record {
    differ = λ ds es i j e.
        sym (law v list one other well h ds i).pair.back ∙ (ap (twin_tapes answer v list other one) e ∙ (law v list one other well h es j).pair.back);
    reached = λ es j.
        let back = law v list other one well (show_back bags v list one other h) es j in
        (twin_tapes answer v list other one es, (back.fits, back.pair.back));
  }
