-- Pieces of a list one behind the other. Lemmas with their proofs, for the crates above.
use Rattle.std.proofs.Common.{◌≡◌, ℕ, ◌+◌, ◌≤◌, Bool, false, cond, List, [], ◌∷◌, ◌++◌, append-nil, refl, sym, ap, ◌∙◌, subst, arith}
use Rattle.std.specs.Prelude.{IsTrue}
use Rattle.lanes.specs.declared.party.Party.{Party}
use Rattle.step_lists.specs.declared.step.Step.{Step}
use Rattle.step_lists.specs.Layout.{Steps, starting, grown_by, layout_of}
use Rattle.step_lists.specs.Draws.{ThreeTapes}
use Rattle.step_lists.specs.Run.{tape_cut, rest_after}
use Rattle.step_lists.specs.RunLaws.{grown_by-append, rest_after-append, outs-append}
use Rattle.step_lists.specs.Open.{SlotWords, open_of, open_going}
use Rattle.step_lists.specs.Seen.{Seen, AreAlike, none, also, seen_from, seen_behind, seen_going, seen_step}
use Rattle.step_lists.specs.Possible.{Possible, StandsIn, ands_of, behind}
use Rattle.step_lists.specs.Prefixes.{ands-append, open_run, open-behind, possible_prefix, stands_refl, stands_trans}
use Rattle.emit.specs.Adds.{Adds, AllMay, wants_nothing}

pub may-append : {T : Type 0} (may : Step T → Bool) (xs ys : List (Step T)) → AllMay may xs → AllMay may ys → AllMay may (xs ++ ys)
may-append may [] ys h k = k
may-append may (x ∷ xs) ys h k = (h.0, may-append may xs ys h.1 k)

pub alike-append : {xs ys us vs : List Seen} → AreAlike xs ys → AreAlike us vs → AreAlike (xs ++ us) (ys ++ vs)
alike-append none k = k
alike-append (also x h) k = also x (alike-append h k)

-- what is seen behind a list, in two parts
pub seen_behind-append : {T : Type 0} (answer : T → List (List ℕ) → List (List ℕ)) (v : Party) (a b : Steps T) (xs ys : List (Step T)) (slots : SlotWords) (ds : ThreeTapes)
    → b ≡ behind a xs → seen_behind answer v a (xs ++ ys) slots ds ≡ seen_behind answer v a xs slots ds ++ seen_behind answer v b ys slots ds
seen_behind-append {T} answer v a b xs ys slots ds is =
    subst (λ x. seen_behind answer v a (xs ++ ys) slots ds ≡ seen_behind answer v a xs slots ds ++ seen_behind answer v x ys slots ds) (sym is)
    (outs-append (open_going answer) (seen_going v) tape_cut (layout_of a) (open_of answer a slots ds) xs ys (rest_after tape_cut (starting a.first) a.steps ds)
    ∙ ap (λ rest. seen_behind answer v a xs slots ds ++ rest) (sym moved))
  where
    moved : seen_behind answer v (behind a xs) ys slots ds
        ≡ seen_from answer v (grown_by (layout_of a) xs) (open_run answer (layout_of a) (open_of answer a slots ds) xs (rest_after tape_cut (starting a.first) a.steps ds)) ys
        (rest_after tape_cut (layout_of a) xs (rest_after tape_cut (starting a.first) a.steps ds))
    moved =
        ap (λ l. seen_from answer v l (open_of answer (behind a xs) slots ds) ys (rest_after tape_cut (starting a.first) (a.steps ++ xs) ds)) (grown_by-append (starting a.first) a.steps xs)
        ∙ ap (λ o. seen_from answer v (grown_by (layout_of a) xs) o ys (rest_after tape_cut (starting a.first) (a.steps ++ xs) ds)) (open-behind answer a xs slots ds)
        ∙ ap (λ i. seen_from answer v (grown_by (layout_of a) xs) (open_run answer (layout_of a) (open_of answer a slots ds) xs (rest_after tape_cut (starting a.first) a.steps ds)) ys i)
        (rest_after-append tape_cut (starting a.first) a.steps xs ds)

module _ {T W : Type 0} (answer : T → List (List ℕ) → List (List ℕ)) (load : W → SlotWords) where
  pub adds_nothing : (a : Steps T) (may : Step T → Bool) → Adds answer load a a may 0 wants_nothing
  adds_nothing a may = record {
    front = stands_refl a;
    kinds = tt;
    words = omega arith;
    shown = λ w ds h v. none;
  }

  -- one step more, which shows each party what is wanted
  pub adds_step : (a : Steps T) (s : Step T) (may : Step T → Bool) (want : W → Party → List Seen) → IsTrue (may s)
      → ((w : W) (ds : ThreeTapes) → Possible answer (behind a (s ∷ [])) (load w) ds → (v : Party)
      → AreAlike (seen_step v (layout_of a) (open_of answer a (load w) ds) s) (want w v))
      → Adds answer load a (behind a (s ∷ [])) may (ands_of (layout_of a) s) want
  adds_step a s may want m h = record {
    front = front;
    kinds = (m, tt);
    words = let e = ands-append (starting a.first) a.steps (s ∷ []) in omega (arith, e);
    shown = λ w ds p v. subst (λ xs. AreAlike xs (want w v)) (sym (one w ds v (possible_prefix answer a (behind a (s ∷ [])) (load w) ds front p).going)) (h w ds p v);
  }
    where
      front : StandsIn a (behind a (s ∷ []))
      front = record { more = s ∷ []; is = refl }

      one : (w : W) (ds : ThreeTapes) (v : Party) → (open_of answer a (load w) ds).stop ≡ false
          → seen_behind answer v a (s ∷ []) (load w) ds ≡ seen_step v (layout_of a) (open_of answer a (load w) ds) s
      one w ds v going = ap (λ b. cond b [] (seen_step v (layout_of a) (open_of answer a (load w) ds) s) ++ []) going ∙ append-nil (seen_step v (layout_of a) (open_of answer a (load w) ds) s)

  -- one piece after the other
  pub adds_then : (a b c : Steps T) (may : Step T → Bool) (m n : ℕ) (want later : W → Party → List Seen)
      → Adds answer load a b may m want → Adds answer load b c may n later → Adds answer load a c may (m + n) (λ w v. want w v ++ later w v)
  adds_then a b c may m n want later h k = record {
    front = stands_trans a b c h.front k.front;
    kinds = may-append may h.front.more k.front.more h.kinds k.kinds;
    words = omega (arith, h.words, k.words);
    shown = λ w ds p v.
        subst (λ xs. AreAlike xs (want w v ++ later w v)) (sym (seen_behind-append answer v a b h.front.more k.front.more (load w) ds h.front.is))
        (alike-append (h.shown w ds (possible_prefix answer b c (load w) ds k.front p) v) (k.shown w ds p v));
  }

  -- other kinds, and more AND words
  pub adds_wider : (a b : Steps T) (may wide : Step T → Bool) (m n : ℕ) (want : W → Party → List Seen)
      → ((s : Step T) → IsTrue (may s) → IsTrue (wide s)) → m ≤ n → Adds answer load a b may m want → Adds answer load a b wide n want
  adds_wider a b may wide m n want wider few h = record {
    front = h.front;
    kinds = all h.front.more h.kinds;
    words = omega (arith, h.words, few);
    shown = h.shown;
  }
    where
      all : (ss : List (Step T)) → AllMay may ss → AllMay wide ss
      all [] k = tt
      all (s ∷ ss) k = (wider s k.0, all ss k.1)

  -- the same wanted by another name
  pub adds_same : (a b : Steps T) (may : Step T → Bool) (n : ℕ) (want other : W → Party → List Seen)
      → ((w : W) (v : Party) → want w v ≡ other w v) → Adds answer load a b may n want → Adds answer load a b may n other
  adds_same a b may n want other same h = record {
    front = h.front;
    kinds = h.kinds;
    words = h.words;
    shown = λ w ds p v. subst (λ xs. AreAlike (seen_behind answer v a h.front.more (load w) ds) xs) (same w v) (h.shown w ds p v);
  }

-- what is added over all slots is added over the slots of worlds
pub adds_at : {T W : Type 0} (answer : T → List (List ℕ) → List (List ℕ)) (load : W → SlotWords) (a b : Steps T) (may : Step T → Bool) (most : ℕ)
    (want : SlotWords → Party → List Seen)
    → Adds answer (λ (slots : SlotWords). slots) a b may most want → Adds answer load a b may most (λ w v. want (load w) v)
adds_at answer load a b may most want h = record {
  front = h.front;
  kinds = h.kinds;
  words = h.words;
  shown = λ w ds p v. h.shown (load w) ds p v;
}
