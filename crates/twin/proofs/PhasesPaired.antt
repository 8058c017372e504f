-- Both worlds and the way back, phase by phase.
use Rattle.std.proofs.Common.{◌≡◌, ℕ, zero, suc, ◌≤◌, List, [], ◌∷◌, ◌++◌, length, map, refl, sym, subst, ◌∙◌, ap}
use Rattle.std.specs.Prelude.{Bool, true, false, slice_index_or}
use Rattle.lanes.specs.declared.party.Party.{Party}
use Rattle.lanes.specs.declared.party.Party.TheVariants.{First, Second, Third}
use Rattle.lanes.specs.Party.{next, before}
use Rattle.lanes.specs.Three.{at, put, each}
use Rattle.lanes.specs.Lanes.{xors}
use Rattle.tapes.specs.declared.draw.Draw.{Draw}
use Rattle.tapes.specs.declared.draw.Draw.TheVariants.{Word, Order}
use Rattle.step_lists.specs.Draws.{ThreeTapes, words_in, order_in, nothing}
use Rattle.step_lists.specs.Phases.{Shares, phase_words}
use Rattle.step_lists.specs.Machine.{Machine, shares}
use Rattle.step_lists.specs.Twin.{Both, bare_phase, phase_both, changed, begin_both}
use Rattle.twin.proofs.Facts.{Facts}
use Rattle.twin.proofs.Same.{Held, HeldSame, SameWords}
use Rattle.twin.proofs.Masks.{changed_words}
use Rattle.twin.proofs.PhasesBoth.{Follows, AreSeen, sees, phase_changes, bare_same, follows, sent_same}

-- the first world beside the second, and the second beside the first, with the same changes so far and to come
pub record Paired (v : Party) (b c : Both) (changes : List ℕ) : Type 0 where
  pub forth : Follows v b c.one changes
  pub back : Follows v c b.one changes
  pub same : b.changes ≡ c.changes

seen_back : (b : Bool) (p q : List ℕ) → AreSeen b p q → AreSeen b q p
seen_back true p q e = sym e
seen_back false p q e = tt

same_changes : Facts → (v j : Party) (p q : List ℕ) (n : ℕ) (b c : Both) → c.one.shares ≡ b.other.shares → b.one.shares ≡ c.other.shares
    → phase_changes v j p q n b ≡ phase_changes v j q p n c
same_changes facts v j p q n b c e f =
    ap (λ x. xors x (bare_phase v j q n b.other)) (bare_same v j p n b.one c.other f)
    ∙ (ap (xors (bare_phase v j p n c.other)) (bare_same v j q n b.other c.one (sym e))
    ∙ facts.commutes (bare_phase v j p n c.other) (bare_phase v j q n c.one))

pub paired : Facts → (v j : Party) (p q : List ℕ) (n : ℕ) (b c : Both) (rest : List ℕ) → length p ≡ n → length q ≡ n → AreSeen (sees v j) p q
    → Paired v b c (phase_changes v j p q n b ++ rest) → Paired v (phase_both v j p q n b) (phase_both v j q p n c) rest
paired facts v j p q n b c rest hp hq e h =
    let same = same_changes facts v j p q n b c h.forth.shares h.back.shares in
    record {
      forth = follows facts v j p q n b c.one rest hp e h.forth;
      back = follows facts v j q p n c b.one rest hq (seen_back (sees v j) p q e) (subst (λ t. Follows v c b.one (t ++ rest)) same h.back);
      same = ap (λ t. t ++ phase_changes v j p q n b) h.same ∙ ap (λ t. c.changes ++ t) same;
    }

pub paired_words : Facts → (v j : Party) (p q : List ℕ) (n : ℕ) (b c : Both) (rest : List ℕ) → length p ≡ n → AreSeen (sees v j) p q
    → Paired v b c (phase_changes v j p q n b ++ rest) → SameWords v (phase_words j p n b.one) (phase_words j q n c.one)
paired_words facts v j p q n b c rest hp e h = sent_same facts v j p q n b c.one rest hp e h.forth

-- ---- before the first phase

pub changed_order : (o cs : List ℕ) (ds : List Draw) → order_in ds ≡ o → order_in (changed o cs ds) ≡ o
changed_order o cs [] h = h
changed_order o cs (Order p ∷ ds) h = refl
changed_order o [] (Word w ∷ ds) h = changed_order o [] ds h
changed_order o (c ∷ cs) (Word w ∷ ds) h = changed_order o cs ds h

-- registers by their numbers
pub held_share : (v : Party) (ss ts : List Shares) (r : ℕ) → HeldSame v ss ts → Held v (slice_index_or ss r nothing) (slice_index_or ts r nothing)
held_share v [] [] r h = record { own = refl; following = refl }
held_share v [] (t ∷ ts) r h = absurd h
held_share v (s ∷ ss) [] r h = absurd h
held_share v (s ∷ ss) (t ∷ ts) zero h = h.0
held_share v (s ∷ ss) (t ∷ ts) (suc r) h = held_share v ss ts r h.1

pub held_shares : (v : Party) (x y : Machine) (moved : List ℕ) → HeldSame v x.registers y.registers → HeldSame v (map (shares x) moved) (map (shares y) moved)
held_shares v x y [] h = tt
held_shares v x y (r ∷ moved) h = (held_share v x.registers y.registers r h, held_shares v x y moved h)

held_back : (v : Party) (ss ts : List Shares) → HeldSame v ss ts → HeldSame v ts ss
held_back v [] [] h = tt
held_back v [] (t ∷ ts) h = absurd h
held_back v (s ∷ ss) [] h = absurd h
held_back v (s ∷ ss) (t ∷ ts) h = (record { own = sym h.0.own; following = sym h.0.following }, held_back v ss ts h.1)

-- the words of three tapes, of which the unseen one is another
own_words_beside : (v : Party) (d : List Draw) (ds : ThreeTapes) → at v (each words_in ds) ≡ at v (each words_in (put (before v) d ds))
own_words_beside First d ds = refl
own_words_beside Second d ds = refl
own_words_beside Third d ds = refl

following_words_beside : (v : Party) (d : List Draw) (ds : ThreeTapes) → at (next v) (each words_in ds) ≡ at (next v) (each words_in (put (before v) d ds))
following_words_beside First d ds = refl
following_words_beside Second d ds = refl
following_words_beside Third d ds = refl

unseen_words : (v : Party) (d : List Draw) (ds : ThreeTapes) → at (before v) (each words_in (put (before v) d ds)) ≡ words_in d
unseen_words First d ds = refl
unseen_words Second d ds = refl
unseen_words Third d ds = refl

each_words : (p : Party) (ds : ThreeTapes) → at p (each words_in ds) ≡ words_in (at p ds)
each_words First ds = refl
each_words Second ds = refl
each_words Third ds = refl

pub begins : Facts → (v : Party) (x y : Machine) (moved : List ℕ) (ds : ThreeTapes) (o cs : List ℕ) → HeldSame v x.registers y.registers
    → length cs ≤ length (words_in (at (before v) ds))
    → Paired v (begin_both x y moved ds) (begin_both y x moved (put (before v) (changed o cs (at (before v) ds)) ds)) cs
begins facts v x y moved ds o cs h few =
    let d = changed o cs (at (before v) ds) in
    let held = held_shares v x y moved h in
    let words = changed_words o cs (at (before v) ds) few in
    let own = own_words_beside v d ds in
    let following = following_words_beside v d ds in
    let first = each_words (before v) ds in
    let second = unseen_words v d ds in
    record {
      forth = record {
        shares = refl;
        stands = record { held = held; own = own; following = following; unseen = second ∙ (words ∙ ap (λ t. xors t cs) (sym first)) };
        own = refl;
        following = refl;
        unseen = refl;
      };
      back = record {
        shares = refl;
        stands = record {
          held = held_back v (map (shares x) moved) (map (shares y) moved) held;
          own = sym own;
          following = sym following;
          unseen =
              first
              ∙ (sym (facts.comes_off (words_in (at (before v) ds)) cs few) ∙ ap (λ t. xors t cs) (sym words ∙ sym second));
        };
        own = refl;
        following = refl;
        unseen = refl;
      };
      same = refl;
    }
